-- What a transfer in parts gives or takes as a whole, where the bytes of a reader or a writer are known.
use Rattle.std.proofs.Common.{◌≡◌, ℕ, ◌+◌, ◌≤◌, List, ◌++◌, length, take, drop, sym, ap, ◌∙◌, append_assoc, arith, length-take, length-take-le, ◌-◌}
use Rattle.std.proofs.Math.Seq.{take-add, take-append-add}
use Rattle.std.proofs.lemmas.List.{take-take, take-append-le}

-- what two writes appended, one after the other

-- what two reads consumed, one after the other

-- the front of a buffer after a part of it was filled, as a write through a slice of a vector gives it
front-filled : (front part after rest : List ℕ) (len n : ℕ) → n ≤ length part → length front + n ≤ len
    → take (length front + n) (take len ((front ++ (part ++ after)) ++ rest)) ≡ front ++ take n part
front-filled front part after rest len n fits within =
    take-take (length front + n) len _ within ∙ ap (take (length front + n)) (append_assoc front (part ++ after) rest)
    ∙ take-append-add front ((part ++ after) ++ rest) n
    ∙ ap (λ l. front ++ l) (ap (take n) (append_assoc part after rest) ∙ take-append-le n part (after ++ rest) fits)

-- the same, where the front of the buffer is named by its length
pub take-filled : (at : ℕ) (items lent part after rest : List ℕ) (len n : ℕ) → lent ≡ items → at ≤ length items → n ≤ length part → at + n ≤ len
    → take at items ++ take n part ≡ take (at + n) (take len ((take at lent ++ (part ++ after)) ++ rest))
take-filled at items lent part after rest len n same inside fits within =
    let front : length (take at items) ≡ at = length-take-le at items inside in
    rw same (sym (rw front at (front-filled (take at items) part after rest len n fits (rw front within))))

-- the front of a text and then the front of what is left of it
pub take-next : (done n : ℕ) (bytes : List ℕ) → n ≤ length (take (length bytes - done) (drop done bytes))
    → take done bytes ++ take n (take (length bytes - done) (drop done bytes)) ≡ take (done + n) bytes
take-next done n bytes fits =
    let short : n ≤ length bytes - done = omega (arith, length-take {A = ℕ}, fits) in
    ap (λ l. take done bytes ++ l) (take-take n (length bytes - done) (drop done bytes) short) ∙ sym (take-add done n bytes)
