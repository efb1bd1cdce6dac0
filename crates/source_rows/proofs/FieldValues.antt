-- What the fields of a line hold.
use Rattle.std.proofs.Common.{◌≡◌, ℕ, zero, suc, ◌+◌, ◌-◌, ◌<◌, Bool, true, false, cond, eqb, List, [], ◌∷◌, length, take, drop, reverse, map, get_or, refl, ap, ◌∙◌, arith, inl, inr, filter}
use Rattle.std.specs.List.{All, list_any, prefix_len, suffix_len, slice_split, onto_first}
use Rattle.std.proofs.lemmas.Bool.{cases_lt, cond_both, or_parts}
use Rattle.std.proofs.lemmas.List.{take-append-drop, length-reverse, get_or-reverse}
use Rattle.std.proofs.lemmas.List.Elements.{All-nil, All-cons, All-head, All-tail}
use Rattle.std.proofs.lemmas.List.Sums.{prefix_len_stops, prefix_len-drop_no, prefix_len-drop_all, suffix_len-take_no}
use Rattle.ucd_points.specs.Lines.{is_blank, is_lf, without_return}
use Rattle.ucd_points.specs.Fields.{trim_start, trim_end, trim, field, is_semicolon}
use Rattle.ucd_facts.specs.Mappings.{is_some_bytes, words}
use Rattle.ucd_facts.specs.RowValues.{IsTrimmed, IsKept}
use Rattle.source_rows.specs.Fields.{fields_of}
use Rattle.source_rows.proofs.Lacks.{Lacks, lacks_parts}
use Rattle.source_rows.proofs.Trims.{trim_none}
use Rattle.source_rows.proofs.WordTexts.{parts_lack, part_lacks}

-- ---- what is trimmed is trimmed

start_none : (bs : List ℕ) → prefix_len is_blank (trim_start bs) ≡ 0
start_none bs =
    elim (cases_lt (prefix_len is_blank bs) (length bs)) [
      | inl lt ↦ prefix_len-drop_no is_blank bs (prefix_len is_blank bs) 0 lt (prefix_len_stops is_blank bs 0 lt)
      | inr le ↦ prefix_len-drop_all is_blank bs (prefix_len is_blank bs) le
    ]

front_kept : (n : ℕ) (bs : List ℕ) → prefix_len is_blank bs ≡ 0 → prefix_len is_blank (take n bs) ≡ 0
front_kept zero bs h = refl
front_kept (suc n) [] h = refl
front_kept (suc n) (b ∷ bs) h = front_step (is_blank b) (prefix_len is_blank bs) (prefix_len is_blank (take n bs)) h
  where
    front_step : (blank : Bool) (k m : ℕ) → cond blank (1 + k) 0 ≡ 0 → cond blank (1 + m) 0 ≡ 0
    front_step true k m h = absurd (omega arith)
    front_step false k m h = refl

end_stops : (bs : List ℕ) → suffix_len is_blank bs < length bs → is_blank (get_or bs (length bs - suffix_len is_blank bs - 1) 0) ≡ false
end_stops bs lt =
    let stop : is_blank (get_or (reverse bs) (suffix_len is_blank bs) 0) ≡ false = prefix_len_stops is_blank (reverse bs) 0 (omega (arith, length-reverse bs)) in
    let at : get_or (reverse bs) (suffix_len is_blank bs) 0 ≡ get_or bs (length bs - 1 - suffix_len is_blank bs) 0 = get_or-reverse bs (suffix_len is_blank bs) 0 lt in
    let same : length bs - suffix_len is_blank bs - 1 ≡ length bs - 1 - suffix_len is_blank bs = omega arith in
    rw same (rw (← at) stop)

end_none : (bs : List ℕ) → suffix_len is_blank (trim_end bs) ≡ 0
end_none bs =
    elim (cases_lt (suffix_len is_blank bs) (length bs)) [
      | inl lt ↦ suffix_len-take_no is_blank bs (length bs - suffix_len is_blank bs) 0 (omega arith) (omega arith) (end_stops bs lt)
      | inr le ↦ let n : length bs - suffix_len is_blank bs ≡ 0 = omega arith in rw n refl
    ]

pub trimmed : (bs : List ℕ) → IsTrimmed (trim bs)
trimmed bs = trim_none (trim bs) (front_kept (length (trim_start bs) - suffix_len is_blank (trim_start bs)) (trim_start bs) (start_none bs)) (end_none (trim_start bs))

-- ---- parts of a text lack what it lacks

pub lacks_take : (p : ℕ → Bool) (n : ℕ) (bs : List ℕ) → Lacks p bs → Lacks p (take n bs)
lacks_take p n bs h = (lacks_parts p (take n bs) (drop n bs) (ap (λ (xs : List ℕ). list_any p xs) (take-append-drop n bs) ∙ h)).0

pub lacks_drop : (p : ℕ → Bool) (n : ℕ) (bs : List ℕ) → Lacks p bs → Lacks p (drop n bs)
lacks_drop p n bs h = (lacks_parts p (take n bs) (drop n bs) (ap (λ (xs : List ℕ). list_any p xs) (take-append-drop n bs) ∙ h)).1

lacks_trim : (p : ℕ → Bool) (bs : List ℕ) → Lacks p bs → Lacks p (trim bs)
lacks_trim p bs h = lacks_take p (length (trim_start bs) - suffix_len is_blank (trim_start bs)) (trim_start bs) (lacks_drop p (prefix_len is_blank bs) bs h)

pub parts_keep : (p q : ℕ → Bool) (xs : List ℕ) → Lacks q xs → All (Lacks q) (slice_split p xs)
parts_keep p q [] h = All-cons (Lacks q) [] [] refl (All-nil (Lacks q))
parts_keep p q (x ∷ xs) h =
    let k = or_parts (q x) (list_any q xs) h in
    let rest = parts_keep p q xs k.1 in
    cond_both (p x) ([] ∷ slice_split p xs) (onto_first x (slice_split p xs)) (λ (parts : List (List ℕ)). All (Lacks q) parts) (λ _. All-cons (Lacks q) [] (slice_split p xs) refl rest) (λ _. part_lacks q x (slice_split p xs) k.0 rest)

some_keep : (q : ℕ → Bool) (parts : List (List ℕ)) → All (Lacks q) parts → All (Lacks q) (filter is_some_bytes parts)
some_keep q [] h = All-nil (Lacks q)
some_keep q ([] ∷ parts) h = some_keep q parts (All-tail (Lacks q) [] parts h)
some_keep q ((b ∷ bs) ∷ parts) h = All-cons (Lacks q) (b ∷ bs) (filter is_some_bytes parts) (All-head (Lacks q) (b ∷ bs) parts h) (some_keep q parts (All-tail (Lacks q) (b ∷ bs) parts h))

pub words_keep : (q : ℕ → Bool) (bs : List ℕ) → Lacks q bs → All (Lacks q) (words bs)
unfolding words
words_keep q bs h = some_keep q (slice_split is_blank bs) (parts_keep is_blank q bs h)

-- ---- the fields of a line

each_trimmed : (parts : List (List ℕ)) → All (Lacks is_semicolon) parts → All (Lacks is_lf) parts → All IsKept (map trim parts)
each_trimmed [] s f = All-nil IsKept
each_trimmed (part ∷ parts) s f = All-cons IsKept (trim part) (map trim parts) (record { trimmed = trimmed part; no_semicolon = lacks_trim is_semicolon part (All-head (Lacks is_semicolon) part parts s); no_feed = lacks_trim is_lf part (All-head (Lacks is_lf) part parts f) }) (each_trimmed parts (All-tail (Lacks is_semicolon) part parts s) (All-tail (Lacks is_lf) part parts f))

pub fields_kept : (text : List ℕ) → Lacks is_lf text → All IsKept (fields_of text)
fields_kept text h = each_trimmed (slice_split is_semicolon text) (parts_lack is_semicolon text) (parts_keep is_semicolon is_lf text h)

each_lacks : (q : ℕ → Bool) (parts : List (List ℕ)) → All (Lacks q) parts → All (Lacks q) (map trim parts)
each_lacks q [] h = All-nil (Lacks q)
each_lacks q (part ∷ parts) h = All-cons (Lacks q) (trim part) (map trim parts) (lacks_trim q part (All-head (Lacks q) part parts h)) (each_lacks q parts (All-tail (Lacks q) part parts h))

pub fields_lack : (q : ℕ → Bool) (text : List ℕ) → Lacks q text → All (Lacks q) (fields_of text)
fields_lack q text h = each_lacks q (slice_split is_semicolon text) (parts_keep is_semicolon q text h)

pub at_field : (P : List ℕ → Type 0) (fs : List (List ℕ)) (n : ℕ) → P [] → All P fs → P (field fs n)
at_field P [] n none h = none
at_field P (f ∷ fs) n none h = cond_both (eqb n 0) f (field fs (n - 1)) P (λ _. All-head P f fs h) (λ _. at_field P fs (n - 1) none (All-tail P f fs h))

pub empty_kept : IsKept []
empty_kept = record { trimmed = refl; no_semicolon = refl; no_feed = refl }

pub lacks_return : (q : ℕ → Bool) (bs : List ℕ) → Lacks q bs → Lacks q (without_return bs)
lacks_return q bs h = cond_both _ (take (length bs - 1) bs) bs (λ (xs : List ℕ). Lacks q xs) (λ _. lacks_take q (length bs - 1) bs h) (λ _. h)
