-- Where a word stands first in a text.
use Rattle.std.proofs.Common.{◌≡◌, ℕ, zero, suc, ◌+◌, ◌<◌, ◌≤◌, Bool, true, false, cond, ◌==◌, List, [], ◌∷◌, length, slice_index, Option, Some, None, refl, ap, subst, arith}
use Rattle.std.proofs.lemmas.Bool.{and_parts}
use Rattle.std.proofs.lemmas.Bool.Decides.{nat_tests}
use Rattle.bstr.specs.Find.{OccursAt, IsFirst, Nowhere, FindsNeedle}
use Rattle.unicodeset_parser.specs.Bytes.{begins, found_at, one_more}

occurs_later : (b : ℕ) (bs word : List ℕ) (k : ℕ) → OccursAt (b ∷ bs) word (suc k) → OccursAt bs word k
occurs_later b bs word k h = record { fits = omega (arith, h.fits); reads = λ j lt. let e : suc k + j ≡ suc (k + j) = omega arith in let P : ℕ → Type 0 = λ i. slice_index (b ∷ bs) i ≡ slice_index word j in subst P e (h.reads j lt) }

later_occurs : (b : ℕ) (bs word : List ℕ) (k : ℕ) → OccursAt bs word k → OccursAt (b ∷ bs) word (suc k)
later_occurs b bs word k h = record { fits = omega (arith, h.fits); reads = λ j lt. let e : suc (k + j) ≡ suc k + j = omega arith in let P : ℕ → Type 0 = λ i. slice_index (b ∷ bs) i ≡ slice_index word j in subst P e (h.reads j lt) }

begins_reads : (word bs : List ℕ) → begins word bs ≡ true → (length word ≤ length bs) × ((j : ℕ) → j < length word → slice_index bs j ≡ slice_index word j)
begins_reads [] bs h = (omega arith, λ j lt. absurd (omega arith))
begins_reads (w ∷ word) [] h = absurd (cc)
begins_reads (w ∷ word) (b ∷ bs) h =
    let parts = and_parts (b == w) (begins word bs) h in
    let rest = begins_reads word bs parts.1 in
    let here : b ≡ w = grind (arith, nat_tests, parts.0) in
    let at_each : (j : ℕ) → j < suc (length word) → slice_index (b ∷ bs) j ≡ slice_index (w ∷ word) j = λ j. elim j as (λ j. j < suc (length word) → slice_index (b ∷ bs) j ≡ slice_index (w ∷ word) j) [ zero ↦ (λ lt. here) | suc j ↦ (λ lt. rest.1 j (omega arith)) ] in
    (omega (arith, rest.0), at_each)

begins_occurs : (word bs : List ℕ) → begins word bs ≡ true → OccursAt bs word 0
begins_occurs word bs h = let r = begins_reads word bs h in record { fits = omega (arith, r.0); reads = λ j lt. let e : j ≡ 0 + j = omega arith in let P : ℕ → Type 0 = λ i. slice_index bs i ≡ slice_index word j in subst P e (r.1 j lt) }

reads_begins : (word bs : List ℕ) → length word ≤ length bs → ((j : ℕ) → j < length word → slice_index bs j ≡ slice_index word j) → begins word bs ≡ true
reads_begins [] bs le h = refl
reads_begins (w ∷ word) [] le h = absurd (omega arith)
reads_begins (w ∷ word) (b ∷ bs) le h =
    let here : (b == w) ≡ true = grind (arith, nat_tests, h 0 (omega arith)) in
    let later : begins word bs ≡ true = reads_begins word bs (omega arith) (λ j lt. h (suc j) (omega arith)) in
    rw (here, later) refl

occurs_begins : (word bs : List ℕ) → OccursAt bs word 0 → begins word bs ≡ true
occurs_begins word bs h = reads_begins word bs (omega (arith, h.fits)) (λ j lt. let e : 0 + j ≡ j = omega arith in let P : ℕ → Type 0 = λ i. slice_index bs i ≡ slice_index word j in subst P e (h.reads j lt))

same_first : (P : ℕ → Type 0) (n i j : ℕ) → IsFirst P 0 n (Some i) → IsFirst P 0 n (Some j) → i ≡ j
same_first P n i j h k =
    let a : ¬ (i < j) = λ lt. k.0.before i (omega arith) lt h.1 in
    let b : ¬ (j < i) = λ lt. h.0.before j (omega arith) lt k.1 in
    omega (arith, a, b)

first_is_one : (P : ℕ → Type 0) (n : ℕ) (r s : Option ℕ) → IsFirst P 0 n r → IsFirst P 0 n s → r ≡ s
first_is_one P n None None h k = refl
first_is_one P n None (Some j) h k = absurd (h j (omega arith) k.0.high k.1)
first_is_one P n (Some i) None h k = absurd (k i (omega arith) h.0.high h.1)
first_is_one P n (Some i) (Some j) h k = ap Some (same_first P n i j h k)

not_here : (word : List ℕ) (b : ℕ) (bs : List ℕ) → begins word (b ∷ bs) ≡ false → ¬ (OccursAt (b ∷ bs) word 0)
not_here word b bs e o = let h = occurs_begins word (b ∷ bs) o in absurd (cc)

nowhere_later : (word : List ℕ) (b : ℕ) (bs : List ℕ) (n : ℕ) → begins word (b ∷ bs) ≡ false → Nowhere (OccursAt bs word) 0 n → (k : ℕ) → k < suc n → ¬ (OccursAt (b ∷ bs) word k)
nowhere_later word b bs n e h zero lt o = not_here word b bs e o
nowhere_later word b bs n e h (suc k) lt o = h k (omega arith) (omega arith) (occurs_later b bs word k o)

found_by : (word : List ℕ) (b : ℕ) (bs : List ℕ) (t : Bool) → begins word (b ∷ bs) ≡ t → (r : Option ℕ) → FindsNeedle bs word 0 r → FindsNeedle (b ∷ bs) word 0 (cond t (Some 0) (one_more r))
found_by word b bs true e r h = (record { low = omega arith; high = omega arith; before = λ k le lt. absurd (omega arith) }, begins_occurs word (b ∷ bs) e)
found_by word b bs false e None h = λ k le lt. nowhere_later word b bs (length bs + 1) e h k (omega arith)
found_by word b bs false e (Some i) h = (record { low = omega arith; high = omega (arith, h.0.high); before = λ k le lt. nowhere_later word b bs i e h.0.before k lt }, later_occurs b bs word i h.1)

pub found_finds : (word hay : List ℕ) → 0 < length word → FindsNeedle hay word 0 (found_at word hay)
found_finds word [] some = λ k le lt h. omega (arith, h.fits)
found_finds word (b ∷ bs) some = found_by word b bs (begins word (b ∷ bs)) refl (found_at word bs) (found_finds word bs some)

pub found_is : (word hay : List ℕ) (r : Option ℕ) → 0 < length word → FindsNeedle hay word 0 r → r ≡ found_at word hay
found_is word hay r some h = first_is_one (OccursAt hay word) (length hay + 1) r (found_at word hay) h (found_finds word hay some)
