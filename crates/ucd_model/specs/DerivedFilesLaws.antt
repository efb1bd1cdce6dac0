-- The text of a derived file depends on the records of the code points alone.
-- derived_text_same   records that are the same below n give the same text
use Rattle.std.proofs.Common.{◌≡◌, ℕ, zero, suc, ◌+◌, ◌-◌, ◌<◌, ◌≤◌, Bool, true, false, cond, List, ◌∷◌, length, map, filter, is_some, count_by, refl, sym, ap, ◌∙◌, arith, map-id}
use mathlib.Core.Path.{fun_ext}
use Rattle.std.specs.List.{flat_map, range_with_len, prefix_len}
use Rattle.std.proofs.lemmas.List.Sums.{length-filter}
use Rattle.ucd_model.specs.Labels.{Label, same_label, begins, span_end, span_from, label_spans, labelled}
use Rattle.ucd_model.specs.DerivedText.{section_text}
use Rattle.ucd_model.specs.DerivedFiles.{Section, file_sections, derived_text}
use Rattle.ucd_model.specs.Records.{Record}
use Rattle.ucd_facts.specs.declared.files.DerivedFile.{DerivedFile}

prefix_len_same : (p q : ℕ → Bool) (a m : ℕ) → ((d : ℕ) → a ≤ d → d < a + m → p d ≡ q d) → prefix_len p (range_with_len a m) ≡ prefix_len q (range_with_len a m)
prefix_len_same p q a zero h = refl
prefix_len_same p q a (suc m) h =
    let rest = prefix_len_same p q (a + 1) m (λ d low high. h d (omega (arith, low)) (omega (arith, high))) in
    ap (λ b. cond b (1 + prefix_len p (range_with_len (a + 1) m)) 0) (h a (omega arith) (omega arith)) ∙ ap (λ k. cond (q a) (1 + k) 0) rest

picked : {A : Type 0} (b : Bool) (s : ℕ → A) (a : ℕ) (xs : List ℕ) → map s (cond b (a ∷ xs) xs) ≡ cond b (s a ∷ map s xs) (map s xs)
picked true s a xs = refl
picked false s a xs = refl

picked_same : {A : Type 0} (p q : ℕ → Bool) (s t : ℕ → A) (a m : ℕ) → ((d : ℕ) → a ≤ d → d < a + m → p d ≡ q d) → ((d : ℕ) → a ≤ d → d < a + m → s d ≡ t d)
    → map s (filter p (range_with_len a m)) ≡ map t (filter q (range_with_len a m))
picked_same p q s t a zero h k = refl
picked_same {A} p q s t a (suc m) h k =
    let rest = picked_same p q s t (a + 1) m (λ d low high. h d (omega (arith, low)) (omega (arith, high))) (λ d low high. k d (omega (arith, low)) (omega (arith, high))) in
    let front : List ℕ = filter p (range_with_len (a + 1) m) in
    let other : List ℕ = filter q (range_with_len (a + 1) m) in
    picked (p a) s a front
    ∙ ap (λ b. cond b (s a ∷ map s front) (map s front)) (h a (omega arith) (omega arith))
    ∙ ap (λ (x : A). cond (q a) (x ∷ map s front) (map s front)) (k a (omega arith) (omega arith))
    ∙ ap (λ (xs : List A). cond (q a) (t a ∷ xs) xs) rest
    ∙ sym (picked (q a) t a other)

counted_same : (p q : ℕ → Bool) (a m : ℕ) → ((d : ℕ) → a ≤ d → d < a + m → p d ≡ q d) → count_by p (range_with_len a m) ≡ count_by q (range_with_len a m)
counted_same p q a m h =
    let front : List ℕ = filter p (range_with_len a m) in
    let other : List ℕ = filter q (range_with_len a m) in
    let same : front ≡ other = sym (map-id front) ∙ picked_same p q (λ k. k) (λ k. k) a m h (λ d low high. refl) ∙ map-id other in
    sym (length-filter p (range_with_len a m)) ∙ ap length same ∙ length-filter q (range_with_len a m)

begins_same : (n : ℕ) (f g : ℕ → Label) → ((c : ℕ) → c < n → f c ≡ g c) → (c : ℕ) → c < n → begins f c ≡ begins g c
begins_same n f g h zero lt = ap is_some (h 0 lt)
begins_same n f g h (suc c) lt = rw (h c (omega (arith, lt)), h (suc c) lt) refl

span_from_same : (n : ℕ) (f g : ℕ → Label) → ((c : ℕ) → c < n → f c ≡ g c) → (c : ℕ) → c < n → span_from n f c ≡ span_from n g c
span_from_same n f g h c lt =
    let ends : span_end n f c ≡ span_end n g c = ap (λ k. c + k) (prefix_len_same (λ d. same_label (f c) (f d)) (λ d. same_label (g c) (g d)) (c + 1) (n - (c + 1)) (λ d low high. rw (h c lt, h d (omega (arith, low, high))) refl)) in
    rw (ends, h c lt) refl

section_text_same : (name : List ℕ) (n : ℕ) (f g : ℕ → Label) → ((c : ℕ) → c < n → f c ≡ g c) → section_text name n f ≡ section_text name n g
unfolding section_text
section_text_same name n f g h =
    let spans : label_spans n f ≡ label_spans n g =
    picked_same (begins f) (begins g) (span_from n f) (span_from n g) 0 n (λ d low high. begins_same n f g h d (omega (arith, high))) (λ d low high. span_from_same n f g h d (omega (arith, high))) in
    let total : labelled n f ≡ labelled n g = counted_same (λ c. is_some (f c)) (λ c. is_some (g c)) 0 n (λ d low high. ap is_some (h d (omega (arith, high)))) in
    rw (spans, total) refl

pub derived_text_same : (n : ℕ) (file : DerivedFile) (R S : ℕ → Record) → ((c : ℕ) → c < n → R c ≡ S c) → derived_text n file R ≡ derived_text n file S
unfolding derived_text
derived_text_same n file R S h =
    ap (λ (f : Section → List ℕ). flat_map f (file_sections file)) (fun_ext (λ s. section_text_same s.name n (λ c. s.label (R c)) (λ c. s.label (S c)) (λ c lt. ap s.label (h c lt))))
