-- What is missed of code points.
-- passed_over      of a code point that is not assigned or is listed nothing is missed
-- plain_missed     of a code point without a mapping nothing is missed
-- points_more      one more code point
-- points_all       all code points
-- misses_with      what is missed of a file with a part 1
-- misses_without   what is missed of a file without one
-- none_put         nothing that is put
use Rattle.std.proofs.Common.{◌≡◌, ◌⊎◌, inl, inr, ℕ, ◌+◌, Bool, true, false, ◌&&◌, not, if◌then◌else◌, List, [], ◌∷◌, ◌++◌, refl, sym, ap, ◌∙◌, append-nil, arith}
use Rattle.std.specs.List.{flat_map, range_with_len}
use Rattle.std.proofs.lemmas.List.{flat_map_more}
use Rattle.std.proofs.Math.Bool.{and-false}
use Rattle.std.proofs.lemmas.Slice.Eq.{bytes_eq-Decides}
use Rattle.ucd_points.specs.PlainProofs.{range_more}
use Rattle.ucd_points.specs.Limits.{point_count}
use Rattle.ucd_facts.specs.Facts.{Facts}
use Rattle.ucd_facts.specs.declared.decomposition.Kind.TheVariants.{Plain}
use Rattle.ucd_facts.specs.declared.form.Form.{Form}
use Rattle.ucd_facts.specs.declared.form.Form.TheVariants.{Nfd, Nfc, Nfkd, Nfkc}
use Rattle.normalisation.specs.FormValueProofs.{plain_forms}
use Rattle.norm_conformance.specs.Misses.{is_form, is_list, is_listed, line_misses, missed_forms, misses, misses_at, point_miss, unless, unlisted_misses}
use Rattle.norm_conformance.specs.declared.case.Cases.{Cases}
use Rattle.norm_conformance.specs.declared.miss.Miss.{Miss}

-- ---- a code point that is passed over

plain_is_form : (F : ℕ → Facts) (c : ℕ) → (F c).kind ≡ Plain → (form : Form) → is_form F form (c ∷ []) (c ∷ []) ≡ true
plain_is_form F c plain form = ap (λ r. is_list r (c ∷ [])) (plain_forms F c plain form) ∙ (bytes_eq-Decides (c ∷ []) (c ∷ [])).1 refl

all_kept : (a b c d : Bool) (j k l m : Miss) → a ≡ true → b ≡ true → c ≡ true → d ≡ true → unless a j ++ (unless b k ++ (unless c l ++ (unless d m ++ []))) ≡ []
all_kept a b c d j k l m p q r s = rw (p, q, r, s) refl

plain_none : (F : ℕ → Facts) (c : ℕ) → (F c).kind ≡ Plain → missed_forms F c ≡ []
plain_none F c plain =
    all_kept (is_form F Nfd (c ∷ []) (c ∷ [])) (is_form F Nfc (c ∷ []) (c ∷ [])) (is_form F Nfkd (c ∷ []) (c ∷ [])) (is_form F Nfkc (c ∷ []) (c ∷ [])) (point_miss c Nfd) (point_miss c Nfc) (point_miss c Nfkd) (point_miss c Nfkc)
    (plain_is_form F c plain Nfd) (plain_is_form F c plain Nfc) (plain_is_form F c plain Nfkd) (plain_is_form F c plain Nfkc)

pub passed_over : (F : ℕ → Facts) (listed : ℕ → Bool) (c : ℕ) → ((F c).assigned ≡ false) ⊎ (listed c ≡ true) → misses_at F listed c ≡ []
passed_over F listed c (inl other) = rw other refl
passed_over F listed c (inr is) = rw (is, and-false (F c).assigned) refl

if_empty : (t : Bool) (xs : List Miss) → xs ≡ [] → (if t then xs else []) ≡ []
if_empty true xs e = e
if_empty false xs e = refl

pub plain_missed : (F : ℕ → Facts) (listed : ℕ → Bool) (c : ℕ) → (F c).kind ≡ Plain → misses_at F listed c ≡ []
plain_missed F listed c plain = if_empty ((F c).assigned && not (listed c)) (missed_forms F c) (plain_none F c plain)

-- ---- all code points

pub points_more : {X : Type 0} (f : ℕ → List X) (o xs zs : List X) (n c : ℕ) → xs ≡ o ++ flat_map f (range_with_len 0 n) → c ≡ n → zs ≡ xs ++ f c → zs ≡ o ++ flat_map f (range_with_len 0 (n + 1))
points_more f o xs zs n c before same put =
    let from_zero : 0 + n ≡ n = omega arith in
    put ∙ ap (λ k. xs ++ f k) same ∙ ap (λ ys. ys ++ f n) before ∙ flat_map_more f o (range_with_len 0 n) n
    ∙ ap (λ ks. o ++ flat_map f ks) (sym (range_more 0 n ∙ ap (λ k. range_with_len 0 n ++ k ∷ []) from_zero))

pub points_all : (F : ℕ → Facts) (listed : ℕ → Bool) (o xs : List Miss) (n : ℕ) → n ≡ point_count → xs ≡ o ++ flat_map (misses_at F listed) (range_with_len 0 n) → xs ≡ o ++ unlisted_misses F listed
unfolding unlisted_misses
points_all F listed o xs n all e = e ∙ ap (λ k. o ++ flat_map (misses_at F listed) (range_with_len 0 k)) all

-- ---- all

module _ (F : ℕ → Facts) (cases : Cases) (found : List Miss) where
  abbrev of_cases : List Miss
  of_cases = flat_map (line_misses F) cases.list

  pub misses_with : (listed : ℕ → Bool) → cases.part_one ≡ true → ((c : ℕ) → listed c ≡ is_listed cases.list c) → found ≡ of_cases ++ unlisted_misses F listed → found ≡ misses F cases
  unfolding misses
  misses_with listed one same e =
      let alike : listed ≡ is_listed cases.list = λ i c. same c i in
      rw one (e ∙ ap (λ (f : ℕ → Bool). of_cases ++ unlisted_misses F f) alike)

  pub misses_without : cases.part_one ≡ false → found ≡ of_cases → found ≡ misses F cases
  unfolding misses
  misses_without none e = rw none (e ∙ sym (append-nil of_cases))

pub none_put : {X : Type 0} (o xs : List X) → xs ≡ [] → o ≡ o ++ xs
none_put o xs none = sym (append-nil o) ∙ ap (λ zs. o ++ zs) (sym none)
