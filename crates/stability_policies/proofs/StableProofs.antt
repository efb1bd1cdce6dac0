-- The forms of code points that were assigned stay.
use Rattle.std.proofs.Common.{◌≡◌, ℕ, zero, suc, Bool, true, false, nat_lt, if◌then◌else◌, List, [], ◌∷◌, ◌++◌, length, find, Option, Some, None, Result, Ok, Err, refl, sym, ap, subst, ◌∙◌, arith, append-nil}
use Rattle.std.specs.List.{AllByRecursion as Each, range_with_len, All}
use Rattle.std.proofs.lemmas.Bool.{and_from, and_parts, true≢false}
use Rattle.std.proofs.lemmas.List.Elements.{All-head, All-tail}
use Rattle.std.proofs.lemmas.Slice.Eq.{bytes_eq-Decides}
use Rattle.std.specs.Cmp.{both_ways}
use Rattle.std.proofs.lemmas.Option.{same_Some}
use mathlib.Core.Path.{fun_ext}
use Rattle.normalisation.specs.ExpandedLemmas.{ok_same}
use Rattle.ucd_model.specs.CanonicalOrder.{class_of, order}
use Rattle.ucd_model.specs.Casing.{fold, fold_of}
use Rattle.ucd_facts.specs.Composites.{composes, is_pair, pair_of, primary}
use Rattle.ucd_model.specs.Composition.{Split, compose, compose_onto, composed_with, reached, with_composite, with_point}
use Rattle.ucd_facts.specs.Expansion.{alone_or_joined, both, counted, counts, expand, expansion, full, joined, judged}
use Rattle.ucd_facts.specs.Facts.{Facts}
use Rattle.ucd_facts.specs.declared.decomposition.Kind.{Kind}
use Rattle.ucd_facts.specs.declared.decomposition.Kind.TheVariants.{Plain, Canonical, Compat}
use Rattle.ucd_model.specs.Forms.{appended, composed, decomposed, expansions, in_order, nfkc}
use Rattle.ucd_model.specs.MemberProofs.{Cut, Each-append, Each-if, Each-order, Each-to, order_same, point_each, reached_parts, reached_same}
use Rattle.ucd_points.specs.Limits.{point_count}
use Rattle.ucd_facts.specs.declared.form.Bad.{Bad as Rule}
use Rattle.ucd_facts.specs.declared.form.Bad.TheVariants.{V3}
use Rattle.normalisation.specs.FormLaws.{HaveExpansions}
use Rattle.normalisation.specs.FormProofs.{nfkc_of_members}
use Rattle.ucd_facts.specs.CompositeLaws.{IsPair}
use Rattle.ucd_facts.specs.CompositeProofs.{pair_is_least, pair_mapping}
use Rattle.stability_policies.specs.Policies.{all_assigned, caseless, folded, same_list, sort_of}
use Rattle.stability_policies.specs.StableForms.{CaselessStays, FoldsAlike, FormsStay, Old, SameForms, StaysNormal}

-- ---- values

counts_sort : (compat : Bool) (k l : Kind) → sort_of k ≡ sort_of l → counts compat k ≡ counts compat l
counts_sort compat Plain Plain e = refl
counts_sort compat Plain Canonical e = let h : ◌≡◌ {A = ℕ} 0 1 = e in absurd (omega (arith, h))
counts_sort compat Plain (Compat t) e = let h : ◌≡◌ {A = ℕ} 0 2 = e in absurd (omega (arith, h))
counts_sort compat Canonical Plain e = let h : ◌≡◌ {A = ℕ} 1 0 = e in absurd (omega (arith, h))
counts_sort compat Canonical Canonical e = refl
counts_sort compat Canonical (Compat t) e = let h : ◌≡◌ {A = ℕ} 1 2 = e in absurd (omega (arith, h))
counts_sort compat (Compat s) Plain e = let h : ◌≡◌ {A = ℕ} 2 0 = e in absurd (omega (arith, h))
counts_sort compat (Compat s) Canonical e = let h : ◌≡◌ {A = ℕ} 2 1 = e in absurd (omega (arith, h))
counts_sort compat (Compat s) (Compat t) e = refl

-- the pair of two code points is a primary composite
primary_of_pair : (F : ℕ → Facts) (s y q : ℕ) → pair_of F s y ≡ Some q → primary F q ≡ true
primary_of_pair F s y q e = let least = subst (IsPair F s y) e (pair_is_least F s y) in least.0.primary

-- ---- expansions

joined_same : (f g : ℕ → Option (List ℕ)) (ms : List ℕ) → Each (λ m. f m ≡ g m) ms → joined f ms ≡ joined g ms
joined_same f g [] e = refl
joined_same f g (m ∷ ms) e = ap (λ a. both a (joined f ms)) e.0 ∙ ap (both (g m)) (joined_same f g ms e.1)

alone_same : (c : ℕ) (f g : ℕ → Option (List ℕ)) (ms : List ℕ) → Each (λ m. f m ≡ g m) ms → alone_or_joined c ms f ≡ alone_or_joined c ms g
alone_same c f g [] e = refl
alone_same c f g (m ∷ ms) e = joined_same f g (m ∷ ms) e

module _ (P : ℕ → Type 0) where
  abbrev Gives : Option (List ℕ) → Type 0
  Gives r = (xs : List ℕ) → r ≡ Some xs → Each P xs

  both_each : (a b : Option (List ℕ)) → Gives a → Gives b → Gives (both a b)
  both_each (Some xs) (Some ys) here rest zs e = subst (Each P) (same_Some (xs ++ ys) zs e) (Each-append P xs ys (here xs refl) (rest ys refl))
  both_each (Some xs) None here rest zs e = cc
  both_each None b here rest zs e = cc

  joined_each : (f : ℕ → Option (List ℕ)) (ms : List ℕ) → Each (λ m. Gives (f m)) ms → Gives (joined f ms)
  joined_each f [] e xs is = subst (Each P) (same_Some [] xs is) tt
  joined_each f (m ∷ ms) e xs is = both_each (f m) (joined f ms) e.0 (joined_each f ms e.1) xs is

  alone_each : (c : ℕ) (f : ℕ → Option (List ℕ)) (ms : List ℕ) → P c → Each (λ m. Gives (f m)) ms → Gives (alone_or_joined c ms f)
  alone_each c f [] here e xs is = subst (Each P) (same_Some (c ∷ []) xs is) (here, tt)
  alone_each c f (m ∷ ms) here e xs is = joined_each f (m ∷ ms) e xs is

  judged_each : (r : Option (List ℕ)) → Gives r → (xs : List ℕ) → judged r ≡ Ok xs → Each P xs
  judged_each None g xs e = cc
  judged_each (Some ys) g xs e = by (nat_lt 64 (length ys)) e
    where
      by : (b : Bool) → (let r : Result (List ℕ) Rule = if b then Err V3 else Ok ys in r ≡ Ok xs) → Each P xs
      by true e = cc
      by false e = subst (Each P) (ok_same ys xs e) (g ys refl)

module _ (O N : ℕ → Facts) (stays : StaysNormal O N) where
  counted_same : (compat : Bool) (c : ℕ) → Old O c → counted O compat c ≡ counted N compat c
  counted_same compat c old =
      ap (λ b. if b then (O c).mapping else []) (counts_sort compat (O c).kind (N c).kind (stays.sort c old))
      ∙ ap (λ m. if counts compat (N c).kind then m else []) (stays.mapping c old)

  counted_old : (compat : Bool) (c : ℕ) → Old O c → Each (Old O) (counted O compat c)
  counted_old compat c old = Each-if (Old O) (counts compat (O c).kind) (O c).mapping [] (stays.members c old) tt

  expand_same : (compat : Bool) (n c : ℕ) → Old O c → expand O compat n c ≡ expand N compat n c
  expand_same compat zero c old = refl
  expand_same compat (suc n) c old =
      alone_same c (expand O compat n) (expand N compat n) (counted O compat c)
      (Each-to (Old O) (λ m. expand O compat n m ≡ expand N compat n m) (λ m member. expand_same compat n m member) (counted O compat c) (counted_old compat c old))
      ∙ ap (λ m. alone_or_joined c m (expand N compat n)) (counted_same compat c old)

  expand_old : (compat : Bool) (n c : ℕ) → Old O c → Gives (Old O) (expand O compat n c)
  expand_old compat zero c old xs e = cc
  expand_old compat (suc n) c old xs e =
      alone_each (Old O) c (expand O compat n) (counted O compat c) old
      (Each-to (Old O) (λ m. Gives (Old O) (expand O compat n m)) (λ m member. expand_old compat n m member) (counted O compat c) (counted_old compat c old)) xs e

  expansion_same : (compat : Bool) (c : ℕ) → Old O c → expansion O compat c ≡ expansion N compat c
  unfolding full
  expansion_same compat c old = ap judged (expand_same compat 8 c old)

  expansion_old : (compat : Bool) (c : ℕ) → Old O c → (xs : List ℕ) → expansion O compat c ≡ Ok xs → Each (Old O) xs
  unfolding full
  expansion_old compat c old xs e = judged_each (Old O) (expand O compat 8 c) (expand_old compat 8 c old) xs e

  expansions_same : (compat : Bool) (s : List ℕ) → Each (Old O) s → expansions O compat s ≡ expansions N compat s
  expansions_same compat [] e = refl
  expansions_same compat (c ∷ s) e = ap (λ a. appended a (expansions O compat s)) (expansion_same compat c e.0) ∙ ap (appended (expansion N compat c)) (expansions_same compat s e.1)

  appended_old : (a b : Result (List ℕ) Rule) → ((xs : List ℕ) → a ≡ Ok xs → Each (Old O) xs) → ((xs : List ℕ) → b ≡ Ok xs → Each (Old O) xs) → (xs : List ℕ) → appended a b ≡ Ok xs → Each (Old O) xs
  appended_old (Ok xs) (Ok ys) here rest zs e = subst (Each (Old O)) (ok_same (xs ++ ys) zs e) (Each-append (Old O) xs ys (here xs refl) (rest ys refl))
  appended_old (Ok xs) (Err rule) here rest zs e = cc
  appended_old (Err rule) b here rest zs e = cc

  expansions_old : (compat : Bool) (s : List ℕ) → Each (Old O) s → (xs : List ℕ) → expansions O compat s ≡ Ok xs → Each (Old O) xs
  expansions_old compat [] e xs is = subst (Each (Old O)) (ok_same [] xs is) tt
  expansions_old compat (c ∷ s) e xs is = appended_old (expansion O compat c) (expansions O compat s) (expansion_old compat c e.0) (expansions_old compat s e.1) xs is

  -- ---- order

  classes : (xs : List ℕ) → Each (Old O) xs → Each (λ x. class_of O x ≡ class_of N x) xs
  classes xs e = Each-to (Old O) (λ x. class_of O x ≡ class_of N x) stays.class xs e

  abbrev AllOld : Result (List ℕ) Rule → Type 0
  AllOld r = (xs : List ℕ) → r ≡ Ok xs → Each (Old O) xs

  ordered_same : (r : Result (List ℕ) Rule) → AllOld r → in_order O r ≡ in_order N r
  ordered_same (Ok xs) old = ap (λ ys. Ok ys) (order_same (class_of O) (class_of N) xs (classes xs (old xs refl)))
  ordered_same (Err rule) old = refl

  ordered_old : (r : Result (List ℕ) Rule) → AllOld r → AllOld (in_order O r)
  ordered_old (Ok xs) old ys e = subst (Each (Old O)) (ok_same (order (class_of O) xs) ys e) (Each-order (Old O) (class_of O) xs (old xs refl))
  ordered_old (Err rule) old ys e = cc

  -- ---- composition

  composes_to : (s y q : ℕ) → composes O s y q ≡ true → composes N s y q ≡ true
  composes_to s y q e =
      let parts = and_parts (primary O q) (is_pair s y (O q).mapping) e in
      let kept = stays.composed q parts.0 in
      and_from (primary N q) (is_pair s y (N q).mapping) kept.1 (ap (is_pair s y) (sym (stays.mapping q kept.0)) ∙ parts.1)

  composes_by : (s y q : ℕ) (b : Bool) → Old O s → Old O y → primary O q ≡ b → composes N s y q ≡ true → composes O s y q ≡ true
  composes_by s y q true first second is e =
      let parts = and_parts (primary N q) (is_pair s y (N q).mapping) e in
      let kept = stays.composed q is in
      and_from (primary O q) (is_pair s y (O q).mapping) is (ap (is_pair s y) (stays.mapping q kept.0) ∙ parts.1)
  composes_by s y q false first second is e =
      let parts = and_parts (primary N q) (is_pair s y (N q).mapping) e in
      let mapping : (N q).mapping ≡ s ∷ y ∷ [] = pair_mapping s y (N q).mapping parts.1 in
      let old : all_assigned O (s ∷ y ∷ []) ≡ true = rw (first, second) refl in
      absurd (true≢false (sym (ap (all_assigned O) mapping ∙ old) ∙ stays.composing q parts.0 is))

  pair_same : (s y : ℕ) → Old O s → Old O y → pair_of O s y ≡ pair_of N s y
  unfolding pair_of
  pair_same s y first second =
      ap (λ (p : ℕ → Bool). find p (range_with_len 0 point_count))
      (fun_ext (λ q. both_ways (composes O s y q) (composes N s y q) (composes_to s y q) (composes_by s y q (primary O q) first second refl)))

  pair_old : (s y q : ℕ) → pair_of O s y ≡ Some q → Old O q
  pair_old s y q e = (stays.composed q (primary_of_pair O s y q e)).0

  point_same : (xs : List ℕ) (y : ℕ) (cut : Option Split) → Old O y → Cut (Old O) cut → with_point (pair_of O) xs y cut ≡ with_point (pair_of N) xs y cut
  point_same xs y (Some cut) old c = ap (with_composite xs y cut) (pair_same cut.starter y c.starter old)
  point_same xs y None old c = refl

  onto_same : (done rest : List ℕ) → Each (Old O) done → Each (Old O) rest → compose_onto (class_of O) (pair_of O) done rest ≡ compose_onto (class_of N) (pair_of N) done rest
  onto_same done [] d r = refl
  onto_same done (y ∷ rest) d r =
      let cut : Option Split = reached (class_of O) done y in
      let parts : Cut (Old O) cut = reached_parts (Old O) (class_of O) done y d in
      let reach : cut ≡ reached (class_of N) done y = reached_same (class_of O) (class_of N) done y (stays.class y r.0) (classes done d) in
      let point : composed_with (class_of O) (pair_of O) done y ≡ composed_with (class_of N) (pair_of N) done y = point_same done y cut r.0 parts ∙ ap (with_point (pair_of N) done y) reach in
      onto_same (composed_with (class_of O) (pair_of O) done y) rest (point_each (Old O) (class_of O) (pair_of O) done y cut pair_old r.0 d parts) r.1
      ∙ ap (λ done. compose_onto (class_of N) (pair_of N) done rest) point

  onto_old : (done rest : List ℕ) → Each (Old O) done → Each (Old O) rest → Each (Old O) (compose_onto (class_of O) (pair_of O) done rest)
  onto_old done [] d r = d
  onto_old done (y ∷ rest) d r =
      onto_old (composed_with (class_of O) (pair_of O) done y) rest (point_each (Old O) (class_of O) (pair_of O) done y (reached (class_of O) done y) pair_old r.0 d (reached_parts (Old O) (class_of O) done y d)) r.1

  composed_same : (r : Result (List ℕ) Rule) → AllOld r → composed O r ≡ composed N r
  composed_same (Ok xs) old = ap (λ ys. Ok ys) (onto_same [] xs tt (old xs refl))
  composed_same (Err rule) old = refl

  composed_old : (r : Result (List ℕ) Rule) → AllOld r → AllOld (composed O r)
  composed_old (Ok xs) old ys e = subst (Each (Old O)) (ok_same (compose (class_of O) (pair_of O) xs) ys e) (onto_old [] xs tt (old xs refl))
  composed_old (Err rule) old ys e = cc

  -- ---- the forms

  decomposed_same : (compat : Bool) (s : List ℕ) → Each (Old O) s → decomposed O compat s ≡ decomposed N compat s
  decomposed_same compat s e = ordered_same (expansions O compat s) (expansions_old compat s e) ∙ ap (in_order N) (expansions_same compat s e)

  decomposed_old : (compat : Bool) (s : List ℕ) → Each (Old O) s → AllOld (decomposed O compat s)
  decomposed_old compat s e = ordered_old (expansions O compat s) (expansions_old compat s e)

  form_same : (compat : Bool) (s : List ℕ) → Each (Old O) s → composed O (decomposed O compat s) ≡ composed N (decomposed N compat s)
  form_same compat s e = composed_same (decomposed O compat s) (decomposed_old compat s e) ∙ ap (composed N) (decomposed_same compat s e)

  same_forms : (s : List ℕ) → Each (Old O) s → SameForms O N s
  same_forms s e = record { nfd = decomposed_same false s e; nfc = form_same false s e; nfkd = decomposed_same true s e; nfkc = form_same true s e }

  -- ---- foldings

  fold_one : (x : ℕ) → FoldsAlike O N → nfkc O (x ∷ []) ≡ Ok (x ∷ []) → Old O x → fold_of O x ≡ fold_of N x
  fold_one x alike form old =
      let new : nfkc N (x ∷ []) ≡ Ok (x ∷ []) = sym ((same_forms (x ∷ []) (old, tt)).nfkc) ∙ form in
      let before : caseless O (x ∷ []) ≡ Ok (fold_of O x) = ap (folded O) form ∙ ap (λ s. Ok s) (append-nil (fold_of O x)) in
      let after : caseless N (x ∷ []) ≡ Ok (fold_of N x) = ap (folded N) new ∙ ap (λ s. Ok s) (append-nil (fold_of N x)) in
      let told : same_list (Ok (fold_of O x)) (Ok (fold_of N x)) ≡ true = ap (λ r. same_list r (Ok (fold_of N x))) (sym before) ∙ ap (same_list (caseless O (x ∷ []))) (sym after) ∙ alike x old in
      (bytes_eq-Decides (fold_of O x) (fold_of N x)).0 told

  fold_same : FoldsAlike O N → (t : List ℕ) → All (λ x. nfkc O (x ∷ []) ≡ Ok (x ∷ [])) t → Each (Old O) t → fold O t ≡ fold N t
  fold_same alike [] forms e = refl
  fold_same alike (x ∷ t) forms e =
      ap (λ a. a ++ fold O t) (fold_one x alike (All-head (λ x. nfkc O (x ∷ []) ≡ Ok (x ∷ [])) x t forms) e.0)
      ∙ ap (λ a. fold_of N x ++ a) (fold_same alike t (All-tail (λ x. nfkc O (x ∷ []) ≡ Ok (x ∷ [])) x t forms) e.1)

  -- where the folding of each code point stays, no form of it is made
  each_fold_same : ((x : ℕ) → Old O x → fold_of O x ≡ fold_of N x) → (t : List ℕ) → Each (Old O) t → fold O t ≡ fold N t
  each_fold_same alike [] e = refl
  each_fold_same alike (x ∷ t) e = ap (λ a. a ++ fold O t) (alike x e.0) ∙ ap (λ a. fold_of N x ++ a) (each_fold_same alike t e.1)

  folded_same : ((x : ℕ) → Old O x → fold_of O x ≡ fold_of N x) → (r : Result (List ℕ) Rule) → AllOld r → folded O r ≡ folded N r
  folded_same alike (Ok t) old = ap (λ u. Ok u) (each_fold_same alike t (old t refl))
  folded_same alike (Err rule) old = refl

  pub caseless_where_folds_stay : ((x : ℕ) → Old O x → fold_of O x ≡ fold_of N x) → (s : List ℕ) → Each (Old O) s → caseless O s ≡ caseless N s
  caseless_where_folds_stay alike s e =
      folded_same alike (nfkc O s) (composed_old (decomposed O true s) (decomposed_old true s e)) ∙ ap (folded N) (form_same true s e)

  caseless_by : (s : List ℕ) (r : Result (List ℕ) Rule) → HaveExpansions O true → FoldsAlike O N → nfkc O s ≡ r → AllOld r → folded O r ≡ folded N r
  caseless_by s (Ok t) have alike is old = ap (λ u. Ok u) (fold_same alike t (nfkc_of_members O s t have is) (old t refl))
  caseless_by s (Err rule) have alike is old = refl

  same_caseless : HaveExpansions O true → FoldsAlike O N → (s : List ℕ) → Each (Old O) s → caseless O s ≡ caseless N s
  same_caseless have alike s e =
      caseless_by s (nfkc O s) have alike refl (composed_old (decomposed O true s) (decomposed_old true s e)) ∙ ap (folded N) (form_same true s e)

pub forms_stay : FormsStay
forms_stay O N stays s e = same_forms O N stays s e

pub caseless_stays : CaselessStays
caseless_stays O N stays have alike s e = same_caseless O N stays have alike s e
