-- What is expanded, and what expands to it.
-- Unmapped F compat x     x has no mapping that counts
-- ok_same                 two lists in Ok that are the same are the same list
-- appended_ok             where two results appended are a list, both are lists, and that list is the two joined
-- expansions-append       the expansions of two joined lists are those of the two, appended
-- expansions_unmapped     where no member has a mapping that counts, the expansions are the list itself
-- expansions_full         no member of the expansions of a list has a mapping that counts
-- pair_expansion          the expansion of a composite that has one is that of its first member, and behind it the second member,
--                         where that has no mapping that counts
use Rattle.std.proofs.Common.{◌≡◌, ℕ, Bool, true, List, [], ◌∷◌, ◌++◌, Some, Result, Ok, Err, refl, sym, ap, ◌∙◌, subst, arith, append-nil}
use Rattle.std.specs.List.{AllByRecursion as Each}
use Rattle.std.proofs.lemmas.List.Elements.{recursion_from_All}
use Rattle.std.proofs.lemmas.Option.{same_Some}
use Rattle.ucd_facts.specs.FactsLemmas.{judged_some}
use Rattle.ucd_facts.specs.declared.form.Bad.{Bad as Rule}
use Rattle.ucd_facts.specs.Facts.{Facts}
use Rattle.ucd_facts.specs.declared.decomposition.Kind.{Kind}
use Rattle.ucd_facts.specs.declared.decomposition.Kind.TheVariants.{Canonical}
use Rattle.ucd_facts.specs.Composites.{is_canonical}
use Rattle.ucd_facts.specs.Expansion.{counts, counted, both, alone_or_joined, expand, full, expansion}
use Rattle.ucd_model.specs.Forms.{appended, expansions}
pub use Rattle.ucd_model.specs.MemberProofs.{Each-append, Each-front, Each-back, Each-order}
use Rattle.decomposition.specs.ExpansionProofs.{both_some, unmapped_is_alone, more_levels_give_the_same, expansions_are_full}
use Rattle.normalisation.specs.FormLaws.{HasExpansion}
use Rattle.normalisation.specs.FormLemmas.{expansion_alone, appended-assoc, nil-appended}
use Rattle.normalisation.specs.PairLemmas.{Joins}

abbrev pub Unmapped : (ℕ → Facts) → Bool → ℕ → Type 0
Unmapped F compat x = counted F compat x ≡ []

-- ---- results

pub ok_same : (xs ys : List ℕ) → ◌≡◌ {A = Result (List ℕ) Rule} (Ok xs) (Ok ys) → xs ≡ ys
ok_same xs ys e = cc

pub appended_ok : (a b : Result (List ℕ) Rule) (zs : List ℕ) → appended a b ≡ Ok zs → (xs : List ℕ) × (ys : List ℕ) × (a ≡ Ok xs) × (b ≡ Ok ys) × (xs ++ ys ≡ zs)
appended_ok (Ok xs) (Ok ys) zs e = (xs, ys, refl, refl, ok_same (xs ++ ys) zs e)
appended_ok (Ok xs) (Err rule) zs e = cc
appended_ok (Err rule) b zs e = cc

-- ---- lists

pub expansions-append : (F : ℕ → Facts) (compat : Bool) (xs ys : List ℕ) → expansions F compat (xs ++ ys) ≡ appended (expansions F compat xs) (expansions F compat ys)
expansions-append F compat [] ys = sym (nil-appended (expansions F compat ys))
expansions-append F compat (x ∷ xs) ys = ap (appended (expansion F compat x)) (expansions-append F compat xs ys) ∙ sym (appended-assoc (expansion F compat x) (expansions F compat xs) (expansions F compat ys))

pub expansions_unmapped : (F : ℕ → Facts) (compat : Bool) (xs : List ℕ) → Each (Unmapped F compat) xs → expansions F compat xs ≡ Ok xs
expansions_unmapped F compat [] each = refl
expansions_unmapped F compat (x ∷ xs) each = rw (expansion_alone F compat x each.0, expansions_unmapped F compat xs each.1) refl

pub expansions_full : (F : ℕ → Facts) (compat : Bool) (s e : List ℕ) → expansions F compat s ≡ Ok e → Each (Unmapped F compat) e
expansions_full F compat [] e is = subst (Each (Unmapped F compat)) (ok_same [] e is) tt
expansions_full F compat (c ∷ s) e is =
    let parts = appended_ok (expansion F compat c) (expansions F compat s) e is in
    let here = recursion_from_All (Unmapped F compat) parts.0 (expansions_are_full F compat c parts.0 (judged_some (full F compat c) parts.0 parts.2)) in
    subst (Each (Unmapped F compat)) parts.4 (Each-append (Unmapped F compat) parts.0 parts.1 here (expansions_full F compat s parts.1 parts.3))

-- ---- a composite

counts_canonical : (compat : Bool) (kind : Kind) → is_canonical kind ≡ true → counts compat kind ≡ true
counts_canonical compat Canonical e = refl
counts_canonical compat _ e = cc

counted_pair : (F : ℕ → Facts) (compat : Bool) (s y q : ℕ) → Joins F s y q → counted F compat q ≡ s ∷ y ∷ []
counted_pair F compat s y q joins = rw (counts_canonical compat (F q).kind joins.canonical) joins.mapping

seven_full : (F : ℕ → Facts) (compat : Bool) (c : ℕ) (p e : List ℕ) → expand F compat 7 c ≡ Some p → full F compat c ≡ Some e → p ≡ e
unfolding full
seven_full F compat c p e seven eight = same_Some p e (sym (more_levels_give_the_same F compat 7 8 c p (omega arith) seven) ∙ eight)

pair_parts : (F : ℕ → Facts) (compat : Bool) (s y q : ℕ) (points : List ℕ) → counted F compat q ≡ s ∷ y ∷ [] → full F compat q ≡ Some points → both (expand F compat 7 s) (both (expand F compat 7 y) (Some [])) ≡ Some points
unfolding full
pair_parts F compat s y q points mapping e = sym (ap (λ m. alone_or_joined q m (expand F compat 7)) mapping) ∙ e

pub pair_expansion : (F : ℕ → Facts) (compat : Bool) (s y q : ℕ) (es : List ℕ) → Joins F s y q → Unmapped F compat y → expansion F compat s ≡ Ok es → HasExpansion F compat q → expansion F compat q ≡ Ok (es ++ y ∷ [])
pair_expansion F compat s y q es joins alone first has =
    let whole = pair_parts F compat s y q has.0 (counted_pair F compat s y q joins) (judged_some (full F compat q) has.0 has.1) in
    let parts = both_some (expand F compat 7 s) (both (expand F compat 7 y) (Some [])) has.0 whole in
    let more = both_some (expand F compat 7 y) (Some []) parts.1 parts.3 in
    let front : parts.0 ≡ es = seven_full F compat s parts.0 es parts.2 (judged_some (full F compat s) es first) in
    let second : more.0 ≡ y ∷ [] = seven_full F compat y more.0 (y ∷ []) more.2 (unmapped_is_alone F compat y alone) in
    let end : more.1 ≡ [] = sym (same_Some [] more.1 more.3) in
    let back : parts.1 ≡ y ∷ [] = sym more.4 ∙ ap (λ zs. more.0 ++ zs) end ∙ append-nil more.0 ∙ second in
    let both : has.0 ≡ es ++ y ∷ [] = sym parts.4 ∙ ap (λ zs. zs ++ parts.1) front ∙ ap (λ zs. es ++ zs) back in
    has.1 ∙ ap (λ zs. Ok zs) both
