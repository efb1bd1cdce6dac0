-- Proofs of the laws of the quick checks.
-- decomposed_alone        where the mapping of c does not count, the decomposition of c alone is c alone
-- composed_alone          where it does not, what is composed of that decomposition is c alone
-- quick_nfd, quick_nfkd   the quick checks of NFD and NFKD are decomposed_check, for canonical mappings and for all
-- check_alone             where the mapping of c does not count, decomposed_check is told by the kind of c
-- check_expanded          where c has an expansion, decomposed_check is told by the kind of c
-- composed_check_alone    where the mapping of c does not count, composed_check is quick_composed of c alone
-- kinds_tell, unchanged_is_yes, no_is_other, others_are_same   the laws of the same names
use Rattle.std.proofs.Common.{◌≡◌, ℕ, Bool, true, false, cond, ◌==◌, List, [], ◌∷◌, Result, Ok, Err, refl, sym, ap, ◌∙◌, subst, bytes_eq}
use Rattle.std.specs.List.{AllByRecursion as Each}
use Rattle.std.proofs.lemmas.Slice.Eq.{bytes_eq-Decides}
use Rattle.ucd_facts.specs.Facts.{Facts, is_plain}
use Rattle.ucd_facts.specs.declared.decomposition.Kind.{Kind}
use Rattle.ucd_facts.specs.declared.decomposition.Kind.TheVariants.{Plain}
use Rattle.ucd_model.specs.CanonicalOrder.{class_of, order}
use Rattle.ucd_facts.specs.Composites.{is_canonical, second_of}
use Rattle.ucd_facts.specs.Expansion.{counts, counted, expansion}
use Rattle.ucd_model.specs.Forms.{appended, expansions, in_order, decomposed, composed}
use Rattle.ucd_model.specs.QuickChecks.{form_of, quick_composed, quick_given, quick_where, quick}
use Rattle.ucd_facts.specs.declared.form.Bad.{Bad as Rule}
use Rattle.ucd_facts.specs.declared.form.Form.TheVariants.{Nfd, Nfc, Nfkd, Nfkc}
use Rattle.ucd_facts.specs.declared.form.Quick.{Quick}
use Rattle.ucd_facts.specs.declared.form.Quick.TheVariants.{Yes, No, Maybe}
use Rattle.normalisation.specs.FormLemmas.{expansion_alone}
use Rattle.normalisation.specs.ExpandedLemmas.{Unmapped, Each-order, expansions_full}
use Rattle.quick_checks.specs.Checks.{quick_decomposed, decomposed_check, composed_check}
use Rattle.quick_checks.specs.CheckLaws.{IsMapped, KindsTellQuickChecks, UnchangedIsYes, NoIsOther, OthersAreSame}
use Rattle.normalisation.specs.FormProofs.{in_order_ok}

-- ---- a point without a mapping that counts is each form of itself

one_if : (t : Bool) (xs : List ℕ) → cond t xs xs ≡ xs
one_if true xs = refl
one_if false xs = refl

order_one : (class : ℕ → ℕ) (y : ℕ) → order class (y ∷ []) ≡ y ∷ []
order_one class y = one_if (class y == 0) (y ∷ [])

pub decomposed_alone : (F : ℕ → Facts) (compat : Bool) (c : ℕ) → counts compat (F c).kind ≡ false → decomposed F compat (c ∷ []) ≡ Ok (c ∷ [])
decomposed_alone F compat c e =
    let none : counted F compat c ≡ [] = ap (λ b. cond b (F c).mapping []) e in
    ap (λ r. in_order F (appended r (Ok []))) (expansion_alone F compat c none) ∙ ap (λ zs. Ok zs) (order_one (class_of F) c)

pub composed_alone : (F : ℕ → Facts) (compat : Bool) (c : ℕ) → counts compat (F c).kind ≡ false → composed F (decomposed F compat (c ∷ [])) ≡ Ok (c ∷ [])
composed_alone F compat c e = ap (composed F) (decomposed_alone F compat c e)

-- ---- the checks by their kind

no_if_canonical : (kind : Kind) → cond (is_canonical kind) No Yes ≡ quick_decomposed kind false
no_if_canonical Plain = refl
no_if_canonical _ = refl

yes_if_plain : (kind : Kind) → cond (is_plain kind) Yes No ≡ quick_decomposed kind true
yes_if_plain Plain = refl
yes_if_plain _ = refl

pub kinds_tell : KindsTellQuickChecks
kinds_tell F c s = (no_if_canonical (F c).kind, yes_if_plain (F c).kind)

where_same : (f g : List ℕ → Quick) → ((s : List ℕ) → f s ≡ g s) → (r : Result (List ℕ) Rule) → quick_where f r ≡ quick_where g r
where_same f g same (Ok s) = ap (λ q. Ok q) (same s)
where_same f g same (Err rule) = refl

pub quick_nfd : (F : ℕ → Facts) (c : ℕ) → quick F Nfd c ≡ decomposed_check F false c
quick_nfd F c = where_same (quick_given F Nfd c) (λ s. quick_decomposed (F c).kind false) (λ s. no_if_canonical (F c).kind) (decomposed F false (c ∷ []))

pub quick_nfkd : (F : ℕ → Facts) (c : ℕ) → quick F Nfkd c ≡ decomposed_check F true c
quick_nfkd F c = where_same (quick_given F Nfkd c) (λ s. quick_decomposed (F c).kind true) (λ s. yes_if_plain (F c).kind) (decomposed F true (c ∷ []))

pub check_alone : (F : ℕ → Facts) (compat : Bool) (c : ℕ) → counts compat (F c).kind ≡ false → decomposed_check F compat c ≡ Ok (quick_decomposed (F c).kind compat)
check_alone F compat c e = ap (quick_where (λ s. quick_decomposed (F c).kind compat)) (decomposed_alone F compat c e)

pub check_expanded : (F : ℕ → Facts) (compat : Bool) (c : ℕ) (s : List ℕ) → expansion F compat c ≡ Ok s → decomposed_check F compat c ≡ Ok (quick_decomposed (F c).kind compat)
check_expanded F compat c s e = ap (λ r. quick_where (λ s. quick_decomposed (F c).kind compat) (in_order F (appended r (Ok [])))) e

pub composed_check_alone : (F : ℕ → Facts) (compat : Bool) (c : ℕ) → counts compat (F c).kind ≡ false → composed_check F compat c ≡ Ok (quick_composed F c (c ∷ []))
composed_check_alone F compat c e = ap (quick_where (quick_composed F c)) (composed_alone F compat c e)

-- ---- what the checks say of the forms

-- a point that is its own decomposition has no mapping that counts
alone_unmapped : (F : ℕ → Facts) (compat : Bool) (c : ℕ) → decomposed F compat (c ∷ []) ≡ Ok (c ∷ []) → counted F compat c ≡ []
alone_unmapped F compat c is =
    let parts = in_order_ok F (expansions F compat (c ∷ [])) (c ∷ []) is in
    let each : Each (Unmapped F compat) (c ∷ []) = subst (Each (Unmapped F compat)) parts.2 (Each-order (Unmapped F compat) (class_of F) parts.0 (expansions_full F compat (c ∷ []) parts.0 parts.1)) in
    each.0

counts_mapped : (compat : Bool) (kind : Kind) → counts compat kind ≡ true → is_plain kind ≡ false
counts_mapped compat Plain e = cc
counts_mapped compat _ e = refl

alone_counts : (F : ℕ → Facts) (compat : Bool) (c : ℕ) → IsMapped F c → decomposed F compat (c ∷ []) ≡ Ok (c ∷ []) → (t : Bool) → counts compat (F c).kind ≡ t → t ≡ false
alone_counts F compat c mapped is true e = absurd (mapped (counts_mapped compat (F c).kind e) (sym (ap (λ b. cond b (F c).mapping []) e) ∙ alone_unmapped F compat c is))
alone_counts F compat c mapped is false e = refl

not_counted : (F : ℕ → Facts) (compat : Bool) (c : ℕ) → IsMapped F c → decomposed F compat (c ∷ []) ≡ Ok (c ∷ []) → counts compat (F c).kind ≡ false
not_counted F compat c mapped is = alone_counts F compat c mapped is (counts compat (F c).kind) refl

check_yes : (F : ℕ → Facts) (compat : Bool) (c : ℕ) → IsMapped F c → decomposed F compat (c ∷ []) ≡ Ok (c ∷ []) → decomposed_check F compat c ≡ Ok Yes
check_yes F compat c mapped is = check_alone F compat c (not_counted F compat c mapped is) ∙ ap (λ b. Ok (cond b No Yes)) (not_counted F compat c mapped is)

composed_yes : (F : ℕ → Facts) (c : ℕ) (r : Result (List ℕ) Rule) → r ≡ Ok (c ∷ []) → second_of F c ≡ false → quick_where (quick_composed F c) r ≡ Ok Yes
composed_yes F c r is alone = ap (quick_where (quick_composed F c)) is ∙ ap (λ b. Ok (cond b (cond (second_of F c) Maybe Yes) No)) ((bytes_eq-Decides (c ∷ []) (c ∷ [])).1 refl) ∙ ap (λ b. Ok (cond b Maybe Yes)) alone

pub unchanged_is_yes : UnchangedIsYes
unchanged_is_yes F c mapped same alone Nfd = quick_nfd F c ∙ check_yes F false c mapped (same Nfd)
unchanged_is_yes F c mapped same alone Nfkd = quick_nfkd F c ∙ check_yes F true c mapped (same Nfkd)
unchanged_is_yes F c mapped same alone Nfc = composed_yes F c (form_of F Nfc (c ∷ [])) (same Nfc) alone
unchanged_is_yes F c mapped same alone Nfkc = composed_yes F c (form_of F Nfkc (c ∷ [])) (same Nfkc) alone

yes_not_no : (r : Result Quick Rule) → r ≡ Ok Yes → r ≡ Ok No → ⊥
yes_not_no r e f = cc

not_no : (t : Bool) → ◌≡◌ {A = Result Quick Rule} (Ok (cond t Maybe Yes)) (Ok No) → ⊥
not_no true e = cc
not_no false e = cc

composed_not_no : (F : ℕ → Facts) (c : ℕ) (r : Result (List ℕ) Rule) → quick_where (quick_composed F c) r ≡ Ok No → r ≡ Ok (c ∷ []) → ⊥
composed_not_no F c r e is = not_no (second_of F c) (sym (ap (quick_where (quick_composed F c)) is ∙ ap (λ b. Ok (cond b (cond (second_of F c) Maybe Yes) No)) ((bytes_eq-Decides (c ∷ []) (c ∷ [])).1 refl)) ∙ e)

pub no_is_other : NoIsOther
no_is_other F c Nfd mapped e = λ same. yes_not_no (decomposed_check F false c) (check_yes F false c mapped same) (sym (quick_nfd F c) ∙ e)
no_is_other F c Nfkd mapped e = λ same. yes_not_no (decomposed_check F true c) (check_yes F true c mapped same) (sym (quick_nfkd F c) ∙ e)
no_is_other F c Nfc mapped e = composed_not_no F c (form_of F Nfc (c ∷ [])) e
no_is_other F c Nfkc mapped e = composed_not_no F c (form_of F Nfkc (c ∷ [])) e

where_constant : (q value : Quick) (r : Result (List ℕ) Rule) → quick_where (λ s. q) r ≡ Ok value → q ≡ value
where_constant q value (Ok s) e = cc
where_constant q value (Err rule) e = cc

decomposed_same : (F : ℕ → Facts) (compat : Bool) (c : ℕ) (value : Quick) → decomposed_check F compat c ≡ Ok value → (value ≡ No → ⊥) → (t : Bool) → counts compat (F c).kind ≡ t → decomposed F compat (c ∷ []) ≡ Ok (c ∷ [])
decomposed_same F compat c value is other true e = absurd (other (sym (where_constant (quick_decomposed (F c).kind compat) value (decomposed F compat (c ∷ [])) is) ∙ ap (λ b. cond b No Yes) e))
decomposed_same F compat c value is other false e = decomposed_alone F compat c e

same_if : (F : ℕ → Facts) (c : ℕ) (s : List ℕ) (value : Quick) → quick_composed F c s ≡ value → (value ≡ No → ⊥) → (t : Bool) → bytes_eq s (c ∷ []) ≡ t → t ≡ true
same_if F c s value is other true e = refl
same_if F c s value is other false e = absurd (other (sym is ∙ ap (λ b. cond b (cond (second_of F c) Maybe Yes) No) e))

composed_same : (F : ℕ → Facts) (c : ℕ) (value : Quick) (r : Result (List ℕ) Rule) → quick_where (quick_composed F c) r ≡ Ok value → (value ≡ No → ⊥) → r ≡ Ok (c ∷ [])
composed_same F c value (Err rule) is other = cc
composed_same F c value (Ok s) is other =
    let here : quick_composed F c s ≡ value = cc in
    ap (λ zs. Ok zs) ((bytes_eq-Decides s (c ∷ [])).0 (same_if F c s value here other (bytes_eq s (c ∷ [])) refl))

pub others_are_same : OthersAreSame
others_are_same F c Nfd value is other = decomposed_same F false c value (sym (quick_nfd F c) ∙ is) other (counts false (F c).kind) refl
others_are_same F c Nfkd value is other = decomposed_same F true c value (sym (quick_nfkd F c) ∙ is) other (counts true (F c).kind) refl
others_are_same F c Nfc value is other = composed_same F c value (form_of F Nfc (c ∷ [])) is other
others_are_same F c Nfkc value is other = composed_same F c value (form_of F Nfkc (c ∷ [])) is other
