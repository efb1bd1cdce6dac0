-- Proofs of the laws of the normalisation forms.
--
-- nfd_twice, nfkd_twice, nfc_twice, nfkc_twice, nfd_of_nfc, nfkd_of_nfkc, nfc_of_members,
-- nfkc_of_members   the laws of the same names
use Rattle.std.proofs.Common.{◌≡◌, ℕ, Bool, true, false, List, [], ◌∷◌, Result, Ok, Err, refl, sym, ap, ◌∙◌, subst, append-nil}
use Rattle.std.specs.List.{AllByRecursion as Each, All}
use Rattle.std.proofs.lemmas.List.Elements.{All-from_recursion}
use Rattle.ucd_facts.specs.declared.form.Bad.{Bad as Rule}
use Rattle.ucd_facts.specs.Facts.{Facts}
use Rattle.ucd_model.specs.CanonicalOrder.{class_of, order}
use Rattle.ucd_facts.specs.Composites.{pair_of}
use Rattle.ucd_model.specs.Composition.{compose}
use Rattle.ucd_model.specs.Forms.{appended, expansions, in_order, decomposed, composed}
use Rattle.normalisation.specs.OrderLemmas.{Ordered, order-ordered, order_is_ordered}
use Rattle.normalisation.specs.StableLemmas.{Alone, Stable, stable_compose}
use Rattle.normalisation.specs.OrderProofs.{order_twice}
use Rattle.normalisation.specs.FormLaws.{HaveExpansions, NfdTwice, NfkdTwice, NfcTwice, NfkcTwice, NfdOfNfc, NfkdOfNfkc, NfcMembersStay, NfkcMembersStay}
use Rattle.normalisation.specs.ExpandedLemmas.{Unmapped, Each-order, ok_same, expansions_unmapped, expansions_full}

-- what is decomposed: in order, and nothing in it is mapped
pub in_order_ok : (F : ℕ → Facts) (r : Result (List ℕ) Rule) (t : List ℕ) → in_order F r ≡ Ok t → (e : List ℕ) × (r ≡ Ok e) × (order (class_of F) e ≡ t)
in_order_ok F (Ok e) t is = (e, refl, ok_same (order (class_of F) e) t is)
in_order_ok F (Err rule) t is = cc

decomposed_unmapped : (F : ℕ → Facts) (compat : Bool) (s t : List ℕ) → decomposed F compat s ≡ Ok t → Each (Unmapped F compat) t
decomposed_unmapped F compat s t is =
    let parts = in_order_ok F (expansions F compat s) t is in
    subst (Each (Unmapped F compat)) parts.2 (Each-order (Unmapped F compat) (class_of F) parts.0 (expansions_full F compat s parts.0 parts.1))

decomposed_in_order : (F : ℕ → Facts) (compat : Bool) (s t : List ℕ) → decomposed F compat s ≡ Ok t → order (class_of F) t ≡ t
decomposed_in_order F compat s t is =
    let parts = in_order_ok F (expansions F compat s) t is in
    ap (order (class_of F)) (sym parts.2) ∙ order_twice (class_of F) parts.0 ∙ parts.2

decomposed_twice : (F : ℕ → Facts) (compat : Bool) (s t : List ℕ) → decomposed F compat s ≡ Ok t → decomposed F compat t ≡ Ok t
decomposed_twice F compat s t is = ap (in_order F) (expansions_unmapped F compat t (decomposed_unmapped F compat s t is)) ∙ ap (λ zs. Ok zs) (decomposed_in_order F compat s t is)

pub nfd_twice : NfdTwice
nfd_twice F s t is = decomposed_twice F false s t is

pub nfkd_twice : NfkdTwice
nfkd_twice F s t is = decomposed_twice F true s t is

-- ---- what is composed

decomposed_ordered : (F : ℕ → Facts) (compat : Bool) (s t : List ℕ) → decomposed F compat s ≡ Ok t → Ordered (class_of F) 0 t
decomposed_ordered F compat s t is =
    let parts = in_order_ok F (expansions F compat s) t is in
    subst (Ordered (class_of F) 0) parts.2 (order_is_ordered (class_of F) parts.0)

pub composed_ok : (F : ℕ → Facts) (r : Result (List ℕ) Rule) (u : List ℕ) → composed F r ≡ Ok u → (t : List ℕ) × (r ≡ Ok t) × (compose (class_of F) (pair_of F) t ≡ u)
composed_ok F (Ok t) u is = (t, refl, ok_same (compose (class_of F) (pair_of F) t) u is)
composed_ok F (Err rule) u is = cc

composed_stable : (F : ℕ → Facts) (compat : Bool) (s u : List ℕ) → HaveExpansions F compat → composed F (decomposed F compat s) ≡ Ok u → (t : List ℕ) × (decomposed F compat s ≡ Ok t) × (compose (class_of F) (pair_of F) t ≡ u) × Stable F compat u t
composed_stable F compat s u have is =
    let parts = composed_ok F (decomposed F compat s) u is in
    (parts.0, parts.1, parts.2, subst (λ (zs : List ℕ). Stable F compat zs parts.0) parts.2 (stable_compose F compat have parts.0 (decomposed_unmapped F compat s parts.0 parts.1) (decomposed_ordered F compat s parts.0 parts.1)))

composed_twice : (F : ℕ → Facts) (compat : Bool) (s u : List ℕ) → HaveExpansions F compat → composed F (decomposed F compat s) ≡ Ok u → composed F (decomposed F compat u) ≡ Ok u
composed_twice F compat s u have is =
    let parts = composed_stable F compat s u have is in
    ap (λ r. composed F (in_order F r)) parts.3.expansions ∙ ap (λ zs. Ok (compose (class_of F) (pair_of F) zs)) parts.3.order ∙ ap (λ zs. Ok zs) parts.2

composed_alone : (F : ℕ → Facts) (compat : Bool) (x : ℕ) → Alone F compat x → composed F (decomposed F compat (x ∷ [])) ≡ Ok (x ∷ [])
composed_alone F compat x alone =
    let whole : expansions F compat (x ∷ []) ≡ Ok alone.points = ap (λ r. appended r (Ok [])) alone.expansion ∙ ap (λ zs. Ok zs) (append-nil alone.points) in
    ap (λ r. composed F (in_order F r)) whole ∙ ap (λ zs. Ok (compose (class_of F) (pair_of F) zs)) (order-ordered (class_of F) alone.points alone.ordered) ∙ ap (λ zs. Ok zs) alone.composes

each_composed : (F : ℕ → Facts) (compat : Bool) (xs : List ℕ) → Each (Alone F compat) xs → Each (λ x. composed F (decomposed F compat (x ∷ [])) ≡ Ok (x ∷ [])) xs
each_composed F compat [] each = tt
each_composed F compat (x ∷ xs) each = (composed_alone F compat x each.0, each_composed F compat xs each.1)

composed_members : (F : ℕ → Facts) (compat : Bool) (s u : List ℕ) → HaveExpansions F compat → composed F (decomposed F compat s) ≡ Ok u → All (λ x. composed F (decomposed F compat (x ∷ [])) ≡ Ok (x ∷ [])) u
composed_members F compat s u have is =
    let parts = composed_stable F compat s u have is in
    All-from_recursion (λ x. composed F (decomposed F compat (x ∷ [])) ≡ Ok (x ∷ [])) u (each_composed F compat u parts.3.alone)

decomposed_of_composed : (F : ℕ → Facts) (compat : Bool) (s u : List ℕ) → HaveExpansions F compat → composed F (decomposed F compat s) ≡ Ok u → decomposed F compat u ≡ decomposed F compat s
decomposed_of_composed F compat s u have is =
    let parts = composed_stable F compat s u have is in
    ap (in_order F) parts.3.expansions ∙ ap (λ zs. Ok zs) parts.3.order ∙ sym parts.1

pub nfd_of_nfc : NfdOfNfc
nfd_of_nfc F s t have is = decomposed_of_composed F false s t have is

pub nfkd_of_nfkc : NfkdOfNfkc
nfkd_of_nfkc F s t have is = decomposed_of_composed F true s t have is

pub nfc_twice : NfcTwice
nfc_twice F s t have is = composed_twice F false s t have is

pub nfkc_twice : NfkcTwice
nfkc_twice F s t have is = composed_twice F true s t have is

pub nfc_of_members : NfcMembersStay
nfc_of_members F s t have is = composed_members F false s t have is

pub nfkc_of_members : NfkcMembersStay
nfkc_of_members F s t have is = composed_members F true s t have is
