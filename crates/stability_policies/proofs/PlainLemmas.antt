-- Code points without a mapping: their NFKC and their folding under it.
use Rattle.std.proofs.Common.{◌≡◌, ℕ, Bool, true, false, ◌&&◌, not, ◌==◌, List, [], ◌∷◌, ◌++◌, Ok, if◌then◌else◌, refl, sym, ap, ◌∙◌, bytes_eq, append-nil}
use Rattle.std.proofs.lemmas.Slice.Eq.{bytes_eq-Decides}
use Rattle.ucd_points.specs.PlainProofs.{either, none_of}
use Rattle.ucd_facts.specs.Composites.{first_has_class_zero, is_canonical, primary}
use Rattle.ucd_facts.specs.Expansion.{counts, counted}
use Rattle.ucd_facts.specs.Facts.{Facts, image_points, is_plain}
use Rattle.ucd_facts.specs.declared.decomposition.Kind.{Kind}
use Rattle.ucd_facts.specs.declared.decomposition.Kind.TheVariants.{Plain, Canonical, Compat}
use Rattle.ucd_model.specs.Forms.{appended, composed, in_order, nfkc}
use Rattle.ucd_facts.specs.Uniform.{IsPlain}
use Rattle.normalisation.specs.FormLemmas.{expansion_alone}
use Rattle.stability_policies.specs.CaselessLists.{folding_of}
use Rattle.stability_policies.specs.Policies.{caseless, folded, same_list}

pub same_bytes : (s : List ℕ) → bytes_eq s s ≡ true
same_bytes s = (bytes_eq-Decides s s).1 refl

-- ---- NFKC

uncounted : (F : ℕ → Facts) (c : ℕ) → counted F true c ≡ [] → nfkc F (c ∷ []) ≡ Ok (c ∷ [])
uncounted F c none =
    ap (λ r. composed F (in_order F (appended r (Ok [])))) (expansion_alone F true c none)
    ∙ ap (λ s. composed F (Ok s)) (either ((F c).class == 0) (c ∷ []))

pub nfkc_plain_kind : (F : ℕ → Facts) (c : ℕ) → (F c).kind ≡ Plain → nfkc F (c ∷ []) ≡ Ok (c ∷ [])
nfkc_plain_kind F c e = uncounted F c (ap (λ k. if counts true k then (F c).mapping else []) e)

pub nfkc_plain : (F : ℕ → Facts) (c : ℕ) → IsPlain c (F c) → nfkc F (c ∷ []) ≡ Ok (c ∷ [])
nfkc_plain F c p = uncounted F c (ap (λ m. if counts true (F c).kind then m else []) p.mapping ∙ either (counts true (F c).kind) [])

-- ---- the folding under it

pub caseless_plain_kind : (F : ℕ → Facts) (c : ℕ) → (F c).kind ≡ Plain → caseless F (c ∷ []) ≡ Ok (folding_of c (F c))
caseless_plain_kind F c e = ap (folded F) (nfkc_plain_kind F c e) ∙ ap (λ s. Ok s) (append-nil (folding_of c (F c)))

pub caseless_plain : (F : ℕ → Facts) (c : ℕ) → IsPlain c (F c) → caseless F (c ∷ []) ≡ Ok (c ∷ [])
caseless_plain F c p = ap (folded F) (nfkc_plain F c p) ∙ ap (λ i. Ok (image_points c i ++ [])) p.fold

no_mapping : (k : Kind) → not (is_plain k) ≡ false → k ≡ Plain
no_mapping Plain e = refl
no_mapping Canonical e = cc
no_mapping (Compat tag) e = cc

-- where neither release gives a mapping, the foldings alone are compared
pub plain_caseless : (O N : ℕ → Facts) (c : ℕ) (F G : Facts) (same : Bool) → F ≡ O c → G ≡ N c → not (is_plain F.kind) ≡ false → not (is_plain G.kind) ≡ false
    → same ≡ bytes_eq (folding_of c F) (folding_of c G) → F.assigned ≡ true → not same ≡ ((O c).assigned && not (same_list (caseless O (c ∷ [])) (caseless N (c ∷ []))))
plain_caseless O N c F G same old new plain_old plain_new is assigned =
    let before : caseless O (c ∷ []) ≡ Ok (folding_of c F) = caseless_plain_kind O c (ap (λ (H : Facts). H.kind) (sym old) ∙ no_mapping F.kind plain_old) ∙ ap (λ H. Ok (folding_of c H)) (sym old) in
    let after : caseless N (c ∷ []) ≡ Ok (folding_of c G) = caseless_plain_kind N c (ap (λ (H : Facts). H.kind) (sym new) ∙ no_mapping G.kind plain_new) ∙ ap (λ H. Ok (folding_of c H)) (sym new) in
    let was : (O c).assigned ≡ true = ap (λ (H : Facts). H.assigned) (sym old) ∙ assigned in
    rw (before, after, was, is) refl

-- ---- composites

pub primary_unmapped : (F : ℕ → Facts) (c : ℕ) → (F c).mapping ≡ [] → primary F c ≡ false
primary_unmapped F c none =
    ap (λ m. is_canonical (F c).kind && (((F c).class == 0) && (first_has_class_zero F m && not (F c).excluded))) none
    ∙ none_of (is_canonical (F c).kind) ((F c).class == 0) (not (F c).excluded)

pub primary_plain : (F : ℕ → Facts) (c : ℕ) → IsPlain c (F c) → primary F c ≡ false
primary_plain F c p = primary_unmapped F c p.mapping
