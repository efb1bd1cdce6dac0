-- Code points without a mapping whose other facts are the same break the same policies.
use Rattle.std.proofs.Common.{◌≡◌, ℕ, Bool, true, false, ◌&&◌, ◌||◌, not, ◌==◌, ◌<◌, ◌≤◌, [], ◌∷◌, Ok, refl, sym, ap, ◌∙◌, arith, inl, inr, bytes_eq}
use Rattle.std.proofs.lemmas.Bool.{cases_lt, eq-eqb}
use Rattle.std.proofs.Math.Bool.{and-false, or-true}
use Rattle.ucd_points.specs.PlainProofs.{and_self}
use Rattle.ucd_model.specs.Casing.{where_form}
use Rattle.ucd_facts.specs.Composites.{primary}
use Rattle.ucd_facts.specs.Facts.{Facts, image_points}
use Rattle.ucd_model.specs.Identifiers.{continues, starts, xid_continue, xid_start}
use Rattle.ucd_facts.specs.Predicates.{id_continue, id_start}
use Rattle.ucd_facts.specs.Uniform.{Alike, IsPlain, Uniform}
use Rattle.stability_policies.specs.Policies.{all_assigned, breaks, is_case_pair, same_list, same_mapping, caseless}
use Rattle.stability_policies.specs.BrokenStretches.{IsAlikeTo}
use Rattle.stability_policies.specs.StableForms.{all_kept, keeps_forms}
use Rattle.stability_policies.specs.declared.policy.Policy.{Policy}
use Rattle.stability_policies.specs.declared.policy.Policy.TheVariants.{P01, P02, P03, P04, P05, P06, P07, P08, P09, P10, P11, P12, P13, P14, P15, P16, P17, P18, P19, P20}
use Rattle.stability_policies.proofs.PlainLemmas.{caseless_plain, nfkc_plain, primary_plain, same_bytes}

abbrev keeps_folding : (ℕ → Facts) → (ℕ → Facts) → ℕ → Bool
keeps_folding O N e = not (O e).assigned || bytes_eq (image_points e (O e).fold) (image_points e (N e).fold)

-- ---- parts of the formulas

start_alike : (G H : Facts) → Alike G H → id_start G ≡ id_start H
start_alike G H a = rw (a.category, a.flag) refl

continue_alike : (G H : Facts) → Alike G H → id_continue G ≡ id_continue H
continue_alike G H a = rw (a.category, a.flag) refl

xid_start_plain : (F : ℕ → Facts) (c : ℕ) → IsPlain c (F c) → xid_start F c ≡ id_start (F c)
xid_start_plain F c p = ap (λ r. id_start (F c) && where_form (starts F) r) (nfkc_plain F c p) ∙ and_self (id_start (F c))

xid_continue_plain : (F : ℕ → Facts) (c : ℕ) → IsPlain c (F c) → xid_continue F c ≡ id_continue (F c)
xid_continue_plain F c p = ap (λ r. id_continue (F c) && where_form (continues F) r) (nfkc_plain F c p) ∙ and_self (id_continue (F c))

pub no_pair : (F : ℕ → Facts) (c : ℕ) (b : Bool) (G : Facts) → G.simple_lower ≡ c → (is_case_pair F c G.simple_lower && b) ≡ false
no_pair F c b G e = ap (λ d. is_case_pair F c d && b) e ∙ ap (λ t. (not t && (((F c).simple_lower == c) && ((F c).simple_upper == c))) && b) (eq-eqb c c refl)

-- ---- what a code point that is uniform with another breaks

module _ (O N : ℕ → Facts) (c d : ℕ) (p : IsPlain c (O c)) (u : Uniform O c d) (q : IsPlain c (N c)) (v : Uniform N c d) where
  mapping_same : same_mapping (O d) (N d) ≡ same_mapping (O c) (N c)
  mapping_same = rw (u.alike.kind, v.alike.kind, u.plain.mapping, v.plain.mapping, p.mapping, q.mapping) refl

  composite : (e : ℕ) → IsPlain e (O e) → IsPlain e (N e) → breaks P05 O N e ≡ false
  composite e r s = ap (λ b. (b && not (primary N e)) || (primary N e && (not (primary O e) && all_assigned O (N e).mapping))) (primary_plain O e r)
      ∙ ap (λ b. b && (not (primary O e) && all_assigned O (N e).mapping)) (primary_plain N e s)

  folding : (e : ℕ) → IsPlain e (O e) → IsPlain e (N e) → breaks P10 O N e ≡ false
  folding e r s =
      let before : caseless O (e ∷ []) ≡ Ok (e ∷ []) = caseless_plain O e r in
      let after : caseless N (e ∷ []) ≡ Ok (e ∷ []) = caseless_plain N e s in
      let same : same_list (Ok (e ∷ [])) (Ok (e ∷ [])) ≡ true = same_bytes (e ∷ []) in
      rw (before, after) (ap (λ b. (O e).assigned && not b) same ∙ and-false (O e).assigned)

  pub same_breaks : (policy : Policy) → breaks policy O N d ≡ breaks policy O N c
  same_breaks P01 = rw (u.alike.assigned, v.alike.assigned) refl
  same_breaks P02 = refl
  same_breaks P03 = rw (u.alike.assigned, v.alike.assigned, u.alike.class, v.alike.class) refl
  same_breaks P04 = ap (λ b. (O d).assigned && ((N d).assigned && not b)) mapping_same ∙ rw (u.alike.assigned, v.alike.assigned) refl
  same_breaks P05 = composite d u.plain v.plain ∙ sym (composite c p q)
  same_breaks P06 = rw (start_alike (O d) (O c) u.alike, start_alike (N d) (N c) v.alike) refl
  same_breaks P07 = rw (continue_alike (O d) (O c) u.alike, continue_alike (N d) (N c) v.alike) refl
  same_breaks P08 = rw (xid_start_plain O d u.plain, xid_start_plain N d v.plain, xid_start_plain O c p, xid_start_plain N c q, start_alike (O d) (O c) u.alike, start_alike (N d) (N c) v.alike) refl
  same_breaks P09 = rw (xid_continue_plain O d u.plain, xid_continue_plain N d v.plain, xid_continue_plain O c p, xid_continue_plain N c q, continue_alike (O d) (O c) u.alike, continue_alike (N d) (N c) v.alike) refl
  same_breaks P10 = folding d u.plain v.plain ∙ sym (folding c p q)
  same_breaks P11 = no_pair O d (not (is_case_pair N d (O d).simple_lower)) (O d) u.plain.simple_lower ∙ sym (no_pair O c (not (is_case_pair N c (O c).simple_lower)) (O c) p.simple_lower)
  same_breaks P12 =
      no_pair N d ((O d).assigned && ((O (N d).simple_lower).assigned && not (is_case_pair O d (N d).simple_lower))) (N d) v.plain.simple_lower
      ∙ sym (no_pair N c ((O c).assigned && ((O (N c).simple_lower).assigned && not (is_case_pair O c (N c).simple_lower))) (N c) q.simple_lower)
  same_breaks P13 = rw (u.alike.category, v.alike.category) refl
  same_breaks P14 = rw (u.alike.category, v.alike.category) refl
  same_breaks P15 = rw (u.alike.flag, v.alike.flag) refl
  same_breaks P16 = rw (u.alike.flag, v.alike.flag) refl
  same_breaks P17 = refl
  same_breaks P18 = rw (v.alike.kind, v.plain.mapping, q.mapping) refl
  same_breaks P19 = rw (v.alike.kind, v.plain.mapping, q.mapping) refl
  same_breaks P20 = rw (v.alike.class, v.alike.category) refl

  folding_kept : (e : ℕ) → IsPlain e (O e) → IsPlain e (N e) → keeps_folding O N e ≡ true
  folding_kept e r s =
      ap (λ i. not (O e).assigned || bytes_eq (image_points e i) (image_points e (N e).fold)) r.fold ∙ ap (λ i. not (O e).assigned || bytes_eq (e ∷ []) (image_points e i)) s.fold
      ∙ ap (λ b. not (O e).assigned || b) (same_bytes (e ∷ [])) ∙ or-true (not (O e).assigned)

  pub same_forms_kept : keeps_forms O N d ≡ keeps_forms O N c
  same_forms_kept =
      ap (λ b. all_kept b (breaks P03 O N d) (breaks P04 O N d) (breaks P05 O N d) (keeps_folding O N d)) (same_breaks P01)
      ∙ ap (λ b. all_kept (breaks P01 O N c) b (breaks P04 O N d) (breaks P05 O N d) (keeps_folding O N d)) (same_breaks P03)
      ∙ ap (λ b. all_kept (breaks P01 O N c) (breaks P03 O N c) b (breaks P05 O N d) (keeps_folding O N d)) (same_breaks P04)
      ∙ ap (λ b. all_kept (breaks P01 O N c) (breaks P03 O N c) (breaks P04 O N c) b (keeps_folding O N d)) (same_breaks P05)
      ∙ ap (λ b. all_kept (breaks P01 O N c) (breaks P03 O N c) (breaks P04 O N c) (breaks P05 O N c) b) (folding_kept d u.plain v.plain ∙ sym (folding_kept c p q))

-- the code points from c on, as far as both views tell that they are uniform
module _ (O N : ℕ → Facts) (c before after last : ℕ) (old_end : last ≤ before) (new_end : last ≤ after)
    (plain_old : c < before → IsPlain c (O c)) (alike_old : (d : ℕ) → c < d → d ≤ before → Uniform O c d) (plain_new : c < after → IsPlain c (N c)) (alike_new : (d : ℕ) → c < d → d ≤ after → Uniform N c d) where
  alike_breaks : (policy : Policy) (d : ℕ) → c ≤ d → d ≤ last → breaks policy O N d ≡ breaks policy O N c
  alike_breaks policy d from to = elim (cases_lt c d) [
    | inl lt ↦ same_breaks O N c d (plain_old (omega arith)) (alike_old d lt (omega arith)) (plain_new (omega arith)) (alike_new d lt (omega arith)) policy
    | inr le ↦ let here : d ≡ c = omega arith in ap (breaks policy O N) here
  ]

  alike_forms : (d : ℕ) → c ≤ d → d ≤ last → keeps_forms O N d ≡ keeps_forms O N c
  alike_forms d from to = elim (cases_lt c d) [
    | inl lt ↦ same_forms_kept O N c d (plain_old (omega arith)) (alike_old d lt (omega arith)) (plain_new (omega arith)) (alike_new d lt (omega arith))
    | inr le ↦ let here : d ≡ c = omega arith in ap (keeps_forms O N) here
  ]

  pub uniform_alike : IsAlikeTo O N c last
  uniform_alike = record { broken = alike_breaks; kept = alike_forms }

pub alone_alike : (O N : ℕ → Facts) (c : ℕ) → IsAlikeTo O N c c
alone_alike O N c = record {
  broken = λ policy d from to. (let here : d ≡ c = omega arith in ap (breaks policy O N) here);
  kept = λ d from to. (let here : d ≡ c = omega arith in ap (keeps_forms O N) here);
}
