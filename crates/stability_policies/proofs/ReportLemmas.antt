-- A report, policy after policy and row after row.
use Rattle.std.proofs.Common.{◌≡◌, ◌≢◌, ℕ, ◌≤◌, Bool, true, false, cond, not, List, [], ◌∷◌, ◌++◌, length, take, map, filter, refl, sym, ap, subst, ◌∙◌, append_assoc, take_all}
use Rattle.std.specs.List.{flat_map, list_any}
use Rattle.ucd_points.specs.PlainProofs.{any_map}
use Rattle.release_rows.specs.Releases.{ReleaseItems, rows_now}
use Rattle.ucd_facts.specs.Facts.{Facts, facts}
use Rattle.ucd_points.specs.Limits.{point_count}
use Rattle.ucd_points.specs.declared.files.SourceFile.{SourceFile}
use Rattle.ucd_facts.specs.declared.row.Row.{Row}
use Rattle.stability_policies.specs.BrokenStretches.{AreStretches, breaking}
use Rattle.stability_policies.specs.Policies.{policies}
use Rattle.stability_policies.specs.Reports.{breaks_of, is_lost, keeps_names, lost_rows, names_in, report}
use Rattle.stability_policies.specs.declared.breaks.Break.{Break}
use Rattle.stability_policies.specs.declared.breaks.Break.TheVariants.{At, Alias}
use Rattle.stability_policies.specs.declared.policy.Policy.{Policy}
use Rattle.stability_policies.specs.declared.sieving.Stretches.{Stretches}
use Rattle.stability_policies.specs.declared.policy.Policy.TheVariants.{P02, P17}

-- ---- lists that are put one after the other

pub flat_all : {X Y : Type 0} (f : X → List Y) (now : List Y) (xs : List X) (i : ℕ) → length xs ≤ i → now ≡ flat_map f (take i xs) → now ≡ flat_map f xs
flat_all f now xs i le so_far = so_far ∙ ap (flat_map f) (take_all i xs le)

-- ---- rows of alias files

module _ (file : SourceFile) (new : List (ℕ × Row)) where
  lost_by : (r : ℕ × Row) (rest : List (ℕ × Row)) (b : Bool) → map (λ (s : ℕ × Row). Alias file s.0) (cond b (r ∷ filter (λ s. is_lost file new s.1) rest) (filter (λ s. is_lost file new s.1) rest))
      ≡ cond b (Alias file r.0 ∷ []) [] ++ lost_rows file rest new
  lost_by r rest true = refl
  lost_by r rest false = refl

  pub lost_step : (r : ℕ × Row) (rest : List (ℕ × Row)) (kept : List (List (List ℕ))) (xs ys zs : List Break) → kept ≡ map (λ (s : ℕ × Row). names_in s.1) new
      → xs ++ lost_rows file (r ∷ rest) new ≡ zs → ys ≡ xs ++ cond (not (list_any (keeps_names file (names_in r.1)) kept)) (Alias file r.0 ∷ []) [] → ys ++ lost_rows file rest new ≡ zs
  lost_step r rest kept xs ys zs names so_far more =
      let told : not (list_any (keeps_names file (names_in r.1)) kept) ≡ is_lost file new r.1 =
      ap (λ k. not (list_any (keeps_names file (names_in r.1)) k)) names ∙ ap not (any_map (keeps_names file (names_in r.1)) (λ (s : ℕ × Row). names_in s.1) new) in
      ap (λ k. k ++ lost_rows file rest new) (more ∙ ap (λ b. xs ++ cond b (Alias file r.0 ∷ []) []) told)
      ∙ append_assoc xs (cond (is_lost file new r.1) (Alias file r.0 ∷ []) []) (lost_rows file rest new)
      ∙ ap (λ k. xs ++ k) (sym (lost_by r rest (is_lost file new r.1))) ∙ so_far

-- ---- policies

of_points : (policy : Policy) (old new : ReleaseItems) → policy ≢ P02 → policy ≢ P17 → map (At policy) (breaking policy (facts (rows_now old)) (facts (rows_now new)) point_count) ≡ breaks_of policy old new
of_points P02 old new names rows = absurd (names refl)
of_points P17 old new names rows = absurd (rows refl)
of_points _ old new names rows = refl

pub of_broken : (policy : Policy) (old new : ReleaseItems) (points : List ℕ) → policy ≢ P02 → policy ≢ P17 → points ≡ breaking policy (facts (rows_now old)) (facts (rows_now new)) point_count
    → map (At policy) points ≡ breaks_of policy old new
of_broken policy old new points names rows are = ap (map (At policy)) are ∙ of_points policy old new names rows

pub of_rows : (O N : ℕ → Facts) (old new : ReleaseItems) (found : Stretches) → O ≡ facts (rows_now old) → N ≡ facts (rows_now new) → AreStretches O N found → AreStretches (facts (rows_now old)) (facts (rows_now new)) found
of_rows O N old new found before after are =
    subst (λ (F : ℕ → Facts). AreStretches F (facts (rows_now new)) found) before (subst (λ (G : ℕ → Facts). AreStretches O G found) after are)

pub whole_report : (old new : ReleaseItems) (now : List Break) → now ≡ flat_map (λ policy. breaks_of policy old new) policies → now ≡ report old new
unfolding report
whole_report old new now is = is
