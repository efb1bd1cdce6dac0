use Rattle.std.proofs.Common.{◌≡◌, [], false, List, refl, sym, subst, ◌∙◌, arith}
use mathlib.Core.Path.{fun_ext}
use Rattle.std.proofs.lemmas.Bool.Decides.{nat_tests}
use Rattle.std.proofs.lemmas.List.{nil_from_length}
use Rattle.std.specs.List.{list_any}
use Rattle.ucd_points.specs.Bounds.{Bounds}
use Rattle.ucd_facts.specs.Facts.{within}
use Rattle.fact_tables.proofs.fact_tables.FactTables.has_nothing_prepared.Goals as goal

pub returns : goal.returns
returns g c none =
    let t = c.args.self.now in
    let seen : c.as_slice.result.now ≡ [] = nil_from_length c.as_slice.result.now (grind (arith, nat_tests, c.is_empty.ensures, none)) in
    let untouched : t.touched ≡ [] = sym c.as_slice.ensures ∙ seen in
    fun_ext (λ k. sym (t.stays k (subst (λ (spans : List Bounds). list_any (within k) spans ≡ false) (sym untouched) refl)))
