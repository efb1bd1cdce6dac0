use Rattle.std.proofs.Common.{◌≡◌, ◌<◌, ℕ, List, true, length, subst, ◌∙◌, arith}
use Rattle.std.specs.List.{list_any}
use Rattle.std.proofs.lemmas.Bool.Decides.{nat_tests}
use Rattle.std.proofs.lemmas.List.{get_or_default}
use Rattle.stability_policies.specs.Reports.{keeps_names}
use Rattle.stability_policies.proofs.PlaceLemmas.{row_keeps}
use Rattle.stability_policies.proofs.alias_rows.KeptRows.is_at_likely_place.Goals as goal

pub returns-then-self : goal.returns-then-self
returns-then-self c = λ yes file.
    let rows = c.self.inside.rows.now in
    let names = c.args.names.now in
    let k = c.self.inside.likely in
    let lt : k < length rows = grind (arith, nat_tests) in
    subst (λ (rs : List (List (List ℕ))). list_any (keeps_names file names) rs ≡ true) c.self.view_is
    (row_keeps file rows names k lt (c.are_same.ensures yes ∙ c.as_slice.ensures ∙ get_or_default rows k c.index-self-self.result names lt))
