use Rattle.std.proofs.Common.{rules, ◌≡◌, List, map, sym, ◌∙◌, flat_map}
use Rattle.std.proofs.lemmas.List.Folds.{flat_map-map}
use Rattle.unicodeset_parser.specs.Trees.{Step}
use Rattle.unicodeset_parser.specs.Views.{part_view, parts_view}
use Rattle.unicodeset_parser.specs.declared.expr.Expr.{the_lemmas}
use Rattle.unicodeset_parser.proofs.expr.Parts.as_slice.Goals as goal

pub returns : goal.returns
returns c =
    let parts = c.as_slice.result.now in
    let view : parts_view c.args.self.now ≡ flat_map (λ (steps : List Step). steps) (map part_view parts) = search (rules, the_lemmas) in
    sym (view ∙ flat_map-map (λ (steps : List Step). steps) part_view parts)
