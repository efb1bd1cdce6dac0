-- The trees that the code holds, as the definitions name them.
-- united b        the step that puts the characters of a span in union with what stands before it
-- Seen            what an expression stands for
--   one t           one tree
--   several bs      the characters of spans, which are a step each where they are a step in union, and elsewhere a bracket set of such steps
-- seen_tree s     the tree of it
-- signed n s      its complement if it is negated
-- seen_steps j s  its steps in a bracket set where j joins it to what stands before
-- expr_step x, part_step p, parts_step ps   one level of each, with what is below it already seen
-- seen_view x     what an expression stands for
-- tree_view x     the tree of an expression
-- part_view p     the steps of a part
-- parts_view ps   the steps of parts, in order
use Rattle.std.specs.Prelude.{Bool, true, false, List, [], ◌∷◌, map, flat_map}
use Rattle.ucd_points.specs.Bounds.{Bounds}
use Rattle.unicodeset_parser.specs.Trees.{Tree, chars, named, valued, complement, bracket, Step, steps_of}
use Rattle.unicodeset_parser.specs.declared.expr.Expr.{Expr}
use Rattle.unicodeset_parser.specs.declared.expr.Expr.TheOpen.{Expr-F, Part-F, Parts-F}
use Rattle.unicodeset_parser.specs.declared.expr.Expr.TheFolds.{fold-Expr, fold-Part, fold-Parts}
use Rattle.unicodeset_parser.specs.declared.expr.Join.{Join}
use Rattle.unicodeset_parser.specs.declared.expr.Join.TheVariants.{Union, Meet, Minus}
use Rattle.unicodeset_parser.specs.declared.expr.Part.{Part}
use Rattle.unicodeset_parser.specs.declared.expr.Parts.{Parts}

abbrev pub united : Bounds → Step
united b = record { join = Union; tree = chars b }

pub data Seen : Type 0 where
  one : Tree → Seen
  several : List Bounds → Seen

abbrev pub seen_tree : Seen → Tree
seen_tree (one t) = t
seen_tree (several bs) = bracket (steps_of (map united bs))

abbrev pub signed : Bool → Seen → Seen
signed true seen = one (complement (seen_tree seen))
signed false seen = seen

abbrev pub alone : Join → Seen → List Step
alone join seen = (record { join = join; tree = seen_tree seen }) ∷ []

abbrev pub seen_steps : Join → Seen → List Step
seen_steps Union (several bs) = map united bs
seen_steps Union (one t) = alone Union (one t)
seen_steps Meet seen = alone Meet seen
seen_steps Minus seen = alone Minus seen

abbrev pub expr_step : Expr-F Seen (List Step) (List Step) → Seen
expr_step (Expr-F.Chars s) = one (chars s)
expr_step (Expr-F.Several spans) = several spans
expr_step (Expr-F.Listed spans) = one (bracket (steps_of (map united spans)))
expr_step (Expr-F.Named b) = one (named b.value.name b.value.at)
expr_step (Expr-F.Valued b) = one (valued b.value.property b.value.value b.value.at)
expr_step (Expr-F.Not b) = one (complement (seen_tree b.value))
expr_step (Expr-F.Bracket ps) = one (bracket (steps_of ps))

abbrev pub part_step : Part-F Seen (List Step) (List Step) → List Step
part_step p = seen_steps p.join (signed p.negated p.part)

abbrev pub parts_step : Parts-F Seen (List Step) (List Step) → List Step
parts_step ps = flat_map (λ (steps : List Step). steps) ps.items.items

abbrev pub seen_view : Expr → Seen
seen_view = fold-Expr Seen (List Step) (List Step) expr_step part_step parts_step

abbrev pub tree_view : Expr → Tree
tree_view x = seen_tree (seen_view x)

abbrev pub part_view : Part → List Step
part_view = fold-Part Seen (List Step) (List Step) expr_step part_step parts_step

abbrev pub parts_view : Parts → List Step
parts_view = fold-Parts Seen (List Step) (List Step) expr_step part_step parts_step
