use Rattle.std.proofs.Common.{◌≡◌, ◌&&◌, ◌∙◌}
use Rattle.std.proofs.Math.Bool.{and-true}
use Rattle.ucd_points.specs.Lines.{is_comment}
use Rattle.ucd_points.specs.MissingLines.{missing_rest}
use Rattle.norm_conformance.proofs.line.is_blank_or_comment.Goals as goal

-- PropList.txt has no row that looks like a comment
pub returns : goal.returns
unfolding missing_rest
returns c = c.is_trivia.ensures ∙ and-true (is_comment c.args.content.now)
