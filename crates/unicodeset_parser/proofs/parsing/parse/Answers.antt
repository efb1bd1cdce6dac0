use Rattle.std.proofs.Common.{◌∙◌, ap, sym, Err}
use Rattle.std.proofs.lemmas.Str.{is_utf8-from_IsUtf8}
use Rattle.unicodeset_parser.specs.Machine.{fault}
use Rattle.unicodeset_parser.specs.Parsed.{parsed}
use Rattle.unicodeset_parser.specs.declared.stop.SetRule.TheVariants.{S1}
use Rattle.unicodeset_parser.proofs.Encoding.{not_text}
use Rattle.unicodeset_parser.proofs.parsing.parse.Goals as goal

pub returns-in-Err : goal.returns-in-Err
unfolding parsed
returns-in-Err c = rw (c.fault.ensures, not_text c.args.text.now c.in-Err.ensures.cases.0) (ap (λ n. Err (fault S1 n)) (sym (c.valid_up_to.ensures ∙ c.in-Err.ensures.valid_len)))

pub returns : goal.returns
unfolding parsed
returns c = rw (is_utf8-from_IsUtf8 c.args.text.now c.in_default.ensures.cases.1) c.tree_of.ensures
