use Rattle.std.proofs.Common.{rules, ◌≡◌, ◌<◌, ◌-◌, length, sym, ap, ◌∙◌, arith, length-drop}
use Rattle.unicodeset_parser.specs.Lexing.{tokens}
use Rattle.unicodeset_parser.specs.Machine.{run}
use Rattle.unicodeset_parser.specs.StateViews.{state_view}
use Rattle.unicodeset_parser.specs.TokenViews.{lexeme_view}
use Rattle.unicodeset_parser.proofs.Cutting.{tokens_blank, taken}
use Rattle.unicodeset_parser.proofs.parsing.tree_of.Goals as goal

pub tokens-preserved-then-blanks-gt0 : goal.tokens-preserved-then-blanks-gt0
tokens-preserved-then-blanks-gt0 c =
    let l = length c.args.text.now in
    let n = c.first_blank_size-blanks.result in
    let rest = c.tokens.rest.now in
    record {
      shorter = rw c.bytes_behind-rest.ensures (omega (arith, length-drop n rest, c.tokens.invariant.shorter));
      same = ap (λ r. run l (state_view c.tokens.state) (tokens 0 (l - length r) r)) c.bytes_behind-rest.ensures
          ∙ ap (λ ts. run l (state_view c.tokens.state) ts) (sym (tokens_blank l n rest (sym c.first_blank_size-blanks.ensures.size) c.if-blanks-gt0.true c.tokens.invariant.shorter))
          ∙ c.tokens.invariant.same;
    }

pub tokens-preserved : goal.tokens-preserved
tokens-preserved c =
    let l = length c.args.text.now in
    let rest = c.tokens.rest.now in
    let m = c.max.result in
    let some : 0 < length rest = search (rules, arith) in
    let blank : c.first_blank_size-blanks.result ≡ 0 = omega arith in
    record {
      shorter = rw c.bytes_behind-rest-else-blanks-gt0.ensures (omega (arith, length-drop m rest, c.tokens.invariant.shorter));
      same = ap (λ r. run l (state_view c.in-Ok.next) (tokens 0 (l - length r) r)) c.bytes_behind-rest-else-blanks-gt0.ensures
          ∙ taken l m (state_view c.tokens.state) (state_view c.in-Ok.next) rest (lexeme_view c.in_ok-lexeme.lexeme) c.in_ok-lexeme.ensures c.in-Ok.ensures (sym c.first_blank_size-blanks.ensures.size ∙ blank) some c.tokens.invariant.shorter c.max.ensures
          ∙ c.tokens.invariant.same;
    }
