use Rattle.std.proofs.Common.{◌≡◌, true, length, Some, None, refl, sym, ap, ◌∙◌, arith}
use Rattle.ucd_points.specs.Fields.{point_of}
use Rattle.ucd_facts.specs.Mappings.{words, all_points}
use Rattle.source_rows.proofs.Words.{is_spelled, no_word, one_word, at_end, none_first, spelled_first, some_spelled, none_mapping, over_mapping, fits_mapping}
use Rattle.source_rows.proofs.mapping.mapping_of.Goals as goal

pub words-preserved-then-is_empty : goal.words-preserved-then-is_empty
words-preserved-then-is_empty c =
    let e = no_word c.words.rest.now c.cut_at_first_blank.result.0.now c.cut_at_first_blank.result.1.now c.cut_at_first_blank.ensures.before c.cut_at_first_blank.ensures.after (sym c.is_empty-in-words.ensures ∙ c.if-is_empty.true) in
    rw (← e) c.words.invariant

pub words-preserved : goal.words-preserved
words-preserved c =
    let next = words c.cut_at_first_blank.result.1.now in
    let e = one_word c.words.rest.now c.cut_at_first_blank.result.0.now c.cut_at_first_blank.result.1.now c.cut_at_first_blank.ensures.before c.cut_at_first_blank.ensures.after (sym c.is_empty-in-words.ensures ∙ c.if-is_empty.false) in
    let found : point_of c.cut_at_first_blank.result.0.now ≡ Some _ = sym c.hex.ensures ∙ c.in-Some.is in (
      sym (spelled_first c.cut_at_first_blank.result.0.now next _ found) ∙ ap (λ ws. is_spelled (all_points ws)) (sym e) ∙ c.words.invariant.0,
      omega (arith, ap length e, c.words.invariant.1),
      omega (arith, c.words.invariant.2),
    )

pub returns-in_default : goal.returns-in_default
returns-in_default c =
    let next = words c.cut_at_first_blank.result.1.now in
    let e = one_word c.words.rest.now c.cut_at_first_blank.result.0.now c.cut_at_first_blank.result.1.now c.cut_at_first_blank.ensures.before c.cut_at_first_blank.ensures.after (sym c.is_empty-in-words.ensures ∙ c.if-is_empty.false) in
    let none : point_of c.cut_at_first_blank.result.0.now ≡ None = sym c.hex.ensures ∙ c.in_default.is in
    sym (none_mapping c.args.text.now (sym c.words.invariant.0 ∙ ap (λ ws. is_spelled (all_points ws)) e ∙ none_first c.cut_at_first_blank.result.0.now next none))

pub returns-then-count-eq-LIMIT : goal.returns-then-count-eq-LIMIT
returns-then-count-eq-LIMIT c =
    let e = one_word c.words.rest.now c.cut_at_first_blank.result.0.now c.cut_at_first_blank.result.1.now c.cut_at_first_blank.ensures.before c.cut_at_first_blank.ensures.after (sym c.is_empty-in-words.ensures ∙ c.if-is_empty.false) in
    sym (over_mapping c.args.text.now (omega (arith, ap length e, c.words.invariant.1)))

pub invariant_of-result : goal.invariant_of-result
invariant_of-result c =
    let e = at_end c.words.rest.now (sym c.is_empty.ensures ∙ c.words-test.false) in
    let spelled : is_spelled (all_points (words c.args.text.now)) ≡ true = sym c.words.invariant.0 ∙ rw e refl in
    record { points = some_spelled (all_points (words c.args.text.now)) spelled; count = omega (arith, ap length e, c.words.invariant.1) }

pub returns : goal.returns
returns c =
    let e = at_end c.words.rest.now (sym c.is_empty.ensures ∙ c.words-test.false) in
    let spelled : is_spelled (all_points (words c.args.text.now)) ≡ true = sym c.words.invariant.0 ∙ rw e refl in
    sym (fits_mapping c.args.text.now spelled (omega (arith, ap length e, c.words.invariant.1, c.words.invariant.2)))
