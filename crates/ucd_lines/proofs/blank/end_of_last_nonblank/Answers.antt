use Rattle.std.proofs.Common.{◌≡◌, ◌-◌, false, get_or, rules, arith}
use Rattle.std.proofs.lemmas.List.Sums.{suffix_len_is}
use Rattle.ucd_points.specs.Lines.{is_blank}
use Rattle.ucd_lines.proofs.blank.end_of_last_nonblank.Goals as goal

pub returns-else-is_blank-clause-place : goal.returns-else-is_blank-clause-place
returns-else-is_blank-clause-place c =
    let other : is_blank (get_or c.args.text.now (c.blanks.end - 1) 0) ≡ false = search rules in
    let found = suffix_len_is is_blank c.args.text.now c.blanks.end 0 c.blanks.invariant.0 c.blanks.invariant.1 (λ _. other) in
    omega (arith, c.blanks.invariant.0)

pub returns-after-blanks-clause-place : goal.returns-after-blanks-clause-place
returns-after-blanks-clause-place c =
    let found = suffix_len_is is_blank c.args.text.now c.blanks.end 0 c.blanks.invariant.0 c.blanks.invariant.1 (λ lt. absurd (omega arith)) in
    omega (arith, c.blanks.invariant.0)
