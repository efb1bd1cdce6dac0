use Rattle.std.proofs.Common.{◌≡◌, ℕ, Option, Some, None, get_or, take, arith, refl, sym, ap, ◌∙◌}
use Rattle.std.proofs.lemmas.List.Folds.{fold_stuck}
use Rattle.ucd_points.specs.Fields.{digit_of, with_digit, hex_number}
use Rattle.ucd_lines.proofs.Digits.{seven_digits, no_digit}
use Rattle.ucd_lines.proofs.code_point.hex_number.Goals as goal

pub overflow_mul-number : goal.overflow_mul-number
overflow_mul-number c = omega (arith, seven_digits c.loop-byte.byte-index c.loop-byte.number (omega arith) c.loop-byte.invariant.1)

pub overflow_add-number : goal.overflow_add-number
overflow_add-number c = omega (arith, seven_digits c.loop-byte.byte-index c.loop-byte.number (omega arith) c.loop-byte.invariant.1, c.in_ok-number.ensures.small)

pub returns-in_err-number : goal.returns-in_err-number
returns-in_err-number c =
    let none : digit_of (get_or c.args.digits.now c.loop-byte.byte-index 0) ≡ None = sym c.in_err-number.ensures.worth in
    let so_far = hex_number (take c.loop-byte.byte-index c.args.digits.now) in
    rw c.from_residual.ensures (fold_stuck (λ n b. with_digit n (digit_of b)) None (λ _. refl) (Some 0) c.args.digits.now c.loop-byte.byte-index 0 (omega arith) (ap (λ (d : Option ℕ). with_digit so_far d) none ∙ no_digit so_far))
