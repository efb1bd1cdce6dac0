use Rattle.std.proofs.Common.{◌≡◌, ℕ, suc, ◌+◌, Bool, true, false, not, cond, ltb, ◌||◌, List, [], ◌∷◌, length, refl, ap, ◌∙◌, arith}
use Rattle.std.specs.List.{list_any, position_or_len}
use Rattle.std.proofs.lemmas.Bool.Decides.{nat_tests}
use Rattle.ucd_points.specs.Lines.{is_lf}
use Rattle.source_rows.proofs.lines.holds_line_feed.Goals as goal

found_step : (b : Bool) (n m : ℕ) (rest : Bool) → ltb n m ≡ rest → ltb (cond (not b) (1 + n) 0) (suc m) ≡ (b || rest)
found_step true n m rest e = grind (arith, nat_tests)
found_step false n m rest e = grind (arith, nat_tests)

-- a byte that passes stands before the end
found_within : (p : ℕ → Bool) (bs : List ℕ) → ltb (position_or_len p bs) (length bs) ≡ list_any p bs
found_within p [] = refl
found_within p (b ∷ bs) = found_step (p b) (position_or_len p bs) (length bs) (list_any p bs) (found_within p bs)

pub returns : goal.returns
returns c = ap (λ (n : ℕ). ltb n (length c.args.bytes.now)) c.first_at.ensures.place ∙ found_within is_lf c.args.bytes.now
