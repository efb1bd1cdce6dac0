use Rattle.std.proofs.Common.{◌≡◌, take, flat_map}
use Rattle.ucdshop_more_core.specs.MissTexts.{miss_line}
use Rattle.ucdshop_more_core.proofs.miss_text.misses_text.Given as goal

-- the lines of the misses so far
abbrev pub invariant-misses : goal.invariant-misses
invariant-misses l = l.text ≡ flat_map miss_line (take l.miss-index l.misses)
