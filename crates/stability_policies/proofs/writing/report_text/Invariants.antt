use Rattle.std.proofs.Common.{◌≡◌, take, flat_map}
use Rattle.stability_policies.specs.ReportTexts.{break_line}
use Rattle.stability_policies.proofs.writing.report_text.Given as goal

-- the lines of the breaks so far
abbrev pub invariant-breaks : goal.invariant-breaks
invariant-breaks l = l.text ≡ flat_map break_line (take l.b-index l.breaks)
