use Rattle.ucd_lines.proofs.Places.{found_place, no_place}
use Rattle.ucd_lines.proofs.search.first_at.Goals as goal

pub returns-in-Some-clause-place : goal.returns-in-Some-clause-place
returns-in-Some-clause-place c = found_place c.args.text.now c.args.byte c.in-Some.place c.in-Some.ensures

pub returns-in-None-clause-place : goal.returns-in-None-clause-place
returns-in-None-clause-place c = no_place c.args.text.now c.args.byte c.in-None.ensures
