use Rattle.std.proofs.Common.{refl}
use Rattle.source_rows.proofs.FieldCuts.{first_is, others_are, one_is, more_is, fewer_are}
use Rattle.source_rows.proofs.fields.first_short_field.Goals as goal

pub returns-clause-first : goal.returns-clause-first
returns-clause-first c = let e = first_is c.args.text.now in rw (e, ← c.cut_at_near_semicolon.ensures.before) c.trim_short.ensures

pub returns-clause-others : goal.returns-clause-others
returns-clause-others c = λ n. rw (others_are c.args.text.now n, c.cut_at_near_semicolon.ensures.after) refl

pub returns-clause-one : goal.returns-clause-one
returns-clause-one c = λ one. rw (c.trim_short.ensures, c.cut_at_near_semicolon.ensures.before) (one_is c.args.text.now one)

pub returns-clause-more : goal.returns-clause-more
returns-clause-more c = λ more. rw (c.trim_short.ensures, c.cut_at_near_semicolon.ensures.before, c.cut_at_near_semicolon.ensures.after) (more_is c.args.text.now more)

pub returns-clause-fewer : goal.returns-clause-fewer
returns-clause-fewer c = rw c.cut_at_near_semicolon.ensures.after (fewer_are c.args.text.now)
