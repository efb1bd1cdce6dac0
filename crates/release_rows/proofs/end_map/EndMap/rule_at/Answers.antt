use Rattle.std.proofs.Common.{sym, ◌∙◌}
use Rattle.release_rows.proofs.Apart.{key_there, overlap_alone}
use Rattle.release_rows.proofs.end_map.EndMap.rule_at.Goals as goal

pub returns-then-contains_key : goal.returns-then-contains_key
returns-then-contains_key c = λ last overlap. rw (← c.self.view_is) (key_there c.self.inside.ends.entries c.args.place.now last (sym c.contains_key.ensures ∙ c.if-contains_key.true))

pub returns-else-contains_key : goal.returns-else-contains_key
returns-else-contains_key c = λ last overlap. rw (← c.self.view_is) (overlap_alone c.self.inside.ends.entries c.args.place.now last (sym c.contains_key.ensures ∙ c.if-contains_key.false) (rw c.self.view_is overlap))
