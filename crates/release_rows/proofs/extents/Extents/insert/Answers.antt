use Rattle.std.proofs.Common.{◌++◌, map, refl}
use Rattle.release_rows.specs.Places.{extent_at}
use Rattle.release_rows.specs.NamelessSpans.{nameless_extent}
use Rattle.release_rows.specs.declared.nameless_span.NamelessSpan.{NamelessSpan}
use Rattle.release_rows.proofs.NamelessConflicts.{all_before, any_pushed, any_behind}
use Rattle.release_rows.proofs.extents.Extents.insert.Goals as goal

pub invariant_of-self-then-is_empty : goal.invariant_of-self-then-is_empty
invariant_of-self-then-is_empty c =
    let s = c.self.inside in
    let run : NamelessSpan = record { first = c.args.place.code; last = c.args.last } in
    rw (c.max-end.ensures, c.from.ensures, c.in_ok-push.ensures.items) (all_before s.end c.args.last (nameless_extent run) (map nameless_extent s.runs.items ++ s.ends) _ (any_pushed _ s.runs.items run s.ends) c.self.invariant c.requires.ordered refl)

pub invariant_of-self-2 : goal.invariant_of-self-2
invariant_of-self-2 c =
    let s = c.self.inside in
    let x = extent_at c.args.place c.args.last in
    rw (c.max-end.ensures, c.from.ensures) (all_before s.end c.args.last x (map nameless_extent s.runs.items ++ s.ends) _ (any_behind _ x (map nameless_extent s.runs.items) s.ends c.insert.new.self (c.in_ok-insert.ensures.ok _)) c.self.invariant c.requires.ordered refl)
