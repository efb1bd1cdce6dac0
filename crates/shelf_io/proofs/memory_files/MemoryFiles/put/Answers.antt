use Rattle.std.proofs.Common.{◌∙◌, sym}
use Rattle.shelf_io.proofs.HeldLemmas.{set-ReplacedAt, append-ReplacedAt}
use Rattle.shelf_io.proofs.memory_files.MemoryFiles.put.Goals as goal

pub returns-in-Some-clause-replaced : goal.returns-in-Some-clause-replaced
returns-in-Some-clause-replaced c =
    rw (← c.self.view_is) (set-ReplacedAt c.self.inside.files.items c.in-Some.place (record { path = c.args.path; bytes = c.args.bytes }) (rw (← c.as_slice-2.ensures, ← c.as_slice.ensures.value) (sym c.place_of-place.ensures ∙ c.in-Some.is)))

pub returns-in-None-clause-replaced : goal.returns-in-None-clause-replaced
returns-in-None-clause-replaced c =
    rw (c.push_reserved.ensures.items, ← c.self.view_is) (append-ReplacedAt c.self.inside.files.items (record { path = c.args.path; bytes = c.args.bytes }) (rw (← c.as_slice-2.ensures, ← c.as_slice.ensures.value) (sym c.place_of-place.ensures ∙ c.in-None.is)))
