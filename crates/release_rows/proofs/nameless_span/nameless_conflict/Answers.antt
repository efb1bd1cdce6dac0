use Rattle.std.proofs.Common.{◌≡◌, true, false, length, refl, sym, arith, ◌==◌}
use Rattle.std.proofs.lemmas.Bool.Decides.{nat_tests}
use Rattle.release_rows.proofs.NamelessConflicts.{named, unnamed}
use Rattle.release_rows.proofs.nameless_span.nameless_conflict.Goals as goal

pub returns-then-not-is_empty : goal.returns-then-not-is_empty
returns-then-not-is_empty c =
    let some : (length c.args.place.now.names.items == 0) ≡ false = grind (arith, nat_tests, c.args.place.now.names.ok.0, c.is_empty.ensures, c.if-not-is_empty.true) in
    sym (named c.args.place.now c.args.last c.args.runs.now some)

pub returns-then-begins_at : goal.returns-then-begins_at
returns-then-begins_at c =
    let none : (length c.args.place.now.names.items == 0) ≡ true = grind (arith, nat_tests, c.args.place.now.names.ok.0, c.is_empty.ensures, c.if-not-is_empty.false) in
    rw (unnamed c.args.place.now c.args.last c.args.runs.now none, ← c.begins_at.ensures, c.if-begins_at.true) refl

pub returns-then-some_run_meets : goal.returns-then-some_run_meets
returns-then-some_run_meets c =
    let none : (length c.args.place.now.names.items == 0) ≡ true = grind (arith, nat_tests, c.args.place.now.names.ok.0, c.is_empty.ensures, c.if-not-is_empty.false) in
    rw (unnamed c.args.place.now c.args.last c.args.runs.now none, ← c.begins_at.ensures, c.if-begins_at.false, ← c.some_run_meets.ensures, c.if-some_run_meets.true) refl

pub returns : goal.returns
returns c =
    let none : (length c.args.place.now.names.items == 0) ≡ true = grind (arith, nat_tests, c.args.place.now.names.ok.0, c.is_empty.ensures, c.if-not-is_empty.false) in
    rw (unnamed c.args.place.now c.args.last c.args.runs.now none, ← c.begins_at.ensures, c.if-begins_at.false, ← c.some_run_meets.ensures, c.if-some_run_meets.false) refl
