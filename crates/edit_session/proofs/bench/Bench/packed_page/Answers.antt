use Rattle.std.proofs.Common.{◌≡◌, ℕ, ◌/◌, ◌<◌, None, Some, arith}
use Rattle.paged_table.specs.Paged.{values_now}
use Rattle.edit_session.specs.Benches.{bench_word}
use Rattle.edit_session.proofs.PageLemmas.{shows_as}
use Rattle.edit_session.proofs.bench.Bench.packed_page.Goals as goal

pub returns-in-Some : goal.returns-in-Some
returns-in-Some c =
    let same : (k : ℕ) → k < 1114112 → values_now c.packed-words.result.now k ≡ bench_word c.args.self.now k =
    rw (← c.self.view_is, ← c.self.invariant.now.same, ← c.deref.ensures) c.packed-words.ensures.now in
    let inside : c.args.c / 256 < 4352 = omega (arith, c.number-number.ensures.value, c.number-number.ensures.bound) in
    rw c.pool.ensures.pool (shows_as c.packed-words.result.now.pool (values_now c.packed-words.result.now) (bench_word c.args.self.now) (c.args.c / 256) inside same (Some c.in-Some.page) c.in-Some.ensures)

pub returns-in-None : goal.returns-in-None
returns-in-None c =
    let same : (k : ℕ) → k < 1114112 → values_now c.packed-words.result.now k ≡ bench_word c.args.self.now k =
    rw (← c.self.view_is, ← c.self.invariant.now.same, ← c.deref.ensures) c.packed-words.ensures.now in
    let inside : c.args.c / 256 < 4352 = omega (arith, c.number-number.ensures.value, c.number-number.ensures.bound) in
    shows_as c.packed-words.result.now.pool (values_now c.packed-words.result.now) (bench_word c.args.self.now) (c.args.c / 256) inside same None c.in-None.ensures
