use Rattle.std.proofs.Common.{◌≡◌, ℕ, ◌<◌, ◌≤◌, Bool, true, false, arith}
use Rattle.number_sets.specs.Keys.{has}
use Rattle.dependency_map.specs.Askers.{asks}
use Rattle.dependency_map.specs.Index.{kept_at, may_ask, NoneFrom}
use Rattle.dependency_map.specs.Maps.{asked_at}
use Rattle.dependency_map.proofs.AskerLemmas.{unasked, none_more, none_between}
use Rattle.dependency_map.proofs.PointLemmas.{points_none, points_next}
use Rattle.dependency_map.proofs.dependencies.DependencyMap.next_asker.Goals as goal

pub returns-then-asks_now : goal.returns-then-asks_now
returns-then-asks_now g c =
    let map = c.args.self.now in
    let q = c.args.query.now in
    let p : ℕ → Bool = asks (asked_at g.S.Store.now map) q in
    let x : ℕ = c.in-Some.c in
    let inside : x < 1114112 = rw c.number-start.ensures.value at c.number-start.ensures.bound in
    let low : c.args.from ≤ x = omega (arith, c.askers.invariant.low, c.in-Some.ensures.0) in
    let before : NoneFrom p c.args.from x = none_between p (may_ask (has map.askers) q) c.args.from c.askers.start x (unasked (has map.askers) (kept_at g.S.Store.now map.lists) map.now_listed q) (omega (arith, inside)) c.askers.invariant.none c.in-Some.ensures.1 in
    let here : p x ≡ true = rw c.asks_now.ensures at c.if-asks_now.true in
    record { next = (low, here, before); left = points_next p c.args.from x inside low here before }

pub askers-preserved : goal.askers-preserved
askers-preserved g c =
    let map = c.args.self.now in
    let q = c.args.query.now in
    let p : ℕ → Bool = asks (asked_at g.S.Store.now map) q in
    let x : ℕ = c.in-Some.c in
    let inside : x < 1114112 = rw c.number-start.ensures.value at c.number-start.ensures.bound in
    let low : c.args.from ≤ x = omega (arith, c.askers.invariant.low, c.in-Some.ensures.0) in
    let before : NoneFrom p c.args.from x = none_between p (may_ask (has map.askers) q) c.args.from c.askers.start x (unasked (has map.askers) (kept_at g.S.Store.now map.lists) map.now_listed q) (omega (arith, inside)) c.askers.invariant.none c.in-Some.ensures.1 in
    let here : p x ≡ false = rw c.asks_now.ensures at c.if-asks_now.false in
    rw c.number-start.ensures.value (record { low = omega (arith, low); none = none_more p c.args.from x before here })

pub returns : goal.returns
returns g c =
    let map = c.args.self.now in
    let q = c.args.query.now in
    let p : ℕ → Bool = asks (asked_at g.S.Store.now map) q in
    let none : NoneFrom p c.args.from 1114112 = none_between p (may_ask (has map.askers) q) c.args.from c.askers.start 1114112 (unasked (has map.askers) (kept_at g.S.Store.now map.lists) map.now_listed q) (omega arith) c.askers.invariant.none c.in_default.ensures in
    record { next = none; left = points_none p c.args.from none }
