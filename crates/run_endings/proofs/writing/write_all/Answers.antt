use Rattle.std.proofs.Common.{◌≡◌, ◌∷◌, ℕ, IsTrue, List, length, ap, subst, ◌∙◌, arith}
use Rattle.run_endings.specs.Endings.{after}
use Rattle.run_endings.proofs.WritingLemmas.{IsLeft, done_of, left_next, contents_next, stops_here}
use Rattle.run_endings.specs.declared.output.Output.{Output}
use Rattle.run_endings.proofs.writing.write_all.Goals as goal

pub outputs-preserved : goal.outputs-preserved
outputs-preserved g c =
    let shelf = g.S.Shelf in
    let outputs = c.args.outputs.items in
    let output = c.take_first-path.result in
    let rest = c.take_first-path.new.outputs.items in
    let old = shelf.holds c.args.shelf.now in
    let now = shelf.holds c.outputs.shelf in
    let taken : c.outputs.rest.items ≡ output ∷ rest = c.take_first-path.ensures in
    let left : IsLeft outputs (output ∷ rest) = subst (λ (r : List Output). IsLeft outputs r) taken c.outputs.invariant.left in
    record {
      left = left_next outputs rest output left;
      contents = λ tells. contents_next outputs rest output old now (shelf.holds c.write.new.self) left
          (subst (λ (r : List Output). (path : List ℕ) → now path ≡ after (done_of outputs r) old path) taken (c.outputs.invariant.contents tells))
          (c.in-Ok.ensures.ok tells) (c.in-Ok.ensures.others tells);
      room = omega (arith, c.outputs.invariant.room, ap length taken, c.in-Ok.ensures.spare_for_one);
      reads = c.in-Ok.ensures.read_faults_stay ∙ c.outputs.invariant.reads;
      failed = λ tells. c.in-Ok.ensures.last_failed_stays tells ∙ c.outputs.invariant.failed tells;
      writes = omega (arith, c.outputs.invariant.writes, c.in-Ok.ensures.write_faults_never_fall);
    }

pub returns-in_default-clause-stopped : goal.returns-in_default-clause-stopped
returns-in_default-clause-stopped g c =
    let shelf = g.S.Shelf in
    let outputs = c.args.outputs.items in
    let output = c.take_first-path.result in
    let rest = c.take_first-path.new.outputs.items in
    let old = shelf.holds c.args.shelf.now in
    let now = shelf.holds c.outputs.shelf in
    let taken : c.outputs.rest.items ≡ output ∷ rest = c.take_first-path.ensures in
    let left : IsLeft outputs (output ∷ rest) = subst (λ (r : List Output). IsLeft outputs r) taken c.outputs.invariant.left in
    stops_here outputs rest output shelf.tells old now (shelf.holds c.write.new.self) left
    (subst (λ (r : List Output). IsTrue shelf.tells → (path : List ℕ) → now path ≡ after (done_of outputs r) old path) taken c.outputs.invariant.contents)
    c.write.ensures.others

pub returns-in_default-clause-last_failed_stays : goal.returns-in_default-clause-last_failed_stays
returns-in_default-clause-last_failed_stays g c = λ tells. c.write.ensures.last_failed_stays tells ∙ c.outputs.invariant.failed tells
