use Rattle.std.proofs.Common.{◌≡◌, suc, ◌+◌, ◌∷◌, length, map, sym, ap, ◌∙◌, arith, slice_get}
use Rattle.ucd_points.specs.Lines.{LineItem, contents}
use Rattle.ucd_lines.specs.Items.{item_of}
use Rattle.record_lines.specs.Finding.{Found}
use Rattle.record_lines.proofs.LineLemmas.{next_drop}
use Rattle.record_lines.proofs.line_finder.LineFinder.next_line.Goals as goal

pub invariant_of-self-2 : goal.invariant_of-self-2
invariant_of-self-2 c =
    let behind = c.self.invariant in
    let inside = c.self.inside in
    let count : inside.passed + length inside.left ≡ length (contents inside.bytes.now) = behind.count in
    let left : inside.left ≡ item_of c.in_ok-item.item ∷ c.next.new.self = c.in_ok-item.ensures.steps in
    let shorter : length inside.left ≡ suc (length c.next.new.self) = ap length left in
    let rest = map (λ (item : LineItem). item.content) c.next.new.self in
    let found = next_drop inside.passed (contents inside.bytes.now) rest c.in_ok-item.item.content.now (sym behind.rest ∙ ap (map (λ (item : LineItem). item.content)) left) in
    record { rest = sym found.0; count = omega (arith, count, shorter); few = behind.few }

pub returns-clause-found : goal.returns-clause-found
returns-clause-found c =
    let behind = c.self.invariant in
    let inside = c.self.inside in
    let rest = map (λ (item : LineItem). item.content) c.next.new.self in
    let found = next_drop inside.passed (contents inside.bytes.now) rest c.in_ok-item.item.content.now (sym behind.rest ∙ ap (map (λ (item : LineItem). item.content)) c.in_ok-item.ensures.steps) in
    ap (λ (f : Found). slice_get f.lines f.passed) (sym c.self.view_is) ∙ found.1
