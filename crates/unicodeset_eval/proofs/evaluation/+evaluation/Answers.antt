use Rattle.std.proofs.Common.{rules, ◌≡◌, ◌+◌, List, map, refl, sym, ap, ◌∙◌, flat_map}
use Rattle.std.proofs.lemmas.List.Folds.{flat_map-map}
use Rattle.unicodeset_eval.specs.Answers.{names_in}
use Rattle.unicodeset_eval.specs.Changes.{gathered}
use Rattle.unicodeset_eval.specs.Members.{nothing}
use Rattle.unicodeset_eval.specs.Questions.{members, members_after}
use Rattle.unicodeset_eval.specs.declared.changes.Change.{Change}
use Rattle.unicodeset_parser.specs.Trees.{Step, bracket, steps_of}
use Rattle.unicodeset_parser.specs.Views.{part_view, parts_view, tree_view, united}
use Rattle.unicodeset_parser.specs.declared.expr.Expr.{the_lemmas}
use Rattle.unicodeset_eval.proofs.StepLemmas.{parts_more, parts_stop, several_are}
use Rattle.unicodeset_eval.proofs.evaluation.+evaluation.Goals as goal

pub changes_of-steps-preserved : goal.changes_of-steps-preserved
changes_of-steps-preserved g t c =
    let names = names_in c.args.aliases.now in
    let tests = g.T.TestSets.holds c.args.index.now in
    record {
      number = ap (λ n. n + 1) c.steps.invariant.number;
      kept = parts_more names tests c.steps.changes.items c.push_change.new.changes.items c.of-change.result c.in-Ok.set c.deref-step-items.result.now c.steps.step-index c.step-item.result
          (members_after names tests nothing (steps_of (parts_view c.args.parts.now)))
          c.steps-test.true c.step-item.is c.in-Ok.ensures c.of-change.ensures c.in_ok-push_change.ensures.behind c.steps.invariant.kept;
    }

pub changes_of-steps-init : goal.changes_of-steps-init
changes_of-steps-init g t c =
    let names = names_in c.args.aliases.now in
    let tests = g.T.TestSets.holds c.args.index.now in
    let items = c.deref-step-items.result.now in
    let view : parts_view c.args.parts.now ≡ flat_map (λ (steps : List Step). steps) (map part_view items) = search (rules, the_lemmas, c.deref-step-items.ensures.value) in
    let steps : flat_map part_view items ≡ parts_view c.args.parts.now = sym (view ∙ flat_map-map (λ (steps : List Step). steps) part_view items) in
    record {
      number = refl;
      kept = ap (λ (changes : List Change). members_after names tests (gathered changes) (steps_of (flat_map part_view items))) c.new-changes.ensures.items
          ∙ ap (λ (ps : List Step). members_after names tests nothing (steps_of ps)) steps;
    }

pub changes_of-returns-in-Err : goal.changes_of-returns-in-Err
changes_of-returns-in-Err g t c =
    let names = names_in c.args.aliases.now in
    let tests = g.T.TestSets.holds c.args.index.now in
    parts_stop names tests (gathered c.steps.changes.items) c.deref-step-items.result.now c.steps.step-index c.step-item.result
    (members_after names tests nothing (steps_of (parts_view c.args.parts.now))) c.in-Err.stop c.steps-test.true c.step-item.is c.in-Err.ensures c.steps.invariant.kept

pub members_of-returns-in_ok-union_of-in-Several : goal.members_of-returns-in_ok-union_of-in-Several
members_of-returns-in_ok-union_of-in-Several g t c =
    let names = names_in c.args.aliases.now in
    let tests = g.T.TestSets.holds c.args.index.now in
    let spans = c.as_slice.result.now in
    let tree : tree_view c.args.expr.now ≡ bracket (steps_of (map united spans)) = search (rules, the_lemmas) in
    ap (members names tests) tree ∙ several_are names tests spans c.in_ok-union_of-in-Several.field-0 c.in_ok-union_of-in-Several.ensures

pub members_of-returns-in_ok-union_of-in-Listed : goal.members_of-returns-in_ok-union_of-in-Listed
members_of-returns-in_ok-union_of-in-Listed g t c =
    let names = names_in c.args.aliases.now in
    let tests = g.T.TestSets.holds c.args.index.now in
    let spans = c.as_slice-in-Listed.result.now in
    let tree : tree_view c.args.expr.now ≡ bracket (steps_of (map united spans)) = search (rules, the_lemmas) in
    ap (members names tests) tree ∙ several_are names tests spans c.in_ok-union_of-in-Listed.field-0 c.in_ok-union_of-in-Listed.ensures
