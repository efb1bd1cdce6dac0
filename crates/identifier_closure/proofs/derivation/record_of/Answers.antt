use Rattle.std.proofs.Common.{◌≡◌, ℕ, refl, sym, ap, ◌∙◌}
use Rattle.ucd_facts.specs.Facts.{Facts}
use Rattle.ucd_model.specs.declared.records.Record.{Record as KeptRecord}
use Rattle.identifier_closure.specs.declared.predicates.ToldByForms.{ToldByForms}
use Rattle.identifier_closure.proofs.RecordLemmas.{is_other, IsTold, record_is}
use Rattle.identifier_closure.proofs.derivation.record_of.Goals.{in-Same, in-To}
use Rattle.identifier_closure.proofs.derivation.record_of.Goals as goal

pub returns : goal.returns
returns g c =
    let F : ℕ → Facts = g.W.FactView.facts_of c.args.view.now in
    let told : ToldByForms = record { changes = c.args.forms.changes; xid_start = c.closure_of-closed.result.start; xid_continue = c.closure_of-closed.result.continues } in
    let kept : KeptRecord = record {
      category = c.args.facts.now.category;
      class = c.args.facts.now.class;
      kind = c.args.facts.now.kind;
      core = c.core_set.result;
      exclusion = c.is_fully_excluded.result;
      nfd = c.quick_decomposed.result;
      nfc = c.composed_checks-checks.result.nfc;
      nfkd = c.quick_decomposed-2.result;
      nfkc = c.composed_checks-checks.result.nfkc;
      casefold = c.args.found.full;
      simple_casefold = c.args.found.simple;
      changes_casefold = c.match-found.changes_casefold;
    } in
    let changes : c.match-found.changes_casefold ≡ is_other c.args.found.full = elim c.match-found.branch [
      | in-Same w ↦ w.changes_casefold-is ∙ sym (ap is_other w.in-Same.is)
      | in-To w ↦ w.changes_casefold-is ∙ sym (ap is_other w.in-To.is)
    ] in
    let found : IsTold F c.args.c c.args.forms.nfc.now c.args.forms.nfkc.now kept told = record {
      xid_start = c.closure_of-closed.ensures.start;
      xid_continue = c.closure_of-closed.ensures.continues;
      exclusion = c.is_fully_excluded.ensures;
      nfd = c.quick_decomposed.ensures;
      nfc = c.composed_checks-checks.ensures.nfc;
      nfkd = c.quick_decomposed-2.ensures;
      nfkc = c.composed_checks-checks.ensures.nfkc;
      changes = changes;
    } in
    record_is F c.args.c c.args.facts.now c.args.forms.nfc.now c.args.forms.nfkc.now kept told c.requires.facts c.requires.forms c.requires.full c.requires.simple refl refl refl c.core_set.ensures found
