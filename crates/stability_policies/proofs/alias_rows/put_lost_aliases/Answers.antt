use Rattle.std.proofs.Common.{◌≡◌, ◌++◌, List, ℕ, subst, ◌∙◌}
use Rattle.ucd_facts.specs.declared.row.Row.{Row}
use Rattle.release_rows.specs.Releases.{items_now, rows_at}
use Rattle.stability_policies.specs.Reports.{lost_in, lost_rows}
use Rattle.stability_policies.proofs.ReportLemmas.{lost_step}
use Rattle.stability_policies.proofs.alias_rows.put_lost_aliases.Goals as goal

pub rows-preserved : goal.rows-preserved
rows-preserved c = record {
  lost = lost_step c.args.file (rows_at (items_now c.args.new.now c.args.file)) (c.in-Some.line, c.in-Some.row) c.next.new.self c.rows.kept c.rows.into c.put_if_lost.new.into
      (c.args.into.now ++ lost_in c.args.file c.args.old.now c.args.new.now)
      c.rows.invariant.kept
      (subst (λ (rest : List (ℕ × Row)). c.rows.into ++ lost_rows c.args.file rest (rows_at (items_now c.args.new.now c.args.file)) ≡ c.args.into.now ++ lost_in c.args.file c.args.old.now c.args.new.now) c.in-Some.ensures.steps c.rows.invariant.lost)
      c.in_ok-put_if_lost.ensures.lost;
  kept = c.put_if_lost.ensures.same ∙ c.rows.invariant.kept;
}
