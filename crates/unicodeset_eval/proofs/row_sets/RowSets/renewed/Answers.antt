use Rattle.std.proofs.Common.{◌<◌, List, length, ap, subst, sym, ◌∙◌}
use Rattle.property_aliases.specs.Numbers.{AreValues}
use Rattle.property_aliases.specs.Sources.{break_names, listed_names, script_names}
use Rattle.property_aliases.specs.declared.file_values.FileValues.{FileValues}
use Rattle.release_rows.specs.Releases.{rows_now}
use Rattle.ucd_facts.specs.Values.{default_script, default_word_break, script_at, word_break_at}
use Rattle.ucd_facts.specs.declared.row.Row.{Row}
use Rattle.ucd_points.specs.declared.files.SourceFile.TheVariants.{PropList, Scripts, WordBreakProperty}
use Rattle.unicodeset_eval.specs.RowSetLaws.{some_names}
use Rattle.unicodeset_eval.specs.Tests.{is_listed, is_numbered}
use Rattle.unicodeset_eval.proofs.row_sets.RowSets.renewed.Goals as goal

pub renewed_sets_behind_default-requires : goal.renewed_sets_behind_default-requires
renewed_sets_behind_default-requires c = record {
  some = subst (λ (v : FileValues). 0 < length v.names.keys) (sym c.scripts.ensures) (some_names c.args.numbers.now.scripts default_script (rows_now c.args.release.now Scripts) c.requires.numbers.scripts);
}

pub renewed_sets_behind_default-requires-2 : goal.renewed_sets_behind_default-requires-2
renewed_sets_behind_default-requires-2 c = record {
  some = subst (λ (v : FileValues). 0 < length v.names.keys) (sym c.word_breaks.ensures) (some_names c.args.numbers.now.breaks default_word_break (rows_now c.args.release.now WordBreakProperty) c.requires.numbers.breaks);
}

-- the sets that stay are of the same rows
pub returns : goal.returns
returns c =
    let rows = rows_now c.args.release.now in
    let kept = c.requires.sets in
    record {
      scripts = c.in_ok-scripts.ensures default_script (rows Scripts) (subst (λ (v : FileValues). AreValues v (script_names (rows Scripts)) (rows Scripts)) (sym c.scripts.ensures) c.requires.numbers.scripts) c.rows_are_apart.ensures
          (λ off k x lt. kept.are.scripts k x lt ∙ ap (λ (xs : List Row). is_numbered (script_names xs) k (script_at xs x)) (kept.same.scripts off));
      breaks = c.in_ok-breaks.ensures default_word_break (rows WordBreakProperty) (subst (λ (v : FileValues). AreValues v (break_names (rows WordBreakProperty)) (rows WordBreakProperty)) (sym c.word_breaks.ensures) c.requires.numbers.breaks) c.rows_are_apart-2.ensures
          (λ off k x lt. kept.are.breaks k x lt ∙ ap (λ (xs : List Row). is_numbered (break_names xs) k (word_break_at xs x)) (kept.same.breaks off));
      listed = c.in_ok-listed.ensures (rows PropList) (subst (λ (v : FileValues). AreValues v (listed_names (rows PropList)) (rows PropList)) (sym c.listed.ensures) c.requires.numbers.listed)
          (λ off k x. kept.are.listed k x ∙ ap (λ (xs : List Row). is_listed xs k x) (kept.same.listed off));
    }
