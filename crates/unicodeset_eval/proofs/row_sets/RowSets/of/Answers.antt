use Rattle.std.proofs.Common.{◌<◌, length, sym, subst}
use Rattle.property_aliases.specs.Numbers.{AreValues}
use Rattle.property_aliases.specs.Sources.{break_names, listed_names, script_names}
use Rattle.property_aliases.specs.declared.file_values.FileValues.{FileValues}
use Rattle.release_rows.specs.Releases.{rows_now}
use Rattle.ucd_facts.specs.Values.{default_script, default_word_break}
use Rattle.ucd_points.specs.declared.files.SourceFile.TheVariants.{PropList, Scripts, WordBreakProperty}
use Rattle.unicodeset_eval.specs.RowSetLaws.{some_names}
use Rattle.unicodeset_eval.proofs.row_sets.RowSets.of.Goals as goal

pub sets_behind_default-requires : goal.sets_behind_default-requires
sets_behind_default-requires c = record {
  some = subst (λ (v : FileValues). 0 < length v.names.keys) (sym c.scripts.ensures) (some_names c.args.numbers.now.scripts default_script (rows_now c.args.release.now Scripts) c.requires.scripts);
}

pub sets_behind_default-requires-2 : goal.sets_behind_default-requires-2
sets_behind_default-requires-2 c = record {
  some = subst (λ (v : FileValues). 0 < length v.names.keys) (sym c.word_breaks.ensures) (some_names c.args.numbers.now.breaks default_word_break (rows_now c.args.release.now WordBreakProperty) c.requires.breaks);
}

pub returns : goal.returns
returns c =
    let rows = rows_now c.args.release.now in
    record {
      scripts = c.in_ok-scripts.ensures default_script (rows Scripts) (subst (λ (v : FileValues). AreValues v (script_names (rows Scripts)) (rows Scripts)) (sym c.scripts.ensures) c.requires.scripts) c.rows_are_apart.ensures;
      breaks = c.in_ok-breaks.ensures default_word_break (rows WordBreakProperty) (subst (λ (v : FileValues). AreValues v (break_names (rows WordBreakProperty)) (rows WordBreakProperty)) (sym c.word_breaks.ensures) c.requires.breaks) c.rows_are_apart-2.ensures;
      listed = c.in_ok-listed.ensures (rows PropList) (subst (λ (v : FileValues). AreValues v (listed_names (rows PropList)) (rows PropList)) (sym c.listed.ensures) c.requires.listed);
    }
