use Rattle.std.proofs.Common.{◌≡◌, List, length, map, sym, ap, subst, ◌∙◌, refl, flat_map}
use Rattle.release_rows.specs.Releases.{ReleaseItems, FileItem}
use Rattle.record_lines.specs.PointTexts.{with_more}
use Rattle.record_lines.specs.RowLines.{rows_text}
use Rattle.record_lines.specs.declared.point_text.PointText.{PointText}
use Rattle.run_endings.specs.Planning.{HaveLines}
use Rattle.run_endings.specs.Writing.{files_of}
use Rattle.ucdshop_look_core.specs.Points.{points_in}
use Rattle.ucdshop_look_core.specs.Shown.{record_told, shown}
use Rattle.ucdshop_look_core.proofs.ToldTexts.{all_told, written_back}
use Rattle.ucdshop_look_core.proofs.showing.shown_plan.Goals as goal

pub returns : goal.returns
returns c =
    let files : List (List FileItem) = c.args.bench.now.current in
    let points = points_in c.args.words.now in
    let texts = flat_map (λ (one : PointText). one.text) in
    let told = c.in_ok-told.told in
    let value = c.as_mut_slice.ensures.value in
    let len = ap length (sym value) ∙ c.as_mut_slice.ensures.len in
    let same = c.put_rows.auto.told ∙ ap length value in
    let records = map (record_told files) points in
    let rows : c.put_rows.new.told ≡ map (with_more (rows_text files)) records =
    c.in_ok-put_rows.ensures ∙ ap (map (with_more (rows_text c.release.result.now.current))) (value ∙ c.in_ok-told.ensures)
    ∙ ap (λ (release : ReleaseItems). map (with_more (rows_text release.current)) records) c.release.ensures.same in
    let summary : c.in_ok-summary.summary ≡ flat_map (shown files) points =
    c.in_ok-summary.ensures ∙ ap texts (written_back told.len told.items c.put_rows.new.told len same) ∙ ap texts rows ∙ all_told files points in
    let none = c.new.ensures.items in
    record { files = ap files_of none; lines = subst HaveLines (sym none) refl; summary = summary; done = refl }
