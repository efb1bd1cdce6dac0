use Rattle.std.proofs.Common.{◌≡◌, ℕ, ◌+◌, [], ◌++◌, map, take, get_or, refl, sym, ap, ◌∙◌, flat_map}
use Rattle.std.proofs.lemmas.List.{flat_map_more, take_more}
use Rattle.ucd_points.specs.declared.files.SourceFile.{SourceFile}
use Rattle.ucd_points.specs.declared.files.SourceFile.TheVariants.{UnicodeData}
use Rattle.release_rows.specs.Releases.{items_now}
use Rattle.record_lines.specs.PointTexts.{with_more}
use Rattle.record_lines.specs.RowLines.{file_rows_text}
use Rattle.record_lines.proofs.ToldLemmas.{more_twice, no_more}
use Rattle.record_lines.proofs.rows.put_rows.Goals as goal

pub files-init : goal.files-init
files-init c = sym (no_more (λ k. []) (λ k. refl) c.args.told.now)

pub files-preserved : goal.files-preserved
files-preserved c =
    let release = c.args.release.now in
    let files = c.all-file-items.result.now in
    let i = c.files.file-index in
    let file = get_or files i UnicodeData in
    let of = λ (k : ℕ) (f : SourceFile). file_rows_text (items_now release f) f k in
    let before = λ (k : ℕ). flat_map (of k) (take i files) in
    let behind = λ (k : ℕ). flat_map (of k) (take (i + 1) files) in
    let step = λ (k : ℕ). ap (flat_map (of k)) (take_more files i UnicodeData c.files-test.true) ∙ sym (flat_map_more (of k) [] (take i files) file) in
    c.in_ok-put_file_rows.ensures ∙ ap (map (with_more (file_rows_text (items_now release file) file))) c.files.invariant
    ∙ more_twice before (file_rows_text (items_now release file) file) behind step c.args.told.now
