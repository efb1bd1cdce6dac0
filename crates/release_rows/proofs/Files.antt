-- Files of which one is given other items.
use Rattle.std.proofs.Common.{◌≡◌, List, map, set, refl, ◌∙◌}
use Rattle.std.proofs.lemmas.List.{map-set, length-set}
use Rattle.ucd_points.specs.declared.files.SourceFile.TheVariants.{UnicodeData, PropList, Scripts, WordBreakProperty, CompositionExclusions, CaseFolding, SpecialCasing, PropertyAliases, PropertyValueAliases}
use Rattle.ucd_points.specs.SourceFiles.{file_place, source_files}
use Rattle.release_rows.specs.FileItems.{FileItem, FileLists, SourceFile}
use Rattle.release_rows.specs.FileLemmas.{each_with_items}
use Rattle.release_rows.specs.Releases.{AreSound, AllAreKept, ReleaseItems, files_now, files_next, loaded, with_items}

pub now_with : (files : List FileLists) (file : SourceFile) (lists : FileLists) → files_now (set files (file_place file) lists) ≡ with_items (files_now files) file lists.now
now_with files file lists = map-set (λ (l : FileLists). l.now) files (file_place file) lists

pub next_with : (files : List FileLists) (file : SourceFile) (lists : FileLists) → files_next (set files (file_place file) lists) ≡ with_items (files_next files) file lists.next
next_with files file lists = map-set (λ (l : FileLists). l.next) files (file_place file) lists

pub kept_with : (files : List (List FileItem)) (file : SourceFile) (items : List FileItem) → AllAreKept files → AreSound file items → AllAreKept (with_items files file items)
kept_with files file items all kept = record {
  nine = length-set files (file_place file) items ∙ all.nine;
  each = each_with_items AreSound files file items all.nine all.each kept;
}

pub release_with : (files : List FileLists) (file : SourceFile) (lists : FileLists) → lists.next ≡ lists.now → (let release : ReleaseItems = record { current = files_now (set files (file_place file) lists); prepared = files_next (set files (file_place file) lists) } in release) ≡ loaded (record { current = files_now files; prepared = files_next files }) file lists.now
release_with files file lists same = rw (now_with files file lists, next_with files file lists, same) refl

same_files : (file : SourceFile) → set source_files (file_place file) file ≡ source_files
same_files UnicodeData = refl
same_files PropList = refl
same_files Scripts = refl
same_files WordBreakProperty = refl
same_files CompositionExclusions = refl
same_files CaseFolding = refl
same_files SpecialCasing = refl
same_files PropertyAliases = refl
same_files PropertyValueAliases = refl

-- a file in the place of itself
pub files_with : (files : List FileLists) (file : SourceFile) (lists : FileLists) → map (λ (l : FileLists). l.file) files ≡ source_files → lists.file ≡ file → map (λ (l : FileLists). l.file) (set files (file_place file) lists) ≡ source_files
files_with files file lists all one = map-set (λ (l : FileLists). l.file) files (file_place file) lists ∙ rw (all, one) (same_files file)
