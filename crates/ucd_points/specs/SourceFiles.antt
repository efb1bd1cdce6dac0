-- The source files in the order in which the bench reads them. UAX #44, section 5.3.
-- source_files         the nine files
-- source_path file     where a source file lies below the folder of a release
-- file_place file      the place of a file among them, from 0
-- file_at at           the file at a place; the first one past the last place
-- file_place_small     each place is below nine
-- file_at-place        the file at the place of a file is that file
-- file_place-at        the place of the file at a place is that place
use Rattle.std.proofs.Common.{◌≡◌, ℕ, zero, suc, ◌<◌, List, [], ◌∷◌, get_or, codes, refl, arith, lit<}
use Rattle.ucd_points.specs.declared.files.SourceFile.{SourceFile}
use Rattle.ucd_points.specs.declared.files.SourceFile.TheVariants.{UnicodeData, PropList, Scripts, WordBreakProperty, CompositionExclusions, CaseFolding, SpecialCasing, PropertyAliases, PropertyValueAliases}

abbrev pub source_files : List SourceFile
source_files = UnicodeData ∷ PropList ∷ Scripts ∷ WordBreakProperty ∷ CompositionExclusions ∷ CaseFolding ∷ SpecialCasing ∷ PropertyAliases ∷ PropertyValueAliases ∷ []

abbrev pub source_path : SourceFile → List ℕ
source_path UnicodeData = codes "UnicodeData.txt"
source_path PropList = codes "PropList.txt"
source_path Scripts = codes "Scripts.txt"
source_path WordBreakProperty = codes "auxiliary/WordBreakProperty.txt"
source_path CompositionExclusions = codes "CompositionExclusions.txt"
source_path CaseFolding = codes "CaseFolding.txt"
source_path SpecialCasing = codes "SpecialCasing.txt"
source_path PropertyAliases = codes "PropertyAliases.txt"
source_path PropertyValueAliases = codes "PropertyValueAliases.txt"

abbrev pub file_place : SourceFile → ℕ
file_place UnicodeData = 0
file_place PropList = 1
file_place Scripts = 2
file_place WordBreakProperty = 3
file_place CompositionExclusions = 4
file_place CaseFolding = 5
file_place SpecialCasing = 6
file_place PropertyAliases = 7
file_place PropertyValueAliases = 8

abbrev pub file_at : ℕ → SourceFile
file_at at = get_or source_files at UnicodeData

pub file_place_small : (file : SourceFile) → file_place file < 9
file_place_small UnicodeData = lit< tt
file_place_small _ = lit< tt

pub file_at-place : (file : SourceFile) → file_at (file_place file) ≡ file
file_at-place UnicodeData = refl
file_at-place PropList = refl
file_at-place Scripts = refl
file_at-place WordBreakProperty = refl
file_at-place CompositionExclusions = refl
file_at-place CaseFolding = refl
file_at-place SpecialCasing = refl
file_at-place PropertyAliases = refl
file_at-place PropertyValueAliases = refl

pub file_place-at : (at : ℕ) → at < 9 → file_place (file_at at) ≡ at
file_place-at zero lt = refl
file_place-at (suc zero) lt = refl
file_place-at (suc (suc zero)) lt = refl
file_place-at (suc (suc (suc zero))) lt = refl
file_place-at (suc (suc (suc (suc zero)))) lt = refl
file_place-at (suc (suc (suc (suc (suc zero))))) lt = refl
file_place-at (suc (suc (suc (suc (suc (suc zero)))))) lt = refl
file_place-at (suc (suc (suc (suc (suc (suc (suc zero))))))) lt = refl
file_place-at (suc (suc (suc (suc (suc (suc (suc (suc zero)))))))) lt = refl
file_place-at (suc (suc (suc (suc (suc (suc (suc (suc (suc n))))))))) lt = absurd (omega arith)
