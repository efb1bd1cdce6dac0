-- The text of what a release misses of NormalizationTest.txt.
-- form_code form        the name of a form: NFD, NFC, NFKD or NFKC
-- miss_line miss        the line of a miss: of a case its line, the form, and the column; of a code point `point`, the code point, and
--                       the form
-- misses_text misses    a line for each miss, and `# total N`
-- misses_of trial       what the release misses of the cases
use Rattle.std.specs.Prelude.{ℕ, List, ◌++◌, length, codes, decimal, flat_map}
use Rattle.ucd_points.specs.HexText.{hex_text}
use Rattle.ucd_model.specs.DerivedText.{line_end}
use Rattle.ucd_facts.specs.declared.form.Form.{Form}
use Rattle.ucd_facts.specs.declared.form.Form.TheVariants.{Nfd, Nfc, Nfkd, Nfkc}
use Rattle.edit_session.specs.Benches.{bench_facts}
use Rattle.norm_conformance.specs.Misses.{misses}
use Rattle.norm_conformance.specs.declared.miss.Miss.{Miss}
use Rattle.norm_conformance.specs.declared.miss.Miss.TheVariants.{Line, Point}
use Rattle.ucdshop_more_core.specs.declared.trial.Trial.{Trial}

abbrev pub form_code : Form → List ℕ
form_code Nfd = codes "NFD"
form_code Nfc = codes "NFC"
form_code Nfkd = codes "NFKD"
form_code Nfkc = codes "NFKC"

abbrev pub miss_line : Miss → List ℕ
miss_line (Line n form k) = decimal n ++ codes " " ++ form_code form ++ codes " " ++ decimal k ++ line_end
miss_line (Point c form) = codes "point " ++ hex_text c ++ codes " " ++ form_code form ++ line_end

abbrev pub misses_text : List Miss → List ℕ
misses_text misses = flat_map miss_line misses ++ codes "# total " ++ decimal (length misses) ++ line_end

abbrev pub misses_of : Trial → List Miss
misses_of trial = misses (bench_facts trial.bench) trial.cases
