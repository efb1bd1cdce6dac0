-- The text of a record, and of what differs between two records of one code point. Properties come in the order of the derived
-- files and of their sections, each by the name that its section has there. UAX #44, section 5.3.
-- value_line R l          the line of a property: its name, ` ; `, its value in the record R, and LF
-- file_values R file      the lines of the properties of a derived file, in order
-- record_text c R         `# ` and the code point, and then the lines of all properties
-- value_step R S l        the name of a property, ` ; `, its value in R, ` -> `, its value in S, and LF
-- change_line c R S l     the code point, ` ; ` and that step, where the two values differ; else nothing
-- file_changes c R S file   these lines for the properties of a derived file, in order
-- change_text c R S       these lines for all properties; nothing where the records R and S have equal values
use Rattle.std.specs.Prelude.{ℕ, List, [], ◌++◌, if◌then◌else◌, codes, flat_map, bytes_eq}
use Rattle.ucd_points.specs.HexText.{hex_text}
use Rattle.ucd_facts.specs.Enumerations.{derived_files}
use Rattle.ucd_model.specs.DerivedText.{line_end}
use Rattle.ucd_model.specs.Records.{Record}
use Rattle.ucd_facts.specs.declared.files.DerivedFile.{DerivedFile}
use Rattle.derived_writer.specs.Listings.{listing_section, listings_of}
use Rattle.derived_writer.specs.declared.listing.Listing.{Listing}
use Rattle.record_lines.specs.Values.{value_text}

abbrev pub value_line : Record → Listing → List ℕ
value_line R listing = (listing_section listing).name ++ codes " ; " ++ value_text listing R ++ line_end

abbrev pub file_values : Record → DerivedFile → List ℕ
file_values R file = flat_map (value_line R) (listings_of file)

abbrev pub record_text : ℕ → Record → List ℕ
record_text c R = codes "# " ++ hex_text c ++ line_end ++ flat_map (file_values R) derived_files

-- ---- what differs

abbrev pub value_step : Record → Record → Listing → List ℕ
value_step R S listing = (listing_section listing).name ++ codes " ; " ++ value_text listing R ++ codes " -> " ++ value_text listing S ++ line_end

abbrev pub change_line : ℕ → Record → Record → Listing → List ℕ
change_line c R S listing = if bytes_eq (value_text listing R) (value_text listing S) then [] else hex_text c ++ codes " ; " ++ value_step R S listing

abbrev pub file_changes : ℕ → Record → Record → DerivedFile → List ℕ
file_changes c R S file = flat_map (change_line c R S) (listings_of file)

abbrev pub change_text : ℕ → Record → Record → List ℕ
change_text c R S = flat_map (file_changes c R S) derived_files
