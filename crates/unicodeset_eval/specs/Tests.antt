-- What a test says of a code point, by the rows of a release and by what is derived of each code point. UAX #44, section 5;
-- UTS #35, "Unicode Sets".
-- group_categories g        the categories of a group. UAX #44, section 5.7.1, table 12
-- check_of form R           the value of the quick check of a form
-- same_truth a b            both hold, or neither
-- is_numbered names k v     v is the name with number k; never where the number is not used
-- is_listed rows k c        a row of PropList.txt with the name of number k covers c; never where the number is not used
-- passes test R             what a test of derived properties says of a code point with the record R; false for the other tests
-- test_holds R rows test c  what the test says of the code point c, where R gives the record of each code point
use Rattle.std.specs.Prelude.{ℕ, Bool, true, false, not, nat_lt, ◌==◌, List, [], ◌∷◌, is_some, slice_get, bytes_eq}
use Rattle.std.specs.List.{list_any}
use Rattle.std.specs.Option.{option_map_or}
use Rattle.ucd_facts.specs.Enumerations.{place_of_kind, place_of_quick}
use Rattle.ucd_facts.specs.Facts.{Sources, data_row, gives_value}
use Rattle.ucd_facts.specs.Predicates.{category_place, is_one_of}
use Rattle.ucd_model.specs.Records.{Record}
use Rattle.ucd_facts.specs.Values.{script_at, word_break_at}
use Rattle.ucd_facts.specs.declared.category.Category.{Category}
use Rattle.ucd_facts.specs.declared.category.Category.TheVariants.{Lu, Ll, Lt, Lm, Lo, Mn, Mc, Me, Nd, Nl, No, Pc, Pd, Ps, Pe, Pi, Pf, Po, Sm, Sc, Sk, So, Zs, Zl, Zp, Cc, Cf, Cs, Co, Cn}
use Rattle.ucd_points.specs.declared.files.SourceFile.TheVariants.{UnicodeData, PropList, Scripts, WordBreakProperty}
use Rattle.ucd_facts.specs.declared.form.Form.{Form}
use Rattle.ucd_facts.specs.declared.form.Form.TheVariants.{Nfd, Nfc, Nfkd, Nfkc}
use Rattle.ucd_facts.specs.declared.form.Quick.{Quick as QuickValue}
use Rattle.ucd_facts.specs.declared.row.Row.{Row}
use Rattle.property_aliases.specs.Sources.{break_names, listed_names, script_names}
use Rattle.property_aliases.specs.declared.property.Group.{Group as GroupValue}
use Rattle.property_aliases.specs.declared.property.Group.TheVariants.{L, LC, M, N, P, S, Z, C}
use Rattle.property_aliases.specs.declared.property.Test.{Test}
use Rattle.property_aliases.specs.declared.property.Test.TheVariants as test

-- ---- of derived properties

abbrev pub group_categories : GroupValue → List Category
group_categories L = Lu ∷ Ll ∷ Lt ∷ Lm ∷ Lo ∷ []
group_categories LC = Lu ∷ Ll ∷ Lt ∷ []
group_categories M = Mn ∷ Mc ∷ Me ∷ []
group_categories N = Nd ∷ Nl ∷ No ∷ []
group_categories P = Pc ∷ Pd ∷ Ps ∷ Pe ∷ Pi ∷ Pf ∷ Po ∷ []
group_categories S = Sm ∷ Sc ∷ Sk ∷ So ∷ []
group_categories Z = Zs ∷ Zl ∷ Zp ∷ []
group_categories C = Cc ∷ Cf ∷ Cs ∷ Co ∷ Cn ∷ []

abbrev pub check_of : Form → Record → QuickValue
check_of Nfd R = R.nfd
check_of Nfc R = R.nfc
check_of Nfkd R = R.nfkd
check_of Nfkc R = R.nfkc

abbrev pub same_truth : Bool → Bool → Bool
same_truth true b = b
same_truth false b = not b

abbrev pub passes : Test → Record → Bool
passes (test.Group group) R = is_one_of (group_categories group) R.category
passes (test.Category category) R = category_place category == category_place R.category
passes (test.Class class) R = class == R.class
passes (test.Decomposition kind) R = place_of_kind kind == place_of_kind R.kind
passes (test.Quick form value) R = place_of_quick value == place_of_quick (check_of form R)
passes (test.Core core wanted) R = same_truth wanted (R.core core)
passes (test.Exclusion wanted) R = same_truth wanted R.exclusion
passes (test.ChangesCasefold wanted) R = same_truth wanted R.changes_casefold
passes _ R = false

-- ---- of values that rows give

abbrev pub is_numbered : List (List ℕ) → ℕ → List ℕ → Bool
is_numbered names number value = option_map_or (λ name. bytes_eq value name) (slice_get names number) false

abbrev pub is_listed : List Row → ℕ → ℕ → Bool
is_listed rows number c = option_map_or (λ name. list_any (gives_value name c) rows) (slice_get (listed_names rows) number) false

-- ---- of a code point

abbrev pub test_holds : (ℕ → Record) → Sources → Test → ℕ → Bool
test_holds R rows test.Any c = true
test_holds R rows test.Ascii c = nat_lt c 0x80
test_holds R rows test.Assigned c = is_some (data_row (rows UnicodeData) c)
test_holds R rows (test.Script number) c = is_numbered (script_names (rows Scripts)) number (script_at (rows Scripts) c)
test_holds R rows (test.WordBreak number) c = is_numbered (break_names (rows WordBreakProperty)) number (word_break_at (rows WordBreakProperty) c)
test_holds R rows (test.Listed number wanted) c = same_truth wanted (is_listed (rows PropList) number c)
test_holds R rows test c = passes test (R c)
