-- The stability policies of the Unicode Standard, as tests of one code point in two releases, an old one and a new one.
-- Unicode Character Encoding Stability Policies; UAX #15, section 3; UAX #31, sections 1.1 and 2.5.
--
-- O and N are the facts of each code point in the old release and in the new one.
-- policies, place_of_policy P   the policies in order, and the place of each, counted from 0
-- in_one a b               exactly one of the two holds
-- sort_of kind             0 for Plain, 1 for Canonical, 2 for a compatibility mapping, whatever its tag
-- same_mapping F G         the decomposition mappings are the same and of the same sort
-- all_assigned F s         each member of s is assigned
-- folded F r               the full folding of the list r; the rule where one is in its place
-- caseless F s             the full folding of the NFKC of s; the rule in its place where there is no NFKC
-- same_list r s            both are lists, and the same ones, or both are rules
-- is_case_pair F c d       c and d differ, d is the simple lower case mapping of c, and c the simple upper case mapping of d
-- is_of_category k F       the category is k
-- second_maps F m          the mapping m has two members, and the second has a canonical mapping
-- is_mark F                a category of marks: Mn, Mc or Me
-- breaks P O N c           c breaks the policy P; never for P02 and P17, which are of rows
-- name_of row              the name of a row of UnicodeData.txt, or the label of a range; None where there is no row
-- differ a b               both are there, and they differ
-- is_renamed old new       there are both rows, and their names differ
-- is_broken P old new c    c breaks the policy P, where old and new are the rows of the two releases; never for P17, which is of rows
--                          of alias files
use Rattle.std.specs.Prelude.{ℕ, Bool, true, false, ◌&&◌, ◌||◌, not, List, [], ◌∷◌, ◌==◌, Option, Some, None, Result, Ok, Err, bytes_eq}
use Rattle.std.specs.Bool.{beq}
use Rattle.std.specs.List.{list_all}
use Rattle.ucd_model.specs.CanonicalOrder.{class_of, order}
use Rattle.ucd_model.specs.Casing.{fold}
use Rattle.ucd_facts.specs.Composites.{is_canonical, primary}
use Rattle.ucd_facts.specs.Facts.{Facts, Sources, data_row, facts}
use Rattle.ucd_facts.specs.declared.decomposition.Kind.{Kind}
use Rattle.ucd_facts.specs.declared.decomposition.Kind.TheVariants.{Plain, Canonical, Compat}
use Rattle.ucd_model.specs.Forms.{nfkc}
use Rattle.ucd_facts.specs.Predicates.{category_place, is_one_of}
use Rattle.ucd_model.specs.Records.{core_at}
use Rattle.ucd_facts.specs.declared.category.Category.{Category}
use Rattle.ucd_facts.specs.declared.category.Category.TheVariants.{Cc, Cs, Co, Mn, Mc, Me}
use Rattle.ucd_points.specs.declared.files.SourceFile.TheVariants.{UnicodeData}
use Rattle.ucd_facts.specs.declared.form.Bad.{Bad as Rule}
use Rattle.ucd_facts.specs.declared.property.Core.TheVariants.{IdStart, IdContinue, XidStart, XidContinue}
use Rattle.ucd_facts.specs.declared.property.Flag.TheVariants.{NoncharacterCodePoint, PatternSyntax, PatternWhiteSpace}
use Rattle.ucd_facts.specs.declared.row.DataRow.{DataRow}
use Rattle.stability_policies.specs.declared.policy.Policy.{Policy}
use Rattle.stability_policies.specs.declared.policy.Policy.TheVariants.{P01, P02, P03, P04, P05, P06, P07, P08, P09, P10, P11, P12, P13, P14, P15, P16, P17, P18, P19, P20}

-- ---- the policies

abbrev pub policies : List Policy
policies =
    P01 ∷ P02 ∷ P03 ∷ P04 ∷ P05 ∷ P06 ∷ P07 ∷ P08 ∷ P09 ∷ P10 ∷ P11 ∷ P12 ∷ P13 ∷ P14 ∷ P15 ∷ P16 ∷ P17 ∷ P18 ∷ P19 ∷ P20 ∷ []

abbrev pub place_of_policy : Policy → ℕ
place_of_policy P01 = 0
place_of_policy P02 = 1
place_of_policy P03 = 2
place_of_policy P04 = 3
place_of_policy P05 = 4
place_of_policy P06 = 5
place_of_policy P07 = 6
place_of_policy P08 = 7
place_of_policy P09 = 8
place_of_policy P10 = 9
place_of_policy P11 = 10
place_of_policy P12 = 11
place_of_policy P13 = 12
place_of_policy P14 = 13
place_of_policy P15 = 14
place_of_policy P16 = 15
place_of_policy P17 = 16
place_of_policy P18 = 17
place_of_policy P19 = 18
place_of_policy P20 = 19

-- ---- the parts of their formulas

abbrev pub in_one : Bool → Bool → Bool
in_one a b = not (beq a b)

abbrev pub sort_of : Kind → ℕ
sort_of Plain = 0
sort_of Canonical = 1
sort_of (Compat _) = 2

abbrev pub same_mapping : Facts → Facts → Bool
same_mapping F G = (sort_of F.kind == sort_of G.kind) && bytes_eq F.mapping G.mapping

abbrev pub all_assigned : (ℕ → Facts) → List ℕ → Bool
all_assigned F s = list_all (λ c. (F c).assigned) s

abbrev pub folded : (ℕ → Facts) → Result (List ℕ) Rule → Result (List ℕ) Rule
folded F (Ok s) = Ok (fold F s)
folded F (Err rule) = Err rule

abbrev pub caseless : (ℕ → Facts) → List ℕ → Result (List ℕ) Rule
caseless F s = folded F (nfkc F s)

abbrev pub same_list : Result (List ℕ) Rule → Result (List ℕ) Rule → Bool
same_list (Ok s) (Ok t) = bytes_eq s t
same_list (Err _) (Err _) = true
same_list _ _ = false

abbrev pub is_case_pair : (ℕ → Facts) → ℕ → ℕ → Bool
is_case_pair F c d = not (c == d) && (((F c).simple_lower == d) && ((F d).simple_upper == c))

abbrev pub is_of_category : Category → Facts → Bool
is_of_category k F = category_place F.category == category_place k

abbrev pub second_maps : (ℕ → Facts) → List ℕ → Bool
second_maps F (a ∷ b ∷ []) = is_canonical (F b).kind
second_maps F _ = false

abbrev pub is_mark : Facts → Bool
is_mark F = is_one_of (Mn ∷ Mc ∷ Me ∷ []) F.category

-- ---- the formulas

abbrev pub breaks : Policy → (ℕ → Facts) → (ℕ → Facts) → ℕ → Bool
breaks P01 O N c = (O c).assigned && not (N c).assigned
breaks P02 O N c = false
breaks P03 O N c = (O c).assigned && ((N c).assigned && not ((O c).class == (N c).class))
breaks P04 O N c = (O c).assigned && ((N c).assigned && not (same_mapping (O c) (N c)))
breaks P05 O N c = (primary O c && not (primary N c)) || (primary N c && (not (primary O c) && all_assigned O (N c).mapping))
breaks P06 O N c = core_at O c IdStart && not (core_at N c IdStart)
breaks P07 O N c = core_at O c IdContinue && not (core_at N c IdContinue)
breaks P08 O N c = core_at O c XidStart && not (core_at N c XidStart)
breaks P09 O N c = core_at O c XidContinue && not (core_at N c XidContinue)
breaks P10 O N c = (O c).assigned && not (same_list (caseless O (c ∷ [])) (caseless N (c ∷ [])))
breaks P11 O N c = is_case_pair O c (O c).simple_lower && not (is_case_pair N c (O c).simple_lower)
breaks P12 O N c =
    is_case_pair N c (N c).simple_lower && ((O c).assigned && ((O (N c).simple_lower).assigned && not (is_case_pair O c (N c).simple_lower)))
breaks P13 O N c = in_one (is_of_category Cc (O c)) (is_of_category Cc (N c))
breaks P14 O N c = in_one (is_of_category Cs (O c)) (is_of_category Cs (N c)) || in_one (is_of_category Co (O c)) (is_of_category Co (N c))
breaks P15 O N c = in_one ((O c).flag NoncharacterCodePoint) ((N c).flag NoncharacterCodePoint)
breaks P16 O N c = in_one ((O c).flag PatternSyntax) ((N c).flag PatternSyntax) || in_one ((O c).flag PatternWhiteSpace) ((N c).flag PatternWhiteSpace)
breaks P17 O N c = false
breaks P18 O N c = is_canonical (N c).kind && second_maps N (N c).mapping
breaks P19 O N c = is_canonical (N c).kind && not (bytes_eq (order (class_of N) (N c).mapping) (N c).mapping)
breaks P20 O N c = not ((N c).class == 0) && not (is_mark (N c))

-- ---- names of rows

abbrev pub name_of : Option DataRow → Option (List ℕ)
name_of (Some row) = Some row.name
name_of None = None

abbrev pub differ : Option (List ℕ) → Option (List ℕ) → Bool
differ (Some a) (Some b) = not (bytes_eq a b)
differ _ _ = false

abbrev pub is_renamed : Option DataRow → Option DataRow → Bool
is_renamed old new = differ (name_of old) (name_of new)

-- ---- the policies of code points, by rows

abbrev pub is_broken : Policy → Sources → Sources → ℕ → Bool
is_broken P02 old new c = is_renamed (data_row (old UnicodeData) c) (data_row (new UnicodeData) c)
is_broken policy old new c = breaks policy (facts old) (facts new) c
