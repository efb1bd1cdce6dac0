-- Tags of rows: numbers that tell rows of different keys or groups apart.
-- digit b                  what a byte is worth: 1 to 75 from `0` to `z`, 0 below them and 76 above
-- is_inner b               the byte is from `0` to `z`
-- first_digit bs           what the first byte is worth; 0 where there is none
-- behind_first bs          the bytes behind the first one, if that is from `0` to `z`; else nothing
-- number bs                what the first five bytes are worth as digits of base 77, up to the first one that is not from `0` to `z`
-- end_of bs                the last five bytes; all where there are no more
-- content_tag file content   the tag of the row that stands in this content: the number of the end of its value in PropList.txt,
--                          Scripts.txt and WordBreakProperty.txt; that of its first name in PropertyAliases.txt, and of the
--                          second one in PropertyValueAliases.txt; that of the conditions in SpecialCasing.txt; 0 in the other files
-- key_tag file names       the same by the names of the key, where they tell it; else 0
-- tells_key file           rows of one key have one tag
-- tells_group file         rows of one group have one tag
-- tells_order file         tags ascend with the keys of a group
-- tag_fits told a b        the tags are the same, where tags tell
-- tag_rises told c d a b   the code point rises from c to d, or the tag does not descend from a to b, where tags tell
-- misses_tag told a reach   no tag within the reach is this one, where tags tell
-- falls_short told c a reach   no code point within the reach is greater than c and each tag is less than a, where tags tell
-- HasTag file tag names group   the tag is that of the names of a key and of the name of a group, as far as they tell it
use Rattle.std.specs.Prelude.{◌≡◌, ℕ, ◌+◌, ◌-◌, ◌*◌, Bool, true, false, ◌&&◌, ◌||◌, not, List, [], ◌∷◌, length, drop, ◌==◌, nat_le, nat_lt, if◌then◌else◌}
use Rattle.ucd_points.specs.Fields.{field, fields}
use Rattle.ucd_points.specs.declared.files.SourceFile.{SourceFile}
use Rattle.ucd_points.specs.declared.files.SourceFile.TheVariants.{PropList, Scripts, WordBreakProperty, SpecialCasing, PropertyAliases, PropertyValueAliases}
use Rattle.source_rows.specs.KeyNames.{content_group}
use Rattle.part_list.specs.declared.reach.Reach.{Reach}

abbrev pub is_inner : ℕ → Bool
is_inner b = nat_le 48 b && nat_le b 122

abbrev pub digit : ℕ → ℕ
digit b = if nat_lt b 48 then 0 else (if nat_le b 122 then b - 47 else 76)

abbrev pub first_digit : List ℕ → ℕ
first_digit [] = 0
first_digit (b ∷ bs) = digit b

abbrev pub behind_first : List ℕ → List ℕ
behind_first [] = []
behind_first (b ∷ bs) = if is_inner b then bs else []

abbrev pub number : List ℕ → ℕ
number bs =
    first_digit bs * 35153041 + first_digit (behind_first bs) * 456533 + first_digit (behind_first (behind_first bs)) * 5929
    + first_digit (behind_first (behind_first (behind_first bs))) * 77 + first_digit (behind_first (behind_first (behind_first (behind_first bs))))

abbrev pub end_of : List ℕ → List ℕ
end_of bs = drop (length bs - 5) bs

-- ---- tags

unfoldable pub content_tag : SourceFile → List ℕ → ℕ
content_tag PropList content = number (end_of (content_group PropList content))
content_tag Scripts content = number (end_of (content_group Scripts content))
content_tag WordBreakProperty content = number (end_of (content_group WordBreakProperty content))
content_tag SpecialCasing content = number (field (fields SpecialCasing content) 4)
content_tag PropertyAliases content = number (field (fields PropertyAliases content) 0)
content_tag PropertyValueAliases content = number (field (fields PropertyValueAliases content) 1)
content_tag _ content = 0

abbrev pub key_tag : SourceFile → List (List ℕ) → ℕ
key_tag PropList names = number (end_of (field names 0))
key_tag SpecialCasing names = number (field names 0)
key_tag PropertyAliases names = number (field names 0)
key_tag PropertyValueAliases names = number (field names 1)
key_tag _ names = 0

abbrev pub tells_key : SourceFile → Bool
tells_key PropList = true
tells_key SpecialCasing = true
tells_key PropertyAliases = true
tells_key PropertyValueAliases = true
tells_key _ = false

abbrev pub tells_group : SourceFile → Bool
tells_group PropList = true
tells_group Scripts = true
tells_group WordBreakProperty = true
tells_group _ = false

abbrev pub tells_order : SourceFile → Bool
tells_order SpecialCasing = true
tells_order PropertyAliases = true
tells_order PropertyValueAliases = true
tells_order _ = false

abbrev pub tag_fits : Bool → ℕ → ℕ → Bool
tag_fits told a b = not told || (a == b)

abbrev pub tag_rises : Bool → ℕ → ℕ → ℕ → ℕ → Bool
tag_rises told c d a b = (not told || nat_lt c d) || nat_le a b

abbrev pub misses_tag : Bool → ℕ → Reach → Bool
misses_tag told a reach = told && (nat_lt a reach.least_tag || nat_lt reach.most_tag a)

abbrev pub falls_short : Bool → ℕ → ℕ → Reach → Bool
falls_short told c a reach = (told && nat_le reach.most c) && nat_lt reach.most_tag a

abbrev GroupName : SourceFile → List (List ℕ) → List ℕ → Type 0
GroupName PropertyValueAliases names group = group ≡ field names 0
GroupName _ names group = Unit {0}

pub record HasTag (file : SourceFile) (tag : ℕ) (names : List (List ℕ)) (group : List ℕ) : Type 0 where
  pub by_key : tells_key file ≡ true → tag ≡ key_tag file names
  pub by_group : tells_group file ≡ true → tag ≡ number (end_of group)
  pub name : GroupName file names group
