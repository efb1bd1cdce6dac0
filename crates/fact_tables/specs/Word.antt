-- The packed word of the facts of a code point, and how it is read back.
--
-- one_if b             1 where b is true, else 0
-- flag_bit has f       2 to the power of 24 and the place of f, where f is set; else 0
-- data_part assigned k class kind   what the row of UnicodeData.txt adds to the word: whether the point is assigned in bit 0, the
--                      place of its category k times 8, its class times 256, and the place of its kind times 65536
-- mark_part excluded mid_word flag   what the rows of the other files add: bits 1 and 2, and the bits of the flags
-- packed F             the word: the sum of its summands
--
-- assigned_of_word w   whether the word says that the point is assigned: bit 0
-- excluded_of_word w   whether it says that the point is excluded from composition: bit 1
-- mid_word_of_word w   whether it says that the point is in the middle of a word: bit 2
-- category_at p        the category of a place; Cn past the last
-- category_of_word w   the category that the word says: bits 3 to 7
-- class_of_word w      the class that the word says: bits 8 to 15
-- kind_at p            the kind of a place; Plain past the last
-- kind_of_word w       the kind that the word says: bits 16 to 23
-- flags_of_word w      the set of flags that the word says: bits 24 to 37
-- ReadsBack w F        the word says of all that it has room for what the facts F say
use Rattle.std.specs.Prelude.{◌≡◌, ℕ, ◌+◌, ◌*◌, ◌/◌, ◌%◌, ◌^◌, Bool, true, false, ◌==◌, slice_index_or, sum_by}
use Rattle.ucd_facts.specs.Enumerations.{categories, flags, kinds, place_of_kind}
use Rattle.ucd_facts.specs.Facts.{Facts}
use Rattle.ucd_facts.specs.Predicates.{category_place}
use Rattle.ucd_facts.specs.Sets.{flag_place, has_flag}
use Rattle.ucd_facts.specs.declared.category.Category.{Category}
use Rattle.ucd_facts.specs.declared.category.Category.TheVariants.{Cn}
use Rattle.ucd_facts.specs.declared.decomposition.Kind.{Kind}
use Rattle.ucd_facts.specs.declared.decomposition.Kind.TheVariants.{Plain}
use Rattle.ucd_facts.specs.declared.property.Flag.{Flag}

abbrev pub one_if : Bool → ℕ
one_if true = 1
one_if false = 0

abbrev pub flag_bit : (Flag → Bool) → Flag → ℕ
flag_bit has flag = 2 ^ (24 + flag_place flag) * one_if (has flag)

abbrev pub data_part : Bool → Category → ℕ → Kind → ℕ
data_part assigned category class kind = one_if assigned + 8 * category_place category + 256 * class + 65536 * place_of_kind kind

abbrev pub mark_part : Bool → Bool → (Flag → Bool) → ℕ
mark_part excluded mid_word flag = 2 * one_if excluded + 4 * one_if mid_word + sum_by (flag_bit flag) flags

abbrev pub packed : Facts → ℕ
packed F = data_part F.assigned F.category F.class F.kind + mark_part F.excluded F.mid_word F.flag

-- ---- read back

abbrev pub assigned_of_word : ℕ → Bool
assigned_of_word word = word % 2 == 1

abbrev pub excluded_of_word : ℕ → Bool
excluded_of_word word = word / 2 % 2 == 1

abbrev pub mid_word_of_word : ℕ → Bool
mid_word_of_word word = word / 4 % 2 == 1

abbrev pub category_at : ℕ → Category
category_at place = slice_index_or categories place Cn

abbrev pub category_of_word : ℕ → Category
category_of_word word = category_at (word / 8 % 32)

abbrev pub class_of_word : ℕ → ℕ
class_of_word word = word / 256 % 256

abbrev pub kind_at : ℕ → Kind
kind_at place = slice_index_or kinds place Plain

abbrev pub kind_of_word : ℕ → Kind
kind_of_word word = kind_at (word / 65536 % 256)

abbrev pub flags_of_word : ℕ → ℕ
flags_of_word word = word / 16777216 % 16384

pub record ReadsBack (w : ℕ) (F : Facts) : Type 0 where
  pub assigned : assigned_of_word w ≡ F.assigned
  pub excluded : excluded_of_word w ≡ F.excluded
  pub mid_word : mid_word_of_word w ≡ F.mid_word
  pub category : category_of_word w ≡ F.category
  pub class : class_of_word w ≡ F.class
  pub kind : kind_of_word w ≡ F.kind
  pub flag : (flag : Flag) → has_flag (flags_of_word w) flag ≡ F.flag flag
