-- Equality as a test, of lists of code points, images, records and facts. Sameness is told by places, since the values of an
-- enumeration stand each at its own.
-- is_in xs c              c is one of the numbers xs
-- same_image i j          the images are equal
-- same_cores f g          f and g have the same core properties
-- same_flags f g          f and g have the same properties of PropList.txt
-- same_record R S         the records are equal
-- same_facts F G          the facts are equal: same_row, same_simple, same_images and same_marks
-- same_row F G            equal in what the row of UnicodeData.txt says but for the simple case mappings
-- same_simple F G         equal in the simple case mappings and folding
-- same_images F G         equal in the full case mappings and folding
-- same_marks F G          equal in what the other files say
-- MembersAreTold          `is_in` tells the members of a list
-- RecordsAreTold          `same_record` tells whether two records are equal
-- FactsAreTold            `same_facts` tells whether the facts of two code points are equal
-- SetsAreTold             two kept sets with the same properties are one
-- KeptRecordsAreTold      two kept records that keep one record are one
use Rattle.std.specs.Prelude.{◌≡◌, ℕ, ◌<◌, ◌^◌, Bool, true, false, ◌&&◌, ◌==◌, List, bytes_eq}
use Rattle.std.specs.Bool.{Decides, beq}
use Rattle.std.specs.List.{Contains, list_any, list_all}
use Rattle.ucd_facts.specs.Enumerations.{flags, place_of_kind, place_of_quick}
use Rattle.ucd_facts.specs.Facts.{Facts}
use Rattle.ucd_facts.specs.declared.image.Image.{Image}
use Rattle.ucd_facts.specs.declared.image.Image.TheVariants.{Same, To}
use Rattle.ucd_facts.specs.Predicates.{category_place, core_properties}
use Rattle.ucd_model.specs.Records.{Record, kept_record}
use Rattle.ucd_facts.specs.Sets.{has_flag, has_core}
use Rattle.ucd_facts.specs.declared.property.Flag.{Flag}
use Rattle.ucd_facts.specs.declared.property.Core.{Core}
use Rattle.ucd_model.specs.declared.records.Record.{Record as KeptRecord}

abbrev pub is_in : List ℕ → ℕ → Bool
is_in xs c = list_any (λ x. x == c) xs

abbrev pub same_image : Image → Image → Bool
same_image Same Same = true
same_image (To a) (To b) = bytes_eq a b
same_image _ _ = false

abbrev pub same_cores : (Core → Bool) → (Core → Bool) → Bool
same_cores f g = list_all (λ core. beq (f core) (g core)) core_properties

abbrev pub same_flags : (Flag → Bool) → (Flag → Bool) → Bool
same_flags f g = list_all (λ flag. beq (f flag) (g flag)) flags

abbrev pub same_record : Record → Record → Bool
same_record R S =
    (category_place R.category == category_place S.category)
    && ((R.class == S.class)
    && ((place_of_kind R.kind == place_of_kind S.kind)
    && (same_cores R.core S.core
    && (beq R.exclusion S.exclusion
    && ((place_of_quick R.nfd == place_of_quick S.nfd)
    && ((place_of_quick R.nfc == place_of_quick S.nfc)
    && ((place_of_quick R.nfkd == place_of_quick S.nfkd)
    && ((place_of_quick R.nfkc == place_of_quick S.nfkc)
    && (same_image R.casefold S.casefold
    && (same_image R.simple_casefold S.simple_casefold
    && beq R.changes_casefold S.changes_casefold))))))))))

abbrev pub same_row : Facts → Facts → Bool
same_row F G =
    beq F.assigned G.assigned
    && ((category_place F.category == category_place G.category)
    && ((F.class == G.class)
    && ((place_of_kind F.kind == place_of_kind G.kind)
    && bytes_eq F.mapping G.mapping)))

abbrev pub same_simple : Facts → Facts → Bool
same_simple F G =
    (F.simple_upper == G.simple_upper)
    && ((F.simple_lower == G.simple_lower)
    && ((F.simple_title == G.simple_title)
    && (F.simple_fold == G.simple_fold)))

abbrev pub same_images : Facts → Facts → Bool
same_images F G =
    same_image F.upper G.upper
    && (same_image F.lower G.lower
    && (same_image F.title G.title
    && same_image F.fold G.fold))

abbrev pub same_marks : Facts → Facts → Bool
same_marks F G =
    same_flags F.flag G.flag
    && (beq F.mid_word G.mid_word
    && beq F.excluded G.excluded)

abbrev pub same_facts : Facts → Facts → Bool
same_facts F G = same_row F G && (same_simple F G && (same_images F G && same_marks F G))

abbrev pub MembersAreTold : Type 0
MembersAreTold = (xs : List ℕ) (c : ℕ) → Decides (is_in xs c) (Contains xs c)

abbrev pub RecordsAreTold : Type 0
RecordsAreTold = (R S : Record) → Decides (same_record R S) (R ≡ S)

abbrev pub FactsAreTold : Type 0
FactsAreTold = (F G : Facts) → Decides (same_facts F G) (F ≡ G)

pub record SetsAreTold : Type 0 where
  pub core : (m n : ℕ) → m < 2 ^ 19 → n < 2 ^ 19 → ((core : Core) → has_core m core ≡ has_core n core) → m ≡ n
  pub flag : (m n : ℕ) → m < 2 ^ 14 → n < 2 ^ 14 → ((flag : Flag) → has_flag m flag ≡ has_flag n flag) → m ≡ n

abbrev pub KeptRecordsAreTold : Type 0
KeptRecordsAreTold = (a b : KeptRecord) → a.core < 2 ^ 19 → b.core < 2 ^ 19 → kept_record a ≡ kept_record b → a ≡ b
