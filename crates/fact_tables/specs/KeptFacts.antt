-- The facts that are kept as words and rests.
--
-- full_image c simple points   the image of c: under the points where they are there, else under the simple image
-- kept_at c word rest          the facts of c that its word and its rest keep
-- all_kept words rests         the facts of all numbers: past the code points those of one without a row
-- Packs words F                the word of each code point is the packed word of its facts F
use Rattle.std.specs.Prelude.{◌≡◌, ℕ, ◌<◌, List, [], ◌∷◌, Option, Some, None, unwrap_or, nat_lt, if◌then◌else◌}
use Rattle.ucd_points.specs.Limits.{point_count}
use Rattle.ucd_facts.specs.Sets.{has_flag}
use Rattle.ucd_facts.specs.Facts.{Facts, unassigned, image, only_or}
use Rattle.ucd_facts.specs.declared.image.Image.{Image}
use Rattle.fact_tables.specs.Word.{assigned_of_word, excluded_of_word, mid_word_of_word, category_of_word, class_of_word, kind_of_word, flags_of_word, packed}
use Rattle.fact_tables.specs.Rest.{RestOf}

abbrev pub full_image : ℕ → ℕ → Option (List ℕ) → Image
full_image c simple (Some points) = image c points
full_image c simple None = image c (simple ∷ [])

abbrev pub kept_at : ℕ → ℕ → RestOf → Facts
kept_at c word rest =
    let upper = only_or c rest.upper in
    let lower = only_or c rest.lower in
    let title = only_or upper rest.title in
    record {
      assigned = assigned_of_word word;
      category = category_of_word word;
      class = class_of_word word;
      kind = kind_of_word word;
      mapping = rest.mapping;
      simple_upper = upper;
      simple_lower = lower;
      simple_title = title;
      simple_fold = only_or c (unwrap_or rest.cases.simple (unwrap_or rest.cases.common []));
      upper = full_image c upper rest.cases.upper;
      lower = full_image c lower rest.cases.lower;
      title = full_image c title rest.cases.title;
      fold = image c (unwrap_or rest.cases.full (unwrap_or rest.cases.common (c ∷ [])));
      flag = has_flag (flags_of_word word);
      mid_word = mid_word_of_word word;
      excluded = excluded_of_word word;
    }

unfoldable pub all_kept : (ℕ → ℕ) → (ℕ → RestOf) → ℕ → Facts
all_kept words rests c = if nat_lt c point_count then kept_at c (words c) (rests c) else unassigned c

abbrev pub Packs : (ℕ → ℕ) → (ℕ → Facts) → Type 0
Packs words F = (c : ℕ) → c < 1114112 → words c ≡ packed (F c)
