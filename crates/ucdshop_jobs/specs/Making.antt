-- The release that `make` makes, and what its summary counts.
-- number_limit             the greatest number that a release is made of
-- limited n                the number, where it is from 1 to the limit
-- number_of word           the number from 1 to the limit that one or two digits write without a leading zero; None for all other
--                          words
-- IsInRange number         the number, where there is one, is from 1 to 50
-- data_rows files          how many rows UnicodeData.txt has among these files
-- casefolds files          how many code points the section NFKC_CF lists over these files
-- made_counts n rows s     what the summary counts of the release that is made of n, whose UnicodeData.txt has so many rows, after a
--                          session
-- numbers_are_read         the decimal digits of each number from 1 to the limit write it
-- no_numbers               words that write no such number
use Rattle.std.proofs.Common.{◌≡◌, ◌≤◌, ℕ, ◌+◌, ◌-◌, ◌*◌, ◌&&◌, List, [], ◌∷◌, length, map, Option, Some, None, nat_le, nat_lt, if◌then◌else◌, codes, refl}
use Rattle.std.specs.Bool.{⊤}
use Rattle.std.specs.Fmt.{decimal, digits}
use Rattle.std.specs.List.{range_with_len}
use Rattle.release_rows.specs.FileItems.{FileItem, rows_in}
use Rattle.release_rows.specs.Releases.{items_at}
use Rattle.edit_session.specs.Groups.{files_facts}
use Rattle.ucd_model.specs.DerivedFiles.{casefold_listing}
use Rattle.ucd_points.specs.Fields.{is_digit}
use Rattle.ucd_model.specs.Labels.{labelled}
use Rattle.ucd_points.specs.Limits.{point_count}
use Rattle.ucd_model.specs.Records.{record_at}
use Rattle.ucd_points.specs.declared.files.SourceFile.TheVariants.{UnicodeData}
use Rattle.ucdshop_jobs.specs.Printed.{MadeCounts}
use Rattle.ucdshop_jobs.specs.Session.{Session}

-- ---- the number

abbrev pub number_limit : ℕ
number_limit = 50

abbrev pub limited : ℕ → Option ℕ
limited n = if nat_le 1 n && nat_le n number_limit then Some n else None

abbrev pub number_of : List ℕ → Option ℕ
number_of (a ∷ []) = if is_digit a then limited (a - 48) else None
number_of (a ∷ b ∷ []) = if (is_digit a && is_digit b) && nat_lt 48 a then limited (10 * (a - 48) + (b - 48)) else None
number_of _ = None

abbrev pub IsInRange : Option ℕ → Type 0
IsInRange None = ⊤
IsInRange (Some n) = (1 ≤ n) × (n ≤ 50)

-- ---- the counts

abbrev pub data_rows : List (List FileItem) → ℕ
data_rows files = length (rows_in (items_at files UnicodeData))

abbrev pub casefolds : List (List FileItem) → ℕ
casefolds files = labelled point_count (λ c. casefold_listing.label (record_at (files_facts files) c))

abbrev pub made_counts : ℕ → ℕ → Session → MadeCounts
made_counts n rows s = record { number = n; rows = rows; accepted = s.accepted; changed = s.changed; casefolds = casefolds s.files }

-- ---- examples

numbers_are_read : map (λ n. number_of (decimal n)) (range_with_len 1 50) ≡ map (λ n. Some n) (range_with_len 1 50)
unfolding digits
numbers_are_read = refl

no_numbers : map number_of (codes "" ∷ codes "0" ∷ codes "01" ∷ codes "51" ∷ codes "99" ∷ codes "1a" ∷ codes "+1" ∷ codes "050" ∷ codes "100" ∷ [])
    ≡ None ∷ None ∷ None ∷ None ∷ None ∷ None ∷ None ∷ None ∷ None ∷ []
no_numbers = refl
