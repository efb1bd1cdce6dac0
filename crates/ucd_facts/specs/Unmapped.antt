-- Code points that are their own images.
-- is_same i       the image is Same
-- is_unchanged_by_casing F   a point with the facts F is its own image by each of the three case mappings, and by the folding
use Rattle.std.specs.Prelude.{ℕ, Bool, true, false, ◌&&◌}
use Rattle.ucd_facts.specs.Facts.{Facts, Image, Same, To}

abbrev pub is_same : Image → Bool
is_same Same = true
is_same (To points) = false

abbrev pub is_unchanged_by_casing : Facts → Bool
is_unchanged_by_casing F = is_same F.lower && (is_same F.upper && (is_same F.title && is_same F.fold))
