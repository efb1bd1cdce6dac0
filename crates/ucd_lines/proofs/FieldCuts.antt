-- The first field and the fields behind it.
use Rattle.std.proofs.Common.{◌≡◌, ℕ, ◌+◌, ◌-◌, ◌<◌, ◌≤◌, List, [], ◌∷◌, length, take, drop, map, refl, ap, arith}
use Rattle.std.specs.List.{slice_split, position_or_len}
use Rattle.std.proofs.lemmas.List.{take_all, length-drop, length-map}
use Rattle.std.proofs.lemmas.List.Splits.{slice_split_first, length-slice_split}
use Rattle.std.proofs.lemmas.List.Sums.{count_by-le-length}
use Rattle.ucd_points.specs.Fields.{trim, is_semicolon}
use Rattle.ucd_lines.specs.Cuts.{split_whole}

pub last_field : (text : List ℕ) → position_or_len is_semicolon text ≡ length text → map trim (slice_split is_semicolon text) ≡ trim text ∷ []
last_field text h = rw (split_whole is_semicolon text (omega arith)) refl

pub field_before : (text : List ℕ) (at : ℕ) → position_or_len is_semicolon text ≡ at → at < length text → map trim (slice_split is_semicolon text) ≡ trim (take at text) ∷ map trim (slice_split is_semicolon (take (length text - (at + 1)) (drop (at + 1) text)))
field_before text at e h = rw (take_all (length text - (at + 1)) (drop (at + 1) text) (omega (arith, length-drop (at + 1) text)), ← e) (ap (map trim) (slice_split_first is_semicolon text 0 (omega arith)))

pub few_fields : (text : List ℕ) → length (map trim (slice_split is_semicolon text)) ≤ length text + 1
few_fields text = omega (arith, length-map (slice_split is_semicolon text) trim, length-slice_split is_semicolon text, count_by-le-length is_semicolon text)
