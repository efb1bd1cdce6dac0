-- The text of one code point or more: the first, and the others behind a space each.
use Rattle.std.proofs.Common.{◌≡◌, ℕ, ◌-◌, ◌≤◌, ◌<◌, List, [], ◌∷◌, ◌++◌, length, take, drop, get_or, arith, refl, codes, take_all}
use Rattle.ucd_points.specs.HexText.{hex_text}
use Rattle.ucd_facts.specs.RowTexts.{spaced}
use Rattle.ucd_facts.specs.RowTextLemmas.{mapping_text-is}
use Rattle.record_lines.specs.Values.{points_value}

-- the points behind the first one
abbrev behind : List ℕ → List ℕ
behind cs = take (length cs - 1) (drop 1 cs)

behind_is : (c : ℕ) (cs : List ℕ) → behind (c ∷ cs) ≡ cs
behind_is c cs = take_all (length (c ∷ cs) - 1) cs (omega arith)

pub points_from : (cs : List ℕ) (c : ℕ) → 1 ≤ length cs → c ≡ get_or cs 0 c → points_value cs ≡ hex_text c ++ spaced (behind cs)
points_from [] c some first = absurd (omega arith)
points_from (d ∷ ds) c some first = rw (behind_is d ds, first) (mapping_text-is d ds)

pub no_points : (cs : List ℕ) → length cs < 1 → points_value cs ≡ codes "<none>"
no_points [] none = refl
no_points (c ∷ cs) none = absurd (omega arith)
