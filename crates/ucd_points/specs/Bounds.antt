-- Spans of code points, as contracts see them. UAX #44, section 4.2.3.
-- Bounds       the code points from lo to hi, both of them in it; none where hi is less than lo
-- within c s   c lies in the span s: not below its first code point, and not above its last
use Rattle.std.specs.Prelude.{ℕ, Bool, ◌&&◌, nat_le}

pub record Bounds : Type 0 where
  pub lo : ℕ
  pub hi : ℕ

abbrev pub within : ℕ → Bounds → Bool
within c s = nat_le s.lo c && nat_le c s.hi
