-- Large numbers, which stay names in clauses.
-- point_count   the number of code points: 10FFFF and one. The Unicode Standard, section 2.4
-- file_limit    the greatest number of bytes of a source file
use Rattle.std.specs.Prelude.{ℕ}

unfoldable pub point_count : ℕ
point_count = 1114112

unfoldable pub file_limit : ℕ
file_limit = 33554432
