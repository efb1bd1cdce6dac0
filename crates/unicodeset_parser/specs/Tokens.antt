-- The tokens of a text. UTS #35, "Unicode Sets".
-- Sign               a token without its place. White space is no part of tokens
--   open negated       `[`, or `[^` for the complement
--   close              `]`
--   dash               a `-` that no `]` follows after white space
--   meet               `&`
--   letter c           a character that stands for itself, an escape, or a `-` that a `]` follows after white space
--   property t         a whole property, with its tree
--   wrong w            what stands in no text
-- Token              a token and the place where it begins, in bytes counted from 0
-- Lexed              a token and how many bytes it takes; of what is wrong the size tells nothing
use Rattle.std.specs.Prelude.{ℕ, Bool}
use Rattle.unicodeset_parser.specs.Trees.{Tree}
use Rattle.unicodeset_parser.specs.declared.token.BadToken.{BadToken}

pub data Sign : Type 0 where
  open_set : Bool → Sign
  close : Sign
  dash : Sign
  meet : Sign
  letter : ℕ → Sign
  property : Tree → Sign
  wrong : BadToken → Sign

pub data Token : Type 0 where
  placed : ℕ → Sign → Token

pub record Lexed : Type 0 where
  pub sign : Sign
  pub size : ℕ

abbrev pub sized : ℕ → Sign → Lexed
sized size sign = record { sign = sign; size = size }
