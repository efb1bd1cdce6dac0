-- Code points without a mapping, and code points whose other facts are the same. UAX #44, sections 5.6 and 5.7.
-- IsPlain c G        by its facts G the code point c has no mapping: no decomposition, and every image is c itself
-- Alike G H          the facts are the same but for the mapping and what the case mappings and foldings give
-- Uniform F c d      d has no mapping, its other facts are those of c, and it is the second member of a primary composite's
--                    mapping exactly where c is
use Rattle.std.specs.Prelude.{◌≡◌, ℕ, []}
use Rattle.ucd_facts.specs.Facts.{Facts, Same}
use Rattle.ucd_facts.specs.Composites.{second_of}

pub record IsPlain (c : ℕ) (G : Facts) : Type 0 where
  pub mapping : G.mapping ≡ []
  pub simple_upper : G.simple_upper ≡ c
  pub simple_lower : G.simple_lower ≡ c
  pub simple_title : G.simple_title ≡ c
  pub simple_fold : G.simple_fold ≡ c
  pub upper : G.upper ≡ Same
  pub lower : G.lower ≡ Same
  pub title : G.title ≡ Same
  pub fold : G.fold ≡ Same

pub record Alike (G H : Facts) : Type 0 where
  pub assigned : G.assigned ≡ H.assigned
  pub category : G.category ≡ H.category
  pub class : G.class ≡ H.class
  pub kind : G.kind ≡ H.kind
  pub flag : G.flag ≡ H.flag
  pub mid_word : G.mid_word ≡ H.mid_word
  pub excluded : G.excluded ≡ H.excluded

pub record Uniform (F : ℕ → Facts) (c d : ℕ) : Type 0 where
  pub plain : IsPlain d (F d)
  pub alike : Alike (F d) (F c)
  pub second : second_of F d ≡ second_of F c
