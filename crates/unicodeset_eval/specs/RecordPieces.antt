-- Pieces of equal records, as tests read them.
-- values_record v          the record with these values, and with each code point itself for its NFKC_Casefold and
--                          NFKC_Simple_Casefold
-- unfolded R               the record R, but so: no test asks for one of these
-- unfolded_of R            the records of R, each so
-- PieceValue               where a piece begins, and the record of its code points
-- piece_value p            a piece that the code holds
-- piece_at R s             the piece of the span s, throughout which the records of R are the same but for what is unfolded
-- AreCutTo R n pieces      the pieces are those of a cut of the code points before n into such spans
-- AreCut R pieces          the same of all code points
-- ArePiecesOf pieces R     these are such pieces
-- SaysAs gives f           what a call gives for values is what f says of their record
-- at_first f ps            what f says of the first piece
-- piece_turns n f b ps     the numbers at which f turns, over pieces; b is what it is before them, and from n on it is false
-- tells_unfolded           no test asks for an NFKC_Casefold
-- piece_turns_are          pieces of a cut turn where the spans do
-- at_first_is              the first piece of a cut begins at 0
use Rattle.std.proofs.Common.{◌≡◌, ℕ, ◌<◌, Bool, false, List, [], ◌∷◌, map, refl, ap, ◌∙◌, arith}
use Rattle.std.specs.Borrow.{Bor}
use Rattle.ucd_points.specs.Bounds.{Bounds}
use Rattle.ucd_model.specs.Cuts.{IsCut}
use Rattle.ucd_points.specs.Limits.{point_count}
use Rattle.ucd_model.specs.Records.{Record}
use Rattle.ucd_facts.specs.Sets.{has_core}
use Rattle.ucd_facts.specs.declared.form.Form.{Form}
use Rattle.ucd_facts.specs.declared.form.Form.TheVariants.{Nfd, Nfc, Nfkd, Nfkc}
use Rattle.ucd_facts.specs.declared.image.Image.TheVariants.{Same}
use Rattle.property_aliases.specs.declared.property.Test.{Test}
use Rattle.property_aliases.specs.declared.property.Test.TheVariants as test
use Rattle.unicodeset_eval.specs.Found.{passes_test}
use Rattle.unicodeset_eval.specs.Merges.{emit}
use Rattle.unicodeset_eval.specs.PieceSets.{piece_edges}
use Rattle.unicodeset_eval.specs.declared.record_pieces.RecordRun.{RecordRun}
use Rattle.unicodeset_eval.specs.declared.record_pieces.PropertyValues.{PropertyValues}
use Rattle.unicodeset_eval.specs.declared.record_pieces.RecordPieces.{RecordPieces}

abbrev pub values_record : PropertyValues → Record
values_record v = record {
  category = v.category;
  class = v.class;
  kind = v.kind;
  core = has_core v.core;
  exclusion = v.exclusion;
  nfd = v.nfd;
  nfc = v.nfc;
  nfkd = v.nfkd;
  nfkc = v.nfkc;
  casefold = Same;
  simple_casefold = Same;
  changes_casefold = v.changes_casefold;
}

abbrev pub unfolded : Record → Record
unfolded R = record R { casefold = Same; simple_casefold = Same }

abbrev pub unfolded_of : (ℕ → Record) → ℕ → Record
unfolded_of R c = unfolded (R c)

pub record PieceValue : Type 0 where
  pub first : ℕ
  pub values : Record

abbrev pub piece_value : RecordRun → PieceValue
piece_value p = record { first = p.first; values = values_record p.values }

abbrev pub piece_at : (ℕ → Record) → Bounds → PieceValue
piece_at R s = record { first = s.lo; values = unfolded (R s.lo) }

pub record AreCutTo (R : ℕ → Record) (n : ℕ) (pieces : List RecordRun) : Type 0 where
  pub spans : List Bounds
  pub cut : IsCut (unfolded_of R) 0 n spans
  pub are : map piece_value pieces ≡ map (piece_at R) spans

abbrev pub AreCut : (ℕ → Record) → List RecordRun → Type 0
AreCut R pieces = AreCutTo R point_count pieces

abbrev pub ArePiecesOf : RecordPieces → (ℕ → Record) → Type 0
ArePiecesOf pieces R = AreCut R pieces.pieces.items

abbrev pub SaysAs : (Bor PropertyValues → Bool → Type 0) → (Record → Bool) → Type 0
SaysAs gives f = (shown : Bor PropertyValues) (said : Bool) → gives shown said → said ≡ f (values_record shown.now)

abbrev pub at_first : (Record → Bool) → List PieceValue → Bool
at_first f [] = false
at_first f (p ∷ ps) = f p.values

abbrev pub piece_turns : ℕ → (Record → Bool) → Bool → List PieceValue → List ℕ
piece_turns n f b [] = emit b false n []
piece_turns n f b (p ∷ ps) = emit b (f p.values) p.first (piece_turns n f (f p.values) ps)

-- ---- what holds of them

quick_unfolded : (form : Form) (value : _) (R : Record) → passes_test (test.Quick form value) (unfolded R) ≡ passes_test (test.Quick form value) R
quick_unfolded Nfd value R = refl
quick_unfolded Nfc value R = refl
quick_unfolded Nfkd value R = refl
quick_unfolded Nfkc value R = refl

pub tells_unfolded : (t : Test) (R : Record) → passes_test t (unfolded R) ≡ passes_test t R
tells_unfolded test.Any R = refl
tells_unfolded test.Ascii R = refl
tells_unfolded test.Assigned R = refl
tells_unfolded (test.Group group) R = refl
tells_unfolded (test.Category category) R = refl
tells_unfolded (test.Script number) R = refl
tells_unfolded (test.Class class) R = refl
tells_unfolded (test.Decomposition kind) R = refl
tells_unfolded (test.WordBreak number) R = refl
tells_unfolded (test.Quick form value) R = quick_unfolded form value R
tells_unfolded (test.Core core wanted) R = refl
tells_unfolded (test.Exclusion wanted) R = refl
tells_unfolded (test.ChangesCasefold wanted) R = refl
tells_unfolded (test.Listed number wanted) R = refl

module _ (R : ℕ → Record) (f : Record → Bool) (same : (r : Record) → f (unfolded r) ≡ f r) where
  pub piece_turns_are : (n : ℕ) (b : Bool) (spans : List Bounds) → piece_turns n f b (map (piece_at R) spans) ≡ piece_edges n (λ c. f (R c)) b spans
  piece_turns_are n b [] = refl
  piece_turns_are n b (s ∷ rest) =
      ap (λ next. emit b next s.lo (piece_turns n f next (map (piece_at R) rest))) (same (R s.lo))
      ∙ ap (λ edges. emit b (f (R s.lo)) s.lo edges) (piece_turns_are n (f (R s.lo)) rest)

  pub at_first_is : (n : ℕ) (spans : List Bounds) → IsCut (unfolded_of R) 0 n spans → 0 < n → at_first f (map (piece_at R) spans) ≡ f (R 0)
  at_first_is n [] cut some = absurd (omega (arith, cut))
  at_first_is n (s ∷ rest) cut some = same (R s.lo) ∙ ap (λ c. f (R c)) cut.0
