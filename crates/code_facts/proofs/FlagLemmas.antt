-- The flags whose name a value is.
use Rattle.std.proofs.Common.{◌≡◌, ℕ, ◌+◌, ◌<◌, Bool, ◌||◌, ◌&&◌, List, take, get_or, sym, ap, ◌∙◌}
use Rattle.std.specs.List.{list_any}
use Rattle.std.specs.Str.{bytes_eq}
use Rattle.std.proofs.lemmas.List.Folds.{list_any_more}
use Rattle.std.proofs.Math.Bool.{or_assoc, or-false}
use Rattle.ucd_points.specs.Bounds.{Bounds}
use Rattle.ucd_facts.specs.Facts.{within}
use Rattle.ucd_facts.specs.Names.{flag_name}
use Rattle.ucd_facts.specs.declared.property.Flag.{Flag}
use Rattle.ucd_facts.specs.declared.property.Flag.TheVariants.{WhiteSpace, OtherMath, OtherLowercase, OtherUppercase, OtherAlphabetic, OtherIdStart, OtherIdContinue, PatternSyntax, PatternWhiteSpace, OtherDefaultIgnorableCodePoint, VariationSelector, PrependedConcatenationMark, OtherGraphemeExtend, NoncharacterCodePoint}
use Rattle.code_facts.specs.MarkRows.{names_flag}
use Rattle.ucd_facts.specs.Enumerations.{flags}

-- one more flag behind those so far
pub flags_more : (p : Flag → Bool) (i : ℕ) (d : Flag) (old new was : Bool) → i < 14 → new ≡ (was || p (get_or flags i d)) → was ≡ (old || list_any p (take i flags)) → new ≡ (old || list_any p (take (i + 1) flags))
flags_more p i d old new was lt is before =
    is ∙ ap (λ b. b || p (get_or flags i d)) before ∙ or_assoc old (list_any p (take i flags)) (p (get_or flags i d)) ∙ ap (λ b. old || b) (sym (list_any_more p flags i d lt))

-- among all flags the flag itself is the one that counts
pub one_flag : (value : List ℕ) (c : ℕ) (span : Bounds) (flag : Flag) → list_any (names_flag value c span flag) flags ≡ (bytes_eq value (flag_name flag) && within c span)
one_flag value c span WhiteSpace = or-false (bytes_eq value (flag_name WhiteSpace) && within c span)
one_flag value c span OtherMath = or-false (bytes_eq value (flag_name OtherMath) && within c span)
one_flag value c span OtherLowercase = or-false (bytes_eq value (flag_name OtherLowercase) && within c span)
one_flag value c span OtherUppercase = or-false (bytes_eq value (flag_name OtherUppercase) && within c span)
one_flag value c span OtherAlphabetic = or-false (bytes_eq value (flag_name OtherAlphabetic) && within c span)
one_flag value c span OtherIdStart = or-false (bytes_eq value (flag_name OtherIdStart) && within c span)
one_flag value c span OtherIdContinue = or-false (bytes_eq value (flag_name OtherIdContinue) && within c span)
one_flag value c span PatternSyntax = or-false (bytes_eq value (flag_name PatternSyntax) && within c span)
one_flag value c span PatternWhiteSpace = or-false (bytes_eq value (flag_name PatternWhiteSpace) && within c span)
one_flag value c span OtherDefaultIgnorableCodePoint = or-false (bytes_eq value (flag_name OtherDefaultIgnorableCodePoint) && within c span)
one_flag value c span VariationSelector = or-false (bytes_eq value (flag_name VariationSelector) && within c span)
one_flag value c span PrependedConcatenationMark = or-false (bytes_eq value (flag_name PrependedConcatenationMark) && within c span)
one_flag value c span OtherGraphemeExtend = or-false (bytes_eq value (flag_name OtherGraphemeExtend) && within c span)
one_flag value c span NoncharacterCodePoint = or-false (bytes_eq value (flag_name NoncharacterCodePoint) && within c span)
