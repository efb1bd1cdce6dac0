-- What is derived of a code point: one record for each, from which the derived files are written. UAX #44, section 5.3.
-- Record               the values of a code point's derived properties
-- kept_record k        the record that a value keeps
-- core_at F c p        whether c has the core property p
-- changes_image c i     the image is not c alone
-- record_at F c        the values of c, where F gives the facts of each code point: category, class and kind are those of its
--                      facts. What needs a form or a folding of c that is not there is absent, Yes, or c itself
-- record_or_rule R b    R where there is no rule, else the rule
-- derived F c          the record of c, or in its place the first rule of a valid release that c breaks
use Rattle.std.specs.Prelude.{ℕ, Bool, not, [], ◌∷◌, Option, Some, None, Result, Ok, Err, bytes_eq}
use Rattle.ucd_model.specs.Casing.{lowers, uppers, titles, folds, casemaps, changes_when}
use Rattle.ucd_facts.specs.Facts.{Facts, image_points}
use Rattle.ucd_facts.specs.declared.decomposition.Kind.{Kind}
use Rattle.ucd_facts.specs.declared.image.Image.{Image}
use Rattle.ucd_model.specs.FoldRounds.{casefold_image, image_or_same}
use Rattle.ucd_model.specs.Identifiers.{xid_start, xid_continue}
use Rattle.ucd_facts.specs.Predicates.{holds}
use Rattle.ucd_model.specs.QuickChecks.{full_exclusion, quick, quick_or_yes}
use Rattle.ucd_facts.specs.Sets.{has_core}
use Rattle.ucd_facts.specs.declared.category.Category.{Category}
use Rattle.ucd_facts.specs.declared.form.Quick.{Quick}
use Rattle.ucd_model.specs.Validity.{broken}
use Rattle.ucd_facts.specs.declared.form.Bad.{Bad as Rule}
use Rattle.ucd_facts.specs.declared.folding.Folding.TheVariants.{Full, Simple}
use Rattle.ucd_facts.specs.declared.form.Form.TheVariants.{Nfd, Nfc, Nfkd, Nfkc}
use Rattle.ucd_facts.specs.declared.property.Core.{Core}
use Rattle.ucd_facts.specs.declared.property.Core.TheVariants.{Math, Alphabetic, Lowercase, Uppercase, Cased, CaseIgnorable, ChangesWhenLowercased, ChangesWhenUppercased, ChangesWhenTitlecased, ChangesWhenCasefolded, ChangesWhenCasemapped, IdStart, IdContinue, XidStart, XidContinue, DefaultIgnorableCodePoint, GraphemeExtend, GraphemeBase, GraphemeLink}
use Rattle.ucd_model.specs.declared.records.Record.{Record as KeptRecord}

pub record Record : Type 0 where
  pub category : Category
  pub class : ℕ
  pub kind : Kind
  pub core : Core → Bool
  pub exclusion : Bool
  pub nfd : Quick
  pub nfc : Quick
  pub nfkd : Quick
  pub nfkc : Quick
  pub casefold : Image
  pub simple_casefold : Image
  pub changes_casefold : Bool

abbrev pub kept_record : KeptRecord → Record
kept_record k = record {
  category = k.category;
  class = k.class;
  kind = k.kind;
  core = has_core k.core;
  exclusion = k.exclusion;
  nfd = k.nfd;
  nfc = k.nfc;
  nfkd = k.nfkd;
  nfkc = k.nfkc;
  casefold = k.casefold;
  simple_casefold = k.simple_casefold;
  changes_casefold = k.changes_casefold;
}

abbrev pub core_at : (ℕ → Facts) → ℕ → Core → Bool
core_at F c ChangesWhenLowercased = changes_when lowers F c
core_at F c ChangesWhenUppercased = changes_when uppers F c
core_at F c ChangesWhenTitlecased = changes_when titles F c
core_at F c ChangesWhenCasefolded = changes_when folds F c
core_at F c ChangesWhenCasemapped = changes_when casemaps F c
core_at F c XidStart = xid_start F c
core_at F c XidContinue = xid_continue F c
core_at F c Math = holds Math c (F c)
core_at F c Alphabetic = holds Alphabetic c (F c)
core_at F c Lowercase = holds Lowercase c (F c)
core_at F c Uppercase = holds Uppercase c (F c)
core_at F c Cased = holds Cased c (F c)
core_at F c CaseIgnorable = holds CaseIgnorable c (F c)
core_at F c IdStart = holds IdStart c (F c)
core_at F c IdContinue = holds IdContinue c (F c)
core_at F c DefaultIgnorableCodePoint = holds DefaultIgnorableCodePoint c (F c)
core_at F c GraphemeExtend = holds GraphemeExtend c (F c)
core_at F c GraphemeBase = holds GraphemeBase c (F c)
core_at F c GraphemeLink = holds GraphemeLink c (F c)

abbrev pub changes_image : ℕ → Image → Bool
changes_image c i = not (bytes_eq (image_points c i) (c ∷ []))

abbrev pub record_at : (ℕ → Facts) → ℕ → Record
record_at F c = record {
  category = (F c).category;
  class = (F c).class;
  kind = (F c).kind;
  core = core_at F c;
  exclusion = full_exclusion F c;
  nfd = quick_or_yes (quick F Nfd c);
  nfc = quick_or_yes (quick F Nfc c);
  nfkd = quick_or_yes (quick F Nfkd c);
  nfkc = quick_or_yes (quick F Nfkc c);
  casefold = image_or_same (casefold_image Full F c);
  simple_casefold = image_or_same (casefold_image Simple F c);
  changes_casefold = changes_image c (image_or_same (casefold_image Full F c));
}

abbrev pub record_or_rule : Record → Option Rule → Result Record Rule
record_or_rule R None = Ok R
record_or_rule R (Some rule) = Err rule

abbrev pub derived : (ℕ → Facts) → ℕ → Result Record Rule
derived F c = record_or_rule (record_at F c) (broken F c)
