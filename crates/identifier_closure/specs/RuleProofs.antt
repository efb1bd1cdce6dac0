-- The first rule that a point breaks, step by step.
-- by_missing_row   where a mapping of c has a member without a row, c has V1 in place of its record
-- by_expansion     where it has not, and the expansions of c break a rule, c has that one
-- by_composite     where neither is so, and a lesser composite has the mapping of c, c has V4
-- by_folding       where none of these is so, and the folding rounds of c reach no last one, c has V5
-- by_none          where none at all is so, c has its record
use Rattle.std.proofs.Common.{◌≡◌, ℕ, Bool, true, false, Option, Some, None, Ok, Err, if◌then◌else◌, refl, ap, ◌∙◌}
use Rattle.ucd_facts.specs.Facts.{Facts}
use Rattle.ucd_model.specs.Records.{record_at, record_or_rule, derived}
use Rattle.ucd_model.specs.Validity.{lacks_a_row, is_endless, is_too_long, is_hidden, is_unfolded, broken}
use Rattle.ucd_facts.specs.declared.form.Bad.{Bad as Rule}
use Rattle.ucd_facts.specs.declared.form.Bad.TheVariants.{V1, V2, V3, V4, V5}
use Rattle.identifier_closure.specs.PointForms.{expansion_rule}

abbrev first_of : Option Rule → Option Rule → Option Rule
first_of (Some rule) later = Some rule
first_of None later = later

cut : (a b : Bool) (later : Option Rule) → (if a then Some V2 else (if b then Some V3 else later)) ≡ first_of (if a then Some V2 else (if b then Some V3 else None)) later
cut true b later = refl
cut false true later = refl
cut false false later = refl

broken_is : (F : ℕ → Facts) (c : ℕ) → broken F c ≡ (if lacks_a_row F c then Some V1 else first_of (expansion_rule F c) (if is_hidden F c then Some V4 else (if is_unfolded F c then Some V5 else None)))
unfolding broken
broken_is F c = ap (λ later. if lacks_a_row F c then Some V1 else later) (cut (is_endless F c) (is_too_long F c) (if is_hidden F c then Some V4 else (if is_unfolded F c then Some V5 else None)))

by_rule : (F : ℕ → Facts) (c : ℕ) (rule : Rule) → broken F c ≡ Some rule → derived F c ≡ Err rule
by_rule F c rule e = ap (record_or_rule (record_at F c)) e

pub by_missing_row : (F : ℕ → Facts) (c : ℕ) → lacks_a_row F c ≡ true → derived F c ≡ Err V1
by_missing_row F c lacks = by_rule F c V1 (broken_is F c ∙ rw lacks refl)

pub by_expansion : (F : ℕ → Facts) (c : ℕ) (rule : Rule) → lacks_a_row F c ≡ false → expansion_rule F c ≡ Some rule → derived F c ≡ Err rule
by_expansion F c rule lacks e = by_rule F c rule (broken_is F c ∙ rw (lacks, e) refl)

pub by_composite : (F : ℕ → Facts) (c : ℕ) → lacks_a_row F c ≡ false → expansion_rule F c ≡ None → is_hidden F c ≡ true → derived F c ≡ Err V4
by_composite F c lacks e hidden = by_rule F c V4 (broken_is F c ∙ rw (lacks, e, hidden) refl)

pub by_folding : (F : ℕ → Facts) (c : ℕ) → lacks_a_row F c ≡ false → expansion_rule F c ≡ None → is_hidden F c ≡ false → is_unfolded F c ≡ true → derived F c ≡ Err V5
by_folding F c lacks e hidden unfolded = by_rule F c V5 (broken_is F c ∙ rw (lacks, e, hidden, unfolded) refl)

pub by_none : (F : ℕ → Facts) (c : ℕ) → lacks_a_row F c ≡ false → expansion_rule F c ≡ None → is_hidden F c ≡ false → is_unfolded F c ≡ false → derived F c ≡ Ok (record_at F c)
by_none F c lacks e hidden unfolded =
    let none : broken F c ≡ None = broken_is F c ∙ rw (lacks, e, hidden, unfolded) refl in
    ap (record_or_rule (record_at F c)) none
