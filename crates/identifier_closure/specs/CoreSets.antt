-- The core properties of a code point, from its facts and from what its forms tell.
-- core_given c G told p    whether c with the facts G has the property p, where `told` has what follows from its forms
-- HasBelow set at p        of the properties at places below `at`, the set has those that pass p, and no others
use Rattle.std.specs.Prelude.{◌≡◌, ℕ, Bool, ◌&&◌, nat_lt}
use Rattle.ucd_facts.specs.Facts.{Facts}
use Rattle.ucd_facts.specs.Predicates.{holds}
use Rattle.ucd_facts.specs.Sets.{has_core, core_place}
use Rattle.ucd_facts.specs.declared.property.Core.{Core}
use Rattle.ucd_facts.specs.declared.property.Core.TheVariants.{ChangesWhenLowercased, ChangesWhenUppercased, ChangesWhenTitlecased, ChangesWhenCasefolded, ChangesWhenCasemapped, XidStart, XidContinue}
use Rattle.identifier_closure.specs.declared.predicates.ToldByForms.{ToldByForms}

abbrev pub core_given : ℕ → Facts → ToldByForms → Core → Bool
core_given c G told ChangesWhenLowercased = told.changes.lowered
core_given c G told ChangesWhenUppercased = told.changes.uppered
core_given c G told ChangesWhenTitlecased = told.changes.titled
core_given c G told ChangesWhenCasefolded = told.changes.folded
core_given c G told ChangesWhenCasemapped = told.changes.mapped
core_given c G told XidStart = told.xid_start
core_given c G told XidContinue = told.xid_continue
core_given c G told core = holds core c G

abbrev pub HasBelow : ℕ → ℕ → (Core → Bool) → Type 0
HasBelow set at p = (core : Core) → has_core set core ≡ (nat_lt (core_place core) at && p core)
