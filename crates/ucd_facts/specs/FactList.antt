-- Facts that are kept in a list.
-- kept_facts k                  the facts that a value keeps
-- facts_or_unassigned c entry   the facts of the entry that was found; where there is none, those of c without a row
-- facts_in entries c            the facts of c: those of the first entry of c, and without one those of no row
use Rattle.std.specs.Prelude.{ℕ, List, Option, Some, None, ◌==◌, find}
use Rattle.ucd_facts.specs.Facts.{Facts, unassigned}
use Rattle.ucd_facts.specs.Sets.{has_flag}
use Rattle.ucd_facts.specs.declared.facts.Facts.{Facts as KeptFacts}

abbrev pub kept_facts : KeptFacts → Facts
kept_facts k = record {
  assigned = k.assigned;
  category = k.category;
  class = k.class;
  kind = k.kind;
  mapping = k.mapping;
  simple_upper = k.simple_upper;
  simple_lower = k.simple_lower;
  simple_title = k.simple_title;
  simple_fold = k.simple_fold;
  upper = k.upper;
  lower = k.lower;
  title = k.title;
  fold = k.fold;
  flag = has_flag k.flags;
  mid_word = k.mid_word;
  excluded = k.excluded;
}

abbrev pub facts_or_unassigned : ℕ → Option (ℕ × KeptFacts) → Facts
facts_or_unassigned c (Some entry) = kept_facts entry.1
facts_or_unassigned c None = unassigned c

abbrev pub facts_in : List (ℕ × KeptFacts) → ℕ → Facts
facts_in entries c = facts_or_unassigned c (find (λ entry. entry.0 == c) entries)
