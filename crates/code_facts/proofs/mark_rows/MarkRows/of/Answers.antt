use Rattle.std.proofs.Common.{sym, subst}
use Rattle.release_rows.specs.ValuesApart.{AreValuesApart}
use Rattle.code_facts.proofs.mark_rows.MarkRows.of.Goals as goal

pub mid_words_of-requires : goal.mid_words_of-requires
mid_words_of-requires c = subst AreValuesApart (sym c.deref-2.ensures.value) c.requires
