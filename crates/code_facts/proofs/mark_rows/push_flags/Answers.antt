use Rattle.std.proofs.Common.{◌≡◌, ◌||◌, List, take, ap, ◌∙◌, arith}
use Rattle.std.specs.List.{list_any}
use Rattle.std.proofs.lemmas.List.{take_all}
use Rattle.ucd_facts.specs.declared.property.Flag.{Flag}
use Rattle.code_facts.specs.MarkRows.{is_flagged, names_flag}
use Rattle.ucd_facts.specs.Enumerations.{flags}
use Rattle.code_facts.proofs.FlagLemmas.{flags_more, one_flag}
use Rattle.code_facts.proofs.mark_rows.push_flags.Goals as goal

pub flags-preserved : goal.flags-preserved
flags-preserved c flag k = flags_more (names_flag c.args.value.now k c.args.span flag) c.flags.flag-index _ _ _ _ (omega arith) (c.in_ok-push_flag.ensures flag k) (c.flags.invariant flag k)

pub returns : goal.returns
returns c flag k =
    let all : take c.flags.flag-index flags ≡ flags = take_all c.flags.flag-index flags (omega arith) in
    c.flags.invariant flag k ∙ ap (λ (flags : List Flag). list_any (is_flagged flag k) c.args.flagged.now.items || list_any (names_flag c.args.value.now k c.args.span flag) flags) all ∙ ap (λ b. list_any (is_flagged flag k) c.args.flagged.now.items || b) (one_flag c.args.value.now k c.args.span flag)
