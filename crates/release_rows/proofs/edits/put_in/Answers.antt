use Rattle.std.proofs.Common.{ℕ, map, subst, ◌∙◌, ap, sym}
use Rattle.std.proofs.lemmas.List.Elements.{All-get_or}
use Rattle.std.proofs.lemmas.Result.{on_ok_weaker}
use Rattle.part_list.specs.Parts.{next_in, place}
use Rattle.part_list.specs.SpotLaws.{place-lt}
use Rattle.release_rows.specs.Gaps.{IsGapAt}
use Rattle.release_rows.specs.Operations.{put_in}
use Rattle.release_rows.specs.StoredItems.{IsStored, stored_at}
use Rattle.release_rows.specs.declared.edits.Gap.{Gap}
use Rattle.release_rows.proofs.Puts.{each_put, put_behind}
use Rattle.release_rows.proofs.edits.put_in.Goals as goal

pub returns-in-Behind-clause-ok : goal.returns-in-Behind-clause-ok
returns-in-Behind-clause-ok c file text n at =
    let old = c.args.items.now in
    let spot = c.in-Behind.spot in
    let gap = subst (λ (g : Gap). IsGapAt g n old.next) c.in-Behind.is at in
    on_ok_weaker c.replace_and_insert.result (λ put. put_behind (stored_at file text) (next_in old) (next_in c.replace_and_insert.new.self) (place old.next spot) c.get.result c.with_line_end-ended.result c.args.entry (place-lt old.next spot gap.0) c.get.ensures (c.with_line_end-ended.ensures.item file text) put ∙ ap (λ (m : ℕ). put_in (map (stored_at file text) (next_in old)) m (stored_at file text c.args.entry)) gap.1) c.replace_and_insert.ensures.ok

pub returns-in-Behind-clause-each : goal.returns-in-Behind-clause-each
returns-in-Behind-clause-each c file text all one =
    let old = c.args.items.now in
    let spot = c.in-Behind.spot in
    let n = c.requires.0 in
    let gap = subst (λ (g : Gap). IsGapAt g n old.next) c.in-Behind.is c.requires.1 in
    let found = subst (IsStored file text) (sym c.get.ensures) (All-get_or (IsStored file text) (next_in old) (place old.next spot) c.get.result (place-lt old.next spot gap.0) all) in
    on_ok_weaker c.replace_and_insert.result (λ put. each_put (IsStored file text) (next_in old) (next_in c.replace_and_insert.new.self) (place old.next spot) c.with_line_end-ended.result c.args.entry all (c.with_line_end-ended.ensures.stored file text found) one put) c.replace_and_insert.ensures.ok
