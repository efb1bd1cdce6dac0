use Rattle.std.proofs.Common.{ap, sym, ◌∙◌, cond, leb, ◌&&◌, arith}
use Rattle.std.proofs.lemmas.Bool.{eqb-true, eqb-false, eq-eqb, ne_eqb, true≢false}
use Rattle.page_pool.specs.Pool.{word_of}
use Rattle.paged_table.specs.Blocks.{value_of}
use Rattle.paged_table.proofs.Parts.{outside_from_even}
use Rattle.paged_table.proofs.part.put_part.Goals as goal

pub returns-clause-puts : goal.returns-clause-puts
returns-clause-puts c =
    let page = c.own_page-page.result in
    let own = c.own_page-page.ensures in
    let set = c.fill_words.ensures in
    let lo = c.args.lo in
    let hi = c.args.hi in
    let values = λ (a : _) (lt : _). set.words a lt ∙ ap (λ w. cond (leb lo a && leb a hi) c.args.value w) (own.words a lt) in
    record {
      values = values;
      live = λ p is. rw (eqb-true p page is) (set.live page ∙ own.live);
      tight = λ p is even.
          let words = rw (eqb-true p page is) at even in
          let outside = outside_from_even (value_of c.args.pool.now c.args.next) (word_of c.fill_words.new.pool page) lo hi c.args.value c.requires.ordered (omega arith) values words in
          true≢false (sym (c.has_one_value_after.ensures.uneven outside) ∙ c.if-has_one_value_after.false);
      now_stays = λ p is. record {
        live = set.live p ∙ own.others_live p (own.now p is) ∙ c.requires.now p is;
        words = λ a lt. set.others p a (own.now p is) lt ∙ own.others_words p a (own.now p is) lt;
      };
      others_stay = λ p _ apart live. record {
        live = set.live p ∙ own.others_live p (own.others p apart live) ∙ live;
        words = λ a lt. set.others p a (own.others p apart live) lt ∙ own.others_words p a (own.others p apart live) lt;
      };
      others_apart = λ p _ apart live. ne_eqb p page (own.others p apart live);
      gone = λ p apart is other. absurd (true≢false (sym (eq-eqb p page (own.own p is apart)) ∙ other));
      others_free = λ p _ _ other free. set.live p ∙ own.others_live p (eqb-false p page other) ∙ free;
    }
