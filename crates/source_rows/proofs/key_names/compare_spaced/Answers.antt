use Rattle.std.proofs.Common.{ℕ, List, sym, ap, ◌∙◌, nat_cmp}
use Rattle.std.specs.Cmp.Lexicographic.{slice_cmp}
use Rattle.ucd_facts.specs.Mappings.{words}
use Rattle.source_rows.proofs.Words.{no_word, one_word, at_end}
use Rattle.source_rows.proofs.NameOrder.{led_by, led_joined, gap_stops, word_stops, word_goes, none_left, some_left}
use Rattle.source_rows.proofs.key_names.compare_spaced.Goals as goal

pub words-init : goal.words-init
words-init c =
    ap (λ (gap : List ℕ). slice_cmp nat_cmp c.args.expected.now (led_by gap (words c.args.text.now))) c.as_slice-gap.ensures
    ∙ ap (slice_cmp nat_cmp c.args.expected.now) (led_joined (words c.args.text.now))

pub words-preserved-then-is_empty : goal.words-preserved-then-is_empty
words-preserved-then-is_empty c =
    let e = no_word c.words.rest.now c.cut_at_first_blank.result.0.now c.cut_at_first_blank.result.1.now c.cut_at_first_blank.ensures.before c.cut_at_first_blank.ensures.after (sym c.is_empty-in-words.ensures ∙ c.if-is_empty.true) in
    ap (λ (ws : List (List ℕ)). slice_cmp nat_cmp c.words.left.now (led_by c.words.gap.now ws)) (sym e) ∙ c.words.invariant

pub returns-then-is_ne : goal.returns-then-is_ne
returns-then-is_ne c =
    let e = one_word c.words.rest.now c.cut_at_first_blank.result.0.now c.cut_at_first_blank.result.1.now c.cut_at_first_blank.ensures.before c.cut_at_first_blank.ensures.after (sym c.is_empty-in-words.ensures ∙ c.if-is_empty.false) in
    gap_stops c.words.left.now c.words.gap.now c.cut_at_first_blank.result.0.now (words c.cut_at_first_blank.result.1.now) c.compare_prefix-order.result.0 c.compare_prefix-order.ensures.order (sym c.is_ne.ensures ∙ c.if-is_ne.true)
    ∙ ap (λ (ws : List (List ℕ)). slice_cmp nat_cmp c.words.left.now (led_by c.words.gap.now ws)) (sym e)
    ∙ c.words.invariant

pub returns-then-is_ne-2 : goal.returns-then-is_ne-2
returns-then-is_ne-2 c =
    let e = one_word c.words.rest.now c.cut_at_first_blank.result.0.now c.cut_at_first_blank.result.1.now c.cut_at_first_blank.ensures.before c.cut_at_first_blank.ensures.after (sym c.is_empty-in-words.ensures ∙ c.if-is_empty.false) in
    word_stops c.words.left.now c.words.gap.now c.cut_at_first_blank.result.0.now c.compare_prefix-order.result.1.now (words c.cut_at_first_blank.result.1.now) c.compare_prefix-order.result.0 c.compare_prefix-order-in-words.result.0 c.compare_prefix-order.ensures.order (sym c.is_ne.ensures ∙ c.if-is_ne.false) c.compare_prefix-order.ensures.rest c.compare_prefix-order-in-words.ensures.order (sym c.is_ne-in-words.ensures ∙ c.if-is_ne-2.true)
    ∙ ap (λ (ws : List (List ℕ)). slice_cmp nat_cmp c.words.left.now (led_by c.words.gap.now ws)) (sym e)
    ∙ c.words.invariant

pub words-preserved : goal.words-preserved
words-preserved c =
    let e = one_word c.words.rest.now c.cut_at_first_blank.result.0.now c.cut_at_first_blank.result.1.now c.cut_at_first_blank.ensures.before c.cut_at_first_blank.ensures.after (sym c.is_empty-in-words.ensures ∙ c.if-is_empty.false) in
    ap (λ (gap : List ℕ). slice_cmp nat_cmp c.compare_prefix-order-in-words.result.1.now (led_by gap (words c.cut_at_first_blank.result.1.now))) c.as_slice-gap-in-words.ensures
    ∙ word_goes c.words.left.now c.words.gap.now c.cut_at_first_blank.result.0.now c.compare_prefix-order.result.1.now c.compare_prefix-order-in-words.result.1.now (words c.cut_at_first_blank.result.1.now) c.compare_prefix-order.result.0 c.compare_prefix-order-in-words.result.0 c.compare_prefix-order.ensures.order (sym c.is_ne.ensures ∙ c.if-is_ne.false) c.compare_prefix-order.ensures.rest c.compare_prefix-order-in-words.ensures.order (sym c.is_ne-in-words.ensures ∙ c.if-is_ne-2.false) c.compare_prefix-order-in-words.ensures.rest
    ∙ ap (λ (ws : List (List ℕ)). slice_cmp nat_cmp c.words.left.now (led_by c.words.gap.now ws)) (sym e)
    ∙ c.words.invariant

pub returns-in-empty : goal.returns-in-empty
returns-in-empty c =
    let e = at_end c.words.rest.now (sym c.is_empty.ensures ∙ c.words-test.false) in
    none_left c.words.left.now c.in-empty.len_below
    ∙ ap (λ (ws : List (List ℕ)). slice_cmp nat_cmp c.words.left.now (led_by c.words.gap.now ws)) (sym e)
    ∙ c.words.invariant

pub returns-in-len1-up : goal.returns-in-len1-up
returns-in-len1-up c =
    let e = at_end c.words.rest.now (sym c.is_empty.ensures ∙ c.words-test.false) in
    some_left c.words.left.now c.in-len1-up.len_at_least
    ∙ ap (λ (ws : List (List ℕ)). slice_cmp nat_cmp c.words.left.now (led_by c.words.gap.now ws)) (sym e)
    ∙ c.words.invariant
