use Rattle.std.proofs.Common.{◌≡◌, ◌<◌, true, false, refl, sym, ap, ◌∙◌}
use Rattle.source_rows.specs.Keys.{same_texts}
use Rattle.release_rows.specs.Places.{names_in}
use Rattle.release_rows.proofs.Texts.{texts_tell_names}
use Rattle.release_rows.proofs.PlaceOrder.{itself}
use Rattle.release_rows.proofs.Apart.{nothing_before, it_reaches, it_ends}
use Rattle.release_rows.proofs.end_map.EndMap.checked_place.Goals as goal
use Rattle.release_rows.proofs.end_map.EndMap.checked_place.Goals.{else-eq-via-then-eq+else-code-reached, else-eq-via-else-eq}

pub returns-in_default : goal.returns-in_default
returns-in_default c =
    let none = (c.range.ensures.in_range tt).5 c.in_default.ensures.steps.0 in
    (refl, rw (← c.self.view_is) (nothing_before c.self.inside.ends c.range.ensures.ordered c.self.invariant c.args.place c.args.last c.requires (λ q le. none q (tt, le))))

pub returns-then-code-reached : goal.returns-then-code-reached
returns-then-code-reached c =
    let e = c.in-Some.before.now in
    let lies = (c.range.ensures.in_range tt).3 _ _ c.in-Some.ensures.steps in
    let names : same_texts (names_in e) (names_in c.args.place) ≡ true = sym (texts_tell_names e.names.items c.args.place.names.items) ∙ sym c.eq.ensures ∙ c.if-eq.true in
    c.rule_at.ensures c.args.last (rw (← c.self.view_is) (it_reaches c.self.inside.ends c.range.ensures.ordered c.self.invariant c.args.place c.args.last e c.in-Some.reached.now lies.1 lies.0.1 names c.if-code-reached.true))

pub returns : goal.returns
returns c =
    let e = c.in-Some.before.now in
    let reached = c.in-Some.reached.now in
    let lies = (c.range.ensures.in_range tt).3 _ _ c.in-Some.ensures.steps in
    let greatest = (c.range.ensures.in_range tt).4 _ _ c.in-Some.ensures.steps in
    let names = texts_tell_names e.names.items c.args.place.names.items in
    let ends : names_in e ≡ names_in c.args.place → reached < c.args.place.code = λ same. elim c.else-eq.branch [
      | else-eq-via-then-eq+else-code-reached w ↦ w.if-code-reached.false
      | else-eq-via-else-eq w ↦ absurd (let k : false ≡ true = sym w.if-eq.false ∙ c.eq.ensures ∙ names ∙ ap (λ ns. same_texts ns (names_in c.args.place)) same ∙ itself c.args.place in cc)
    ] in
    (refl, rw (← c.self.view_is) (it_ends c.self.inside.ends c.range.ensures.ordered c.self.invariant c.args.place c.args.last e reached lies.1 lies.0.1 c.requires (λ q le some. greatest q (tt, le) some) ends))
