use Rattle.std.proofs.lemmas.Bool.Decides.{Decides-eqb}
use Rattle.std.proofs.lemmas.Slice.Eq.{strip_prefix_is}
use Rattle.case_derivation.proofs.MatchingLemmas.{stripped}
use Rattle.case_derivation.proofs.matching.without_image.Goals as goal

pub returns-in_default-Some : goal.returns-in_default-Some
returns-in_default-Some c mapped =
    let cases = strip_prefix_is Decides-eqb c.in_ok-rest.rest.now c.in_default-Some.points.now c.strip_prefix.result c.strip_prefix.ensures.cases in
    rw (c.in_ok-rest.was, c.in_default-Some.is-1) (stripped c.in_ok-rest.rest.now c.in_default-Some.points.now mapped c.strip_prefix.result cases)
