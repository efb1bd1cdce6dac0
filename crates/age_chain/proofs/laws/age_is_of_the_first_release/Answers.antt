use Rattle.age_chain.proofs.AgeLemmas.{age_is_of_the_first}
use Rattle.age_chain.proofs.laws.age_is_of_the_first_release.Goals as goal

pub returns : goal.returns
returns c = age_is_of_the_first
