use Rattle.ucdshop_core.proofs.PathLemmas as proof
use Rattle.ucdshop_core.proofs.laws.paths_are_of_the_words.Goals as goal

pub returns : goal.returns
returns c = proof.paths_are_of_the_words
