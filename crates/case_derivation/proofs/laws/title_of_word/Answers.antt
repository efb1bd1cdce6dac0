use Rattle.case_derivation.specs.CasingProofs.{title_of_word}
use Rattle.case_derivation.proofs.laws.title_of_word.Goals as goal

pub returns : goal.returns
returns c = title_of_word
