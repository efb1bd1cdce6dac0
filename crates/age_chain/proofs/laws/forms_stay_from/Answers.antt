use Rattle.age_chain.proofs.laws.forms_stay_from.Goals as goal

pub returns : goal.returns
returns c = λ releases k release later whole steps s assigned. c.forms_stay_through.ensures release later steps s assigned
