use Rattle.std.proofs.Common.{[], ◌∷◌, codes}
use Rattle.run_endings.specs.PathProofs.{apart_below, put_own}
use Rattle.ucdshop_more_core.specs.Run.{ages_ending}
use Rattle.ucdshop_more_core.proofs.laws.ages_hold_their_bytes.Goals as goal

pub returns : goal.returns
returns c = λ output releases holds. put_own (ages_ending output releases).files holds (apart_below output (codes "DerivedAge.txt" ∷ codes "steps.txt" ∷ []))
