mod PlacingLemmas
mod JoiningLemmas
