mod KeyLemmas
mod GroupLemmas
mod Replaying
mod DeskLemmas
mod EventLemmas
