mod KeyLemmas
mod BitLemmas
