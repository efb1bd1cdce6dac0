mod WayLemmas
mod LawLemmas
