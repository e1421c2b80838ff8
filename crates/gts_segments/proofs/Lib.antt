mod GroupLemmas
mod PassingLemmas
mod StatusLemmas
