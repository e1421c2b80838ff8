mod Cited
mod FirstLemmas
mod RuleLemmas
mod OrderLemmas
mod RouteLemmas
