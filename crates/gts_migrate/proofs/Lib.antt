mod Cited
mod LettingGoLemmas
mod BringingLemmas
mod MigratingLemmas
mod DroppingLemmas
