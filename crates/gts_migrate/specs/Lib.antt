pub mod LettingGo
pub mod Dropping
pub mod Bringing
pub mod Answers
pub mod Migrating
pub mod Trial
pub mod Cited
