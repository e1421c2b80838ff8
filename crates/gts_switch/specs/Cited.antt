-- What files of this crate and of those above cite of it, in one place, and what it cites of those below.
pub mod Below
pub use Below.*
