-- What this crate says in words of what lies below it, in one place.
pub use Rattle.std.specs.List.{list_all, list_any, sum_by}
pub use Rattle.std.specs.VecDeque.{deque_capacity, deque_len}
pub use Rattle.std.specs.declared.alloc.Global.{Global}
pub use Rattle.std.specs.declared.collections.VecDeque.{VecDeque}
