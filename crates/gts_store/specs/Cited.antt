-- What files of this crate and of those above cite of it, in one place, and what it cites of those below.
pub mod Below
pub use Rattle.gts_store.specs.Shelf.{AddsUse, AllUsed, ChangesAt, ChangesCircuit, ChangesFree, Drawn, FallsOut, KeepsUses, SameBulletins, Shelf, Stored, TakesUse, carries, circuit_at, falls_out, first_kept, free_uses, greatest_index, has_heading, indices_of, is_headed, kept_places, last_index, no_draws, number_at, parts_of, position_at, stored_as, stored_at, undrawn, uses_in, uses_of, with_draw, with_draws, with_use, with_uses, without_use}
pub use Rattle.gts_store.specs.Marks.{mark_of, mark_on}
pub use Rattle.gts_store.specs.Entries.{AllMarked, AreLinked, Bulletins, Changes, HasDrawn, HasLinks, IsLink, IsMarked, IsSound, bulletin_at, bytes_aside, drawn_of, earlier_in, has_heading_in, mark_in, pair_of, pairs_of, position_in, shelf_of, stored_of}
pub use Rattle.gts_store.specs.Shown.{shown}
pub use Rattle.gts_store.specs.Runs.{run_of}
pub use Rattle.gts_store.specs.declared.bulletin.Bulletin.{Bulletin}
pub use Rattle.gts_store.specs.declared.circuit.Circuit.{Circuit}
pub use Rattle.gts_store.specs.declared.circuit.KeptDraw.{KeptDraw}
unfoldable pub use Below.*
