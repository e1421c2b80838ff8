-- What files of this crate and of those above cite of it, in one place, and what it cites of those below.
pub mod Below
pub use Rattle.gts_checkpoint.specs.Alone.{IsOn, LeavesOthers, OnlyOn, WorksBeside, WorksOn}
pub use Rattle.gts_checkpoint.specs.SealingWriter.{HasPut, SealingWriter, Stands, count_of, holding, put_by}
pub use Rattle.gts_checkpoint.specs.Heads.{IsNoFront, IsNoHead, bulletin_by, bulletin_head, circuit_by, circuit_head, front_by, front_of, head_text, if_there, or_else}
unfoldable pub use Rattle.gts_checkpoint.specs.Heads.{front_counts, listed_size, zeros}
pub use Rattle.gts_checkpoint.specs.Writing.{CanPutBulletin, CanPutCircuit, FitBytes, FitsByte, HasWritten, checkpoint_file, header_text, need_seal, sealed_need, written_bulletin, written_circuit}
pub use Rattle.gts_checkpoint.specs.Reading.{ArePlaces, BeginsWith, CanBegin, FindsBulletin, FindsBulletins, FindsBytes, FindsCircuit, FindsCircuits, FindsNumbers, FindsText, FitBodies, FitsValue, FitsValueCircuit, HasRead, IsDamage, IsReadFault, bytes_from, first_of, is_sealed_front, waiting_of}
pub use Rattle.gts_checkpoint.specs.Sound.{IsJudged, are_circuits_sound, has_positions, is_held, positions}
pub use Rattle.gts_checkpoint.specs.CheckpointBytes.{IsCheckpoint, laid, laid_is_possible}
unfoldable pub use Rattle.gts_checkpoint.specs.CheckpointBytes.{in_front}
unfoldable pub use Below.*
