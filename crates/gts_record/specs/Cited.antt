-- What files of this crate and of those above cite of it, in one place, and what it cites of those below.
pub mod Below
pub use Rattle.gts_record.specs.Record.{Accept, BeginsWith, Drew, FitsRecord, IsRecord, Record, bytes_of, circuit_of, closed_gate, is_short, kind_of, number_in, open_gate, record_at, record_in, record_text}
pub use Rattle.gts_record.specs.Format.{BeginsSealed, beside_body, beside_checkpoint, chain_text, draw_size, file_text, first_seal, held, is_older, is_sealed, journal_text, last_seal, magic, no_seal, record_size, seal, seal_size, sealed, sealed_at, texts_of}
unfoldable pub use Rattle.gts_record.specs.Format.{written}
pub use Rattle.gts_record.specs.Value.{BeginsWithNoAccept, BeginsWithNoDraw, record_of}
unfoldable pub use Rattle.gts_record.specs.Sealing.{Seals}
pub use Rattle.gts_record.specs.declared.version.Version.{Version}
pub use Rattle.gts_record.specs.declared.version.Version.TheVariants.{One, Two}
pub use Below.*
