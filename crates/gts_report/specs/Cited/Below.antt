-- What this crate says in words of what lies below it, in one place.
pub use Rattle.std.specs.BTreeMap.{insert_entry, values}
pub use Rattle.std.specs.Cmp.Lexicographic.{pointwise, slice_cmp}
pub use Rattle.std.specs.Int.{bit_at}
pub use Rattle.std.specs.List.{All, AllByRecursion, enumerate_from, filter, list_all, list_any, range_with_len}
pub use Rattle.std.specs.Map.Iter.{deref}
pub use Rattle.std.specs.Ordering.{match_ordering, nat_cmp, ordering_reverse}
pub use Rattle.std.specs.declared.cmp.Ordering.{Ordering}
pub use Rattle.std.specs.declared.cmp.Ordering.TheVariants.{Equal, Greater, Less}
unfoldable pub use Rattle.gts_alphabet.specs.Cited.{dec}
pub use Rattle.gts_alphabet.specs.declared.limits.TheConstants.{MOST_CIRCUITS}
pub use Rattle.gts_traits.specs.Cited.{AsksDiskOf, Did, Syncs, seen}
pub use Rattle.gts_heading.specs.Cited.{HeadingFields, fields_of, with_group}
unfoldable pub use Rattle.gts_heading.specs.Cited.{bare_group_at, bare_heading_at, heading_at}
unfoldable pub use Rattle.gts_heading.specs.Cited.{heading_text, message_group_at, plain_heading_at}
pub use Rattle.gts_heading.specs.declared.heading.Heading.{Heading}
unfoldable pub use Rattle.gts_message.specs.Cited.{body_at, text_at}
pub use Rattle.gts_number.specs.Cited.{IsCount, number_in}
pub use Rattle.gts_frame.specs.declared.kind.Kind.TheVariants.{An}
pub use Rattle.gts_segments.specs.Cited.{IsComplete, Noted, NotesToo, groups_of, is_noted, is_segment, segment_at}
unfoldable pub use Rattle.gts_segments.specs.Cited.{passing}
pub use Rattle.gts_segments.specs.declared.groups.TheConstants.{GROUPS, LETTERS, PLACES}
pub use Rattle.gts_segments.specs.declared.table.SegmentStatus.TheVariants.{Complete, Partial}
pub use Rattle.gts_directory.specs.Cited.{Circuit, Directory, Rule, TakesOver, bit, circuit_of, circuit_of_row, circuits_in, mask_of, rule_of_row}
pub use Rattle.gts_directory.specs.declared.rows.RuleRow.{RuleRow}
pub use Rattle.gts_dirfile.specs.Cited.{AreRulesOf}
pub use Rattle.gts_event.specs.Cited.{Bulletin, CircuitNeed, Need, State, bulletin_of, circuit_need_of, circuit_needs, has, heading_of, is_needed, is_recent, is_sound, last_of, need, need_of, recent_among, unused}
unfoldable pub use Rattle.gts_record.specs.Cited.{written}
pub use Rattle.gts_core.specs.Cited.{Holds}
pub use Rattle.gts_journal.specs.Cited.{OnlySyncs}
pub use Rattle.gts_recovery.specs.Cited.{IsAnswer, files_open_any, opens_any}
pub use Rattle.gts_migrate.specs.Cited.{goes_on, refusal, waits_closed}
pub use Rattle.gts_migrate.specs.declared.fault.MigrateFault.{MigrateFault}
pub use Rattle.gts_migrate.specs.declared.fault.MigrateFault.TheVariants.{Full, Waits}
