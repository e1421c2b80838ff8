use Rattle.gts_connection.proofs.Cited.{[], refl, arith, Whole, bare_group_at, bare_heading_at, body_at, dec, heading_at, heading_text, message_group_at, number_at, plain_heading_at, readable, request_at, split_at, text_at, digits}
use Rattle.gts_connection.proofs.worked.a_compaction_comes_behind_so_many_entries.Goals as goal

pub returns : goal.returns
unfolding readable digits dec heading_text plain_heading_at bare_group_at message_group_at heading_at bare_heading_at number_at text_at body_at split_at request_at
returns c = (refl, Whole [] (refl, (omega arith, (refl, tt))) refl refl)
