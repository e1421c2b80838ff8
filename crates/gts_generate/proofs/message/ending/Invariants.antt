use Rattle.gts_generate.proofs.Cited.{◌≡◌, ◌*◌, length, map, flat_map, Drain, range_with_len, step_text}
use Rattle.gts_generate.proofs.message.ending.Given as goal

abbrev pub invariant-loop-c : goal.invariant-loop-c
invariant-loop-c l = record {
  text : l.piece ≡ flat_map step_text (map Drain (range_with_len 0 l.c));
  size : length l.piece ≡ 5 * l.c;
}
