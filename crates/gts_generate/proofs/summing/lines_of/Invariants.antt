use Rattle.gts_generate.proofs.Cited.{◌≡◌, ◌+◌, ◌≤◌, drop, true}
use Rattle.gts_generate.specs.Summary as summaries
use Rattle.gts_generate.proofs.summing.lines_of.Given as goal

abbrev pub invariant-loop-i : goal.invariant-loop-i
invariant-loop-i l = record {
  total : l.count + summaries.lines_from l.begins l.word (drop l.i l.bytes) ≡ summaries.lines_from true l.word l.bytes;
  few : l.count ≤ l.i;
}
