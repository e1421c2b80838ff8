use Rattle.gts_gap.proofs.Cited.{◌≡◌, List, length, Directory, IsNew, Journaled, Step}
use Rattle.gts_gap.proofs.MissingRunLemmas.{Runs}
use Rattle.gts_gap.proofs.reading.run.Given as goal

-- so many steps were done
abbrev pub invariant-loop : goal.invariant-loop
invariant-loop g l = record {
  done : (d : Directory) → IsNew d l.fn.table l.fn.decoders → (steps : List Step) × (length steps ≡ l.counter)
      × Runs g.S.Source.observed d (g.S.Source.left l.fn.capture) steps l.steps (g.S.Source.left l.capture) l.decoders l.table;
  of_kind : l.steps.kind ≡ Journaled;
  taken : l.steps.feed ≡ 0;
  here : l.steps.circuits ≡ length l.fn.table;
  circuits : length l.table ≡ length l.fn.table;
  decoders : length l.decoders ≡ length l.fn.table;
  sound : g.S.Source.faults l.capture ≡ g.S.Source.faults l.fn.capture;
}
