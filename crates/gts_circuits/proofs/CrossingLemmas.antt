-- A worker may go to another thread. (Its snapshot is the one field for which this isn't found without help.)
use Rattle.gts_circuits.proofs.Cited.{RattleType, NamedLft, shr_ref_field, IsSend, sendable, view_send, shr_send, declared_send, as_row_send}
use Rattle.gts_traits.specs.declared.station.Station as station
use Rattle.gts_traits.specs.declared.source.Source as source
use Rattle.gts_traits.specs.declared.sink.Sink as sink
use Rattle.gts_event.specs.contracts.event.Entry as entry
use Rattle.std_collections.specs.contracts.linked_list.LinkedList as linked
use Rattle.std.specs.contracts.alloc.Global as heap
use Rattle.std.specs.contracts.impls.GlobalAllocator.TheImpl as global
use Rattle.std.specs.contracts.snapshot.Snapshot as snapshot
use Rattle.std.proofs.option.Option.TheSendSync as option
use Rattle.gts_lock.specs.contracts.hall.Hall as halls
use Rattle.gts_lock.specs.contracts.pass.Pass as passes
use Rattle.gts_lock.proofs.hall.Hall.TheSendSync as hall
use Rattle.gts_lock.proofs.pass.Pass.TheSendSync as pass
use Rattle.gts_circuits.specs.declared.hall.began.Began as began
use Rattle.gts_circuits.specs.contracts.hall.housed.Housed as housed
use Rattle.gts_circuits.specs.contracts.hall.housed.HousedHasHistory.TheImpl as told
use Rattle.gts_circuits.proofs.hall.housed.Housed.TheSendSync as housed_crosses
use Rattle.gts_circuits.specs.contracts.workers.ringing.RunBell as bells
use Rattle.gts_circuits.proofs.workers.ringing.RunBell.TheSendSync as bell
use Rattle.gts_circuits.specs.contracts.workers.worker.Worker as worker
use Rattle.gts_circuits.specs.contracts.workers.worker.Worker.TheInside as inside
use Rattle.gts_circuits.specs.contracts.workers.line.Line as lines
use Rattle.gts_circuits.proofs.workers.line.Line.TheSendSync as line

snapshot_send : (Y : RattleType) → IsSend (snapshot.the_row Y)
snapshot_send Y = record { owned = λ d vs. ((λ vss. (tt, ((λ uss. (tt, tt)), tt))), tt); leaving = λ k f vs. tt }

module _ (a : NamedLft) (P B S K : RattleType) (p : station.Ghosts P.Denot) (b : began.Ghosts B.Denot) (s : source.Ghosts S.Denot) (k : sink.Ghosts K.Denot)
    (sends-P : IsSend P) (sends-S : IsSend S) (sends-K : IsSend K) where
  -- what a turn adds: a list of entries
  abbrev entries_row : RattleType
  entries_row = linked.the_row entry.the_row heap.the_row global.ghosts

  inside_send : IsSend (inside.the_row a P B S K p b s k)
  inside_send =
      let h = housed_crosses.the_send P B p sends-P in
      let row = housed.the_row P B p in
      let stands = told.ghosts P B p told.no_dict b told.no_dict in
      declared_send (inside.the_type a P B S K p b s k) (
        search sendable,
        (
          as_row_send (shr_ref_field a (halls.the_row row entries_row stands) tt) (shr_send a.mir a.lft _ (hall.the_sync row entries_row stands h)),
          (
            as_row_send (shr_ref_field a bells.the_row tt) (shr_send a.mir a.lft _ bell.the_sync),
            (
              option.the_send (passes.the_row row entries_row stands) (pass.the_send row entries_row stands h),
              (
                line.the_send S K sends-S sends-K,
                (
                  as_row_send (snapshot.the_field (lines.the_row S K)) (snapshot_send (lines.the_row S K)),
                  tt,
                ),
              ),
            ),
          ),
        ),
      )

  pub worker_send : IsSend (worker.the_row a P B S K p b s k)
  worker_send = view_send _ _ _ _ _ inside_send
