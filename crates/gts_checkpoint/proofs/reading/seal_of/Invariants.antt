use Rattle.gts_checkpoint.proofs.Cited.{◌≡◌, ◌-◌, ◌≤◌, take, Seals, bytes_from, held}
use Rattle.gts_checkpoint.proofs.reading.seal_of.Given as goal

-- the first bytes were added
abbrev pub invariant-loop-done : goal.invariant-loop-done
invariant-loop-done g l = record {
  inside : l.done ≤ l.size;
  seals : g.P.Station.observed → Seals l.sealer l.fn.version (held l.fn.version l.before) (take l.done (bytes_from (g.P.Station.calls l.fn.station) l.file 41));
  told : g.P.Station.observed → g.P.Station.calls l.station ≡ g.P.Station.calls l.fn.station;
  sound : g.P.Station.disk_faults l.station ≡ g.P.Station.disk_faults l.fn.station;
  say : g.P.Station.say_faults l.station ≡ g.P.Station.say_faults l.fn.station;
}

abbrev pub decreases-loop-done : goal.decreases-loop-done
decreases-loop-done g l = l.size - l.done
