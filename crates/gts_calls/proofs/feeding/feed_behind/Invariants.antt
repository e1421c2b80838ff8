use Rattle.gts_calls.proofs.Cited.{◌≡◌, ◌≤◌, ◌-◌, length, take, GoesOver, HasCallCause, IsShortAt, answer_of}
use Rattle.gts_calls.proofs.OverLemmas.{Held}
use Rattle.gts_calls.proofs.feeding.feed_behind.Given as goal

-- so far it went so
abbrev pub invariant-loop-taken : goal.invariant-loop-taken
invariant-loop-taken g l = record {
  least : l.begun ≤ l.taken;
  most : l.taken ≤ length l.piece;
  held : Held (take l.begun l.piece) l.fn.step l.fn.decoder (take l.taken l.piece) l.end l.decoder;
  goes : GoesOver g.W.Listens.meanings l.c (take l.begun l.piece) l.fn.step l.fn.decoder l.fn.switch (take l.taken l.piece) l.decoder.message l.end l.switch;
  short : IsShortAt l.end l.decoder.message;
  directory : g.W.Listens.meanings.directory l.switch ≡ g.W.Listens.meanings.directory l.fn.switch;
  cause : HasCallCause (answer_of l.end) (g.W.Listens.disk_faults l.fn.switch) (g.W.Listens.disk_faults l.switch) (g.W.Listens.say_faults l.fn.switch) (g.W.Listens.say_faults l.switch);
}

abbrev pub decreases-loop-taken : goal.decreases-loop-taken
decreases-loop-taken g l = length l.piece - l.taken
