-- What receivers and senders leave of their passes.
use Rattle.gts_circuits.proofs.Cited.{ℕ, List, GoesOn, LineFault, Quiet, Seen, SendEnd, Sends}
use Rattle.gts_circuits.specs.Cited.{Fault}

-- a sender's history goes on, however it ends
pub sends-on : (c : ℕ) (old new : Seen) (bytes : List ℕ) (end : SendEnd) → Sends c old new bytes end → GoesOn old new
sends-on c old new bytes Quiet s = s.0.desk
sends-on c old new bytes _ s = s.desk
