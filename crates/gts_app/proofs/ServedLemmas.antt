-- Where `serve` was done, no device of the station failed under it.
use Rattle.gts_app.proofs.Cited.{◌≡◌, ℕ, ◌+◌, List, [], ◌∷◌, Option, None, Some, refl, sym, subst, Beginning, Done, Engine, Entry, Ghosts as StationMeanings, IsServed, Known, LinesSeen, ReceiveEnd, SendEnd, ServeEnd, SourceMeanings, SwitchFault, first_fault, receiver_first, sender_first, status_of_fault, status_served, common_steps, arith}
use Rattle.gts_event.specs.declared.fault.Device.TheVariants.{Say}
use Rattle.gts_event.specs.declared.fault.SwitchFault.TheVariants as switch
use Rattle.gts_receiver.specs.declared.end.ReceiveEnd.TheVariants as received
use Rattle.gts_sender.specs.declared.end.SendEnd.TheVariants as sent
use Rattle.gts_circuits.specs.declared.service.end.ServeEnd.TheVariants as serving

-- ---- a run of circuits whose status is that it was done has no fault

fault_fails : (c : ℕ) (fault : SwitchFault) → status_of_fault c fault ≡ Done → ⊥
fault_fails c (switch.Stopped Say) is = cc is
fault_fails c _ is = cc is

-- an end that is done, where its status is
abbrev IsDoneOf : ServeEnd → Type 0
IsDoneOf end = status_served end ≡ Done → end ≡ serving.Done

sent_done : (c : ℕ) (s : SendEnd) (next : ServeEnd) → IsDoneOf next → IsDoneOf (sender_first c s next)
sent_done c sent.Quiet next done is = done is
sent_done c (sent.LineFault index) next done is = absurd (cc is)
sent_done c (sent.Fault fault) next done is = absurd (fault_fails c fault is)

received_done : (c : ℕ) (r : ReceiveEnd) (next : ServeEnd) → IsDoneOf next → IsDoneOf (receiver_first c r next)
received_done c (received.Ended rest) next done is = done is
received_done c (received.LostSync field at) next done is = done is
received_done c received.SourceFault next done is = absurd (cc is)
received_done c received.Long next done is = absurd (cc is)
received_done c (received.Fault fault) next done is = absurd (fault_fails c fault is)

first_done : (k : ℕ) (ends : List (ReceiveEnd × SendEnd)) → IsDoneOf (first_fault k ends)
first_done k [] is = refl
first_done k (x ∷ xs) is = grind (arith, common_steps, received_done, sent_done, first_done (k + 1) xs)

-- ---- the whole run

module _ {P I : Type 0} (w : StationMeanings P) (b : Beginning) (incoming : SourceMeanings I) (sink_tells : Type 0) (connections : ℕ) (before now : LinesSeen)
    (engine : Engine P) where
  abbrev Came : Option (Known (List Entry)) → ServeEnd → Type 0
  Came pass end = IsServed w b incoming sink_tells connections before now pass end engine

  -- the counts of the station are those of the beginning
  abbrev pub IsStill : Type 0
  IsStill = (w.disk_faults engine.station ≡ b.disk) × (w.say_faults engine.station ≡ b.say)

  was_done : (pass : Option (Known (List Entry))) (end : ServeEnd) → Came pass end → IsDoneOf end
  was_done (Some pass) end s = subst IsDoneOf (sym s.end_is) (first_done 0 s.ends)
  was_done None (serving.NotOpened c) s = λ is. absurd (cc is)
  was_done None serving.NoMemory s = λ is. absurd (cc is)
  was_done None _ s = absurd s

  still_at : (pass : Option (Known (List Entry))) → Came pass serving.Done → IsStill
  still_at None s = absurd s
  still_at (Some pass) s = s.sound refl

  pub still : (pass : Option (Known (List Entry))) (end : ServeEnd) → Came pass end → status_served end ≡ Done → IsStill
  still pass end s is = still_at pass (subst (Came pass) (was_done pass end s is) s)
