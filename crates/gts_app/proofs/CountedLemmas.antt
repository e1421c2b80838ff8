-- What a run of a capture through a switch that counts left, of the switch itself.
use Rattle.gts_app.proofs.Cited.{ℕ, List, [], ◌∷◌, ◌++◌, length, inl, inr, ap, BreaksAtCompaction, BreaksAtRestart, CaptureKind, CountedParts, Doubt, Ends, Entry, Event, IsUnbegun, OpenFault, Remains, ReplayEnd, Standing, Step, Stopped, SwitchFault, all_unsaid, compacted_at, compactions_at, entries_at, meanings_by, origin_at, SayFault, Spent, BreaksOff, BreaksTogether, BreaksIdle}
use Rattle.gts_event.specs.declared.fault.SwitchFault.TheVariants.{DiskFault, Full, NoMemory}

module _ {O T W : Type 0} (parts : W → CountedParts T) (meanings : Standing O T) (station : Type 0) (kind : CaptureKind) (o : O) (h : List Entry) (observed : Type 0) (old new : W) where
  remains : (at : O) (all : List Entry) (fault : SwitchFault) → Remains (meanings_by parts meanings) at all fault new → Remains meanings at all fault (parts new).switch
  remains at all DiskFault left = left
  remains at all _ stands = stands.0

  together : (steps : List Step) (became : List Event → List Entry)
      → BreaksTogether (meanings_by parts meanings) (origin_at (meanings_by parts meanings) o h steps old) (length h) h (entries_at (meanings_by parts meanings) old o h steps) became new
      → BreaksTogether meanings (origin_at meanings o h steps (parts old).switch) (length h) h (entries_at meanings (parts old).switch o h steps) became (parts new).switch
  together steps became b = record { front = b.front; event = b.event; events = b.events; behind = b.behind; parts = b.parts; within = b.within; few = b.few; stands = b.stands.0 }

  idle : (steps : List Step) (fault : SwitchFault)
      → BreaksIdle (meanings_by parts meanings) (origin_at (meanings_by parts meanings) o h steps old) h (entries_at (meanings_by parts meanings) old o h steps) fault new
      → BreaksIdle meanings (origin_at meanings o h steps (parts old).switch) h (entries_at meanings (parts old).switch o h steps) fault (parts new).switch
  idle steps fault b = record { front = b.front; event = b.event; behind = b.behind; parts = b.parts; stands = b.stands.0; cause = b.cause }

  breaks_off : (steps : List Step) (fault : SwitchFault)
      → BreaksOff (meanings_by parts meanings) (origin_at (meanings_by parts meanings) o h steps old) (length h) h (entries_at (meanings_by parts meanings) old o h steps) fault new
      → BreaksOff meanings (origin_at meanings o h steps (parts old).switch) (length h) h (entries_at meanings (parts old).switch o h steps) fault (parts new).switch
  breaks_off steps DiskFault b = together steps (λ events. Doubt events ∷ []) b
  breaks_off steps SayFault b = together steps all_unsaid b
  breaks_off steps other b = idle steps other b

  breaks_restart : (steps : List Step) (fault : OpenFault)
      → BreaksAtRestart (meanings_by parts meanings) station (origin_at (meanings_by parts meanings) o h steps old) h (entries_at (meanings_by parts meanings) old o h steps) fault new
      → BreaksAtRestart meanings station (origin_at meanings o h steps (parts old).switch) h (entries_at meanings (parts old).switch o h steps) fault (parts new).switch
  breaks_restart steps fault b = record { front = b.front; behind = b.behind; parts = b.parts; stands = b.stands.0; fault_is = b.fault_is }

  breaks_compaction : (steps : List Step) (fault : SwitchFault) → BreaksAtCompaction (meanings_by parts meanings) o h steps fault old new
      → BreaksAtCompaction meanings o h steps fault (parts old).switch (parts new).switch
  breaks_compaction steps fault b = record {
    before = b.before;
    rest = b.rest;
    parts = b.parts;
    remains = remains (compacted_at meanings o (h ++ entries_at meanings (parts old).switch o h b.before) (compactions_at meanings (parts old).switch o h b.before))
        (h ++ entries_at meanings (parts old).switch o h b.before) fault b.remains;
    cause = b.cause;
  }

  unbegun : IsUnbegun (meanings_by parts meanings) o h old new → IsUnbegun meanings o h (parts old).switch (parts new).switch
  unbegun b = record { same = ap (λ (w : W). (parts w).switch) b.same; stands = b.stands.0 }

  -- it ended so for the switch as well
  pub ends_below : (result : ReplayEnd) (bytes left : List ℕ) → Ends (meanings_by parts meanings) station kind o h observed result old new bytes left
      → Ends meanings station kind o h observed result (parts old).switch (parts new).switch bytes left
  ends_below result bytes left e = record {
    done = λ is. let x = e.done is in record { steps = x.steps; are = x.are; whole = x.whole; stands = x.stands.0 };
    capture = λ at is. let x = e.capture at is in record { steps = x.steps; early = x.early; none = x.none; stands = x.stands.0 };
    source_fault = λ is. let x = e.source_fault is in record { steps = x.steps; taken = x.taken; stands = x.stands.0 };
    reopen = λ fault is. let x = e.reopen fault is in record {
      steps = x.steps;
      read = x.read;
      breaks = breaks_restart x.steps fault x.breaks;
      of_kind = x.of_kind;
      memory = x.memory;
    };
    compaction = λ fault is. let x = e.compaction fault is in record {
      steps = x.steps;
      read = x.read;
      breaks = breaks_compaction x.steps fault x.breaks;
      of_kind = x.of_kind;
      lasting = x.lasting;
      earlier = x.earlier;
    };
    fault = λ fault is. let x = e.fault fault is in record {
      steps = x.steps;
      read = x.read;
      breaks = breaks_off x.steps fault x.breaks;
      lasting = x.lasting;
      earlier = x.earlier;
    };
    no_memory = λ is. let x = e.no_memory is in record {
      steps = x.steps;
      read = x.read;
      stands = elim x.stands [
        | inl b ↦ inl (unbegun b)
        | inr some ↦ inr (elim some [
          | inl b ↦ inl (breaks_restart x.steps _ b)
          | inr more ↦ inr (elim more [
            | inl b ↦ inl (breaks_compaction x.steps NoMemory b)
            | inr b ↦ inr (idle x.steps NoMemory b)
          ])
        ])
      ];
    };
  }
