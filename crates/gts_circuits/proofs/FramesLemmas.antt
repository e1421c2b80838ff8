-- What a circuit's receiver entered and what its sink took, over the whole history.
use Rattle.gts_circuits.proofs.Cited.{◌≡◌, ℕ, ◌≤◌, List, [], ◌∷◌, ◌++◌, Bool, true, false, refl, sym, ap, ◌∙◌, arith, append_assoc, append-nil, false_from_ne_true as no_try, AreMost, Beginning, BreaksOff, EnteredConnections, Entry, Idle, IsReceived, IsSent, Long, LostSync, MOST_TURNS, Part, ReceiveEnd, SendEnd, SourceFault, Taken, TookFrames, all_done, entries_under, fault_entries, goes_on, is_try, receiver_name, sender_name, takes, under, Ended, Fault, under_all}
use Rattle.gts_receiver.specs.Cited.{settled}
use Rattle.gts_event.specs.declared.event.Entry.TheVariants.{Done}
use Rattle.gts_sender.specs.declared.end.SendEnd.TheVariants as sending
use Rattle.gts_circuits.proofs.FlatLemmas.{under-append}
use Rattle.gts_circuits.proofs.PastLemmas.{none_behind, frames_whole}

abbrev History : Type 0
History = List (ℕ × Entry)

module _ (b : Beginning) (threads : List (ℕ × List Entry)) (history : History) (c : ℕ) (bytes : List ℕ) where
  broke : (index : ℕ) → IsSent b threads history c bytes (sending.LineFault index) → BreaksOff b c index history bytes
  broke index s =
      let name : ℕ = sender_name c in
      let turn : History = under name (takes c s.sent.behind) in
      let behind : History = s.within.front.0 in
      record {
        earlier = s.sent.before;
        later = turn ++ behind;
        is = s.within.front.1 ∙ ap (λ (h : History). h ++ behind) s.sent.is ∙ append_assoc s.sent.before ((name, Done (Taken c)) ∷ turn) behind;
        behind = s.sent.behind;
        last = under-append name turn behind ∙ ap (λ (l : List Entry). l ++ entries_under name behind) (under_all name (takes c s.sent.behind))
            ∙ ap (λ (l : List Entry). takes c s.sent.behind ++ l) (none_behind b s.hall threads history c s.full s.upto s.within)
            ∙ append-nil (takes c s.sent.behind);
        few = s.sent.few;
        gave = s.sent.gave;
        part = s.sent.part;
        front = s.sent.front;
        whole = s.sent.bytes_are ∙ ap (λ (l : List ℕ). l ++ s.sent.part) (sym s.sent.drawn);
      }

  pub took_frames : (end : SendEnd) → IsSent b threads history c bytes end → TookFrames b c history end bytes
  took_frames sending.Quiet s = sym (frames_whole b s.hall threads history c s.full s.upto s.within ∙ s.sent.0.written)
  took_frames (sending.LineFault index) s = broke index s
  took_frames (sending.Fault fault) s = sym (frames_whole b s.hall threads history c s.full s.upto s.within ∙ s.sent.written)

none_settled : (w : Bool) → settled w [] ≡ []
none_settled true = refl
none_settled false = refl

-- a hall has fewer turns than a service has tries
tried_out : (turns : ℕ) → AreMost turns → turns ≤ MOST_TURNS → ⊥
tried_out turns many few = omega (arith, many, few)

module _ (b : Beginning) (threads : List (ℕ × List Entry)) (history : History) (c connections : ℕ) (earlier : List Part) (last : Part) where
  -- what is so of the entries that the receiver had seen is so of the whole history
  settled_from : {mine upto : List Entry} {done : List Entry} → mine ≡ upto → settled (goes_on connections) upto ≡ settled (goes_on connections) [] ++ done
      → settled (goes_on connections) mine ≡ done
  settled_from {mine} {upto} {done} same is = ap (settled (goes_on connections)) same ∙ is ∙ ap (λ (l : List Entry). l ++ done) (none_settled (goes_on connections))

  pub entered : (end : ReceiveEnd) → IsReceived b threads history c connections earlier last end
      → EnteredConnections (goes_on connections) c (earlier ++ last ∷ []) end (entries_under (receiver_name c) history)
  entered (Ended rest) r = settled_from r.within.own r.received.ends.0
  entered (LostSync field at) r = settled_from r.within.own r.received.ends.0
  entered SourceFault r = settled_from r.within.own r.received.ends
  entered Long r = settled_from r.within.own r.received.ends.0
  entered (Fault fault) r =
      let f = r.received.ends in
      record {
        front = f.front;
        event = f.event;
        beside = f.beside;
        behind = f.behind;
        parts = f.parts;
        apart = f.adds.apart;
        is = ap (settled (goes_on connections)) r.within.own ∙ f.adds.added
            ∙ ap (λ (l : List Entry). (l ++ all_done f.front) ++ settled (goes_on connections) (fault_entries f.event f.beside fault)) (none_settled (goes_on connections));
        kept = λ yes. no_try (is_try (Idle f.event fault)) (λ is. tried_out r.turns (f.adds.kept yes is) r.few);
      }
