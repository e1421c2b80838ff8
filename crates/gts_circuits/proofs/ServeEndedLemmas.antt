-- What is known once all workers have ended, of what opening their lines left and what closing the hall says of each.
use Rattle.gts_circuits.proofs.Cited.{◌≡◌, ℕ, ◌*◌, ◌<◌, ◌≤◌, true, List, length, arith, some, get_elem?, AreOpened, Beginning, Entry, Ghosts as SinkMeanings, Incoming, Line, LinesSeen, LinesStand, MOST_TURNS, Outgoing, PlaceSeen, ReceiverStands, SenderStands, Sockets, SourceMeanings, TableId, flat, has_end, incoming_of, outgoing_of}
use Rattle.gts_circuits.proofs.PlacesLemmas.{there}
use Rattle.gts_circuits.proofs.PartedLemmas.{parted, all_ended}

module _ (b : Beginning) {S K : Type 0} (source : SourceMeanings S) (sink : SinkMeanings K) where
  -- the lines of all sockets, each of which stands for its part of this history
  pub record AreEnded (connections : ℕ) (now : LinesSeen) (threads : List (ℕ × List Entry)) (count : ℕ) (lines : List (Line S K)) : Type 0 where
    pub ended : (k : ℕ) (l : Line S K) → get_elem? lines k ≡ some l → has_end l ≡ true
    pub sources_are : length (incoming_of lines) ≡ count
    pub sinks_are : length (outgoing_of lines) ≡ count
    pub each_source : (c : ℕ) (x : Incoming S) → get_elem? (incoming_of lines) c ≡ some x
        → ReceiverStands b source threads (flat threads) c connections x
    pub each_sink : (c : ℕ) (y : Outgoing K) → get_elem? (outgoing_of lines) c ≡ some y
        → SenderStands b sink threads (flat threads) c y
    pub unclosed : (c : ℕ) → c < length (outgoing_of lines) → now.is_open c ≡ true

  pub are_ended : {asked : List PlaceSeen} {connections : ℕ} {before now : LinesSeen} (hall : TableId) (threads : List (ℕ × List Entry)) (sockets : List (Sockets S K)) (lines : List (Line S K))
      → AreOpened source sink before now asked connections sockets (length sockets)
      → length lines ≡ 2 * length sockets → LinesStand b source sink hall sockets threads lines → length threads ≤ MOST_TURNS → AreEnded connections now threads (length sockets) lines
  are_ended {asked} {connections} {before} {now} hall threads sockets lines opened count stand few =
      let p = parted b source sink asked connections before now threads hall few sockets lines count opened stand in
      record {
        ended = all_ended b source sink asked connections before now threads hall few sockets lines count stand;
        sources_are = p.sources_are;
        sinks_are = p.sinks_are;
        each_source = p.each_source;
        each_sink = p.each_sink;
        unclosed = λ c less. let t = there sockets c (omega (arith, less, p.sinks_are)) in (opened.each c t.0 t.1).opened;
      }
