-- What is known once all workers have come to their ends, and once the hall behind them is closed.
use Rattle.gts_circuits.proofs.Cited.{◌≡◌, ◌*◌, ℕ, List, [], map, length, true, sym, ap, ◌∙◌, subst, Accounts, AllJoined, AreGathered, Beginning, Entry, Ghosts as SinkMeanings, HaveEnded, Known, Line, LinesStand, MOST_TURNS, NamesAreJoined, NamesAreUpTo, Sockets, SourceMeanings, TableId, Work, ends, entries_under, works_of}
use Rattle.gts_circuits.proofs.StaffLemmas.{count_works, each_name, each_worker, each_ended}
use Rattle.gts_circuits.proofs.GatheredLemmas.{all_stand, all_joined, names_up_to}

module _ (b : Beginning) {S K : Type 0} (source : SourceMeanings S) (sink : SinkMeanings K) (hall : TableId) (sockets : List (Sockets S K)) (p : Known (List Entry)) (lines : List (Line S K)) where
  abbrev works : List (Work S K)
  works = map ends (works_of hall sockets)

  abbrev Gathered : ℕ → List (Work S K) → Type 0
  Gathered n ws = AreGathered b source sink p lines n ws

  pub have_ended : {ws : List (Work S K)} → ws ≡ works → length p.joined ≡ length ws → Gathered (length ws) ws → HaveEnded b source sink hall sockets p lines
  have_ended {ws} is joined gathered = record {
    counted = joined ∙ ap (λ (l : List (Work S K)). length l) is ∙ count_works hall sockets;
    gathered = subst (λ (n : ℕ). Gathered n works) (count_works hall sockets) (subst (λ (l : List (Work S K)). Gathered (length l) l) is gathered);
  }

  module _ (ended : HaveEnded b source sink hall sockets p lines) where
    all_gathered : Gathered (length works) works
    all_gathered = subst (λ (n : ℕ). Gathered n works) (sym (count_works hall sockets)) ended.gathered

    pub are_joined : p.parted ≡ 2 * length sockets → AllJoined p
    are_joined parted =
        all_joined b source sink p lines works (2 * length sockets) parted (each_name hall sockets) all_gathered

    pub lines_stand : Accounts p p.seen → (p.full ≡ true → length p.seen ≡ MOST_TURNS) → LinesStand b source sink hall sockets p.seen lines
    lines_stand accounts full =
        all_stand b source sink p lines works all_gathered accounts full (each_ended hall sockets)

    pub names_are : NamesAreJoined p p.seen → entries_under 0 p.seen ≡ [] → NamesAreUpTo (2 * length sockets) p.seen
    names_are names none =
        names_up_to b source sink p lines works (2 * length sockets)
        (λ k w at. let n = each_worker hall sockets k w at in (n.1, n.2)) (ended.counted ∙ sym (count_works hall sockets)) all_gathered names none
