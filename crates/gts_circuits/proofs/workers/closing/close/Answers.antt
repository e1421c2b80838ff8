use Rattle.gts_circuits.proofs.Cited.{◌≡◌, ◌*◌, ◌≤◌, ℕ, List, [], length, true, sym, ◌∙◌, subst, Entry, Known, LinesStand, MOST_TURNS, NamesAreUpTo, Stands, entries, entries_under, flat}
use Rattle.gts_circuits.proofs.HousedLawLemmas.{entries_flat}
use Rattle.gts_circuits.proofs.EndedLemmas.{lines_stand, names_are}
use Rattle.gts_circuits.proofs.workers.closing.close.Goals as goal

pub returns-clause-lines : goal.returns-clause-lines
returns-clause-lines g c = λ sockets ended.
    let closed = c.close-housed.ensures in
    let lines = c.args.lines.items in
    let P : Known (List Entry) → Type 0 = λ k. LinesStand g.B.Began.beginning g.S.Source g.K.Sink c.args.hall sockets k.seen lines in
    subst P (sym closed.pass) (lines_stand g.B.Began.beginning g.S.Source g.K.Sink c.args.hall sockets c.args.first lines ended closed.accounts closed.full)

pub returns-clause-names : goal.returns-clause-names
returns-clause-names g c = λ sockets ended.
    let closed = c.close-housed.ensures in
    let p = c.args.first in
    let U : ℕ → Type 0 = λ n. p.own ≡ entries_under n p.seen in
    let none : entries_under 0 p.seen ≡ [] = sym (subst U c.requires.first.0 closed.accounts.0) ∙ c.requires.first.1 in
    let P : Known (List Entry) → Type 0 = λ k. NamesAreUpTo (2 * length sockets) k.seen in
    subst P (sym closed.pass) (names_are g.B.Began.beginning g.S.Source g.K.Sink c.args.hall sockets p c.args.lines.items ended closed.names none)

pub returns-clause-full : goal.returns-clause-full
returns-clause-full g c =
    let P : Known (List Entry) → Type 0 = λ k. k.full ≡ true → length k.seen ≡ MOST_TURNS in
    subst P (sym c.close-housed.ensures.pass) c.close-housed.ensures.full

pub returns-clause-engine : goal.returns-clause-engine
returns-clause-engine g c =
    let closed = c.close-housed.ensures in
    let S : List Entry → Type 0 = λ es. Stands g.P.Station g.B.Began.beginning es c.close-housed.result.0.engine in
    let P : Known (List Entry) → Type 0 = λ k. S (entries (flat k.seen)) in
    subst P (sym closed.pass) (subst S (sym (entries_flat c.args.first.seen)) closed.value.0)

pub returns-clause-few : goal.returns-clause-few
returns-clause-few g c =
    let P : Known (List Entry) → Type 0 = λ k. length k.seen ≤ MOST_TURNS in
    subst P (sym c.close-housed.ensures.pass) c.close-housed.ensures.few
