use Rattle.gts_receiver.proofs.Cited.{ℕ, ◌+◌, List, take, Ok, Err, subst, arith, err_from_is_err_and, Answers, Event, FeedEnd, Heard, Hears, SaysNoMore, Seen, events_added, goes_on}
use Rattle.gts_calls.specs.Desks.{Feeds}
use Rattle.gts_receiver.proofs.SettledLemmas.{tries_on}
use Rattle.gts_receiver.proofs.FedLemmas.{fed_all, fed_lost, fed_fault, wants, heard_at_last, never_heard}
use Rattle.gts_receiver.proofs.receiving.feed.Goals as goal

pub returns-in-All-clause-fed : goal.returns-in-All-clause-fed
returns-in-All-clause-fed g c = λ first given is long from.
    fed_all (goes_on c.args.connections) c.args.c first (g.D.Desk.seen c.args.desk.now) (g.D.Desk.seen c.feed-fed.new.self) given c.args.piece.now c.feed-fed.result c.feed-fed.new.decoder from
    (c.feed-fed.ensures.takes given is) c.in-All.is (c.feed-fed.ensures.added given is)

pub returns-in-Lost-clause-fed : goal.returns-in-Lost-clause-fed
returns-in-Lost-clause-fed g c = λ first given is long from.
    fed_lost (goes_on c.args.connections) c.args.c first (g.D.Desk.seen c.args.desk.now) (g.D.Desk.seen c.feed-fed.new.self) given c.args.piece.now c.feed-fed.result c.feed-fed.new.decoder from
    (c.feed-fed.ensures.takes given is) c.in-Lost.field (c.args.before + c.feed-fed.result.taken) c.in-Lost.is (c.feed-fed.ensures.added given is) c.feed-fed.ensures.most (omega (arith, long))

pub returns-in-Fault-clause-fed : goal.returns-in-Fault-clause-fed
returns-in-Fault-clause-fed g c = λ first given is long from.
    fed_fault (goes_on c.args.connections) c.args.c first (g.D.Desk.seen c.args.desk.now) (g.D.Desk.seen c.feed-fed.new.self) given c.args.piece.now c.feed-fed.result c.feed-fed.new.decoder from
    (c.feed-fed.ensures.takes given is) c.in-Fault.fault c.in-Fault.is (c.feed-fed.ensures.added given is)

pub returns-in_ok-hear_on-in-Wanting-clause-fed : goal.returns-in_ok-hear_on-in-Wanting-clause-fed
returns-in_ok-hear_on-in-Wanting-clause-fed g c = λ first given is long from.
    let k = c.in-Wanting in
    let o = c.in_ok-hear_on-in-Wanting in
    let fed = c.feed-fed.result in
    let decoder = c.feed-fed.new.decoder in
    let now : Seen = g.D.Desk.seen c.args.desk.now in
    let later : Seen = g.D.Desk.seen c.feed-fed.new.self in
    let new : Seen = g.D.Desk.seen c.hear_on.new.desk in
    let more : List Event = events_added c.args.c given (take fed.taken c.args.piece.now) in
    let F : FeedEnd → Type 0 = λ e. Feeds c.args.c more decoder.message e now later in
    let m = wants (goes_on c.args.connections) c.args.c k.kind decoder.message k.fault now later more (subst F k.is (c.feed-fed.ensures.added given is)) in
    let H : List ℕ → Type 0 = λ l. (old : Seen) → Answers old (Heard c.args.c k.kind l) SaysNoMore (Err k.fault) later → Hears (goes_on c.args.connections) (Heard c.args.c k.kind l) (Ok o.field-0) old new in
    let heard : H decoder.message = subst H c.message.ensures o.ensures.heard in
    heard_at_last (goes_on c.args.connections) c.args.c first now later new given c.args.piece.now fed decoder from (c.feed-fed.ensures.takes given is) k.kind k.fault k.is m.0 m.1
    o.field-0 (heard m.0 m.1.answers)

pub returns-in_err-hear_on-in-Wanting-clause-fed : goal.returns-in_err-hear_on-in-Wanting-clause-fed
returns-in_err-hear_on-in-Wanting-clause-fed g c = λ first given is long from.
    let k = c.in-Wanting in
    let e = c.in_err-hear_on-in-Wanting in
    let f = e.field-0.0 in
    let fed = c.feed-fed.result in
    let decoder = c.feed-fed.new.decoder in
    let now : Seen = g.D.Desk.seen c.args.desk.now in
    let later : Seen = g.D.Desk.seen c.feed-fed.new.self in
    let new : Seen = g.D.Desk.seen c.hear_on.new.desk in
    let more : List Event = events_added c.args.c given (take fed.taken c.args.piece.now) in
    let F : FeedEnd → Type 0 = λ e. Feeds c.args.c more decoder.message e now later in
    let m = wants (goes_on c.args.connections) c.args.c k.kind decoder.message k.fault now later more (subst F k.is (c.feed-fed.ensures.added given is)) in
    let H : List ℕ → Type 0 = λ l. (old : Seen) → Answers old (Heard c.args.c k.kind l) SaysNoMore (Err k.fault) later → Hears (goes_on c.args.connections) (Heard c.args.c k.kind l) (Err f) old new in
    let heard : H decoder.message = subst H c.message.ensures e.ensures.heard in
    let p = err_from_is_err_and c.from_residual.result c.from_residual.ensures.1 in
    rw (p.1, p.2)
    (never_heard (goes_on c.args.connections) c.args.c first now later new given c.args.piece.now fed decoder from (c.feed-fed.ensures.takes given is) k.kind k.fault k.is m.0 m.1
    f (heard m.0 m.1.answers) (tries_on (goes_on c.args.connections) c.args.c k.kind decoder.message f new.turns e.ensures.kept))
