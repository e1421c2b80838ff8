use Rattle.gts_circuits.proofs.Cited.{rules, ◌≡◌, ◌*◌, List, length, sym, ap, ◌∙◌, arith, get_elem?, Known, Work, common_steps}
use Rattle.gts_circuits.proofs.StaffLemmas.{count_receivers, count_senders, count_works, each_worker, at_their_ends}
use Rattle.gts_circuits.proofs.EndedLemmas.{have_ended, are_joined}
use Rattle.gts_circuits.proofs.workers.running.run_all.Goals as goal

pub line_up-requires : goal.line_up-requires
line_up-requires g c = grind (arith, common_steps, count_receivers, count_senders)

pub gather-first-requires-clause-halls : goal.gather-first-requires-clause-halls
gather-first-requires-clause-halls g c = λ k w at.
    let hall = c.args.hall.now in
    let sockets = c.args.sockets.items in
    let kept : length c.work_all.new.workers ≡ length c.as_mut_slice.result.now = search rules in
    let all = at_their_ends hall sockets c.work_all.new.workers c.staff-first.ensures.receivers c.staff-first.ensures.senders c.line_up.ensures c.line_up.new.workers.ok.0 c.as_mut_slice.ensures.value kept c.work_all.ensures in
    (each_worker hall sockets k w (ap (λ (l : List (Work _ _)). get_elem? l k) (sym all) ∙ at)).0

pub gather-first-requires-clause-room : goal.gather-first-requires-clause-room
gather-first-requires-clause-room g c =
    let hall = c.args.hall.now in
    let sockets = c.args.sockets.items in
    let kept : length c.work_all.new.workers ≡ length c.as_mut_slice.result.now = search rules in
    let all = at_their_ends hall sockets c.work_all.new.workers c.staff-first.ensures.receivers c.staff-first.ensures.senders c.line_up.ensures c.line_up.new.workers.ok.0 c.as_mut_slice.ensures.value kept c.work_all.ensures in
    let count = ap (λ (l : List (Work _ _)). length l) all ∙ count_works hall sockets in
    let i = c.crew.invariant in
    (i.2, omega (arith, count, c.requires.room, c.crew.view_is, i.5))

pub returns-clause-joined : goal.returns-clause-joined
returns-clause-joined g c =
    let hall = c.args.hall.now in
    let sockets = c.args.sockets.items in
    let kept : length c.work_all.new.workers ≡ length c.as_mut_slice.result.now = search rules in
    let all = at_their_ends hall sockets c.work_all.new.workers c.staff-first.ensures.receivers c.staff-first.ensures.senders c.line_up.ensures c.line_up.new.workers.ok.0 c.as_mut_slice.ensures.value kept c.work_all.ensures in
    let parted : c.gather-first.result.parted ≡ 2 * length sockets = c.gather-first.ensures.pass.0 ∙ ap (λ (p : Known _). p.parted) c.staff-first.ensures.pass in
    are_joined g.B.Began.beginning g.S.Source g.K.Sink hall sockets c.gather-first.result c.gather-first.new.lines.items
    (have_ended g.B.Began.beginning g.S.Source g.K.Sink hall sockets c.gather-first.result c.gather-first.new.lines.items all c.gather-first.ensures.joined c.gather-first.ensures.gathered) parted

pub returns-clause-count : goal.returns-clause-count
returns-clause-count g c =
    let hall = c.args.hall.now in
    let sockets = c.args.sockets.items in
    let kept : length c.work_all.new.workers ≡ length c.as_mut_slice.result.now = search rules in
    let all = at_their_ends hall sockets c.work_all.new.workers c.staff-first.ensures.receivers c.staff-first.ensures.senders c.line_up.ensures c.line_up.new.workers.ok.0 c.as_mut_slice.ensures.value kept c.work_all.ensures in
    c.gather-first.ensures.count ∙ ap (λ (l : List (Work _ _)). length l) all ∙ count_works hall sockets

pub returns-clause-ended : goal.returns-clause-ended
returns-clause-ended g c =
    let hall = c.args.hall.now in
    let sockets = c.args.sockets.items in
    let kept : length c.work_all.new.workers ≡ length c.as_mut_slice.result.now = search rules in
    let all = at_their_ends hall sockets c.work_all.new.workers c.staff-first.ensures.receivers c.staff-first.ensures.senders c.line_up.ensures c.line_up.new.workers.ok.0 c.as_mut_slice.ensures.value kept c.work_all.ensures in
    have_ended g.B.Began.beginning g.S.Source g.K.Sink hall sockets c.gather-first.result c.gather-first.new.lines.items all c.gather-first.ensures.joined c.gather-first.ensures.gathered
