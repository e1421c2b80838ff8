use Rattle.gts_lock.proofs.Cited.{rules, ◌∙◌, ap, sym, ◌∷◌, Some}
use Rattle.atomic_table.specs.Table.{rest}
use Rattle.gts_lock.proofs.hall.Hall.enter.Goals as goal

pub exchange-before-requires : goal.exchange-before-requires
exchange-before-requires g c =
    let turn = c.await_turn.ensures.turn in
    let e = ap (λ (m : _). m.1) turn.now in
    (search rules, (Some turn.value, e ∙ ap (λ (l : _). (0, Some turn.value) ∷ rest l) (sym e)))
