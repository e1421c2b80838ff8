use Rattle.gts_standby.proofs.Cited.{rules, tests, ◌∙◌, circuit_need_of, has_fewer, YieldsList-from_slice, YieldsList-from_zip, any_from_yields_List}
use Rattle.gts_standby.proofs.FurtherLemmas.{fewer_seen}
use Rattle.gts_standby.proofs.further.one_has_fewer.Goals as goal

pub returns : goal.returns
returns c =
    any_from_yields_List (λ pair. has_fewer (circuit_need_of pair.0) (circuit_need_of pair.1)) c.any.new.self _ c.any.result c.any.ensures.ran
    (YieldsList-from_zip (YieldsList-from_slice c.args.fed.now cc) (YieldsList-from_slice c.args.own.now cc)) (λ x b q k. search (rules, tests))
    ∙ fewer_seen c.args.fed.now c.args.own.now
