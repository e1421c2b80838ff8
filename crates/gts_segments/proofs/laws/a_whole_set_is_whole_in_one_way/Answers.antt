use Rattle.std.proofs.Common.{sym, ◌∙◌, arith}
use Rattle.gts_segments.proofs.StatusLemmas.{all_groups, places_of_complete, lasts_of_complete, zero_from_missing}
use Rattle.gts_segments.proofs.laws.a_whole_set_is_whole_in_one_way.Goals as goal

pub returns-clause-one : goal.returns-clause-one
returns-clause-one c p k l at_k at_l = sym (places_of_complete p k at_k) ∙ places_of_complete p l at_l

pub returns-clause-all : goal.returns-clause-all
returns-clause-all c p k is = omega (arith, all_groups p, places_of_complete p k is, (lasts_of_complete p k is).0)

pub returns-clause-there : goal.returns-clause-there
returns-clause-there c p k is missing = omega (arith, zero_from_missing p missing, (lasts_of_complete p k is).0)
