use Rattle.gts_engine.proofs.Cited.{◌≡◌, take}
use Rattle.gts_engine.specs.Sayings.{sizes_of}
use Rattle.gts_engine.proofs.SayingLemmas.{SaysUpTo}
use Rattle.gts_engine.proofs.steps.say_held.Given as goal

-- the pieces before this one were said
abbrev pub invariant-loop-i : goal.invariant-loop-i
invariant-loop-i g l = record {
  at : l.at ≡ sizes_of (take l.i l.fn.parts.held.each);
  up : SaysUpTo g.P.Station l.fn.parts l.i l.parts;
}
