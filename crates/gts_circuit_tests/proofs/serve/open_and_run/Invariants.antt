use Rattle.gts_circuit_tests.specs.Cited.{goes_on, opened_as}
use Rattle.gts_circuit_tests.proofs.serve.open_and_run.Given as goal

-- the history begins with the engine that was opened
abbrev pub ghosts-run : goal.ghosts-run
ghosts-run g a = record { beginning = opened_as g.P.Station (goes_on a.connections) a.engine }
