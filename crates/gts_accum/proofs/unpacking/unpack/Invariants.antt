use Rattle.gts_accum.proofs.unpacking.unpack.Given as goal

abbrev pub ghosts-unpack_of : goal.ghosts-unpack_of
ghosts-unpack_of g a = record { file = g.S.Source.left a.file; circuit = a.c; faults = g.S.Source.faults a.file }
