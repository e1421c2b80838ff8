use Rattle.std.proofs.Common.{rules}
use Rattle.gts_real.proofs.station.FileStationStation.TheImpl.Goals as goal

pub size-tells : goal.size-tells
size-tells g c = record {
  size = λ told. absurd told;
  told = λ told. absurd told;
  cause = search rules;
  say = search rules;
}

pub read-tells : goal.read-tells
read-tells g c = record {
  count = λ told. absurd told;
  bytes = λ told. absurd told;
  told = λ told. absurd told;
  within = search rules;
  cause = search rules;
  say = search rules;
}

pub write_at-tells : goal.write_at-tells
write_at-tells g c = record {
  told = λ told. absurd told;
  cause = search rules;
  say = search rules;
}

pub cut-tells : goal.cut-tells
cut-tells g c = record {
  told = λ told. absurd told;
  cause = search rules;
  say = search rules;
}

pub sync-tells : goal.sync-tells
sync-tells g c = record {
  told = λ told. absurd told;
  cause = search rules;
  say = search rules;
}

pub say-tells : goal.say-tells
say-tells g c = record {
  told = λ told. absurd told;
  kept = λ told. absurd told;
  cause = search rules;
  disk = search rules;
}

pub keep-tells : goal.keep-tells
keep-tells g c = record {
  told = λ told. absurd told;
  kept = λ told. absurd told;
  cause = search rules;
  disk = search rules;
}
