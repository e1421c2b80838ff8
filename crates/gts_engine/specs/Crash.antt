-- What a crash leaves of an engine over a station that is observed, and is given all that is said.
use Rattle.std.specs.Prelude.{List}
use Rattle.gts_engine.specs.Cited.Below.{EachSince, Entry, Files, IsLeftNow, LeavesReading, LeavesWhole, Outside, StationMeanings}
use Rattle.gts_engine.specs.declared.mode.SayMode.TheVariants.{Station}
use Rattle.gts_engine.specs.Engine.{Engine, shown}
use Rattle.gts_engine.specs.Origin.{Origin, history_of}
use Rattle.gts_engine.specs.Keeping.{Keeps}

-- at each moment since the origin, in the middle of a write too
abbrev pub LeavesAlways : {P : Type 0} → StationMeanings P → Origin → List Entry → Engine P → Type 0
LeavesAlways station o entries e =
    station.observed → Keeps station.observed Station o entries (shown station.calls e)
    → EachSince o.calls (station.calls e.station) (LeavesReading o.directory (history_of o entries))

-- and now
abbrev pub LeavesNow : {P : Type 0} → StationMeanings P → Origin → List Entry → Engine P → Files → Outside → Type 0
LeavesNow station o entries e files outside =
    station.observed → Keeps station.observed Station o entries (shown station.calls e)
    → IsLeftNow o.calls (station.calls e.station) files outside → LeavesWhole o.directory (history_of o entries) files outside
