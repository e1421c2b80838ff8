-- An engine over a station in memory, before a day and behind it.
use Rattle.std.specs.Prelude.{◌≡◌, ℕ, List, [], None}
use Rattle.gts_generate.specs.Cited.Below.{Call, Engine, Holds, IsStart, Keeps, Origin, Station, StationInMemory, calls_of, nothing, said_by, shown}
use Rattle.gts_generate.specs.Centre.{directory}
use Rattle.gts_generate.specs.History.{start, history, state_after, used_after, outside_of}

-- the calls that were made on the station
abbrev pub calls_on : StationInMemory → List Call
calls_on station = calls_of station.past

-- the history of a day begins with nothing, behind these calls
abbrev pub day_origin : List Call → Origin
day_origin calls = record { directory = directory; start = nothing directory; used = 41; calls = calls; compactions = [] }

-- nothing came yet, and nothing was said
pub record BeginsDay (e : Engine StationInMemory) : Type 0 where
  pub under : e.directory ≡ directory
  pub silent : said_by (calls_on e.station) ≡ []
  pub begins : IsStart directory start
  pub stands : Keeps (Unit {0}) Station (day_origin (calls_on e.station)) [] (shown calls_on e)

-- all of a day of so many messages was done
pub record EndsDay (count : ℕ) (e : Engine StationInMemory) : Type 0 where
  pub going : e.stopped ≡ None
  pub core : Holds directory e.core (state_after (history count))
  pub used : e.used ≡ used_after (history count)
  pub said : said_by (calls_on e.station) ≡ outside_of count
