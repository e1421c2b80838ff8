-- The places at which circuits are to be opened.
use Rattle.gts_traits.specs.Places.{PlaceSeen, place_seen}
use Rattle.gts_circuits.specs.declared.service.room.CircuitRoom.{CircuitRoom}

abbrev pub place_asked : CircuitRoom → PlaceSeen
place_asked room = place_seen room.place
