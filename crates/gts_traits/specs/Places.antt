-- Where the lines of a circuit are, as contracts see it.
use Rattle.std.specs.Prelude.{ℕ, List, [], ◌∷◌, Option, None}
use Rattle.std.specs.Net.Addr.{ipv4_octets}
use Rattle.gts_traits.specs.declared.place.Place.{Place}

-- The address and the port on which a circuit's bytes come in, the address and the port to which they go out, and after how many
-- seconds without a byte a line counts as broken. An address has four octets.
pub record PlaceSeen : Type 0 where
  pub address : List ℕ
  pub input : ℕ
  pub host : List ℕ
  pub output : ℕ
  pub idle : Option ℕ

abbrev pub place_seen : Place → PlaceSeen
place_seen place = record {
  address = ipv4_octets place.address;
  input = place.input;
  host = ipv4_octets place.host;
  output = place.output;
  idle = place.idle;
}

-- the machine itself
abbrev pub this_machine : List ℕ
this_machine = 127 ∷ 0 ∷ 0 ∷ 1 ∷ []

-- the place of a circuit that was never to be opened
abbrev pub nowhere : PlaceSeen
nowhere = record { address = this_machine; input = 0; host = this_machine; output = 0; idle = None }
