use Rattle.gts_dirfile.proofs.AddressLemmas.{address-both}
use Rattle.gts_dirfile.proofs.laws.an_address_is_read_from_its_writing_alone.Goals as goal

pub returns : goal.returns
returns c text address = address-both text address
