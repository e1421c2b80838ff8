use Rattle.gts_dirfile.proofs.AddressLemmas.{none-where}
use Rattle.gts_dirfile.proofs.values.dotted.Goals as goal

pub returns-in-Err : goal.returns-in-Err
returns-in-Err c =
    none-where _ (λ address read. c.in-Err.ensures address (rw c.as_bytes.ensures.value ((c.an_address_is_read_from_its_writing_alone.ensures _ address).0 read)))
