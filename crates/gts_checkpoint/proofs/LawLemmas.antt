-- What the proofs of crates above need of a checkpoint.
use Rattle.gts_checkpoint.proofs.Cited.{◌≡◌, ℕ, ◌<◌, ◌≤◌, nat_lt, true, List, [], ◌∷◌, length, arith, AllByRecursion, Bulletin, Directory, FitBytes, FitsByte, is_bulletin, is_sound, list_all, nat_tests, sound-parts}
use Rattle.gts_checkpoint.specs.Cited.{Need}
pub use Rattle.gts_checkpoint.proofs.SealLemmas.{starts_front}
pub use Rattle.gts_checkpoint.proofs.ReadLemmas.{MayBegin, fit_bodies, may_begin}
pub use Rattle.gts_checkpoint.proofs.HeadLemmas.{bulletin_listed, circuit_listed, front_more, length-or_else, listed_low, listed_more, need_front}

-- each bulletin of a sound need came in on a circuit
below_all : (d : Directory) (count : ℕ) (bs : List Bulletin) → length d.circuits ≤ 64 → list_all (is_bulletin d count) bs ≡ true → AllByRecursion FitsByte bs
below_all d count [] few all = tt
below_all d count (b ∷ bs) few all =
    let here : nat_lt b.from (length d.circuits) ≡ true = grind (arith, nat_tests) in
    let rest : list_all (is_bulletin d count) bs ≡ true = grind (arith, nat_tests) in
    let low : b.from < 256 = grind (arith, nat_tests) in
    (low, below_all d count bs few rest)

pub fit_bytes : (d : Directory) (n : Need) → length d.circuits ≤ 64 → is_sound d n ≡ true → FitBytes n
fit_bytes d n few sound = below_all d n.accepted n.bulletins few (sound-parts d n sound).bodies
