-- Whether bytes that stand in no file are a checkpoint.
use Rattle.gts_checkpoint.proofs.Cited.{common_steps, ◌≡◌, ℕ, ◌+◌, ◌-◌, ◌*◌, ◌^◌, ◌<◌, false, List, [], ◌∷◌, ◌++◌, length, Option, None, sym, ap, subst, ◌∙◌, arith, length-append, false≢true, append-nil, BeginsWith, CanBegin, Directory, FindsText, FitsNeed, IsCheckpoint, Version, bytes_from, checkpoint_text, draw_size, first_of, is_sound, laid, need_of, seal_size, Need, sound-parts, fits-sound}
use Rattle.gts_event.specs.Need as needs
use Rattle.gts_checkpoint.proofs.CheckpointBytesLemmas.{behind-in_front}
use Rattle.gts_checkpoint.proofs.ReadLemmas.{Stands, Counted, need_read, fit_bodies, over_limit}

pub bytes_there : (checkpoint_bytes bytes : List ℕ) → laid checkpoint_bytes ≡ laid bytes → bytes_from (laid checkpoint_bytes) 0 41 ≡ bytes
bytes_there checkpoint_bytes bytes same = ap (λ l. bytes_from l 0 41) same ∙ behind-in_front bytes 41 (omega arith)

fits_there : (v : Version) (d : Directory) (bytes : List ℕ) (m : needs.Need) → d.limit < 256 ^ 4 → IsCheckpoint v d bytes m → FitsNeed m
fits_there v d bytes m low is = fits-sound v d m is.sound (omega (arith, is.room, low))

starts_there : (v : Version) (d : Directory) (bytes : List ℕ) (m : needs.Need) → IsCheckpoint v d bytes m → BeginsWith bytes (checkpoint_text m)
starts_there v d bytes m is = ([], is.text ∙ sym (append-nil (checkpoint_text m)))

-- of no more than one need
same_need : (v : Version) (d : Directory) (bytes : List ℕ) (n m : needs.Need) → d.limit < 256 ^ 4 → Stands bytes n → IsCheckpoint v d bytes m → m ≡ n
same_need v d bytes n m low stands is =
    sym (need_read bytes m (starts_there v d bytes m is) (fits_there v d bytes m low is) is.free) ∙ need_read bytes n stands.begins stands.fits stands.free

-- none stands there
pub no_text : (v : Version) (d : Directory) (bytes : List ℕ) (count : ℕ) (found : Option (Need × ℕ)) → count ≡ length d.circuits → d.limit < 256 ^ 4 → found ≡ None → FindsText bytes count (first_of found)
    → (m : needs.Need) → IsCheckpoint v d bytes m → ⊥
no_text v d bytes count found few low none finds m is =
    let s = sound-parts d m is.sound in
    let F : Option (Need × ℕ) → Type 0 = λ o. FindsText bytes count (first_of o) in
    let no = subst F none finds in
    no m (fits_there v d bytes m low is) (s.same ∙ sym few) (fit_bodies d m.accepted m.bulletins s.few s.bodies) (starts_there v d bytes m is)

-- more stands behind it
pub not_whole : (v : Version) (d : Directory) (bytes : List ℕ) (n : needs.Need) (at : ℕ) → d.limit < 256 ^ 4 → Stands bytes n → at ≡ 41 + length (checkpoint_text n) → (at - 41 ≡ length bytes → ⊥)
    → (m : needs.Need) → IsCheckpoint v d bytes m → ⊥
not_whole v d bytes n at low stands place differs m is =
    let same = same_need v d bytes n m low stands is in
    let long : length bytes ≡ length (checkpoint_text n) = ap (λ (l : List ℕ). length l) is.text ∙ ap (λ (k : needs.Need). length (checkpoint_text k)) same in
    differs (omega (arith, place, long))

pub no_limit : (v : Version) (d : Directory) (bytes : List ℕ) (n : Need) (at w limit : ℕ) → Stands bytes (need_of n) → Counted d n at w limit → limit < at + seal_size v + 1 + draw_size v * w
    → (m : needs.Need) → IsCheckpoint v d bytes m → ⊥
no_limit v d bytes n at w limit stands counts over m is =
    let low : d.limit < 256 ^ 4 = omega (arith, counts.limit_is, counts.low) in
    let I : needs.Need → Type 0 = λ k. IsCheckpoint v d bytes k in
    let it = subst I (same_need v d bytes (need_of n) m low stands is) is in
    over_limit v d n at w limit counts over it.sound it.room

pub no_history : (v : Version) (d : Directory) (bytes : List ℕ) (n : needs.Need) → d.limit < 256 ^ 4 → Stands bytes n → is_sound d n ≡ false → (m : needs.Need) → IsCheckpoint v d bytes m → ⊥
no_history v d bytes n low stands none m is =
    absurd (false≢true (sym none ∙ ap (is_sound d) (sym (same_need v d bytes n m low stands is)) ∙ is.sound))

ends_there : (text rest : List ℕ) → length (text ++ rest) ≡ length text → text ++ rest ≡ text
ends_there text [] long = append-nil text
ends_there text (x ∷ rest) long = absurd (omega (arith, long, length-append text (x ∷ rest)))

-- it stands there alone, and may be the first record
pub is_checkpoint : (v : Version) (d : Directory) (bytes : List ℕ) (n : needs.Need) (at gate : ℕ) → Stands bytes n → at ≡ 41 + length (checkpoint_text n) → at - 41 ≡ length bytes → CanBegin v d n gate
    → IsCheckpoint v d bytes n
is_checkpoint v d bytes n at gate stands place whole can = grind (arith, common_steps, ends_there)
