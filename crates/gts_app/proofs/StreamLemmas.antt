-- What the commands come to that read a stream or a capture and use no journal.
use Rattle.gts_app.proofs.Cited.{◌≡◌, ℕ, Ok, Err, inl, inr, refl, ap, arith, CountsPack, Directory, GapsEnd, Ghosts as StationMeanings, HasGapsCause, IsReadEnd, KeepsFiles, Moment, NamedAs, Names, NamesGaps, PackEnd, PackedAs, Packs, PacksStream, ReadsDirectory, SameFiles, SourceMeanings, Status, seen, status_named, status_packed, world, common_steps}
use Rattle.gts_directory.specs.Directory as directories
use Rattle.gts_app.proofs.UnreadLemmas.{by_end, new_ended}
use Rattle.gts_accum.specs.declared.pack_end.PackEnd.TheVariants as packs
use Rattle.gts_gap.specs.declared.fault.GapsEnd.TheVariants as gaps

-- ---- where there is no directory

unread_keeps : {S P : Type 0} (source : SourceMeanings S) (station : StationMeanings P) (status : Status) (od nd oc : S) (at : P)
    → ReadsDirectory source (Err status) od nd → KeepsFiles source station (world od oc at) (world nd oc at)
unread_keeps source station status od nd oc at h = grind (arith, common_steps)

pub pack_unread : {S P : Type 0} (source : SourceMeanings S) (station : StationMeanings P) (status : Status) (od nd oc : S) (at : P)
    → ReadsDirectory source (Err status) od nd → PacksStream source station status (world od oc at) (world nd oc at)
pack_unread source station status od nd oc at h = record {
  means = by_end (λ fault. Directory fault) IsReadEnd new_ended source status od nd h (λ s. PackedAs source station s (world od oc at) (world nd oc at))
      (λ fault is. ((refl, refl), is)) (λ rose. inl ((refl, refl), rose)) (refl, refl);
  keeps = unread_keeps source station status od nd oc at h;
}

pub gaps_unread : {S P : Type 0} (source : SourceMeanings S) (station : StationMeanings P) (moment : Moment) (status : Status) (od nd oc : S) (at : P)
    → ReadsDirectory source (Err status) od nd → NamesGaps source station moment status (world od oc at) (world nd oc at)
gaps_unread source station moment status od nd oc at h = record {
  means = by_end (λ fault. Directory fault) IsReadEnd new_ended source status od nd h (λ s. NamedAs source station moment s (world od oc at) (world nd oc at))
      (λ fault is. ((refl, refl), is)) (λ rose. (refl, inl rose)) refl;
  keeps = unread_keeps source station status od nd oc at h;
}

-- ---- where there is one

pub pack_ends : {S P : Type 0} (source : SourceMeanings S) (station : StationMeanings P) (d : directories.Directory) (end : PackEnd) (od nd oc nc : S) (old new : P)
    → ReadsDirectory source (Ok d) od nd
    → (source.observed → Packs station.observed end (source.left oc) (source.left nc) (station.calls old) (station.calls new))
    → (end ≡ packs.NoMemory → (nc ≡ oc) × (new ≡ old)) → (station.observed → SameFiles (station.calls old) (station.calls new))
    → CountsPack source station end oc nc old new → PacksStream source station (status_packed end) (world od oc old) (world nd nc new)
pack_ends source station d end od nd oc nc old new h is unmade files cause = grind (arith, common_steps)

pub gaps_ends : {S P : Type 0} (source : SourceMeanings S) (station : StationMeanings P) (moment : Moment) (d : directories.Directory) (end : GapsEnd) (od nd oc nc : S) (old new : P)
    → ReadsDirectory source (Ok d) od nd
    → Names source.observed station.observed d moment end (source.left oc) old new (station.calls old) (station.calls new)
    → HasGapsCause end (source.faults oc) (source.faults nc) (station.say_faults old) (station.say_faults new)
    → station.disk_faults new ≡ station.disk_faults old
    → NamesGaps source station moment (status_named end) (world od oc old) (world nd nc new)
gaps_ends {S} {P} source station moment d end od nd oc nc old new h is cause disk = record {
  means = go end is cause;
  keeps = record {
    taken = h.taken;
    source_counts = (h.cause.later, cause.source_later);
    station_counts = (cause.say_later, disk);
    files = files end is;
  };
}
  where
    go : (e : GapsEnd) → Names source.observed station.observed d moment e (source.left oc) old new (station.calls old) (station.calls new)
        → HasGapsCause e (source.faults oc) (source.faults nc) (station.say_faults old) (station.say_faults new)
        → NamedAs source station moment (status_named e) (world od oc old) (world nd nc new)
    go gaps.Done is cause = record { directory = d; read = λ observed. h.read observed d refl; holds = is }
    go (gaps.Capture at) is cause = (is.1, record { directory = d; read = λ observed. h.read observed d refl; holds = is.0 })
    go gaps.SourceFault is cause = (is, inr (cause.source_failed refl))
    go gaps.SayFault is cause = (cause.say_failed refl, record { directory = d; read = λ observed. h.read observed d refl; holds = is })
    go gaps.NoMemory is cause = is

    unchanged : new ≡ old → station.observed → (k : ℕ) → seen (station.calls new) k ≡ seen (station.calls old) k
    unchanged same told k = ap (λ (p : P). seen (station.calls p) k) same

    files : (e : GapsEnd) → Names source.observed station.observed d moment e (source.left oc) old new (station.calls old) (station.calls new)
        → station.observed → (k : ℕ) → seen (station.calls new) k ≡ seen (station.calls old) k
    files gaps.Done is = λ told. (is.holds told).files
    files (gaps.Capture at) is = unchanged is.1
    files gaps.SourceFault is = unchanged is
    files gaps.SayFault is = λ told. (is.holds told).said.files
    files gaps.NoMemory is = unchanged is
