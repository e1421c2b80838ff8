use Rattle.gts_checkpoint.proofs.Cited.{◌≡◌, ◌++◌, ℕ, List, [], ◌∷◌, refl, sym, ap, subst, ◌∙◌, Cuts, OnlyOn, Syncs, Writes, checkpoint_text, closed_gate, header_text, held, need_of, seal, seen, written}
use Rattle.gts_checkpoint.proofs.NeedLemmas.{cut_empty, has_written, wrote_front, file_is}
use Rattle.gts_checkpoint.proofs.AloneLemmas.{on_on, one_on}
use Rattle.gts_checkpoint.proofs.writing.write_with.Goals as goal

pub returns-in_err-cut-clause-alone : goal.returns-in_err-cut-clause-alone
returns-in_err-cut-clause-alone g c = λ observed.
    one_on c.args.file (Cuts c.args.file 0) c.cut.result (g.P.Station.calls c.args.station.now) (g.P.Station.calls c.cut.new.self) refl (c.cut.ensures.told observed)

pub returns-in_err-sync-clause-alone : goal.returns-in_err-sync-clause-alone
returns-in_err-sync-clause-alone g c = λ observed.
    let file : ℕ = c.args.file in
    let a = g.P.Station.calls c.args.station.now in
    let b = g.P.Station.calls c.cut.new.self in
    let d = g.P.Station.calls c.sync.new.self in
    on_on file a b d (one_on file (Cuts file 0) c.cut.result a b refl (c.cut.ensures.told observed)) (one_on file Syncs c.sync.result b d tt (c.sync.ensures.told observed))

pub returns-in_err-write_at-clause-alone : goal.returns-in_err-write_at-clause-alone
returns-in_err-write_at-clause-alone g c = λ observed.
    let file : ℕ = c.args.file in
    let a = g.P.Station.calls c.args.station.now in
    let b = g.P.Station.calls c.cut.new.self in
    let d = g.P.Station.calls c.sync.new.self in
    let w = g.P.Station.calls c.write_at.new.self in
    on_on file a d w
    (on_on file a b d (one_on file (Cuts file 0) c.cut.result a b refl (c.cut.ensures.told observed)) (one_on file Syncs c.sync.result b d tt (c.sync.ensures.told observed)))
    (one_on file (Writes file 0 _) c.write_at.result d w refl (c.write_at.ensures.told observed))

pub returns-in_err-seal-clause-alone : goal.returns-in_err-seal-clause-alone
returns-in_err-seal-clause-alone g c = λ observed.
    let file : ℕ = c.args.file in
    let a = g.P.Station.calls c.args.station.now in
    let b = g.P.Station.calls c.cut.new.self in
    let d = g.P.Station.calls c.sync.new.self in
    let w = g.P.Station.calls c.write_at.new.self in
    let e = g.P.Station.calls c.put_all.new.station in
    let S : ℕ → Type 0 = λ k. OnlyOn k w e in
    on_on file a w e
    (on_on file a d w
    (on_on file a b d (one_on file (Cuts file 0) c.cut.result a b refl (c.cut.ensures.told observed)) (one_on file Syncs c.sync.result b d tt (c.sync.ensures.told observed)))
    (one_on file (Writes file 0 _) c.write_at.result d w refl (c.write_at.ensures.told observed)))
    (subst S c.requires.begins.0 (c.put_all.ensures.alone observed))

pub returns-in_err-sync-2-clause-alone : goal.returns-in_err-sync-2-clause-alone
returns-in_err-sync-2-clause-alone g c = λ observed.
    let file : ℕ = c.args.file in
    let a = g.P.Station.calls c.args.station.now in
    let b = g.P.Station.calls c.cut.new.self in
    let d = g.P.Station.calls c.sync.new.self in
    let w = g.P.Station.calls c.write_at.new.self in
    let e = g.P.Station.calls c.put_all.new.station in
    let f = g.P.Station.calls c.sync-2.new.self in
    let S : ℕ → Type 0 = λ k. OnlyOn k w e in
    on_on file a e f
    (on_on file a w e
    (on_on file a d w
    (on_on file a b d (one_on file (Cuts file 0) c.cut.result a b refl (c.cut.ensures.told observed)) (one_on file Syncs c.sync.result b d tt (c.sync.ensures.told observed)))
    (one_on file (Writes file 0 _) c.write_at.result d w refl (c.write_at.ensures.told observed)))
    (subst S c.requires.begins.0 (c.put_all.ensures.alone observed)))
    (one_on file Syncs c.sync-2.result e f tt (c.sync-2.ensures.told observed))

pub returns-clause-alone : goal.returns-clause-alone
returns-clause-alone g c = λ observed.
    let file : ℕ = c.args.file in
    let a = g.P.Station.calls c.args.station.now in
    let b = g.P.Station.calls c.cut.new.self in
    let d = g.P.Station.calls c.sync.new.self in
    let w = g.P.Station.calls c.write_at.new.self in
    let e = g.P.Station.calls c.put_all.new.station in
    let f = g.P.Station.calls c.sync-2.new.self in
    let S : ℕ → Type 0 = λ k. OnlyOn k w e in
    on_on file a e f
    (on_on file a w e
    (on_on file a d w
    (on_on file a b d (one_on file (Cuts file 0) c.cut.result a b refl (c.cut.ensures.told observed)) (one_on file Syncs c.sync.result b d tt (c.sync.ensures.told observed)))
    (one_on file (Writes file 0 _) c.write_at.result d w refl (c.write_at.ensures.told observed)))
    (subst S c.requires.begins.0 (c.put_all.ensures.alone observed)))
    (one_on file Syncs c.sync-2.result e f tt (c.sync-2.ensures.told observed))

pub returns-clause-written : goal.returns-clause-written
returns-clause-written g c = λ observed.
    let file : ℕ = c.args.file in
    let mark : List ℕ = c.args.mark in
    let n = need_of c.args.need.now in
    let cp : List ℕ = checkpoint_text n in
    let a = g.P.Station.calls c.args.station.now in
    let b = g.P.Station.calls c.cut.new.self in
    let d = g.P.Station.calls c.sync.new.self in
    let w = g.P.Station.calls c.write_at.new.self in
    let mid = g.P.Station.calls c.put_all.new.station in
    let h : List ℕ = c.header-front.result in
    let before : List ℕ = held written c.args.before.now in
    let k : List ℕ = closed_gate ∷ [] in
    let front : seen w file ≡ h = wrote_front file h d w (c.in_ok-write_at.ensures.told observed) (cut_empty file a b d (c.in_ok-cut.ensures.told observed) (c.in_ok-sync.ensures.told observed)) in
    has_written mark n file mid (g.P.Station.calls c.sync-2.new.self) (c.in_ok-sync-2.ensures.told observed)
    (ap (λ (j : ℕ). seen mid j) (sym c.requires.begins.0)
    ∙ c.in_ok-seal.ensures.written observed
    ∙ ap (λ (j : ℕ). seen w j ++ ((cp ++ seal written before cp) ++ k)) c.requires.begins.0
    ∙ ap (λ (l : List ℕ). l ++ ((cp ++ seal written before cp) ++ k)) (front ∙ c.header-front.ensures)
    ∙ ap (λ (l : List ℕ). header_text mark ++ ((cp ++ seal written l cp) ++ k)) c.requires.first
    ∙ file_is mark n)
