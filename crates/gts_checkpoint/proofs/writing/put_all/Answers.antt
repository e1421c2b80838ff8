use Rattle.gts_checkpoint.proofs.Cited.{◌≡◌, ℕ, ap, subst, ◌∙◌, append-nil, OnlyOn, common_steps, arith}
use Rattle.gts_checkpoint.specs.SealingWriter as writers
use Rattle.gts_checkpoint.proofs.AloneLemmas.{on_on}
use Rattle.gts_checkpoint.proofs.WriterLemmas.{put_more, put_apart}
use Rattle.gts_checkpoint.proofs.NeedLemmas.{file_has}
use Rattle.gts_checkpoint.proofs.writing.put_all.Goals as goal

pub returns-in_err-put-clause-alone : goal.returns-in_err-put-clause-alone
returns-in_err-put-clause-alone g c = grind (arith, common_steps, on_on)

pub returns-in_err-put-2-clause-alone : goal.returns-in_err-put-2-clause-alone
returns-in_err-put-2-clause-alone g c = λ observed.
    let file : ℕ = c.args.writer.now.file in
    let a = g.P.Station.calls c.args.station.now in
    let b = g.P.Station.calls c.put_need.new.station in
    let d = g.P.Station.calls c.put.new.station in
    let e = g.P.Station.calls c.put-2.new.station in
    let S : ℕ → Type 0 = λ k. OnlyOn k b d in
    let T : ℕ → Type 0 = λ k. OnlyOn k d e in
    let taken : c.take_seal-seal.new.self.file ≡ file = ap (λ (p : writers.SealingWriter). p.file) c.take_seal-seal.ensures.place ∙ c.in_ok-put_need.ensures.put.file in
    on_on file a d e (on_on file a b d (c.put_need.ensures.alone observed) (subst S taken (c.put.ensures.alone observed)))
    (subst T (c.in_ok-put.ensures.put.file ∙ taken) (c.put-2.ensures.alone observed))

pub returns-in_err-flush-clause-alone : goal.returns-in_err-flush-clause-alone
returns-in_err-flush-clause-alone g c = λ observed.
    let file : ℕ = c.args.writer.now.file in
    let a = g.P.Station.calls c.args.station.now in
    let b = g.P.Station.calls c.put_need.new.station in
    let d = g.P.Station.calls c.put.new.station in
    let e = g.P.Station.calls c.put-2.new.station in
    let f = g.P.Station.calls c.flush.new.station in
    let S : ℕ → Type 0 = λ k. OnlyOn k b d in
    let T : ℕ → Type 0 = λ k. OnlyOn k d e in
    let U : ℕ → Type 0 = λ k. OnlyOn k e f in
    let taken : c.take_seal-seal.new.self.file ≡ file = ap (λ (p : writers.SealingWriter). p.file) c.take_seal-seal.ensures.place ∙ c.in_ok-put_need.ensures.put.file in
    on_on file a e f
    (on_on file a d e (on_on file a b d (c.put_need.ensures.alone observed) (subst S taken (c.put.ensures.alone observed)))
    (subst T (c.in_ok-put.ensures.put.file ∙ taken) (c.put-2.ensures.alone observed)))
    (subst U (c.in_ok-put-2.ensures.put.file ∙ c.in_ok-put.ensures.put.file ∙ taken) (c.flush.ensures.alone observed))

pub returns-clause-alone : goal.returns-clause-alone
returns-clause-alone g c = λ observed.
    let file : ℕ = c.args.writer.now.file in
    let a = g.P.Station.calls c.args.station.now in
    let b = g.P.Station.calls c.put_need.new.station in
    let d = g.P.Station.calls c.put.new.station in
    let e = g.P.Station.calls c.put-2.new.station in
    let f = g.P.Station.calls c.flush.new.station in
    let S : ℕ → Type 0 = λ k. OnlyOn k b d in
    let T : ℕ → Type 0 = λ k. OnlyOn k d e in
    let U : ℕ → Type 0 = λ k. OnlyOn k e f in
    let taken : c.take_seal-seal.new.self.file ≡ file = ap (λ (p : writers.SealingWriter). p.file) c.take_seal-seal.ensures.place ∙ c.in_ok-put_need.ensures.put.file in
    on_on file a e f
    (on_on file a d e (on_on file a b d (c.put_need.ensures.alone observed) (subst S taken (c.put.ensures.alone observed)))
    (subst T (c.in_ok-put.ensures.put.file ∙ taken) (c.put-2.ensures.alone observed)))
    (subst U (c.in_ok-put-2.ensures.put.file ∙ c.in_ok-put.ensures.put.file ∙ taken) (c.flush.ensures.alone observed))

pub returns-clause-written : goal.returns-clause-written
returns-clause-written g c = grind (arith, common_steps, put_more, put_apart, append-nil, file_has)
