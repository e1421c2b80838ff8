use Rattle.gts_accum.proofs.Cited.{◌≡◌, ◌≤◌, ◌++◌, ℕ, List, [], length, take, Result, Option, sym, ap, subst, ◌∙◌, append_assoc, arith, unwrap_or, length-append, length-take-le, Call, LONGEST_STREAM, PieceEnds, Stands, Stop}
use Rattle.gts_accum.proofs.PackLemmas.{same_files, in_stream, past_stream, piece_files}
use Rattle.gts_accum.proofs.packing.pack.Goals as goal

pub returns-in-Ok-eq0-clause-files : goal.returns-in-Ok-eq0-clause-files
returns-in-Ok-eq0-clause-files g c =
    let taken = c.loop-decoder.invariant.taken in
    let st = taken.3 in
    let first : List Call = g.P.Station.calls c.args.station.now in
    same_files g.P.Station.observed c.finish.result taken.0 [] first (g.P.Station.calls c.finish.new.station)
    (c.finish.ensures.ends first taken.0 st.held taken.2 st.holds (c.rest.ensures ∙ ap (λ (o : Option (List ℕ)). length (unwrap_or o [])) st.is))

pub returns-in-Err-Lost-clause-packs : goal.returns-in-Err-Lost-clause-packs
returns-in-Err-Lost-clause-packs g c = λ s.
    let taken = c.loop-decoder.invariant.taken in
    let ends = c.take_piece.ensures.ends (g.P.Station.calls c.args.station.now) taken.0 taken.2 taken.3 in
    let is = in_stream g.P.Station.observed _ _ _ _ _ _ _ c.min-room.result c.in-Ok-read.count c.take_piece.result _ (taken.1 s) (c.in-Ok-read.ensures.bytes s).0 (omega (arith, c.min-room.ensures))
    (omega (arith, c.in-Ok-read.ensures.count)) ends in
    is.lost _ (cc)

pub returns-in-Err-Lost-clause-files : goal.returns-in-Err-Lost-clause-files
returns-in-Err-Lost-clause-files g c =
    let taken = c.loop-decoder.invariant.taken in
    piece_files g.P.Station.observed _ _ _ c.take_piece.result _ (c.take_piece.ensures.ends _ taken.0 taken.2 taken.3)

pub returns-in-Err-Unsaid-clause-packs : goal.returns-in-Err-Unsaid-clause-packs
returns-in-Err-Unsaid-clause-packs g c = λ s.
    let taken = c.loop-decoder.invariant.taken in
    let ends = c.take_piece.ensures.ends (g.P.Station.calls c.args.station.now) taken.0 taken.2 taken.3 in
    let is = in_stream g.P.Station.observed _ _ _ _ _ _ _ c.min-room.result c.in-Ok-read.count c.take_piece.result _ (taken.1 s) (c.in-Ok-read.ensures.bytes s).0 (omega (arith, c.min-room.ensures))
    (omega (arith, c.in-Ok-read.ensures.count)) ends in
    is.unsaid (cc)

pub returns-in-Err-Unsaid-clause-files : goal.returns-in-Err-Unsaid-clause-files
returns-in-Err-Unsaid-clause-files g c =
    let taken = c.loop-decoder.invariant.taken in
    piece_files g.P.Station.observed _ _ _ c.take_piece.result _ (c.take_piece.ensures.ends _ taken.0 taken.2 taken.3)

pub returns-then-room-count-clause-packs : goal.returns-then-room-count-clause-packs
returns-then-room-count-clause-packs g c = λ s.
    let taken = c.loop-decoder.invariant.taken in
    let bytes : List ℕ = taken.0 in
    let into : List ℕ = c.read.new.into in
    let room : ℕ = c.min-room.result in
    let ends = c.take_piece.ensures.ends (g.P.Station.calls c.args.station.now) bytes taken.2 taken.3 in
    let few : c.in-Ok-read.count ≤ length into = omega (arith, c.in-Ok-read.ensures.count) in
    let long : length (bytes ++ take room into) ≡ LONGEST_STREAM =
    omega (arith, length-append bytes (take room into), length-take-le room into (omega (arith, few, c.if-room-count.true)), taken.2, c.min-room.ensures, c.if-room-count.true, c.loop-decoder.invariant.short) in
    past_stream g.P.Station.observed _ _ _ bytes _ into _ room c.in-Ok-read.count _ (taken.1 s) (c.in-Ok-read.ensures.bytes s).0 (omega (arith, c.if-room-count.true)) few long
    (subst (λ r. PieceEnds g.P.Station.observed (g.P.Station.calls c.args.station.now) (g.P.Station.calls c.take_piece.new.station) (bytes ++ take room into) r c.take_piece.new.decoder) c.in-Ok-take_piece.is ends)

pub returns-then-room-count-clause-files : goal.returns-then-room-count-clause-files
returns-then-room-count-clause-files g c =
    let taken = c.loop-decoder.invariant.taken in
    piece_files g.P.Station.observed _ _ _ c.take_piece.result _ (c.take_piece.ensures.ends _ taken.0 taken.2 taken.3)

pub loop-decoder-preserved : goal.loop-decoder-preserved
loop-decoder-preserved g c =
    let taken = c.loop-decoder.invariant.taken in
    let bytes : List ℕ = taken.0 in
    let first : List Call = g.P.Station.calls c.args.station.now in
    let now : List Call = g.P.Station.calls c.take_piece.new.station in
    let into : List ℕ = c.read.new.into in
    let room : ℕ = c.min-room.result in
    let count : ℕ = c.in-Ok-read.count in
    let few : count ≤ length into = omega (arith, c.in-Ok-read.ensures.count) in
    let all : room ≡ count = omega (arith, c.min-room.ensures, c.if-room-count.false) in
    let E : Result (Unit {0}) Stop → Type 0 = λ r. PieceEnds g.P.Station.observed first now (bytes ++ take room into) r c.take_piece.new.decoder in
    let stands : Stands g.P.Station.observed first now (bytes ++ take room into) c.take_piece.new.decoder = subst E c.in-Ok-take_piece.is (c.take_piece.ensures.ends first bytes taken.2 taken.3) in
    record {
      taken = (
        bytes ++ take room into,
        λ s. taken.1 s ∙ ap (λ (l : List ℕ). bytes ++ l) ((c.in-Ok-read.ensures.bytes s).0 ∙ ap (λ (n : ℕ). take n into ++ g.S.Source.left c.read.new.self) (sym all))
            ∙ sym (append_assoc bytes (take room into) (g.S.Source.left c.read.new.self)),
        omega (arith, taken.2, length-append bytes (take room into), length-take-le room into (omega (arith, few, all)), all),
        stands,
      );
      short = omega (arith, c.min-room.ensures, c.if-room-count.false, c.loop-decoder.invariant.short);
      read = c.in-Ok-read.ensures.cause.sound ∙ c.loop-decoder.invariant.read;
      say = c.in-Ok-take_piece.ensures.cause.sound ∙ c.loop-decoder.invariant.say;
      disk = c.take_piece.ensures.cause.disk ∙ c.loop-decoder.invariant.disk;
    }
