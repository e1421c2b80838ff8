use Rattle.gts_standby.proofs.Cited.{arith, sym, agreeing-same, agreeing-other, agreeing-end}
use Rattle.gts_standby.proofs.header.agreeing.Goals as goal
use Rattle.gts_standby.proofs.header.agreeing.Goals.{then-i-bytes-via-then-i-bytes, then-i-bytes-via-else-i-bytes+then-bytes-i}

pub returns-then-i-bytes-clause-value : goal.returns-then-i-bytes-clause-value
returns-then-i-bytes-clause-value c =
    elim c.then-i-bytes.branch [
      | then-i-bytes-via-then-i-bytes w ↦ agreeing-end c.args.header.now c.args.bytes.now c.loop-i.i _ w.if-i-bytes.true c.loop-i.invariant
      | then-i-bytes-via-else-i-bytes+then-bytes-i w ↦
          agreeing-other c.args.header.now c.args.bytes.now c.loop-i.i _ (omega arith) w.if-i-bytes.false (λ e. w.if-bytes-i.true (sym e)) c.loop-i.invariant
    ]

pub loop-i-preserved : goal.loop-i-preserved
loop-i-preserved c = agreeing-same c.args.header.now c.args.bytes.now c.loop-i.i _ (omega arith) c.if-i-bytes.false (sym c.if-bytes-i.false) c.loop-i.invariant
