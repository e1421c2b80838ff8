use Rattle.gts_generate.proofs.Cited.{◌-◌, arith, length, common_steps}
use Rattle.gts_generate.specs.DayView.{bytes_left}
use Rattle.gts_generate.proofs.DayLemmas.{handed-more, handed-none}
use Rattle.gts_generate.proofs.generated.hand_all.Goals as goal

pub returns-then-more-eq0-clause-bytes : goal.returns-then-more-eq0-clause-bytes
returns-then-more-eq0-clause-bytes c =
    let so = c.loop-count in
    let more = c.hand_on-more in
    handed-none (bytes_left c.args.parts.now) (bytes_left so.parts) (bytes_left more.new.parts) so.count (length so.into - so.count) more.result so.into more.new.into
    so.invariant.few c.if-more-eq0.true so.invariant.bytes more.ensures.bytes

pub loop-count-preserved : goal.loop-count-preserved
loop-count-preserved c =
    let so = c.loop-count in
    let more = c.hand_on-more in
    record {
      sound = more.ensures.sound;
      bytes =
          handed-more (bytes_left c.args.parts.now) (bytes_left so.parts) (bytes_left more.new.parts) so.count (length so.into - so.count) more.result so.into more.new.into
          so.invariant.few more.ensures.count so.invariant.bytes more.ensures.bytes;
      few = grind (arith, common_steps);
    }
