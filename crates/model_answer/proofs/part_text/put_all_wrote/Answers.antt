use Rattle.std.proofs.Common.{arith}
use Rattle.model_text.specs.Views.{log_so_far}
use Rattle.model_answer.specs.PartText.{wrote_line}
use Rattle.model_answer.proofs.Parting.{taken_more}
use Rattle.model_answer.proofs.part_text.put_all_wrote.Goals as goal

pub loop-i-preserved : goal.loop-i-preserved
loop-i-preserved g c = taken_more (wrote_line (log_so_far c.args.log.now)) c.args.numbers.now c.loop-i.i 0 c.args.text.now.items
    c.loop-i.text.items c.put_wrote.new.text.items (omega arith) c.in_ok-put_wrote.ensures c.loop-i.invariant
