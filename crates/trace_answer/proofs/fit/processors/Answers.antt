use Rattle.std.proofs.Common.{◌<◌, ◌≡◌, ◌∙◌, ◌+◌, arith, get_or, length, List, None}
use Rattle.std.specs.Prelude.{max}
use Rattle.packet.specs.declared.kinds.Op.TheVariants.{Load}
use Rattle.trace_text.specs.declared.issued.Issued.{Issued}
use Rattle.trace_answer.proofs.Growing.{fit_more, processors_more}
use Rattle.trace_answer.proofs.fit.processors.Goals as goal

pub loop-i-preserved : goal.loop-i-preserved
loop-i-preserved g c =
    let issued : List Issued = c.issued-issued.result.now in
    let none : Issued = record { processor = 0; index = 0; operation = record { address = 0; op = Load }; reply = None } in
    let low : c.loop-i.i < length issued = omega arith in
    let processor : (get_or issued c.loop-i.i none).processor < 64 = omega (arith, c.if-operation-ge64.false) in
    let index : (get_or issued c.loop-i.i none).index < 4096 = omega (arith, c.if-operation-ge4096.false) in
    let e : c.max-count.result ≡ max c.loop-i.count ((get_or issued c.loop-i.i none).processor + 1) = omega (arith, c.max-count.ensures) in
    record {
      count = e ∙ processors_more issued c.loop-i.i c.loop-i.count none low c.loop-i.invariant.count;
      low = omega (arith, e, processor, c.loop-i.invariant.low);
      fit = fit_more issued c.loop-i.i none low processor index c.loop-i.invariant.fit;
    }
