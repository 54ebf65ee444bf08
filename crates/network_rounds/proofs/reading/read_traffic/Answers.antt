use Rattle.std.proofs.Common.{ℕ, inl, inr, arith}
use Rattle.std.specs.Str.Lines.{lines}
use Rattle.network_rounds.specs.Traffic.{traffic_or_why, traffic_spec}
use Rattle.network_rounds.proofs.SevenWords.{traffic_step, traffic_fault}
use Rattle.network_rounds.proofs.Refused.{refused_at}
use Rattle.network_rounds.proofs.reading.read_traffic.Goals as goal

pub loop-line-preserved : goal.loop-line-preserved
loop-line-preserved g c = record {
  count = omega (arith, c.in-Some.ensures.less);
  positive = omega arith;
  paired = c.in_default-take.ensures.lines;
  reads = traffic_step c.loop-line.number (traffic_spec c.loop-line.traffic) (traffic_spec c.take.new.self) c.in-Some.line.now
      (lines c.loop-line.rest.now) (lines c.in-Some.after.now) _ (traffic_or_why (lines c.args.text.now)) c.in-Some.ensures.some
      c.first_words-count.ensures.words c.in_default-take.ensures.value c.loop-line.invariant.reads;
}

pub returns-in-Err-clause-gives : goal.returns-in-Err-clause-gives
returns-in-Err-clause-gives g c =
    let r = traffic_spec c.loop-line.traffic in
    let n : ℕ = c.loop-line.number in
    let all = traffic_or_why (lines c.args.text.now) in
    refused_at c.in-Err.reason n c.at.result all c.at.ensures
    (elim c.in-Err.ensures.value [
      | inl m ↦ inl m
      | inr bad ↦ inr (traffic_fault n r c.in-Some.line.now (lines c.loop-line.rest.now) (lines c.in-Some.after.now) _ all c.in-Err.reason
          c.in-Some.ensures.some c.first_words-count.ensures.words bad c.loop-line.invariant.reads)
    ])
