use Rattle.std.proofs.Common.{ℕ, inl, inr, arith}
use Rattle.std.specs.Str.Lines.{lines}
use Rattle.network_run.specs.Moved.{run_or_why, run_spec}
use Rattle.network_run.proofs.SevenWords.{run_step, run_fault}
use Rattle.network_run.proofs.Refused.{refused_at}
use Rattle.network_run.proofs.reading.read_run.Goals as goal

pub loop-line-preserved : goal.loop-line-preserved
loop-line-preserved g c = record {
  count = omega (arith, c.in-Some.ensures.less);
  positive = omega arith;
  paired = c.in_default-take.ensures.lines;
  reads = run_step c.loop-line.number (run_spec c.loop-line.run) (run_spec c.take.new.self) c.in-Some.line.now
      (lines c.loop-line.rest.now) (lines c.in-Some.after.now) _ (run_or_why (lines c.args.text.now)) c.in-Some.ensures.some
      c.first_words-count.ensures.words c.in_default-take.ensures.value c.loop-line.invariant.reads;
}

pub returns-in-Err-clause-gives : goal.returns-in-Err-clause-gives
returns-in-Err-clause-gives g c =
    let r = run_spec c.loop-line.run in
    let n : ℕ = c.loop-line.number in
    let all = run_or_why (lines c.args.text.now) in
    refused_at c.in-Err.reason n c.at.result all c.at.ensures
    (elim c.in-Err.ensures.value [
      | inl m ↦ inl m
      | inr bad ↦ inr (run_fault n r c.in-Some.line.now (lines c.loop-line.rest.now) (lines c.in-Some.after.now) _ all c.in-Err.reason
          c.in-Some.ensures.some c.first_words-count.ensures.words bad c.loop-line.invariant.reads)
    ])
