use Rattle.std.proofs.Common.{ℕ, inl, inr, arith}
use Rattle.std.specs.Str.Lines.{lines}
use Rattle.network_text.specs.Choosing.{text_or_why}
use Rattle.network_text.specs.ChoosingRead.{choosing_text_of}
use Rattle.network_text.proofs.ChoosingWords.{text_step, text_fault}
use Rattle.network_text.proofs.Refused.{refused_at}
use Rattle.network_text.proofs.choosing_text.read_text_or_why.Goals as goal

pub loop-line-preserved : goal.loop-line-preserved
loop-line-preserved g c = record {
  count = omega (arith, c.in-Some.ensures.less);
  positive = omega arith;
  read = c.in_default-take_line.ensures.read;
  reads = text_step c.args.routers c.loop-line.number (choosing_text_of c.loop-line.reading) (choosing_text_of c.take_line.new.self) c.in-Some.line.now
      (lines c.loop-line.rest.now) (lines c.in-Some.after.now) _ (text_or_why c.args.routers (lines c.args.text.now)) c.in-Some.ensures.some
      c.first_words-count.ensures.words c.in_default-take_line.ensures.value c.loop-line.invariant.reads;
}

pub returns-in-Err-clause-value : goal.returns-in-Err-clause-value
returns-in-Err-clause-value g c =
    let t = choosing_text_of c.loop-line.reading in
    let n : ℕ = c.loop-line.number in
    let all = text_or_why c.args.routers (lines c.args.text.now) in
    refused_at c.in-Err.reason n c.at.result all c.at.ensures
    (elim c.in-Err.ensures.value [
      | inl m ↦ inl m
      | inr bad ↦ inr (text_fault c.args.routers n t c.in-Some.line.now (lines c.loop-line.rest.now) (lines c.in-Some.after.now) _ all c.in-Err.reason
          c.in-Some.ensures.some c.first_words-count.ensures.words bad c.loop-line.invariant.reads)
    ])
