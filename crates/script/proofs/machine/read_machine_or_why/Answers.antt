use Rattle.std.proofs.Common.{ℕ, inl, inr, arith}
use Rattle.std.specs.Str.Lines.{lines}
use Rattle.script.specs.Machine.{machine_or_why}
use Rattle.script.specs.MachineViews.{reading_of}
use Rattle.script.proofs.SevenWords.{machine_step, machine_fault}
use Rattle.script.proofs.Told.{told}
use Rattle.script.proofs.machine.read_machine_or_why.Goals as goal

pub loop-line-preserved : goal.loop-line-preserved
loop-line-preserved g c = record {
  count = omega (arith, c.in-Some.ensures.less);
  positive = omega arith;
  checked = c.in_default-take.ensures.checked;
  reads = machine_step c.loop-line.number (reading_of c.loop-line.reading) (reading_of c.take.new.self) c.in-Some.line.now
      (lines c.loop-line.rest.now) (lines c.in-Some.after.now) _ (machine_or_why (lines c.args.text.now)) c.in-Some.ensures.some
      c.first_words-count.ensures.words c.in_default-take.ensures.value c.loop-line.invariant.reads;
}

pub returns-in-Err : goal.returns-in-Err
returns-in-Err g c =
    let r = reading_of c.loop-line.reading in
    let n : ℕ = c.loop-line.number in
    let all = machine_or_why (lines c.args.text.now) in
    told c.in-Err.reason n c.at.result all c.at.ensures
    (elim c.in-Err.ensures.value [
      | inl m ↦ inl m
      | inr bad ↦ inr (machine_fault n r c.in-Some.line.now (lines c.loop-line.rest.now) (lines c.in-Some.after.now) _ all c.in-Err.reason
          c.in-Some.ensures.some c.first_words-count.ensures.words bad c.loop-line.invariant.reads)
    ])
