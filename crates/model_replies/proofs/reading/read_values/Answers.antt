use Rattle.std.proofs.Common.{arith, map, take, ℕ, List, inl, inr}
use Rattle.std.specs.Str.Lines.{lines}
use Rattle.model_text.specs.Views.{log_so_far}
use Rattle.model_text.proofs.Refusing.{told}
use Rattle.model_replies.proofs.Refusing.{log_step, log_refused}
use Rattle.model_replies.proofs.reading.read_values.Goals as goal

pub loop-line-preserved : goal.loop-line-preserved
loop-line-preserved g c = record {
  count = omega (arith, c.in-Some.ensures.less);
  positive = omega arith;
  reads = log_step c.loop-line.number (log_so_far c.loop-line.log) (log_so_far c.take.new.self)
      c.in-Some.line.now (lines c.loop-line.rest.now) (lines c.in-Some.after.now)
      (map (λ word. word.now) (take c.log_words-count.result.1 c.log_words-count.result.0)) _
      c.in-Some.ensures.some c.log_words-count.ensures.words c.in_default-take.ensures c.loop-line.invariant.reads;
}

pub returns-in-Err : goal.returns-in-Err
returns-in-Err g c =
    let ws : List (List ℕ) = map (λ word. word.now) (take c.log_words-count.result.1 c.log_words-count.result.0) in
    told c.in-Err.reason c.loop-line.number c.at-in-Err.result _ c.at-in-Err.ensures (elim c.in-Err.ensures [
      | inl m ↦ inl m
      | inr bad ↦ inr (log_refused c.loop-line.number (log_so_far c.loop-line.log) c.in-Some.line.now
          (lines c.loop-line.rest.now) (lines c.in-Some.after.now) ws _ c.in-Err.reason
          c.in-Some.ensures.some c.log_words-count.ensures.words bad c.loop-line.invariant.reads)
    ])
