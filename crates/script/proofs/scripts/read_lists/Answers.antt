use Rattle.std.proofs.Common.{ℕ, ◌∙◌, arith, map, take, inl, inr}
use Rattle.std.specs.Str.Lines.{lines}
use Rattle.script_lines.specs.Views.{lists_of}
use Rattle.script.proofs.SevenWords.{scripts_step, scripts_fault}
use Rattle.script.proofs.Told.{told}
use Rattle.script.proofs.scripts.read_lists.Goals as goal

pub loop-line-preserved : goal.loop-line-preserved
loop-line-preserved g c = record {
  count = omega (arith, c.in-Some.ensures.less);
  positive = omega arith;
  counted = c.in_default-take.ensures.counted;
  words = c.in_default-take.ensures.words ∙ c.loop-line.invariant.words;
  tiles = c.in_default-take.ensures.tiles ∙ c.loop-line.invariant.tiles;
  reads = scripts_step c.args.words c.loop-line.progress.words c.loop-line.number (lists_of c.loop-line.progress.lists.items)
      (lists_of c.take.new.self.lists.items)
      c.in-Some.line.now (lines c.loop-line.rest.now) (lines c.in-Some.after.now)
      (map (λ word. word.now) (take c.first_words-count.result.1 c.first_words-count.result.0)) _
      c.in-Some.ensures.some c.first_words-count.ensures.words c.loop-line.invariant.words c.in_default-take.ensures.value c.loop-line.invariant.reads;
}

pub returns-in-Err-clause-value : goal.returns-in-Err-clause-value
returns-in-Err-clause-value g c =
    let n : ℕ = c.loop-line.number in
    told c.in-Err.reason n c.at-in-Err.result _ c.at-in-Err.ensures
    (elim c.in-Err.ensures.value [
      | inl m ↦ inl m
      | inr bad ↦ inr (scripts_fault c.args.words c.loop-line.progress.words n (lists_of c.loop-line.progress.lists.items)
          c.in-Some.line.now (lines c.loop-line.rest.now) (lines c.in-Some.after.now)
          (map (λ word. word.now) (take c.first_words-count.result.1 c.first_words-count.result.0)) _ c.in-Err.reason
          c.in-Some.ensures.some c.first_words-count.ensures.words c.loop-line.invariant.words bad c.loop-line.invariant.reads)
    ])
