use Rattle.std.proofs.Common.{◌≡◌, ◌<◌, ◌==◌, ℕ, ◌+◌, ap, arith, length, rules, slice_get, sym, ◌∙◌}
use Rattle.std.specs.Prelude.{if◌then◌else◌}
use Rattle.std.proofs.lemmas.Option.{slice_get_within}
use Rattle.trace_table.specs.Row.{processor_in}
use Rattle.trace_table.proofs.Counts.{each_next, own_next, row_there}
use Rattle.trace_table.proofs.text.own_indexes.Goals as goal

pub loop-i-preserved : goal.loop-i-preserved
loop-i-preserved g c =
    let low : c.loop-i.i < length c.args.rows.now = omega arith in
    let found = row_there c.args.rows.now c.loop-i.i low in
    let is : c.processor_at-processor.result ≡ (found.0).processor = c.processor_at-processor.ensures ∙ ap processor_in found.1 in
    let k : ℕ = c.processor_at-processor.result in
    record {
      long = search rules;
      counts = λ p.
          c.in_ok-index.ensures.more p
          ∙ ap (λ (n : ℕ). n + (if k == p then 1 else 0)) (c.loop-i.invariant.counts p)
          ∙ sym (own_next c.args.rows.now c.loop-i.i p k found.0 found.1 is);
      each = λ number other below there.
          ap (λ ns. slice_get ns number) c.in_ok-push.ensures.items
          ∙ each_next c.args.rows.now c.loop-i.indexes.items c.loop-i.i c.in_ok-index.index k found.0 c.loop-i.invariant.long found.1 is
          (c.in_ok-index.ensures.count ∙ c.loop-i.invariant.counts k) c.loop-i.invariant.each number other below there;
    }

pub returns : goal.returns
returns g c = record {
  each = λ number row there. c.loop-i.invariant.each number row (omega (arith, slice_get_within c.args.rows.now number row there)) there;
}
