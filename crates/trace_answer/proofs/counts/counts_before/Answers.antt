use Rattle.std.proofs.Common.{◌+◌, ◌==◌, ℕ, ap, arith, rules, slice_get, sym, ◌∙◌}
use Rattle.std.specs.Prelude.{◌&&◌, if◌then◌else◌}
use Rattle.std.proofs.lemmas.Option.{slice_get_within}
use Rattle.trace_answer.proofs.Writing.{count_low, count_next, counts_more}
use Rattle.trace_answer.proofs.counts.counts_before.Goals as goal

pub loop-k-preserved : goal.loop-k-preserved
loop-k-preserved g c =
    let n : ℕ = c.loop-k.k in
    let at = c.key_at.ensures in
    let k : ℕ = c.key_at.result in
    record {
      long = search rules;
      seen = λ v.
          c.in_ok-count.ensures.more v
          ∙ ap (λ (m : ℕ). m + (if c.is_kept_at.result && (k == v) then 1 else 0)) (c.loop-k.invariant.seen v)
          ∙ sym (count_next c.args.issued.now c.args.kept.now c.args.key v n k at.0 c.is_kept_at.result at.1 at.2 c.is_kept_at.ensures);
      each = λ m j below there.
          ap (λ ns. slice_get ns m) c.in_ok-push.ensures.items
          ∙ counts_more c.args.issued.now c.args.kept.now c.args.key c.loop-k.counts.items n c.in_ok-count.count k at.0 c.loop-k.invariant.long at.1 at.2
          (c.in_ok-count.ensures.count ∙ c.loop-k.invariant.seen k) c.loop-k.invariant.each m j below there;
    }

pub counted_if-requires : goal.counted_if-requires
counted_if-requires g c =
    let low = count_low c.args.issued.now c.args.kept.now c.args.key c.key_at.result c.loop-k.k in
    let is = c.loop-k.invariant.seen c.key_at.result in
    omega arith

pub returns : goal.returns
returns g c = λ m j there. c.loop-k.invariant.each m j (omega (arith, slice_get_within c.args.issued.now m j there)) there
