use Rattle.std.proofs.Common.{◌≡◌, ◌≤◌, ◌+◌, ℕ, List, arith, take, ◌∙◌, ap}
use Rattle.std.specs.Prelude.{sum}
use Rattle.std.proofs.lemmas.List.{take_all}
use Rattle.std.proofs.lemmas.List.Sums.{sum_by_more, sum_by-take-le}
use Rattle.machine_parts.proofs.refusing.sum_of.Goals as goal

pub overflow_add-all : goal.overflow_add-all
overflow_add-all c =
    let m = sum_by_more (λ (n : ℕ). n) c.args.counts.now c.loop-count.count-index 0 c.loop-count-test.true in
    let w = sum_by-take-le (λ (n : ℕ). n) c.args.counts.now (c.loop-count.count-index + 1) in
    let i : c.loop-count.all ≡ sum (take c.loop-count.count-index c.args.counts.now) = c.loop-count.invariant in
    let few : sum c.args.counts.now ≤ 65536 = c.requires in
    omega (arith, m, w, i, few)

pub returns : goal.returns
returns c = c.loop-count.invariant ∙ ap (λ (ns : List ℕ). sum ns) (take_all c.loop-count.count-index c.args.counts.now c.loop-count-test.false)
