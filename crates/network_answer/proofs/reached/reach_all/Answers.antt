use Rattle.std.proofs.Common.{◌≡◌, ◌∙◌, ◌+◌, ◌*◌, ◌≤◌, ℕ, List, Bool, refl, sym, ap, length, true, false, arith, take, subst}
use Rattle.std.specs.List.{count_by}
use Rattle.std.specs.Prelude.{slice_get}
use Rattle.network_judge.specs.Table.{ejects, is_receiver}
use Rattle.network_adaptive.specs.Flags.{AreComes}
use Rattle.network_adaptive.specs.Spread.{choice_step}
use Rattle.network_adaptive.specs.Travel.{step_to}
use Rattle.network_answer.specs.Totals.{pairs_to}
use Rattle.network_answer.specs.Reached.{AreEitherUp, AreReached}
use Rattle.network_answer.proofs.Counting.{sum_more, receiver_kind, ends_more, ends_no_more, low_more}
use Rattle.network_answer.proofs.Reaching.{seen_count, none_to, reached_more, reached_skip}
use Rattle.network_answer.proofs.reached.reach_all.Goals as goal

pub loop-to-preserved-then-not-is_receiver : goal.loop-to-preserved-then-not-is_receiver
loop-to-preserved-then-not-is_receiver g c =
    let a = c.args in
    let j : ℕ = c.loop-to.to in
    let n : ℕ = length a.kinds.now in
    let step : ℕ → ℕ → ℕ → Bool = step_to a.kinds.now a.choices.now a.ways a.none.now in
    let other : is_receiver (slice_get a.kinds.now j) ≡ false =
    ap is_receiver (sym c.kind_at.ensures) ∙ (sym c.is_receiver.ensures ∙ c.if-not-is_receiver.true) in
    let value = c.loop-to.invariant.value in
    let more = sum_more (pairs_to a.joins.now n) j in
    let none = none_to a.kinds.now a.joins.now step c.requires.receivers j n other in
    record {
      value = omega (arith, value, more, none);
      low = subst (λ d. c.loop-to.count ≤ d * n) (sym (ends_no_more a.kinds.now j c.loop-to-test.true other)) c.loop-to.invariant.low;
      flags = reached_skip a.kinds.now a.joins.now step c.requires.receivers j (j + 1) c.loop-to.flags.items refl other c.loop-to.invariant.flags;
    }

pub loop-to-preserved : goal.loop-to-preserved
loop-to-preserved g c =
    let a = c.args in
    let j : ℕ = c.loop-to.to in
    let n : ℕ = length a.kinds.now in
    let step : ℕ → ℕ → ℕ → Bool = step_to a.kinds.now a.choices.now a.ways a.none.now in
    let are : AreComes a.kinds.now a.joins.now (step j) j c.in_ok-seen.seen.items =
    subst (λ z. AreComes a.kinds.now a.joins.now (choice_step a.kinds.now a.choices.now z a.ways a.none.now) j c.in_ok-seen.seen.items)
    c.base_of-base.ensures.value c.in_ok-seen.ensures in
    let end = receiver_kind (slice_get a.kinds.now j) (ap is_receiver (sym c.kind_at.ensures) ∙ (sym c.is_receiver.ensures ∙ c.if-not-is_receiver.false)) in
    let m = c.marked_senders-count in
    let is = seen_count a.kinds.now a.joins.now step c.requires.senders c.requires.outputs j m.result c.deref.result.now
    (subst (λ (v : List Bool). AreComes a.kinds.now a.joins.now (step j) j v) (sym c.deref.ensures.value) are) m.ensures.value in
    let value = c.loop-to.invariant.value in
    let more = sum_more (pairs_to a.joins.now n) j in
    record {
      value = omega (arith, value, more, is);
      low = low_more c.loop-to.count m.result (count_by ejects (take j a.kinds.now)) (count_by ejects (take (j + 1) a.kinds.now)) n
          c.loop-to.invariant.low m.ensures.low (ends_more a.kinds.now j end);
      flags = reached_more a.kinds.now a.joins.now step j (j + 1) c.loop-to.flags.items c.in_ok-seen.seen.items c.in_ok-flags-2.flags.items refl
          c.loop-to.invariant.flags are
          (subst (λ (v : List Bool). AreEitherUp v c.in_ok-seen.seen.items c.in_ok-flags-2.flags.items) c.deref-in-loop-to.ensures.value
          (subst (λ (v : List Bool). AreEitherUp c.deref-in-loop-to.result.now v c.in_ok-flags-2.flags.items) c.deref-in-loop-to-2.ensures.value
          c.in_ok-flags-2.ensures));
    }

pub returns-clause-flags : goal.returns-clause-flags
returns-clause-flags g c =
    let a = c.args in
    subst (λ m. AreReached a.kinds.now a.joins.now (step_to a.kinds.now a.choices.now a.ways a.none.now) m c.loop-to.flags.items)
    (let same : c.loop-to.to ≡ length a.kinds.now = omega arith in same) c.loop-to.invariant.flags
