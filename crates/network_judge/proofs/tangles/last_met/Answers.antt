use Rattle.std.proofs.Common.{◌+◌, ◌∙◌, ◌<◌, sym, subst, arith}
use Rattle.network_judge.specs.Table.{Table, table_of, channels_of}
use Rattle.network_judge.proofs.Walks.{further}
use Rattle.network_judge.proofs.Owners.{MetSoFar, met_here, met_before, some_met, none_met, arc_end, arc_start, arc_within}
use Rattle.network_judge.proofs.tangles.last_met.Goals as goal
use Rattle.network_judge.proofs.tangles.last_met.Goals.{then-owner_at-ne0, else-owner_at-ne0}

pub loop-step-preserved : goal.loop-step-preserved
loop-step-preserved c =
    let t : Table = table_of c.args.kinds.now c.args.joins.now c.args.choices.now in
    let l = c.loop-step in
    let s = c.args.span in
    record {
      here = further t s.from s.to l.step l.at c.in-Some.next l.invariant.here c.in-Some.ensures.some;
      met = elim c.if-owner_at-ne0.branch [
        | then-owner_at-ne0 w ↦ subst (MetSoFar t c.args.owners.now s (l.step + 1)) (sym w.found-is)
            (met_here t c.args.owners.now s l.step l.at l.invariant.here (λ z. w.if-owner_at-ne0.true (c.owner_at.ensures ∙ z)))
        | else-owner_at-ne0 w ↦ subst (MetSoFar t c.args.owners.now s (l.step + 1)) (sym w.found-is)
            (met_before t c.args.owners.now s l.step l.at l.found l.invariant.met l.invariant.here (sym c.owner_at.ensures ∙ w.if-owner_at-ne0.false))
      ];
    }

pub returns-in-None-clause-some : goal.returns-in-None-clause-some
returns-in-None-clause-some c =
    let t : Table = table_of c.args.kinds.now c.args.joins.now c.args.choices.now in
    let l = c.loop-step in
    let s = c.args.span in
    let low = c.loop-step-test.true in
    let met : MetSoFar (table_of c.args.kinds.now c.args.joins.now c.args.choices.now) c.args.owners.now c.args.span (c.loop-step.step + 1) c.if-owner_at-ne0.found =
    elim c.if-owner_at-ne0.branch [
      | then-owner_at-ne0 w ↦ subst (MetSoFar t c.args.owners.now s (l.step + 1)) (sym w.found-is)
          (met_here t c.args.owners.now s l.step l.at l.invariant.here (λ z. w.if-owner_at-ne0.true (c.owner_at.ensures ∙ z)))
      | else-owner_at-ne0 w ↦ subst (MetSoFar t c.args.owners.now s (l.step + 1)) (sym w.found-is)
          (met_before t c.args.owners.now s l.step l.at l.found l.invariant.met l.invariant.here (sym c.owner_at.ensures ∙ w.if-owner_at-ne0.false))
    ] in
    some_met t c.args.owners.now s (l.step + 1) c.if-owner_at-ne0.found met (omega arith) (λ a. (let before = arc_start t s a in
    absurd (c.in-None.ensures.none (arc_end t s a) (subst (λ z. z < channels_of t) (sym l.invariant.here) (arc_within t s l.step a (omega arith))))))

pub returns-in-None-clause-none : goal.returns-in-None-clause-none
returns-in-None-clause-none c =
    let t : Table = table_of c.args.kinds.now c.args.joins.now c.args.choices.now in
    let l = c.loop-step in
    let s = c.args.span in
    let low = c.loop-step-test.true in
    let met : MetSoFar (table_of c.args.kinds.now c.args.joins.now c.args.choices.now) c.args.owners.now c.args.span (c.loop-step.step + 1) c.if-owner_at-ne0.found =
    elim c.if-owner_at-ne0.branch [
      | then-owner_at-ne0 w ↦ subst (MetSoFar t c.args.owners.now s (l.step + 1)) (sym w.found-is)
          (met_here t c.args.owners.now s l.step l.at l.invariant.here (λ z. w.if-owner_at-ne0.true (c.owner_at.ensures ∙ z)))
      | else-owner_at-ne0 w ↦ subst (MetSoFar t c.args.owners.now s (l.step + 1)) (sym w.found-is)
          (met_before t c.args.owners.now s l.step l.at l.found l.invariant.met l.invariant.here (sym c.owner_at.ensures ∙ w.if-owner_at-ne0.false))
    ] in
    none_met t c.args.owners.now s (l.step + 1) c.if-owner_at-ne0.found met (λ a. (let before = arc_start t s a in
    absurd (c.in-None.ensures.none (arc_end t s a) (subst (λ z. z < channels_of t) (sym l.invariant.here) (arc_within t s l.step a (omega arith))))))
