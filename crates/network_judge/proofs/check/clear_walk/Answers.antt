use Rattle.std.proofs.Common.{◌≡◌, ◌≢◌, ◌∙◌, ◌<◌, false, length, ap, sym, subst}
use Rattle.network_judge.specs.Table.{Table, table_of}
use Rattle.network_judge.specs.Ways.{place}
use Rattle.network_judge.specs.Marks.{is_marked_at}
use Rattle.network_judge.proofs.Walks.{further, one_more}
use Rattle.network_judge.proofs.check.clear_walk.Goals as goal

pub loop-step-preserved : goal.loop-step-preserved
loop-step-preserved c =
    let t : Table = table_of c.args.kinds.now c.args.joins.now c.args.choices.now in
    let i = c.args.item.from in
    let j = c.args.item.to in
    let l = c.loop-step in
    record {
      here = further t i j l.step l.at c.in-Some.next l.invariant.here c.in-Some.ensures.some;
      inside = one_more (λ k. place t j i k < length c.args.marks.now) l.step l.invariant.inside (subst (λ z. z < length c.args.marks.now) l.invariant.here c.if-at-marks.false);
      clear = one_more (λ k. is_marked_at c.args.marks.now (place t j i k) ≡ false) l.step l.invariant.clear (ap (is_marked_at c.args.marks.now) (sym l.invariant.here) ∙ c.if-marks-at.false);
      goes_on = one_more (λ k. place t j i k ≢ j) l.step l.invariant.goes_on (λ e. c.if-at-item.false (l.invariant.here ∙ e));
    }
