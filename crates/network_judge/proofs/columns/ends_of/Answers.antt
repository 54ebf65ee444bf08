use Rattle.std.proofs.Common.{◌+◌, ◌∙◌, ℕ, Vec, sym, ap, subst}
use Rattle.network_judge.proofs.Ends.{AreEndsTo, ends_more, ends_same}
use Rattle.network_judge.proofs.columns.ends_of.Goals as goal
use Rattle.network_judge.proofs.columns.ends_of.Goals.{then-ejects+in_ok-push, else-ejects}

pub loop-x-preserved : goal.loop-x-preserved
loop-x-preserved g c =
    let kinds = c.args.kinds.now in
    let l = c.loop-x in
    record {
      so_far = elim c.if-ejects.branch [
        | then-ejects+in_ok-push w ↦
            subst (λ z. AreEndsTo kinds (l.x + 1) z)
            (sym (ap (λ (v : Vec ℕ g.row.A.Denot). v.items) w.ends-is ∙ w.in_ok-push.ensures.items))
            (ends_more kinds l.ends.items l.x _ l.invariant.so_far c.loop-x-test.true (sym c.ejects.ensures ∙ w.if-ejects.true))
        | else-ejects w ↦
            subst (λ z. AreEndsTo kinds (l.x + 1) z) (sym (ap (λ (v : Vec ℕ g.row.A.Denot). v.items) w.ends-is))
            (ends_same kinds l.ends.items l.x _ l.invariant.so_far c.loop-x-test.true (sym c.ejects.ensures ∙ w.if-ejects.false))
      ];
    }
