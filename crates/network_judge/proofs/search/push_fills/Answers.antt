use Rattle.std.proofs.Common.{◌+◌, ◌-◌, ◌++◌, ◌∷◌, [], ◌∙◌, List, ap, sym, append_assoc}
use Rattle.network_judge.specs.declared.fill.Fill.{Fill}
use Rattle.network_judge.specs.Spans.{fills_on}
use Rattle.network_judge.proofs.Fills.{fills_more}
use Rattle.network_judge.proofs.search.push_fills.Goals as goal

pub loop-step-preserved : goal.loop-step-preserved
loop-step-preserved g c =
    let l = c.loop-step in
    let s = c.args.span in
    ap (λ (fs : List Fill). fs ++ fills_on s (l.step + 1) (s.end - (l.step + 1))) c.in_ok-push.ensures.items
    ∙ (append_assoc l.items.items (record { from = s.from; to = s.to; step = l.step } ∷ []) (fills_on s (l.step + 1) (s.end - (l.step + 1)))
    ∙ (ap (λ (fs : List Fill). l.items.items ++ fs) (sym (fills_more s l.step s.end c.loop-step-test.true)) ∙ l.invariant))
