-- A branch more is looked at.
use Rattle.std.proofs.Common.{◌<◌, List, length, arith, refl, sym, subst}
use Rattle.std.specs.Int.{bit_at}
use Rattle.std.proofs.lemmas.Option.{slice_get-get_or}
use Rattle.trace_laws.specs.declared.opened.Branch.{Branch}
use Rattle.trace_laws.proofs.Bits.{not_both}
use Rattle.trace_judge.proofs.Closings.{Keeping, keeping_none, keeping_skip, keeping_pushed, keeping_all}
use Rattle.trace_judge.proofs.closing.keep.Goals as goal
use Rattle.trace_judge.proofs.closing.keep.Goals.{then-has+in_ok-push, else-has}

pub loop-branch-init : goal.loop-branch-init
loop-branch-init g c =
    subst (λ (bs : List Branch). Keeping c.args.slot c.args.branches.now 0 bs) (sym c.new-kept.ensures.items)
    (keeping_none c.args.slot c.args.branches.now)

pub loop-branch-preserved : goal.loop-branch-preserved
loop-branch-preserved g c =
    let i = c.loop-branch.branch-index in
    let l : i < length c.args.branches.now = omega arith in
    let at = slice_get-get_or c.args.branches.now i _ l in
    elim c.if-has.branch [
      | then-has+in_ok-push w ↦ rw w.kept-is
          (keeping_pushed c.args.slot c.args.branches.now i c.loop-branch.kept.items w.push.new.self.items _ w.without.result at
          (w.if-has.ensures.taken refl) w.without.ensures w.in_ok-push.ensures.items c.loop-branch.invariant)
      | else-has w ↦ rw w.kept-is
          (keeping_skip c.args.slot c.args.branches.now i c.loop-branch.kept.items _ at
          (λ taken. not_both (bit_at _ c.args.slot) (w.if-has.ensures.left refl) taken) c.loop-branch.invariant)
    ]

pub returns-clause-from : goal.returns-clause-from
returns-clause-from g c = c.loop-branch.invariant.from

pub returns-clause-released : goal.returns-clause-released
returns-clause-released g c = keeping_all c.args.slot c.args.branches.now c.loop-branch.branch-index c.loop-branch.kept.items
    (omega arith) c.loop-branch.invariant
