use Rattle.std.proofs.Common.{◌<◌, List, length, arith, refl, subst}
use Rattle.std.specs.Int.{bit_at}
use Rattle.trace_laws.specs.declared.opened.Branch.{Branch}
use Rattle.trace_laws.proofs.Bits.{not_both}
use Rattle.trace_judge.specs.Crowds.{IsCrowd}
use Rattle.std.proofs.lemmas.Option.{slice_get_read}
use Rattle.trace_judge.proofs.Branches.{stays_more}
use Rattle.trace_judge.proofs.Closings.{closing_none, closing_skip, closing_expand, closing_all, closing_kept}
use Rattle.trace_judge.proofs.closing.go_on.Goals as goal
use Rattle.trace_judge.proofs.closing.go_on.Goals.{then-not-has+in_ok-widen+in_ok-expand, else-not-has}

pub loop-next-init : goal.loop-next-init
loop-next-init g c =
    closing_none c.args.table.now c.args.address c.args.slot c.in_ok-found.found.items c.settle_all.new.nodes.items

pub loop-next-preserved : goal.loop-next-preserved
loop-next-preserved g c =
    let l : c.loop-next.next < length c.loop-next.found.items = omega arith in
    elim c.if-not-has.branch [
      | then-not-has+in_ok-widen+in_ok-expand w ↦ rw (w.found-is, w.nodes-is)
          (closing_expand c.args.table.now c.args.address c.args.slot c.in_ok-found.found.items c.settle_all.new.nodes.items
          c.loop-next.next c.loop-next.found.items
          w.expand.new.found.items c.loop-next.nodes.items w.expand.new.nodes.items c.index-from.result.now
          (slice_get_read c.loop-next.found.items
          (length c.loop-next.found.items) c.loop-next.next c.index-from.result.now refl l c.index-from.ensures) w.in_ok-expand.ensures.expanded
          w.in_ok-expand.ensures.grows w.in_ok-expand.ensures.sound c.loop-next.invariant)
      | else-not-has w ↦ rw (w.found-is, w.nodes-is)
          (closing_skip c.args.table.now c.args.address c.args.slot c.in_ok-found.found.items c.settle_all.new.nodes.items
          c.loop-next.next c.loop-next.found.items
          c.loop-next.nodes.items c.index-from.result.now
          (slice_get_read c.loop-next.found.items
          (length c.loop-next.found.items) c.loop-next.next c.index-from.result.now refl l c.index-from.ensures)
          (λ left. not_both (bit_at c.index-from.result.now.config.taken c.args.slot) left
          (w.if-not-has.ensures.taken refl)) c.loop-next.invariant)
    ]

pub returns-then-next-len-clause-kept : goal.returns-then-next-len-clause-kept
returns-then-next-len-clause-kept g c =
    closing_kept c.args.table.now c.args.address c.args.slot c.args.branches.now c.in_ok-found.found.items
    c.settle_all.new.nodes.items c.loop-next.next c.loop-next.found.items c.loop-next.nodes.items
    c.in_ok-found.ensures.kept c.loop-next.invariant

pub returns-then-next-len-clause-closed : goal.returns-then-next-len-clause-closed
returns-then-next-len-clause-closed g c =
    closing_all c.args.table.now c.args.address c.args.slot c.in_ok-found.found.items c.settle_all.new.nodes.items
    c.loop-next.next c.loop-next.found.items c.loop-next.nodes.items (omega arith) c.loop-next.invariant

pub returns-then-next-len-clause-sound : goal.returns-then-next-len-clause-sound
returns-then-next-len-clause-sound g c =
    stays_more c.args.table.now c.args.address c.args.branches.now c.in_ok-found.found.items c.loop-next.found.items
    c.args.nodes.now.items c.settle_all.new.nodes.items c.loop-next.nodes.items
    c.in_ok-found.ensures.sound c.loop-next.invariant.sound

pub expand-requires-clause-there : goal.expand-requires-clause-there
expand-requires-clause-there g c =
    let l : c.loop-next.next < length c.loop-next.found.items = omega arith in
    (c.loop-next.next, slice_get_read c.loop-next.found.items (length c.loop-next.found.items) c.loop-next.next c.index-from.result.now refl l c.index-from.ensures)

pub returns-then-branch-clause-full : goal.returns-then-branch-clause-full
returns-then-branch-clause-full g c = λ e. record {
  found = c.loop-next.found.items;
  more = c.loop-next.nodes.items;
  sound = stays_more c.args.table.now c.args.address c.args.branches.now c.in_ok-found.found.items c.loop-next.found.items
      c.args.nodes.now.items c.settle_all.new.nodes.items c.loop-next.nodes.items
      c.in_ok-found.ensures.sound c.loop-next.invariant.sound;
  crowd = subst (λ (bs : List Branch). IsCrowd c.args.bound bs) c.deref.ensures.value
      (c.in_ok-is_crowd.ensures c.if-branch.true);
}
