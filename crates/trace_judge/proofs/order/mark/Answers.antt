use Rattle.std.proofs.Common.{◌<◌, ℕ, Option, Some, None, length, subst, refl}
use Rattle.packet.specs.declared.kinds.Op.TheVariants.{Load}
use Rattle.std.proofs.lemmas.Option.{slice_get-get_or}
use Rattle.trace_laws.specs.declared.opened.Node.{Node}
use Rattle.trace_judge.proofs.Marking.{Marking, marking_more, marking_all}
use Rattle.trace_judge.proofs.order.mark.Goals as goal

pub loop-next-preserved : goal.loop-next-preserved
loop-next-preserved c =
    let was : Marking c.args.nodes.now c.args.last c.args.marks.now (Some c.in-Some.i) c.loop-next.marks =
    subst (λ (n : Option ℕ). Marking c.args.nodes.now c.args.last c.args.marks.now n c.loop-next.marks) c.in-Some.is c.loop-next.invariant in
    let l : c.in-Some.i < length c.args.nodes.now = was.below c.in-Some.i refl in
    marking_more c.args.nodes.now c.args.last c.args.marks.now c.in-Some.i c.loop-next.marks _ c.requires.back c.requires.sized
    (slice_get-get_or c.args.nodes.now c.in-Some.i no_node l) was
  where
    no_node : Node
    no_node = record { call = record { id = 0; operation = record { address = 0; op = Load } }; before = None }

pub returns : goal.returns
returns c = marking_all c.args.nodes.now c.args.last c.args.marks.now c.loop-next.next c.loop-next.marks c.in_default.is c.loop-next.invariant
