use Rattle.std.proofs.Common.{◌<◌, length, arith, Bool, true, false, Some, None, sym, ◌∙◌, ap, append-nil}
use Rattle.std.proofs.lemmas.Option.{slice_get-get_or}
use Rattle.packet.specs.declared.kinds.Op.TheVariants.{Load}
use Rattle.trace_laws.specs.declared.opened.Node.{Node}
use Rattle.trace_judge.proofs.Marking.{collected_more}
use Rattle.trace_judge.proofs.order.collect.Goals as goal
use Rattle.trace_judge.proofs.order.collect.Goals.{then-marks-i+in_ok-push, else-marks-i}

pub loop-i-preserved : goal.loop-i-preserved
loop-i-preserved g c =
    let l : c.loop-i.i < length c.args.nodes.now = omega arith in
    let m : c.loop-i.i < length c.args.marks.now = omega arith in
    elim c.if-marks-i.branch [
      | then-marks-i+in_ok-push w ↦ rw w.order-is
          (collected_more c.args.nodes.now c.args.marks.now c.loop-i.i true _ c.loop-i.order.items w.push.new.self.items c.requires
          (slice_get-get_or c.args.marks.now c.loop-i.i false m ∙ ap (λ (b : Bool). Some b) w.if-marks-i.true)
          (slice_get-get_or c.args.nodes.now c.loop-i.i _ l) c.loop-i.invariant w.in_ok-push.ensures.items)
      | else-marks-i w ↦ rw w.order-is
          (collected_more c.args.nodes.now c.args.marks.now c.loop-i.i false _ c.loop-i.order.items c.loop-i.order.items c.requires
          (slice_get-get_or c.args.marks.now c.loop-i.i false m ∙ ap (λ (b : Bool). Some b) w.if-marks-i.false)
          (slice_get-get_or c.args.nodes.now c.loop-i.i no_node l) c.loop-i.invariant
          (sym (append-nil c.loop-i.order.items)))
    ]
  where
    no_node : Node
    no_node = record { call = record { id = 0; operation = record { address = 0; op = Load } }; before = None }
