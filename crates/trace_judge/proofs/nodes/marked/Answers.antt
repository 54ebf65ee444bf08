use Rattle.std.proofs.Common.{◌<◌, length, arith, Bool, true, false, Some, None, sym, ◌∙◌, ap, append-nil}
use Rattle.std.proofs.lemmas.Option.{slice_get-get_or}
use Rattle.packet.specs.declared.kinds.Op.TheVariants.{Load}
use Rattle.trace_laws.specs.declared.opened.Node.{Node}
use Rattle.trace_judge.proofs.Ranks.{marked_more, marked_all, number_low, node_renumbered}
use Rattle.trace_judge.proofs.nodes.marked.Goals as goal
use Rattle.trace_judge.proofs.nodes.marked.Goals.{then-marks-i+in_ok-push, else-marks-i}

abbrev no_node : Node
no_node = record { call = record { id = 0; operation = record { address = 0; op = Load } }; before = None }

pub new_number-requires : goal.new_number-requires
new_number-requires g c =
    let l : c.loop-i.i < length c.args.nodes.now = omega arith in
    number_low c.args.nodes.now c.args.marks.now c.args.ranks.now c.loop-i.i _ c.requires.sized c.requires.back c.requires.ranks
    (slice_get-get_or c.args.nodes.now c.loop-i.i no_node l)

pub loop-i-preserved : goal.loop-i-preserved
loop-i-preserved g c =
    let l : c.loop-i.i < length c.args.nodes.now = omega arith in
    let m : c.loop-i.i < length c.args.marks.now = let s = c.requires.sized in omega arith in
    elim c.if-marks-i.branch [
      | then-marks-i+in_ok-push w ↦ rw w.kept-is
          (marked_more c.args.marks.now c.args.nodes.now c.loop-i.kept.items w.push.new.self.items c.loop-i.i true _ c.requires.sized
          (slice_get-get_or c.args.marks.now c.loop-i.i false m ∙ ap (λ (b : Bool). Some b) w.if-marks-i.true)
          (slice_get-get_or c.args.nodes.now c.loop-i.i no_node l) c.loop-i.invariant
          (node_renumbered c.args.marks.now c.loop-i.kept.items w.push.new.self.items _ _ w.in_ok-push.ensures.items
          (w.new_number.ensures c.args.marks.now c.requires.ranks)))
      | else-marks-i w ↦ rw w.kept-is
          (marked_more c.args.marks.now c.args.nodes.now c.loop-i.kept.items c.loop-i.kept.items c.loop-i.i false _ c.requires.sized
          (slice_get-get_or c.args.marks.now c.loop-i.i false m ∙ ap (λ (b : Bool). Some b) w.if-marks-i.false)
          (slice_get-get_or c.args.nodes.now c.loop-i.i no_node l) c.loop-i.invariant
          (sym (append-nil c.loop-i.kept.items)))
    ]

pub returns : goal.returns
returns g c = marked_all c.args.marks.now c.args.nodes.now c.loop-i.kept.items c.loop-i.i c.requires.sized (omega arith) c.loop-i.invariant
