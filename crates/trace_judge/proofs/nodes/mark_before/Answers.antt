use Rattle.std.proofs.Common.{◌<◌, false, None, length, arith}
use Rattle.std.proofs.lemmas.Option.{slice_get-get_or}
use Rattle.packet.specs.declared.kinds.Op.TheVariants.{Load}
use Rattle.trace_laws.specs.declared.opened.Node.{Node}
use Rattle.trace_judge.proofs.Ranks.{closes_marked, above_same}
use Rattle.trace_judge.proofs.nodes.mark_before.Goals as goal

pub returns-then-not-marks-i-clause-closed : goal.returns-then-not-marks-i-clause-closed
returns-then-not-marks-i-clause-closed c = λ j n h there e. absurd
    (let l : c.args.i < length c.args.marks.now = let s = c.requires.sized in omega arith in
    let is = slice_get-get_or c.args.marks.now c.args.i false l in
    let no = c.if-not-marks-i.true in
    cc)

pub mark_one-requires : goal.mark_one-requires
mark_one-requires c = λ j e.
    let b = c.requires.back c.args.i j _ (slice_get-get_or c.args.nodes.now c.args.i no_node c.requires.inside) e in
    let s = c.requires.sized in
    let m = c.requires.inside in
    omega arith
  where
    no_node : Node
    no_node = record { call = record { id = 0; operation = record { address = 0; op = Load } }; before = None }

pub returns-clause-above : goal.returns-clause-above
returns-clause-above c =
    above_same c.args.marks.now c.mark_one.new.marks c.args.i _
    (λ j e. c.requires.back c.args.i j _ (slice_get-get_or c.args.nodes.now c.args.i no_node c.requires.inside) e)
    c.mark_one.ensures.only
  where
    no_node : Node
    no_node = record { call = record { id = 0; operation = record { address = 0; op = Load } }; before = None }

pub returns-clause-closed : goal.returns-clause-closed
returns-clause-closed c =
    closes_marked c.args.marks.now c.mark_one.new.marks c.args.nodes.now c.args.i _
    (slice_get-get_or c.args.nodes.now c.args.i no_node c.requires.inside) c.mark_one.ensures.end
  where
    no_node : Node
    no_node = record { call = record { id = 0; operation = record { address = 0; op = Load } }; before = None }
