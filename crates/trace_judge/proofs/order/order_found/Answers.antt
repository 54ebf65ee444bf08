use Rattle.std.proofs.Common.{◌≤◌, List, Bool, length, arith, sym, ◌∙◌, ap, subst}
use Rattle.trace_laws.specs.declared.event.Call.{Call}
use Rattle.trace_laws.specs.declared.opened.Node.{Node}
use Rattle.trace_laws.specs.Orders.{IsOrder}
use Rattle.trace_laws.specs.Searches.{order_of}
use Rattle.trace_judge.specs.Sets.{lists_of}
use Rattle.trace_laws.proofs.Sound.{sound_all}
use Rattle.trace_judge.proofs.order.order_found.Goals as goal

pub returns : goal.returns
returns g c =
    let s = c.args.search.now in
    let p = c.in_ok-marks.ensures in
    let all : length c.args.events.now ≤ length c.args.events.now = omega arith in
    let is = sound_all c.args.opening.now c.args.events.now (length c.args.events.now) (lists_of s.tables.items)
    (lists_of s.words.items) s.nodes.items all c.requires.searched.sound
    p.0 p.1 c.in_ok-marks.marks.items p.2 in
    let same = c.in_ok-order.ensures ∙
    (ap (λ (ns : List Node). order_of ns c.deref-2.result.now) c.deref.ensures.value
    ∙ ap (λ (ms : List Bool). order_of s.nodes.items ms) c.deref-2.ensures.value) in
    subst (λ (o : List Call). IsOrder c.args.opening.now c.args.events.now o) (sym same) is
