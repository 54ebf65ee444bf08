use Rattle.std.proofs.Common.{◌≡◌, ◌<◌, Some, sym, ap, ◌∙◌, subst, arith, length, length-set}
use Rattle.std.specs.Prelude.{IfSome}
use Rattle.torus.specs.Shape.{dims_of}
use Rattle.packet.specs.Flits.{head_of}
use Rattle.channel_number.specs.Ports.{port_count}
use Rattle.router.specs.Table.{RouterPlace, way_of}
use Rattle.router.proofs.Words.{written}
use Rattle.router.proofs.Latched.{targets_taken}
use Rattle.router.proofs.router.Router.latch.Goals as goal

pub invariant_of-self : goal.invariant_of-self
invariant_of-self g c =
    let s = c.self.inside in
    let is = c.self.invariant in
    let ports : port_count (dims_of s.torus) ≡ port_count (dims_of c.args.self.now.torus) = ap (λ (p : RouterPlace). port_count (dims_of p.torus)) c.self.view_is in
    let there : c.args.input < length s.targets.items = omega (arith, ports, is.counts, c.requires.input) in
    let low : c.target-target.result < port_count (dims_of s.torus) = omega (arith, ports, c.target-target.ensures.within) in
    let way : IfSome (head_of c.args.flit) (λ head. c.target-target.result ≡ way_of s.torus s.tile c.args.input head) =
    subst (λ (p : RouterPlace). IfSome (head_of c.args.flit) (λ head. c.target-target.result ≡ way_of p.torus p.tile c.args.input head)) (sym c.self.view_is)
    c.target-target.ensures.way in
    rw (c.fill.ensures, written s.targets.items c.deref_mut.result.now c.args.input c.target-target.result c.deref_mut.ensures.value)
    (record {
      tile = is.tile;
      latches = length-set s.latches c.args.input (Some c.args.flit) ∙ is.latches;
      owners = is.owners;
      inputs = is.inputs;
      outputs = is.outputs;
      ways = is.ways;
      ways_are_next = is.ways_are_next;
      counts = length-set s.targets.items c.args.input c.target-target.result ∙ is.counts;
      targets = targets_taken s.torus s.tile s.latches s.targets.items is.targets c.args.input is.counts c.args.flit c.target-target.result low way there;
    })
