use Rattle.std.proofs.Common.{◌≡◌, None, Some, ◌∙◌, length-set, cond}
use Rattle.router.proofs.Latched.{targets_left}
use Rattle.router.proofs.router.Router.pass.Goals as goal

pub invariant_of-self : goal.invariant_of-self
invariant_of-self g c =
    let s = c.self.inside in
    let is = c.self.invariant in
    rw (c.clear.ensures, c.pass.ensures)
    (record {
      tile = is.tile;
      latches = length-set s.latches c.args.input None ∙ is.latches;
      owners = length-set s.owners c.args.input _ ∙ is.owners;
      inputs = is.inputs;
      outputs = is.outputs;
      ways = is.ways;
      ways_are_next = is.ways_are_next;
      counts = is.counts;
      targets = targets_left s.torus s.tile s.latches s.targets.items is.targets c.args.input is.counts;
    })
