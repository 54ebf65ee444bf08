use Rattle.std.proofs.Common.{arith, sym, ap, ◌∙◌, ◌+◌}
use Rattle.fabric.specs.Seats.{Origin}
use Rattle.fabric.proofs.Keeps.{looks}
use Rattle.fabric.proofs.Seating.{saw, saw_nothing, looked_word}
use Rattle.fabric.proofs.seats.Fabric.look.Goals as goal

pub returns-then-address-self-clause-sees : goal.returns-then-address-self-clause-sees
returns-then-address-self-clause-sees g c = saw_nothing c.args.seat.now

pub overflow_add-self-inside : goal.overflow_add-self-inside
overflow_add-self-inside g c = search (arith)

pub load-requires : goal.load-requires
load-requires g c = (
  c.requires.own.0 ∙ sym (ap (λ (k : Origin). k.table) c.self.view_is),
  omega arith,
  looks c.self.inside.table.shared.key.load _ _ _ c.args.seat.now.me c.requires.placed.live c.requires.placed.quiet,
)

pub returns-clause-word : goal.returns-clause-word
returns-clause-word g c =
    looked_word _ c.args.seat.now.me.0 c.load.new.seat.me.0 _ c.load.ensures.2.0 c.self.inside.table.shared.key.load c.requires.placed.accepted
    (c.requires.own.1 ∙ sym (ap (λ (k : Origin). k.load) c.self.view_is)) c.args.address (ap (λ n. n + c.args.address) c.self.invariant.0)

pub returns-clause-sees : goal.returns-clause-sees
returns-clause-sees g c = saw _ c.args.seat.now c.load.new.seat _ c.load.ensures.2.0 c.load.ensures.0 c.load.ensures.2.1
