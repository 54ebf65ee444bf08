use Rattle.std.proofs.Common.{rules, ◌≡◌, refl, true, false}
use Rattle.torus.specs.Shape.{tiles_of}
use Rattle.machine_core.proofs.FreshMachines.{told_after}
use Rattle.fabric.specs.Opening.{can_deal}
use Rattle.fabric.proofs.Cuts.{deal_true, deal_false}
use Rattle.fabric.proofs.seats.Fabric.open.Goals as goal

pub returns-then-not-can_deal-clause-range : goal.returns-then-not-can_deal-clause-range
returns-then-not-can_deal-clause-range g c =
    let e : can_deal c.args.cuts.now c.args.probes (tiles_of c.args.machine.shape) ≡ false = search rules in
    ((λ _. deal_false _ _ _ e), λ _. refl)

pub dealt-requires-clause-load : goal.dealt-requires-clause-load
dealt-requires-clause-load g c = told_after c.requires.fresh.0 c.args.machine c.requires.fresh.1

pub dealt-requires-clause-cuts : goal.dealt-requires-clause-cuts
dealt-requires-clause-cuts g c =
    let e : can_deal c.args.cuts.now c.args.probes (tiles_of c.args.machine.shape) ≡ true = search rules in
    (refl, (deal_true _ _ _ e).rise)

pub returns-in-Ok-clause-range : goal.returns-in-Ok-clause-range
returns-in-Ok-clause-range g c =
    let e : can_deal c.args.cuts.now c.args.probes (tiles_of c.args.machine.shape) ≡ true = search rules in
    ((λ f. absurd (cc)), λ n. absurd (n (deal_true _ _ _ e)))

pub returns-in-Err-clause-range : goal.returns-in-Err-clause-range
returns-in-Err-clause-range g c =
    let e : can_deal c.args.cuts.now c.args.probes (tiles_of c.args.machine.shape) ≡ true = search rules in
    ((λ f. absurd (cc)), λ n. absurd (n (deal_true _ _ _ e)))
