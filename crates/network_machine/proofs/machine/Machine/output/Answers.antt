use Rattle.std.proofs.Common.{◌≡◌, ◌<◌, length, arith, sym, ◌∙◌, ap, subst, false}
use Rattle.network_judge.specs.LockUps.{plain_format}
use Rattle.network_machine.specs.Machine.{NetworkMachineSpec}
use Rattle.network_machine.specs.Outputs.{IsOwnedBy, HasNoOutput}
use Rattle.network_machine.specs.Owned.{OwnsWithin}
use Rattle.network_machine.proofs.Owners.{if_none}
use Rattle.network_machine.proofs.machine.Machine.output.Goals as goal

pub returns-then-not-is_head-clause-none : goal.returns-then-not-is_head-clause-none
returns-then-not-is_head-clause-none g c =
    (let m = c.args.self.now in
    let same : c.deref.result.now ≡ m.channels = c.deref.ensures.value ∙ ap (λ (k : NetworkMachineSpec). k.channels) c.self.view_is in
    let rest : plain_format.is_head c.args.flit ≡ false = sym c.is_head.ensures ∙ c.if-not-is_head.true in
    if_none c.owned_by.result _ (HasNoOutput m.table m.channels c.args.x c.args.flit)
    (λ none. record {
      head = λ head. absurd (cc);
      rest = λ rest y own. none y (subst (λ cs. IsOwnedBy cs c.args.x y) (sym same) own);
    }) c.owned_by.ensures.none)

pub owned_by-requires : goal.owned_by-requires
owned_by-requires g c =
    (let view : length c.self.inside.channels.items ≡ length c.args.self.now.channels = ap (λ (k : NetworkMachineSpec). length k.channels) c.self.view_is in
    let low : c.args.x < length c.self.inside.owned.items =
    (let a = c.requires in let b = c.self.invariant.size in let d = c.self.invariant.many in omega (arith, a, view, b, d)) in
    subst (λ cs. OwnsWithin c.index.result.now cs c.args.x) (sym c.deref.ensures.value)
    (subst (λ k. OwnsWithin k c.self.inside.channels.items c.args.x) (sym c.index.ensures) (c.self.invariant.owned c.args.x c.index.result.now low)))
