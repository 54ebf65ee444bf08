use Rattle.std.proofs.Common.{◌≡◌, subst, ◌<◌, length}
use Rattle.network_machine.specs.declared.channel.Channel.{Channel}
use Rattle.network_machine.specs.Outputs.{IsOwnedBy}
use Rattle.network_machine.specs.Owned.{MayOwn}
use Rattle.network_machine.proofs.Owners.{if_none}
use Rattle.network_machine.proofs.Knowing.{may_own}
use Rattle.network_machine.proofs.output.owned_by.Goals as goal

pub returns-in-Nothing-clause-none : goal.returns-in-Nothing-clause-none
returns-in-Nothing-clause-none c = λ y own.
    subst (λ k. MayOwn k y) c.in-Nothing.is (may_own c.args.known c.args.channels.now c.args.x y c.requires own)

pub returns-in-Only-clause-none : goal.returns-in-Only-clause-none
returns-in-Only-clause-none c =
    if_none c.owned_at.result (IsOwnedBy c.args.channels.now c.args.x c.in-Only.y → ⊥) _
    (λ none y own. none (subst (IsOwnedBy c.args.channels.now c.args.x)
    (subst (λ k. MayOwn k y) c.in-Only.is (may_own c.args.known c.args.channels.now c.args.x y c.requires own)) own))
    c.owned_at.ensures.none
