use Rattle.std.proofs.Common.{◌≡◌, length, sym, ◌∙◌, subst, arith}
use Rattle.std.specs.Prelude.{slice_index_or}
use Rattle.network_judge.specs.Table.{channels_of}
use Rattle.network_machine.specs.Machine.{NetworkMachineSpec}
use Rattle.network_machine.proofs.Hindering.{no_credit_puts_nothing, owned_puts_nothing, rests_go, heads_go}
use Rattle.network_machine.proofs.machine.Machine.put_hindrance.Goals as goal

pub returns-then-output-eq0 : goal.returns-then-output-eq0
returns-then-output-eq0 g c =
    no_credit_puts_nothing c.args.self.now c.args.x c.in-Ok.flit c.in-Ok.y c.in-Ok.ensures.some
    (subst (λ (m : NetworkMachineSpec). length m.channels ≡ channels_of m.table) c.self.view_is c.self.invariant.size) c.index-output.result.now
    (subst (λ (m : NetworkMachineSpec). c.index-output.result.now ≡ slice_index_or m.channels c.in-Ok.y c.index-output.result.now) c.self.view_is c.index-output.ensures) c.if-output-eq0.true

pub returns-then-not-is_head : goal.returns-then-not-is_head
returns-then-not-is_head g c =
    rests_go c.args.self.now c.args.x c.in-Ok.flit c.in-Ok.y c.in-Ok.ensures.some
    (subst (λ (m : NetworkMachineSpec). length m.channels ≡ channels_of m.table) c.self.view_is c.self.invariant.size) c.index-output.result.now
    (subst (λ (m : NetworkMachineSpec). c.index-output.result.now ≡ slice_index_or m.channels c.in-Ok.y c.index-output.result.now) c.self.view_is c.index-output.ensures) (sym c.is_head.ensures ∙ c.if-not-is_head.true)

pub returns-in-None : goal.returns-in-None
returns-in-None g c =
    heads_go c.args.self.now c.args.x c.in-Ok.flit c.in-Ok.y c.in-Ok.ensures.some
    (subst (λ (m : NetworkMachineSpec). length m.channels ≡ channels_of m.table) c.self.view_is c.self.invariant.size) c.index-output.result.now
    (subst (λ (m : NetworkMachineSpec). c.index-output.result.now ≡ slice_index_or m.channels c.in-Ok.y c.index-output.result.now) c.self.view_is c.index-output.ensures) (sym c.is_head.ensures ∙ c.if-not-is_head.false) c.in-None.is (omega arith)

pub returns-in-Some : goal.returns-in-Some
returns-in-Some g c =
    owned_puts_nothing c.args.self.now c.args.x c.in-Ok.flit c.in-Ok.y c.in-Ok.ensures.some
    (subst (λ (m : NetworkMachineSpec). length m.channels ≡ channels_of m.table) c.self.view_is c.self.invariant.size) c.index-output.result.now
    (subst (λ (m : NetworkMachineSpec). c.index-output.result.now ≡ slice_index_or m.channels c.in-Ok.y c.index-output.result.now) c.self.view_is c.index-output.ensures) c.in-Some.owner (sym c.is_head.ensures ∙ c.if-not-is_head.false) c.in-Some.is
