use Rattle.std.proofs.Common.{◌≡◌, length, sym, ◌∙◌, subst, ap}
use Rattle.std.specs.Prelude.{slice_index_or}
use Rattle.network_judge.specs.Table.{channels_of, is_receiver}
use Rattle.network_judge.specs.Replies.{AreReplies}
use Rattle.network_machine.specs.Machine.{NetworkMachineSpec}
use Rattle.network_machine.specs.Outputs.{LacksAnswer, HasAnswers}
use Rattle.network_machine.proofs.Hindering.{accepts_settle, without_answers}
use Rattle.network_machine.proofs.Puts.{some_channel}
use Rattle.network_machine.proofs.machine.Machine.receiver_hindrance.Goals as goal

pub returns-in-Some : goal.returns-in-Some
returns-in-Some g c =
    (let m = c.args.self.now in
    let same : c.deref.result.now ≡ m.channels = c.deref.ensures.value ∙ ap (λ (k : NetworkMachineSpec). k.channels) c.self.view_is in
    let lacks = subst (λ rs. LacksAnswer rs m.channels c.args.x c.in-Some.y) (ap (λ (k : NetworkMachineSpec). k.replies) c.self.view_is)
    (subst (λ cs. LacksAnswer c.self.inside.replies.now cs c.args.x c.in-Some.y) same c.in-Some.ensures.some) in
    without_answers m c.args.x c.in-Some.y (some_channel m.channels c.args.x c.requires) lacks)

pub returns : goal.returns
returns g c =
    (let m = c.args.self.now in
    let same : c.deref.result.now ≡ m.channels = c.deref.ensures.value ∙ ap (λ (k : NetworkMachineSpec). k.channels) c.self.view_is in
    let has = subst (λ rs. HasAnswers rs m.channels c.args.x) (ap (λ (k : NetworkMachineSpec). k.replies) c.self.view_is)
    (subst (λ cs. HasAnswers c.self.inside.replies.now cs c.args.x) same c.in_default.ensures.none) in
    accepts_settle m (subst (λ (m : NetworkMachineSpec). length m.channels ≡ channels_of m.table) c.self.view_is c.self.invariant.size) c.args.x c.requires
    c.index.result.now (subst (λ (m : NetworkMachineSpec). c.index.result.now ≡ slice_index_or m.channels c.args.x c.index.result.now) c.self.view_is c.index.ensures)
    (subst (λ (m : NetworkMachineSpec). AreReplies m.table m.replies) c.self.view_is c.self.invariant.replies)
    (ap is_receiver (sym c.kind.ensures) ∙ (sym c.is_receiver.ensures ∙ c.if-not-is_receiver.false)) has
    c.accept_hindrance.result c.accept_hindrance.ensures)
