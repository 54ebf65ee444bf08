use Rattle.std.proofs.Common.{◌≡◌, refl, length, sym, ◌∙◌, subst, ap, arith, true, ◌<◌, drop}
use Rattle.wormhole.specs.Net.{Net}
use Rattle.network_judge.specs.Table.{channels_of, kind_of, is_receiver}
use Rattle.network_machine.specs.Moves.{ShowAll}
use Rattle.network_machine.specs.Machine.{NetworkMachineSpec, plain_network}
use Rattle.network_machine.proofs.Making.{made_by}
use Rattle.network_machine.proofs.Knowing.{goes_on}
use Rattle.network_machine.specs.declared.moves.Move.TheVariants.{Accept}
use Rattle.network_machine.proofs.machine.Machine.make_accept.Goals as goal

pub returns-clause-made : goal.returns-clause-made
returns-clause-made g c = λ number top depth s shows.
    (let m = c.args.self.now in
    let n : Net = plain_network m.table number top depth in
    let same : c.deref_mut.result.now ≡ m.channels = c.deref_mut.ensures.value ∙ ap (λ (k : NetworkMachineSpec). k.channels) c.self.view_is in
    let all : ShowAll s.lines c.deref_mut.result.now = subst (λ cs. ShowAll s.lines cs) (sym same) shows.lines in
    let size : length m.channels ≡ channels_of m.table = subst (λ (m : NetworkMachineSpec). length m.channels ≡ channels_of m.table) c.self.view_is c.self.invariant.size in
    let count : length c.accept_at.new.channels ≡ c.self.inside.channels.len =
    (let a = c.accept_at.ensures.count in let b = ap length c.deref_mut.ensures.value in let d = c.self.inside.channels.ok.0 in omega arith) in
    let here : c.args.x < channels_of m.table = subst (λ z. c.args.x < z) size c.requires in
    let known = c.kind.ensures in
    let view = c.self.view_is in
    let kind : kind_of m.table c.args.x ≡ c.kind.result = cc in
    let is : is_receiver (kind_of m.table c.args.x) ≡ true = ap is_receiver kind ∙ (sym c.is_receiver.ensures ∙ c.if-not-is_receiver.false) in
    made_by n s.lines (Accept c.args.x) c.accept_at.result c.accept_at.new.channels (drop (length c.accept_at.new.channels) c.self.inside.channels.items) c.self.inside.channels.len count
    (c.accept_at.ensures.lines n s.lines here is all))

pub invariant_of-self : goal.invariant_of-self
invariant_of-self g c =
    (let count : length c.accept_at.new.channels ≡ c.self.inside.channels.len =
    (let a = c.accept_at.ensures.count in let b = ap length c.deref_mut.ensures.value in let d = c.self.inside.channels.ok.0 in omega arith) in
    goes_on c.self.inside c.self.invariant c.deref_mut.result.now c.accept_at.new.channels c.deref_mut.ensures.value c.accept_at.ensures.count c.accept_at.ensures.room
    c.accept_at.ensures.owners count _ refl)
