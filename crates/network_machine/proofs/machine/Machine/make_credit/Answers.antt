use Rattle.std.proofs.Common.{◌≡◌, refl, length, sym, ◌∙◌, subst, ap, arith, ◌<◌, drop}
use Rattle.wormhole.specs.Net.{Net}
use Rattle.network_judge.specs.Table.{channels_of}
use Rattle.network_machine.specs.Moves.{ShowAll}
use Rattle.network_machine.specs.Machine.{NetworkMachineSpec, plain_network}
use Rattle.network_machine.proofs.Making.{made_by}
use Rattle.network_machine.proofs.Knowing.{goes_on}
use Rattle.network_machine.specs.declared.moves.Move.TheVariants.{Credit}
use Rattle.network_machine.proofs.machine.Machine.make_credit.Goals as goal

pub returns-clause-made : goal.returns-clause-made
returns-clause-made g c = λ number top depth s shows.
    (let m = c.args.self.now in
    let n : Net = plain_network m.table number top depth in
    let same : c.deref_mut.result.now ≡ m.channels = c.deref_mut.ensures.value ∙ ap (λ (k : NetworkMachineSpec). k.channels) c.self.view_is in
    let all : ShowAll s.lines c.deref_mut.result.now = subst (λ cs. ShowAll s.lines cs) (sym same) shows.lines in
    let size : length m.channels ≡ channels_of m.table = subst (λ (m : NetworkMachineSpec). length m.channels ≡ channels_of m.table) c.self.view_is c.self.invariant.size in
    let count : length c.credit_at.new.channels ≡ c.self.inside.channels.len =
    (let a = c.credit_at.ensures.count in let b = ap length c.deref_mut.ensures.value in let d = c.self.inside.channels.ok.0 in omega arith) in
    let here : c.args.x < channels_of m.table = subst (λ z. c.args.x < z) size c.requires in
    made_by n s.lines (Credit c.args.x) c.credit_at.result c.credit_at.new.channels (drop (length c.credit_at.new.channels) c.self.inside.channels.items) c.self.inside.channels.len count
    (c.credit_at.ensures.lines n s.lines here all))

pub invariant_of-self : goal.invariant_of-self
invariant_of-self g c =
    (let count : length c.credit_at.new.channels ≡ c.self.inside.channels.len =
    (let a = c.credit_at.ensures.count in let b = ap length c.deref_mut.ensures.value in let d = c.self.inside.channels.ok.0 in omega arith) in
    goes_on c.self.inside c.self.invariant c.deref_mut.result.now c.credit_at.new.channels c.deref_mut.ensures.value c.credit_at.ensures.count c.credit_at.ensures.room
    c.credit_at.ensures.owners count _ refl)
