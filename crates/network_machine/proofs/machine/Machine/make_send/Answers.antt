use Rattle.std.proofs.Common.{◌≡◌, refl, length, sym, ◌∙◌, subst, ap, arith, ◌<◌, drop}
use Rattle.wormhole.specs.Net.{Net}
use Rattle.network_judge.specs.Table.{channels_of, is_sender}
use Rattle.network_judge.specs.Verdicts.{AllArrive}
use Rattle.network_machine.specs.Moves.{ShowAll}
use Rattle.network_machine.specs.Machine.{NetworkMachineSpec, plain_network}
use Rattle.network_machine.proofs.Making.{made_by}
use Rattle.network_machine.proofs.Knowing.{goes_on}
use Rattle.network_machine.specs.declared.moves.Move.TheVariants.{Send}
use Rattle.network_machine.proofs.Packets.{is_parcel}
use Rattle.network_machine.proofs.machine.Machine.make_send.Goals as goal

pub returns-clause-made : goal.returns-clause-made
returns-clause-made g c = λ number top depth s shows.
    (let m = c.args.self.now in
    let n : Net = plain_network m.table number top depth in
    let same : c.deref_mut.result.now ≡ m.channels = c.deref_mut.ensures.value ∙ ap (λ (k : NetworkMachineSpec). k.channels) c.self.view_is in
    let all : ShowAll s.lines c.deref_mut.result.now = subst (λ cs. ShowAll s.lines cs) (sym same) shows.lines in
    let size : length m.channels ≡ channels_of m.table = subst (λ (m : NetworkMachineSpec). length m.channels ≡ channels_of m.table) c.self.view_is c.self.invariant.size in
    let count : length c.begin_at.new.channels ≡ c.self.inside.channels.len =
    (let a = c.begin_at.ensures.count in let b = ap length c.deref_mut.ensures.value in let d = c.self.inside.channels.ok.0 in omega arith) in
    let p = c.args.packet in
    let here : p.from < channels_of m.table = subst (λ z. p.from < z) size c.requires.0 in
    let arrive : AllArrive m.table = subst (λ (m : NetworkMachineSpec). AllArrive m.table) c.self.view_is c.self.invariant.arrive in
    let way = (arrive p.from p.to c.requires.1).1 in
    made_by n s.lines (Send c.args.packet) c.begin_at.result c.begin_at.new.channels (drop (length c.begin_at.new.channels) c.self.inside.channels.items) c.self.inside.channels.len count
    (c.begin_at.ensures.lines n s.lines here (ap is_sender way.under_way.sender) (is_parcel m.table number top depth p.from p.to p.length c.requires.1) all))

pub invariant_of-self : goal.invariant_of-self
invariant_of-self g c =
    (let count : length c.begin_at.new.channels ≡ c.self.inside.channels.len =
    (let a = c.begin_at.ensures.count in let b = ap length c.deref_mut.ensures.value in let d = c.self.inside.channels.ok.0 in omega arith) in
    goes_on c.self.inside c.self.invariant c.deref_mut.result.now c.begin_at.new.channels c.deref_mut.ensures.value c.begin_at.ensures.count c.begin_at.ensures.room
    c.begin_at.ensures.owners count _ refl)
