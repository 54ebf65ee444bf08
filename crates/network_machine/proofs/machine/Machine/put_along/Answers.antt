use Rattle.std.proofs.Common.{◌≡◌, refl, length, sym, ◌∙◌, subst, ap, arith, ◌<◌, drop}
use Rattle.wormhole.specs.Net.{Net}
use Rattle.network_judge.specs.Table.{channels_of}
use Rattle.network_machine.specs.Moves.{ShowAll}
use Rattle.network_machine.specs.Machine.{NetworkMachineSpec, plain_network}
use Rattle.network_machine.specs.Owned.{AreOwned}
use Rattle.network_machine.proofs.Making.{made_by}
use Rattle.network_machine.proofs.Knowing.{goes_on_known}
use Rattle.network_machine.specs.declared.moves.Move.TheVariants.{Put}
use Rattle.network_judge.specs.LockUps.{plain_format}
use Rattle.network_machine.specs.Outputs.{IsWayOut}
use Rattle.network_machine.specs.Forwards.{IsLatchOutput}
use Rattle.network_machine.proofs.Puts.{some_channel, latch_of}
use Rattle.network_machine.proofs.Making.{puts_make}
use Rattle.network_machine.proofs.machine.Machine.put_along.Goals as goal

pub returns-clause-made : goal.returns-clause-made
returns-clause-made g c = λ number top depth s shows.
    (let m = c.args.self.now in
    let n : Net = plain_network m.table number top depth in
    let same : c.deref_mut.result.now ≡ m.channels = c.deref_mut.ensures.value ∙ ap (λ (k : NetworkMachineSpec). k.channels) c.self.view_is in
    let all : ShowAll s.lines c.deref_mut.result.now = subst (λ cs. ShowAll s.lines cs) (sym same) shows.lines in
    let size : length m.channels ≡ channels_of m.table = subst (λ (m : NetworkMachineSpec). length m.channels ≡ channels_of m.table) c.self.view_is c.self.invariant.size in
    let count : length c.forward_known.new.channels ≡ c.self.inside.channels.len =
    (let a = c.forward_known.ensures.count in let b = ap length c.deref_mut.ensures.value in let d = c.self.inside.channels.ok.0 in omega arith) in
    let here : c.args.x < channels_of m.table = subst (λ z. c.args.x < z) size c.requires.0.here in
    let x = c.args.x in
    let flit = c.args.flit in
    let y = c.args.y in
    let way : IsWayOut m.table m.channels x flit y = c.requires in
    let some = some_channel m.channels x way.0.here in
    let head : plain_format.is_head flit ≡ c.is_head-head.result = sym c.is_head-head.ensures in
    let output : IsLatchOutput n s.lines x y flit c.is_head-head.result c.is_tail.result = record {
      here = here;
      input = way.0.input;
      full = latch_of m x flit way.0 some s shows;
      head = head;
      tail = sym c.is_tail.ensures;
      output = λ e. way.1.head (head ∙ e);
    } in
    made_by n s.lines (Put c.args.x) c.forward_known.result c.forward_known.new.channels (drop (length c.forward_known.new.channels) c.self.inside.channels.items) c.self.inside.channels.len count
    (puts_make m x flit y way some c.forward_known.new.channels number top depth s shows c.is_head-head.result head c.forward_known.result
    (c.forward_known.ensures.lines n s.lines output all)))

pub forward_known-requires-clause-owned : goal.forward_known-requires-clause-owned
forward_known-requires-clause-owned g c =
    subst (λ ks. AreOwned ks c.deref_mut.result.now) (sym c.deref_mut-2.ensures.value)
    (subst (λ cs. AreOwned c.self.inside.owned.items cs) (sym c.deref_mut.ensures.value) c.self.invariant.owned)

pub invariant_of-self : goal.invariant_of-self
invariant_of-self g c =
    (let size : length c.forward_known.new.channels ≡ length c.self.inside.channels.items = c.forward_known.ensures.count ∙ ap length c.deref_mut.ensures.value in
    let many : length c.forward_known.new.known ≡ length c.self.inside.owned.items = c.forward_known.ensures.many ∙ ap length c.deref_mut-2.ensures.value in
    let long : length c.forward_known.new.channels ≡ c.self.inside.channels.len = (let d = c.self.inside.channels.ok.0 in omega (arith, size)) in
    let long_2 : length c.forward_known.new.known ≡ c.self.inside.owned.len = (let d = c.self.inside.owned.ok.0 in omega (arith, many)) in
    goes_on_known c.self.inside c.self.invariant c.forward_known.new.channels size c.forward_known.ensures.room long _ refl
    c.forward_known.new.known c.forward_known.ensures.owned many long_2 _ refl)
