-- What each event of the network does of what is still to do.
use Rattle.std.proofs.Common.{◌≡◌, ⊎_elim, ℕ, ◌+◌, ◌*◌, ◌<◌, ◌≤◌, Bool, true, false, List, [], ◌∷◌, length, Option, Some, None, refl, arith}
use Rattle.std.specs.Prelude.{if◌then◌else◌, option_map, nat_lt}
use Rattle.std.proofs.Math.Nat.{mul-le-mul_left}
use Rattle.torus.specs.Shape.{tiles_of, dims_of}
use Rattle.torus.specs.declared.shape.Class.TheVariants as class
use Rattle.torus.specs.declared.step.Choice.{Choice}
use Rattle.torus.specs.declared.step.Choice.TheVariants as choice
use Rattle.packet.specs.declared.kinds.Operation.{Operation}
use Rattle.packet.specs.declared.kinds.Response.{Response as Telling}
use Rattle.packet.specs.declared.heading.Head.{Head}
use Rattle.packet.specs.Flits.{head_of}
use Rattle.channel_number.specs.Ports.{injection_channel, ejection_channel, input_channel, output_channel, port_count}
use Rattle.flit_buffer.specs.declared.want.Want.{Want}
use Rattle.flit_buffer.specs.declared.want.Want.TheVariants as want
use Rattle.flit_buffer.specs.Channel as channel
use Rattle.wormhole.specs.Net.{Net, IsNet, Parcel, net_flits}
use Rattle.wormhole.specs.State.{NetState}
use Rattle.wormhole.specs.Delivery.{accept}
use Rattle.wormhole.specs.Events.{NetEvent, InjectHead, InjectRest, Latch, ForwardHead, ForwardRest, AcceptHead, AcceptRest, Return, network_after}
use Rattle.wormhole.specs.Work.{End, Issues, Replies, Serves, NetReports, NetStays, IsChange, EventMayHappen}
use Rattle.one_order.specs.ProcessorRecord.{ready}
use Rattle.one_order.specs.ProcessorTable.{processor_wants}
use Rattle.router.specs.Table.{router_wants, latch_of, output_for, wants_to_put}
use Rattle.home_bank.specs.BankTable.{bank_wants, bank_after}
use Rattle.tile.specs.Tile.{Design}
use Rattle.tile.specs.declared.agent.Agent.TheVariants.{Processor, Router, Bank}
use Rattle.core_laws.specs.Heads.{carries_route}
use Rattle.core_laws.specs.Core.{State}
use Rattle.core_laws.specs.Network as network
use Rattle.core_laws.proofs.Projection.{net_of, response_parcel}
use Rattle.core_laws.proofs.Rows.{end_of}
use Rattle.core_laws.proofs.ProcessorWork.{IsTileEvent}
use Rattle.core_laws.proofs.RouterWork.{IsRouterEvent, if_so}
use Rattle.core_laws.proofs.Stands.{Ghost, tile_at}
use Rattle.fair_rounds.specs.Burden.{burden, toll}
use Rattle.fair_rounds.specs.Charges.{charge}
use Rattle.machine_core.specs.Guarded.{is_begin}
use Rattle.fair_rounds.proofs.UnderWay.{Known}
use Rattle.fair_rounds.proofs.Tolls.{burden_after}

-- what an end has still to do of replies and services
abbrev pub due : End → ℕ
due e = 30 * e.unsent + 91 * e.room

-- what the network and an end have to do falls by so much
abbrev pub Falls : Net → NetState → Option NetEvent → End → End → ℕ → Type 0
Falls n s e old new c = burden n (network_after n s e) + due new + c ≤ burden n s + due old

module _ (n : Net) (s : NetState) (net : IsNet n) (k : Known n s) where
  stays_falls : (e : NetEvent) (old new : End) → EventMayHappen n s (Some e) → NetStays old new
      → burden n (network_after n s (Some e)) + toll e ≡ burden n s + 0 → (c : ℕ) → c ≤ toll e → Falls n s (Some e) old new c
  stays_falls e old new may row count c few = let a = row.room in let b = row.unsent in omega (arith, a, b, count, few)

  -- by what the network does, where no operation is issued
  falls_head : (x : ℕ) (p : Parcel) (old new : End) → EventMayHappen n s (Some (InjectHead x p)) → IsChange n (Some (InjectHead x p)) old new
      → old.left ≤ new.left → Falls n s (Some (InjectHead x p)) old new 2
  falls_head x p old new may change left = ⊎_elim
      (λ (row : Issues n p old new). let less = row.left in absurd (omega (arith, less, left)))
      (λ (row : Replies n p old new).
      let count = burden_after n s net k.words k.routes (InjectHead x p) may in
      let far : length (net_flits p) * length (n.route p.source p.destination) ≤ length (net_flits p) * 10 = mul-le-mul_left (length (net_flits p)) row.near in
      let a = row.room in
      let b = row.before in
      let c = row.unsent in
      omega (arith, count, far, a, b, c))
      change

  falls_none : (old new : End) → IsChange n None old new → (c : ℕ) → c ≤ 1 → (new.reports < old.reports → c ≡ 0) → Falls n s None old new c
  falls_none old new change c few reports = ⊎_elim
      (λ (row : Serves old new). let a = row.room in let b = row.unsent in omega (arith, a, b, few))
      (λ (row : NetReports old new). let a = row.room in let b = row.unsent in let z = reports row.reports in omega (arith, a, b, z))
      change

  falls_inject : (x f : ℕ) (more : List ℕ) (old new : End) → EventMayHappen n s (Some (InjectRest x f more)) → NetStays old new
      → Falls n s (Some (InjectRest x f more)) old new 2
  falls_inject x f more old new may row =
      stays_falls (InjectRest x f more) old new may row (burden_after n s net k.words k.routes (InjectRest x f more) may) 2 (omega arith)

  falls_return : (x : ℕ) (old new : End) → EventMayHappen n s (Some (Return x)) → NetStays old new → Falls n s (Some (Return x)) old new 0
  falls_return x old new may row =
      stays_falls (Return x) old new may row (burden_after n s net k.words k.routes (Return x) may) 0 (omega arith)

  falls_latch : (x f : ℕ) (more : List ℕ) (old new : End) → EventMayHappen n s (Some (Latch x f more)) → NetStays old new
      → Falls n s (Some (Latch x f more)) old new 1
  falls_latch x f more old new may row =
      stays_falls (Latch x f more) old new may row (burden_after n s net k.words k.routes (Latch x f more) may) 1 (omega arith)

  falls_accept : (b : Bool) (x f : ℕ) (more : List ℕ) (old new : End) → EventMayHappen n s (Some (accept b x f more)) → IsChange n (Some (accept b x f more)) old new
      → Falls n s (Some (accept b x f more)) old new 1
  falls_accept true x f more old new may row =
      stays_falls (AcceptHead x f more) old new may row (burden_after n s net k.words k.routes (AcceptHead x f more) may) 1 (omega arith)
  falls_accept false x f more old new may row =
      stays_falls (AcceptRest x f more) old new may row (burden_after n s net k.words k.routes (AcceptRest x f more) may) 1 (omega arith)

  falls_words : (h : Option Head) (x y f : ℕ) (old new : End) → EventMayHappen n s (Some (network.words_forwarded h x y f))
      → IsChange n (Some (network.words_forwarded h x y f)) old new → Falls n s (Some (network.words_forwarded h x y f)) old new 2
  falls_words (Some h) x y f old new may row =
      stays_falls (ForwardHead x y f) old new may row (burden_after n s net k.words k.routes (ForwardHead x y f) may) 2 (omega arith)
  falls_words None x y f old new may row =
      stays_falls (ForwardRest x y f) old new may row (burden_after n s net k.words k.routes (ForwardRest x y f) may) 2 (omega arith)

module _ (d : Design) (s : State) (g : Ghost) (net : IsNet (net_of d)) (k : Known (net_of d) g.net) (t cap : ℕ) where
  abbrev pub n : Net
  n = net_of d

  abbrev pub now : End
  now = end_of cap (tile_at s t).processor (tile_at s t).bank

  -- an event with what becomes of the tile's ends
  abbrev Event : Option NetEvent → End → Type 0
  Event e new = IsTileEvent d g.net e now new

  by_send : (l : List ℕ) (next : Option (ℕ × Operation)) (new : End) → is_begin Processor choice.Send l ≡ false → Event (network.request_event d t l next) new
      → Falls n g.net (network.request_event d t l next) now new 2
  by_send [] next new begin e = absurd (cc)
  by_send (f ∷ fs) next new begin e = falls_inject n g.net net k (injection_channel d.shape t class.Request) f fs now new e.may e.change

  pub processor_falls : (c : Choice) (w : Want) (learned : ℕ) → processor_wants (tiles_of d.shape) d.words t (tile_at s t).processor c ≡ Some w
      → is_begin Processor c (tile_at s t).processor.to_put ≡ false
      → (new : End) → Event (network.processor_event d t (tile_at s t).processor s.around c learned) new
      → Falls n g.net (network.processor_event d t (tile_at s t).processor s.around c learned) now new (charge Processor c)
  processor_falls choice.Send w learned wanted begin new e = by_send (tile_at s t).processor.to_put (ready (tile_at s t).processor.operations) new begin e
  processor_falls choice.Take w learned wanted begin new e =
      falls_accept n g.net net k (carries_route learned) (ejection_channel d.shape t class.Reply) learned _ now new e.may e.change
  processor_falls choice.Credit w learned wanted begin new e = falls_return n g.net net k (injection_channel d.shape t class.Request) now new e.may e.change
  processor_falls choice.Done w learned wanted begin new e = falls_none n g.net net k now new e.change 0 (omega arith) (λ less. refl)
  processor_falls choice.Look w learned wanted begin new e = falls_none n g.net net k now new e.change 0 (omega arith) (λ less. refl)
  processor_falls (choice.TakeFrom i) w learned wanted begin new e = absurd (cc)
  processor_falls (choice.Put i) w learned wanted begin new e = absurd (cc)
  processor_falls (choice.CreditOf i) w learned wanted begin new e = absurd (cc)
  processor_falls choice.Serve w learned wanted begin new e = absurd (cc)

  by_output : (i flit : ℕ) (o : Option ℕ) (w : Want) → option_map (λ o. want.Put o flit) o ≡ Some w
      → IsRouterEvent d g.net (option_map (λ o. network.words_forwarded (head_of flit) (input_channel d.shape t i) (output_channel d.shape t o) flit) o)
      → Falls n g.net (option_map (λ o. network.words_forwarded (head_of flit) (input_channel d.shape t i) (output_channel d.shape t o) flit) o) now now 2
  by_output i flit None w wanted e = absurd (cc)
  by_output i flit (Some o) w wanted e =
      falls_words n g.net net k (head_of flit) (input_channel d.shape t i) (output_channel d.shape t o) flit now now e.may (e.stays now)

  by_latch : (i : ℕ) (l : Option ℕ) (w : Want) → wants_to_put d.shape t (tile_at s t).router i l ≡ Some w
      → IsRouterEvent d g.net (network.put_event d t (tile_at s t).router i l)
      → Falls n g.net (network.put_event d t (tile_at s t).router i l) now now 2
  by_latch i None w wanted e = absurd (cc)
  by_latch i (Some flit) w wanted e = by_output i flit (output_for d.shape t (tile_at s t).router i (head_of flit)) w wanted e

  pub router_falls : (c : Choice) (w : Want) (learned : ℕ) → router_wants d.shape t (tile_at s t).router c ≡ Some w
      → IsRouterEvent d g.net (network.router_event d t (tile_at s t).router s.around c learned)
      → Falls n g.net (network.router_event d t (tile_at s t).router s.around c learned) now now (charge Router c)
  router_falls (choice.TakeFrom i) w learned wanted e = falls_latch n g.net net k (input_channel d.shape t i) learned _ now now e.may (e.stays now)
  router_falls (choice.Put i) w learned wanted e =
      by_latch i (latch_of (tile_at s t).router i) w
      (if_so (nat_lt i (port_count (dims_of d.shape))) (wants_to_put d.shape t (tile_at s t).router i (latch_of (tile_at s t).router i)) w wanted).1 e
  router_falls (choice.CreditOf o) w learned wanted e = falls_return n g.net net k (output_channel d.shape t o) now now e.may (e.stays now)
  router_falls choice.Send w learned wanted e = absurd (cc)
  router_falls choice.Take w learned wanted e = absurd (cc)
  router_falls choice.Credit w learned wanted e = absurd (cc)
  router_falls choice.Done w learned wanted e = absurd (cc)
  router_falls choice.Look w learned wanted e = absurd (cc)
  router_falls choice.Serve w learned wanted e = absurd (cc)

  -- a bank's step leaves the operations of the processor, and what it has reported
  by_response : (o : Option Telling) (new : End) → new.left ≡ now.left → new.room ≡ now.room → new.reports ≡ now.reports
      → Event (option_map (λ r. InjectHead (injection_channel d.shape t class.Reply) (response_parcel d.shape r)) o) new
      → Falls n g.net (option_map (λ r. InjectHead (injection_channel d.shape t class.Reply) (response_parcel d.shape r)) o) now new 2
  by_response None new left room reports e = ⊎_elim
      (λ (row : Serves now new). let a = row.room in absurd (omega (arith, a, room)))
      (λ (row : NetReports now new). let a = row.reports in absurd (omega (arith, a, reports)))
      e.change
  by_response (Some r) new left room reports e =
      falls_head n g.net net k (injection_channel d.shape t class.Reply) (response_parcel d.shape r) now new e.may e.change (omega (arith, left))

  by_bit : (b : Bool) (flit : ℕ) (more : List ℕ) (o : Option Telling) (new : End) → new.left ≡ now.left → new.room ≡ now.room → new.reports ≡ now.reports
      → Event (if b then option_map (λ r. InjectHead (injection_channel d.shape t class.Reply) (response_parcel d.shape r)) o
      else Some (InjectRest (injection_channel d.shape t class.Reply) flit more)) new
      → Falls n g.net (if b then option_map (λ r. InjectHead (injection_channel d.shape t class.Reply) (response_parcel d.shape r)) o
      else Some (InjectRest (injection_channel d.shape t class.Reply) flit more)) now new 2
  by_bit true flit more o new left room reports e = by_response o new left room reports e
  by_bit false flit more o new left room reports e = falls_inject n g.net net k (injection_channel d.shape t class.Reply) flit more now new e.may e.change

  by_reply : (l : List ℕ) (w : Want) → option_map (λ f. want.Put 0 f) (channel.first_of l) ≡ Some w → (new : End)
      → new.left ≡ now.left → new.room ≡ now.room → new.reports ≡ now.reports
      → Event (network.reply_event d t (tile_at s t).bank l) new → Falls n g.net (network.reply_event d t (tile_at s t).bank l) now new 2
  by_reply [] w wanted new left room reports e = absurd (cc)
  by_reply (f ∷ fs) w wanted new left room reports e = by_bit (carries_route f) f fs _ new left room reports e

  pub bank_falls : (c : Choice) (w : Want) (learned : ℕ) → bank_wants (tiles_of d.shape) t (tile_at s t).bank c ≡ Some w
      → Event (network.bank_event d t (tile_at s t).bank s.around c learned) (end_of cap (tile_at s t).processor (bank_after (tiles_of d.shape) t (tile_at s t).bank c w learned))
      → Falls n g.net (network.bank_event d t (tile_at s t).bank s.around c learned) now
      (end_of cap (tile_at s t).processor (bank_after (tiles_of d.shape) t (tile_at s t).bank c w learned)) (charge Bank c)
  bank_falls choice.Take w learned wanted e =
      falls_accept n g.net net k (carries_route learned) (ejection_channel d.shape t class.Request) learned _ now _ e.may e.change
  bank_falls choice.Serve w learned wanted e = falls_none n g.net net k now _ e.change 1 (omega arith) (λ less. absurd (omega (arith, less)))
  bank_falls choice.Send w learned wanted e = by_reply (tile_at s t).bank.to_put w wanted _ refl refl refl e
  bank_falls choice.Credit w learned wanted e = falls_return n g.net net k (injection_channel d.shape t class.Reply) now _ e.may e.change
  bank_falls choice.Done w learned wanted e = absurd (cc)
  bank_falls choice.Look w learned wanted e = absurd (cc)
  bank_falls (choice.TakeFrom i) w learned wanted e = absurd (cc)
  bank_falls (choice.Put i) w learned wanted e = absurd (cc)
  bank_falls (choice.CreditOf i) w learned wanted e = absurd (cc)
