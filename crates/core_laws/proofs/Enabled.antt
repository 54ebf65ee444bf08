-- Each move that the network could make is a step that the machine can.
use Rattle.std.proofs.Common.{◌≡◌, ℕ, ◌<◌, Bool, true, false, cond, List, [], ◌∷◌, length, Option, Some, None, refl, sym, ◌∙◌, ap, subst, arith, slice_index}
use Rattle.std.proofs.Common.{eqb-true}
use Rattle.std.specs.Prelude.{option_map, is_none, ◌&&◌}
use Rattle.std.specs.List.{Any}
use Rattle.std.proofs.lemmas.Bool.{lt-ltb}
use Rattle.std.proofs.lemmas.List.FromFn.{get_or-map-range_with_len}
use Rattle.std.proofs.lemmas.List.Folds.{Any-from_list_any}
use Rattle.std.proofs.lemmas.Option.{get_or_from_slice_get, slice_get-get_or}
use Rattle.torus.specs.Shape.{tiles_of, dims_of}
use Rattle.torus.specs.declared.shape.Class.{Class}
use Rattle.torus.specs.declared.shape.Class.TheVariants.{Request, Reply}
use Rattle.torus.specs.declared.step.Step.{Step}
use Rattle.torus.specs.declared.step.Choice.TheVariants as choice
use Rattle.packet.specs.declared.kinds.Request.{Request as Asking}
use Rattle.home_bank.specs.ServiceList.{address_of}
use Rattle.flit_buffer.specs.declared.want.Want.TheVariants as want
use Rattle.flit_buffer.specs.Channel as channel
use Rattle.flit_buffer.specs.Wants.{told_by}
use Rattle.flit_buffer.specs.Surroundings.{Wiring, granted, ring}
use Rattle.wormhole.specs.Net.{IsNet, IsOn}
use Rattle.wormhole.specs.State.{NetState, NetLine}
use Rattle.wormhole.specs.Words.{Words}
use Rattle.wormhole.specs.Routes.{Routes}
use Rattle.wormhole.specs.Events.{NetEvent, InjectHead, InjectRest, Latch, ForwardHead, ForwardRest, AcceptHead, AcceptRest, Return, CanHappen}
use Rattle.wormhole.specs.Ends.{IsOwed, Goes}
use Rattle.wormhole.proofs.Heads.{Heads, heads, leads, in_line_is}
use Rattle.one_order.specs.ProcessorRecord.{ready}
use Rattle.packet.specs.Flits.{head_of}
use Rattle.core_laws.specs.Heads.{carries_route}
use Rattle.router.specs.Table.{RouterState, latch_of, output_owned, is_owned, is_output, output_for, wants_to_take, wants_to_put, way_of}
use Rattle.channel_number.specs.Ports.{port_count}
use Rattle.one_order.specs.ProcessorTable.{flits_due}
use Rattle.home_bank.specs.BankTable.{is_nil}
use Rattle.channel_number.specs.Ports.{injection_channel, ejection_channel, input_channel, output_channel}
use Rattle.core_laws.specs.Wiring.{processor_wiring, bank_wiring}
use Rattle.router.specs.Beginning.{router_wiring}
use Rattle.core_laws.specs.Tile.{Design}
use Rattle.core_laws.specs.Core.{State, step, round}
use Rattle.core_laws.proofs.WiredUp.{not_owned as no_owner}
use Rattle.core_laws.proofs.Projection.{net_of, first_flit}
use Rattle.core_laws.proofs.Stands.{tile_at, IsLane, Mirrors}
use Rattle.core_laws.proofs.Attempts.{takes_on, puts_on, credits_on}
use Rattle.core_laws.proofs.Steps.{IsThere, processor_goes, router_goes, bank_goes}
use Rattle.core_laws.proofs.Wires.{AreWires, Chooses, FlitsTell, ends_of}

-- what is left of a packet in course is to be put
course_is : (b : Bool) (l : List ℕ) (f : ℕ) (more : List ℕ) → cond b [] l ≡ f ∷ more → l ≡ f ∷ more
course_is true l f more e = absurd (cc)
course_is false l f more e = e

owned_output : (r : RouterState) (i o : ℕ) (k : Option ℕ) → is_output k o ≡ true → output_owned r i ≡ k → output_owned r i ≡ Some o
owned_output r i o None e is = absurd (cc)
owned_output r i o (Some y) e is = is ∙ ap Some (eqb-true y o e)

-- the input that owns an output
owned_by : (r : RouterState) (o : ℕ) → is_owned r o ≡ true → (i : ℕ) × (i < length r.owned) × (output_owned r i ≡ Some o)
owned_by r o owned =
    let at : Any (λ (k : Option ℕ). is_output k o ≡ true) r.owned = Any-from_list_any (λ (k : Option ℕ). is_output k o) r.owned owned in
    (at.0, at.2, owned_output r at.0 o at.1 at.4 (get_or_from_slice_get r.owned at.0 at.1 None (slice_get-get_or r.owned at.0 at.1 at.2 ∙ ap Some at.3)))

module _ (d : Design) (s : State) (lines : ℕ → NetLine) (Go : Type 0) (filled : length s.tiles ≡ tiles_of d.shape)
    (go : (a : Step) → IsOn a (round d.shape) → IsThere (step d s a) → Go) (mirrors : Mirrors d s lines) (wires : AreWires d) where
  lane : (x : ℕ) → x < (net_of d).channels → IsLane (ring s.around.rings x).channel (lines x)
  lane x within = mirrors.rings x (subst (λ n. x < n) wires.count within)

  -- what is granted
  takes_granted : (wiring : Wiring) (i x f : ℕ) (more : List ℕ) → slice_index wiring.inputs i ≡ x → x < (net_of d).channels → (lines x).flits ≡ f ∷ more
      → granted s.around wiring (want.Take i) ≡ Some f
  takes_granted wiring i x f more is within first =
      ap (λ z. channel.first_of (ring s.around.rings z).channel.flits) is ∙ ap channel.first_of (sym (lane x within).flits ∙ first)

  pub puts_granted : (wiring : Wiring) (o x f : ℕ) → slice_index wiring.outputs o ≡ x → x < (net_of d).channels → 0 < (lines x).held
      → granted s.around wiring (want.Put o f) ≡ Some 0
  puts_granted wiring o x f is within credit =
      ap (λ b. cond b (Some 0) None) (lt-ltb 0 (ring s.around.rings (slice_index wiring.outputs o)).channel.held
      (subst (λ n. 0 < n) ((lane x within).held ∙ ap (λ z. (ring s.around.rings z).channel.held) (sym is)) credit))

  credits_granted : (wiring : Wiring) (o x : ℕ) → slice_index wiring.outputs o ≡ x → x < (net_of d).channels → 0 < (lines x).returning
      → granted s.around wiring (want.Credit o) ≡ Some 0
  credits_granted wiring o x is within returns =
      ap (λ b. cond b (Some 0) None) (lt-ltb 0 (ring s.around.rings (slice_index wiring.outputs o)).channel.returning
      (subst (λ n. 0 < n) ((lane x within).returning ∙ ap (λ z. (ring s.around.rings z).channel.returning) (sym is)) returns))

  ports : ℕ
  ports = port_count (dims_of d.shape)

  input_is : (t i : ℕ) → i < port_count (dims_of d.shape) → slice_index (router_wiring d.shape t).inputs i ≡ input_channel d.shape t i
  input_is t i low = get_or-map-range_with_len (input_channel d.shape t) 0 (port_count (dims_of d.shape)) i i 0 low (omega arith)

  output_is : (t o : ℕ) → o < port_count (dims_of d.shape) → slice_index (router_wiring d.shape t).outputs o ≡ output_channel d.shape t o
  output_is t o low = get_or-map-range_with_len (output_channel d.shape t) 0 (port_count (dims_of d.shape)) o o 0 low (omega arith)

  -- a credit that returns comes back
  credit_at_end : (x t : ℕ) (class : Class) → x < (net_of d).channels → t < tiles_of d.shape → x ≡ injection_channel d.shape t class → 0 < (lines x).returning
      → Go
  credit_at_end x t Request within here is returns =
      processor_goes d s Go filled go t choice.Credit (want.Credit 0) 0 here (choice.Send ∷ choice.Take ∷ [], choice.Done ∷ choice.Look ∷ [], refl) refl
      (credits_granted (processor_wiring d.shape t) 0 x (sym is) within returns)
  credit_at_end x t Reply within here is returns =
      bank_goes d s Go filled go t choice.Credit (want.Credit 0) 0 here (choice.Take ∷ choice.Serve ∷ choice.Send ∷ [], [], refl) refl
      (credits_granted (bank_wiring d.shape t) 0 x (sym is) within returns)

  credit_by : (x : ℕ) → x < (net_of d).channels → 0 < (lines x).returning → (b : Bool) → (net_of d).injects x ≡ b → Go
  credit_by x within returns true injects = let at = wires.injections x within injects in credit_at_end x at.tile at.class within at.here at.is returns
  credit_by x within returns false injects =
      let at = wires.outputs x within injects in
      router_goes d s Go filled go at.tile (choice.CreditOf at.port) (want.Credit at.port) 0 at.here (credits_on d.shape at.tile at.here at.port at.low)
      (ap (λ b. cond b (Some (want.Credit at.port)) None) (lt-ltb at.port (port_count (dims_of d.shape)) at.low))
      (credits_granted (router_wiring d.shape at.tile) at.port x (output_is at.tile at.port at.low ∙ sym at.is) within returns)

  -- a flit of a packet in course is put
  rest_at_end : (x t f : ℕ) (more : List ℕ) (class : Class) → x < (net_of d).channels → t < tiles_of d.shape → x ≡ injection_channel d.shape t class
      → (lines x).rest ≡ f ∷ more → 0 < (lines x).held → Go
  rest_at_end x t f more Request within here is course credit =
      let due : (tile_at s t).processor.to_put ≡ f ∷ more = sym (mirrors.sends_requests t here) ∙ ap (λ z. (lines z).rest) (sym is) ∙ course in
      processor_goes d s Go filled go t choice.Send (want.Put 0 f) 0 here ([], choice.Take ∷ choice.Credit ∷ choice.Done ∷ choice.Look ∷ [], refl)
      (ap (λ l. option_map (λ flit. want.Put 0 flit) (channel.first_of (flits_due (tiles_of d.shape) d.words t l (ready (tile_at s t).processor.operations))))
      due)
      (puts_granted (processor_wiring d.shape t) 0 x f (sym is) within credit)
  rest_at_end x t f more Reply within here is course credit =
      let due : (tile_at s t).bank.to_put ≡ f ∷ more =
      course_is (carries_route (first_flit (tile_at s t).bank.to_put)) (tile_at s t).bank.to_put f more
      (sym (mirrors.sends_replies t here) ∙ ap (λ z. (lines z).rest) (sym is) ∙ course) in
      bank_goes d s Go filled go t choice.Send (want.Put 0 f) 0 here (choice.Take ∷ choice.Serve ∷ [], choice.Credit ∷ [], refl)
      (ap (λ l. option_map (λ flit. want.Put 0 flit) (channel.first_of l)) due)
      (puts_granted (bank_wiring d.shape t) 0 x f (sym is) within credit)

  -- a router takes a flit into an empty latch
  latch_goes : (x f : ℕ) (more : List ℕ) → x < (net_of d).channels → (net_of d).ejects x ≡ false → (lines x).latch ≡ None → (lines x).flits ≡ f ∷ more → Go
  latch_goes x f more within input free first =
      let at = wires.inputs x within input in
      let empty : latch_of (tile_at s at.tile).router at.port ≡ None =
      sym (mirrors.latches at.tile at.port at.here at.low) ∙ ap (λ z. (lines z).latch) (sym at.is) ∙ free in
      router_goes d s Go filled go at.tile (choice.TakeFrom at.port) (want.Take at.port) f at.here (takes_on d.shape at.tile at.here at.port at.low)
      (ap (λ b. cond b (wants_to_take d.shape at.tile at.port (latch_of (tile_at s at.tile).router at.port)) None)
      (lt-ltb at.port (port_count (dims_of d.shape)) at.low) ∙ ap (wants_to_take d.shape at.tile at.port) empty)
      (takes_granted (router_wiring d.shape at.tile) at.port x f more (input_is at.tile at.port at.low ∙ sym at.is) within first)

  -- a router puts a latched flit that has an output
  put_goes : (t i f o y : ℕ) → t < tiles_of d.shape → i < port_count (dims_of d.shape) → o < port_count (dims_of d.shape)
      → latch_of (tile_at s t).router i ≡ Some f → output_for d.shape t (tile_at s t).router i (head_of f) ≡ Some o
      → y ≡ output_channel d.shape t o → y < (net_of d).channels → 0 < (lines y).held → Go
  put_goes t i f o y here low lower latched output is within credit =
      let r : RouterState = (tile_at s t).router in
      router_goes d s Go filled go t (choice.Put i) (want.Put o f) 0 here (puts_on d.shape t here i low)
      (ap (λ b. cond b (wants_to_put d.shape t r i (latch_of r i)) None) (lt-ltb i (port_count (dims_of d.shape)) low) ∙ ap (wants_to_put d.shape t r i) latched
      ∙ ap (option_map (λ p. want.Put p f)) output)
      (puts_granted (router_wiring d.shape t) o y f (output_is t o lower ∙ sym is) within credit)

  -- an output that no input owns in the network has none in its router
  not_owned : (t o : ℕ) → t < tiles_of d.shape → o < port_count (dims_of d.shape) → (lines (output_channel d.shape t o)).owner ≡ None → (b : Bool)
      → is_owned (tile_at s t).router o ≡ b → is_owned (tile_at s t).router o ≡ false
  not_owned t o here low free false is = is
  not_owned t o here low free true is =
      let at = owned_by (tile_at s t).router o is in
      let i_low : at.0 < port_count (dims_of d.shape) = subst (λ n. at.0 < n) (mirrors.ports t here).1 at.1 in
      let owner : (lines (output_channel d.shape t o)).owner ≡ Some (input_channel d.shape t at.0) = (mirrors.owners t at.0 o here i_low low).1 at.2 in
      let never : ◌≡◌ {A = Option ℕ} None (Some (input_channel d.shape t at.0)) = sym free ∙ owner in
      absurd (cc)

  head_goes : (x y f : ℕ) → FlitsTell d s → x < (net_of d).channels → y < (net_of d).channels → (net_of d).ejects x ≡ false → (lines x).latch ≡ Some f
      → (net_of d).is_head f ≡ true → y ≡ (net_of d).next x ((net_of d).told f)
      → (lines y).owner ≡ None → 0 < (lines y).held → Go
  head_goes x y f tell within inner input full head output free credit =
      let at = wires.inputs x within input in
      let t : ℕ = at.tile in
      let r : RouterState = (tile_at s t).router in
      let latched : latch_of r at.port ≡ Some f = sym (mirrors.latches t at.port at.here at.low) ∙ ap (λ z. (lines z).latch) (sym at.is) ∙ full in
      let way : Chooses d t at.port f = tell.heads t at.port f at.here at.low latched head in
      let o : ℕ = way_of d.shape t at.port way.head in
      let is : y ≡ output_channel d.shape t o = output ∙ ap (λ z. (net_of d).next z ((net_of d).told f)) at.is ∙ sym way.is in
      let unowned : is_owned r o ≡ false = not_owned t o at.here way.low (ap (λ z. (lines z).owner) (sym is) ∙ free) (is_owned r o) refl in
      put_goes t at.port f o y at.here at.low way.low latched
      (ap (output_for d.shape t r at.port) way.told ∙ ap (λ b. cond b None (Some o)) unowned) is inner credit

  -- the input of the owned output's router that owns it
  owner_of : (t o x : ℕ) → t < tiles_of d.shape → o < port_count (dims_of d.shape) → (lines (output_channel d.shape t o)).owner ≡ Some x → (b : Bool)
      → is_owned (tile_at s t).router o ≡ b
      → (i : ℕ) × (i < port_count (dims_of d.shape)) × (x ≡ input_channel d.shape t i) × (output_owned (tile_at s t).router i ≡ Some o)
  owner_of t o x here low owner false is =
      let never : ◌≡◌ {A = Option ℕ} None (Some x) = sym (mirrors.unowned t o here low (no_owner (tile_at s t).router o is)) ∙ owner in absurd (cc)
  owner_of t o x here low owner true is =
      let at = owned_by (tile_at s t).router o is in
      let i_low : at.0 < port_count (dims_of d.shape) = subst (λ n. at.0 < n) (mirrors.ports t here).1 at.1 in
      let same : ◌≡◌ {A = Option ℕ} (Some x) (Some (input_channel d.shape t at.0)) = sym owner ∙ (mirrors.owners t at.0 o here i_low low).1 at.2 in
      (at.0, i_low, cc, at.2)

  rest_goes : (x y f : ℕ) → FlitsTell d s → y < (net_of d).channels → (net_of d).injects y ≡ false → (lines x).latch ≡ Some f → (net_of d).is_head f ≡ false
      → (lines y).owner ≡ Some x → 0 < (lines y).held → Go
  rest_goes x y f tell inner output full rest owner credit =
      let at = wires.outputs y inner output in
      let t : ℕ = at.tile in
      let r : RouterState = (tile_at s t).router in
      let by : (i : ℕ) × (i < port_count (dims_of d.shape)) × (x ≡ input_channel d.shape t i) × (output_owned r i ≡ Some at.port) =
      owner_of t at.port x at.here at.low (ap (λ z. (lines z).owner) (sym at.is) ∙ owner) (is_owned r at.port) refl in
      let latched : latch_of r by.0 ≡ Some f = sym (mirrors.latches t by.0 at.here by.1) ∙ ap (λ z. (lines z).latch) (sym by.2) ∙ full in
      put_goes t by.0 f at.port y at.here by.1 at.low latched (ap (output_for d.shape t r by.0) (tell.rests f rest) ∙ by.3) at.is inner credit

  -- a processor takes what it hears
  take_goes : (p f : ℕ) (more : List ℕ) → p < tiles_of d.shape → (lines (ejection_channel d.shape p Reply)).flits ≡ f ∷ more → Go
  take_goes p f more here first =
      processor_goes d s Go filled go p choice.Take (want.Take 0) f here (choice.Send ∷ [], choice.Credit ∷ choice.Done ∷ choice.Look ∷ [], refl) refl
      (takes_granted (processor_wiring d.shape p) 0 (ejection_channel d.shape p Reply) f more refl (wires.ejects p Reply here) first)

  -- a bank serves the request that waits
  pub serves_waiting : (b : ℕ) (r : Asking) → b < tiles_of d.shape → (tile_at s b).bank.waiting ≡ Some r → Go
  serves_waiting b r here waits =
      bank_goes d s Go filled go b choice.Serve (want.Access (address_of b (tiles_of d.shape) r.word) r.op)
      (told_by r.op (slice_index s.around.words (address_of b (tiles_of d.shape) r.word))) here (choice.Take ∷ [], choice.Send ∷ choice.Credit ∷ [], refl)
      (ap (option_map (λ (q : Asking). want.Access (address_of b (tiles_of d.shape) q.word) q.op)) waits) refl

  -- a bank puts the next flit of its reply
  pub puts_reply : (b f : ℕ) (fs : List ℕ) → b < tiles_of d.shape → (tile_at s b).bank.to_put ≡ f ∷ fs → 0 < (lines (injection_channel d.shape b Reply)).held
      → Go
  puts_reply b f fs here due credit =
      bank_goes d s Go filled go b choice.Send (want.Put 0 f) 0 here (choice.Take ∷ choice.Serve ∷ [], choice.Credit ∷ [], refl)
      (ap (λ l. option_map (λ flit. want.Put 0 flit) (channel.first_of l)) due)
      (puts_granted (bank_wiring d.shape b) 0 (injection_channel d.shape b Reply) f refl (wires.injects b Reply here) credit)

  -- a bank with a flit and a credit serves, or takes, or goes on
  serve_by : (b f : ℕ) (more : List ℕ) → b < tiles_of d.shape → (lines (ejection_channel d.shape b Request)).flits ≡ f ∷ more
      → 0 < (lines (injection_channel d.shape b Reply)).held
      → (w : Option Asking) (l : List ℕ) → (tile_at s b).bank.waiting ≡ w → (tile_at s b).bank.to_put ≡ l → Go
  serve_by b f more here first credit (Some r) l waits due = serves_waiting b r here waits
  serve_by b f more here first credit None [] waits due =
      bank_goes d s Go filled go b choice.Take (want.Take 0) f here ([], choice.Serve ∷ choice.Send ∷ choice.Credit ∷ [], refl)
      (ap (λ w. cond (is_none w && is_nil (tile_at s b).bank.to_put) (Some (want.Take 0)) None) waits
      ∙ ap (λ l. cond (true && is_nil l) (Some (want.Take 0)) None) due)
      (takes_granted (bank_wiring d.shape b) 0 (ejection_channel d.shape b Request) f more refl (wires.ejects b Request here) first)
  serve_by b f more here first credit None (h ∷ hs) waits due = puts_reply b h hs here due credit

-- each move of the network's parts is an enabled step of the machine
module _ (d : Design) (s : State) (net : NetState) (Go : Type 0) (filled : length s.tiles ≡ tiles_of d.shape)
    (go : (a : Step) → IsOn a (round d.shape) → IsThere (step d s a) → Go)
    (is_net : IsNet (net_of d)) (words : Words (net_of d) net) (routes : Routes (net_of d) net) (mirrors : Mirrors d s net.lines) (wires : AreWires d)
    (tell : FlitsTell d s) where
  move_goes : (e : NetEvent) → IsOwed e → CanHappen (net_of d) net.lines e → Go
  move_goes (InjectHead x k) owed may = absurd (owed)
  move_goes (InjectRest x f more) owed may =
      let at = wires.injections x may.here may.injects in
      rest_at_end d s net.lines Go filled go mirrors wires x at.tile f more at.class may.here at.here at.is may.course may.credit
  move_goes (Latch x f more) owed may = latch_goes d s net.lines Go filled go mirrors wires x f more may.here may.input may.free may.first
  move_goes (ForwardHead x y f) owed may =
      let at : Heads (net_of d) net x f =
      heads (net_of d) net words routes x f (net.lines x).flits may.head (in_line_is net x (Some f) (net.lines x).flits may.full refl) in
      let on = leads (net_of d) net words is_net x y f may.input at may.output in
      head_goes d s net.lines Go filled go mirrors wires x y f tell may.here on.within may.input may.full may.head may.output may.free may.credit
  move_goes (ForwardRest x y f) owed may =
      rest_goes d s net.lines Go filled go mirrors wires x y f tell (words.inside.owned x y may.owned) (words.held x y may.owned).output may.full may.rest
      may.owned may.credit
  move_goes (AcceptHead x f more) owed may = absurd (owed)
  move_goes (AcceptRest x f more) owed may = absurd (owed)
  move_goes (Return x) owed may = credit_by d s net.lines Go filled go mirrors wires x may.here may.returns ((net_of d).injects x) refl

  pub machine_goes : Goes (net_of d) net (ends_of d) Go
  machine_goes = record {
    moves = move_goes;
    takes = λ p f more may. take_goes d s net.lines Go filled go mirrors wires p f more may.here may.first;
    serves = λ b f more may. serve_by d s net.lines Go filled go mirrors wires b f more may.here may.first may.credit (tile_at s b).bank.waiting
        (tile_at s b).bank.to_put refl refl;
  }
