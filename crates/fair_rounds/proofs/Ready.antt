-- What a choice of the calm state wants and is granted, and so what goes in the state itself.
use Rattle.std.proofs.Common.{◌≡◌, ◌⊎◌, inl, inr, ℕ, ◌+◌, ◌<◌, Bool, true, false, List, [], ◌∷◌, Option, Some, None, sym, ap, ◌∙◌, refl, arith, subst, slice_index}
use Rattle.std.specs.Prelude.{if◌then◌else◌, option_map, is_none, ◌&&◌, nat_lt}
use Rattle.std.proofs.lemmas.Bool.{ltb-true}
use Rattle.std.proofs.lemmas.Option.{same_Some}
use Rattle.torus.specs.Shape.{tiles_of, dims_of}
use Rattle.torus.specs.declared.step.Step.{Step}
use Rattle.torus.specs.declared.step.Choice.{Choice}
use Rattle.torus.specs.declared.step.Choice.TheVariants as choice
use Rattle.channel_number.specs.Ports.{port_count}
use Rattle.flit_buffer.specs.declared.want.Want.{Want}
use Rattle.flit_buffer.specs.declared.want.Want.TheVariants as want
use Rattle.flit_buffer.specs.Channel as channel
use Rattle.flit_buffer.specs.Places.{Ring}
use Rattle.flit_buffer.specs.Wants.{told_by}
use Rattle.flit_buffer.specs.Surroundings.{Surroundings, Wiring, granted, agent_step, ring}
use Rattle.packet.specs.declared.kinds.Op.TheVariants.{Add}
use Rattle.packet.specs.declared.kinds.Request.{Request as Asking}
use Rattle.packet.specs.Flits.{head_of}
use Rattle.home_bank.specs.ServiceList.{address_of}
use Rattle.one_order.specs.Following.{is_finished, next_operation_of}
use Rattle.one_order.specs.ProcessorRecord.{ProcessorRecord, ready}
use Rattle.one_order.specs.ProcessorTable.{ProcessorState, processor_wants, processor_after, flits_due}
use Rattle.router.specs.Table.{RouterState, router_wants, router_after, latch_of, output_for, wants_to_take, wants_to_put}
use Rattle.router.specs.Beginning.{router_wiring}
use Rattle.home_bank.specs.BankTable.{BankState, bank_wants, bank_after, is_nil}
use Rattle.tile.specs.Tile.{Design, TileState, tile_step}
use Rattle.tile.specs.Wiring.{processor_wiring, bank_wiring}
use Rattle.tile.specs.declared.agent.Agent.{Agent}
use Rattle.tile.specs.declared.agent.Agent.TheVariants.{Processor, Router, Bank}
use Rattle.tile.specs.Agents.{agent_kind, agent_tile, tile_wants, wiring_of}
use Rattle.core_laws.specs.Core.{State}
use Rattle.core_laws.proofs.AgentSteps.{did, option_map_some}
use Rattle.core_laws.proofs.RouterWork.{if_so}
use Rattle.core_laws.proofs.Stands.{tile_at}
use Rattle.fair_rounds.specs.Charges.{charge}
use Rattle.machine_core.specs.Guarded.{is_begin}
use Rattle.fair_rounds.proofs.Calm.{calm_following, calm_record, calm_tile, calm_around, calm_ring_at}

-- the channel at an agent's output
abbrev pub out_ring : Surroundings → Wiring → ℕ → Ring
out_ring around wiring o = ring around.rings (slice_index wiring.outputs o)

-- a want of a flit that is there, or of a word of the memory
abbrev pub IsSteady : Want → Type 0
IsSteady (want.Take i) = Unit {0}
IsSteady (want.Access word op) = Unit {0}
IsSteady _ = ⊥

-- a choice that isn't a put and is granted
pub record IsGranted (around : Surroundings) (wiring : Wiring) (a : Agent) (c : Choice) (w : Want) : Type 0 where
  pub counts : charge a c ≡ 1
  pub steady : IsSteady w
  pub learned : ℕ
  pub grants : granted around wiring w ≡ Some learned

-- a put for which a credit is held, or on its way back
pub record IsPut (around : Surroundings) (wiring : Wiring) (a : Agent) (c : Choice) (w : Want) : Type 0 where
  pub counts : charge a c ≡ 2
  pub output : ℕ
  pub flit : ℕ
  pub is : w ≡ want.Put output flit
  pub credit : 0 < (out_ring around wiring output).channel.held + (out_ring around wiring output).channel.returning

-- a choice that begins no operation, and is granted or a put
pub record CanGo (d : Design) (s : State) : Type 0 where
  pub attempt : Step
  pub here : agent_tile attempt.agent < tiles_of d.shape
  pub wants : Want
  pub wanted : tile_wants d (agent_tile attempt.agent) (tile_at s (agent_tile attempt.agent)) (agent_kind attempt.agent) attempt.choice ≡ Some wants
  pub plain : is_begin (agent_kind attempt.agent) attempt.choice (tile_at s (agent_tile attempt.agent)).processor.to_put ≡ false
  pub goes : IsGranted s.around (wiring_of d.shape (agent_tile attempt.agent) (agent_kind attempt.agent)) (agent_kind attempt.agent) attempt.choice wants
      ⊎ IsPut s.around (wiring_of d.shape (agent_tile attempt.agent) (agent_kind attempt.agent)) (agent_kind attempt.agent) attempt.choice wants

-- what is granted in the calm state
lt_some : (a v f : ℕ) → (if nat_lt 0 a then Some v else None) ≡ Some f → 0 < a
lt_some a v f h = by_test (nat_lt 0 a) refl h
  where
    by_test : (b : Bool) → nat_lt 0 a ≡ b → (if b then Some v else None) ≡ Some f → 0 < a
    by_test true is h = ltb-true 0 a is
    by_test false is h = absurd (cc)

take_granted : (around : Surroundings) (wiring : Wiring) (i f : ℕ) → granted (calm_around around) wiring (want.Take i) ≡ Some f
    → granted around wiring (want.Take i) ≡ Some f
take_granted around wiring i f h = sym (ap (λ (r : Ring). channel.first_of r.channel.flits) (calm_ring_at around.rings (slice_index wiring.inputs i))) ∙ h

put_granted : (around : Surroundings) (wiring : Wiring) (o flit f : ℕ) → granted (calm_around around) wiring (want.Put o flit) ≡ Some f
    → 0 < (out_ring around wiring o).channel.held + (out_ring around wiring o).channel.returning
put_granted around wiring o flit f h =
    lt_some ((out_ring around wiring o).channel.held + (out_ring around wiring o).channel.returning) 0 f
    (sym (ap (λ (r : Ring). if nat_lt 0 r.channel.held then Some 0 else None) (calm_ring_at around.rings (slice_index wiring.outputs o))) ∙ h)

no_credit : (around : Surroundings) (wiring : Wiring) (o f : ℕ) → granted (calm_around around) wiring (want.Credit o) ≡ Some f → ⊥
no_credit around wiring o f h =
    let no : 0 < 0 = lt_some 0 0 f (sym (ap (λ (r : Ring). if nat_lt 0 r.channel.returning then Some 0 else None) (calm_ring_at around.rings (slice_index wiring.outputs o))) ∙ h) in
    omega (arith, no)

and_false : (b : Bool) → (b && false) ≡ false
and_false true = refl
and_false false = refl

none_next : (b : ProcessorRecord) → ready (calm_record b) ≡ None
unfolding next_operation_of
none_next b = refl

-- what a choice of the calm state wants and is granted
module _ (d : Design) (t : ℕ) (u : TileState) (around : Surroundings) where
  pub record Goes (a : Agent) (c : Choice) (w : Want) : Type 0 where
    pub wanted : tile_wants d t u a c ≡ Some w
    pub plain : is_begin a c u.processor.to_put ≡ false
    pub goes : IsGranted around (wiring_of d.shape t a) a c w ⊎ IsPut around (wiring_of d.shape t a) a c w

  puts : (a : Agent) (c : Choice) (o f g : ℕ) (w : Want) → charge a c ≡ 2 → w ≡ want.Put o f → tile_wants d t u a c ≡ Some w
      → is_begin a c u.processor.to_put ≡ false → granted (calm_around around) (wiring_of d.shape t a) w ≡ Some g → Goes a c w
  puts a c o f g w counts is wanted plain h = record {
    wanted = wanted;
    plain = plain;
    goes = inr (record {
      counts = counts;
      output = o;
      flit = f;
      is = is;
      credit = put_granted around (wiring_of d.shape t a) o f g (subst (λ (v : Want). granted (calm_around around) (wiring_of d.shape t a) v ≡ Some g) is h);
    });
  }

  takes : (a : Agent) (c : Choice) (i g : ℕ) (w : Want) → charge a c ≡ 1 → w ≡ want.Take i → tile_wants d t u a c ≡ Some w
      → is_begin a c u.processor.to_put ≡ false → granted (calm_around around) (wiring_of d.shape t a) w ≡ Some g → Goes a c w
  takes a c i g w counts is wanted plain h = record {
    wanted = wanted;
    plain = plain;
    goes = inl (record {
      counts = counts;
      steady = subst IsSteady (sym is) tt;
      learned = g;
      grants = subst (λ (v : Want). granted around (wiring_of d.shape t a) v ≡ Some g) (sym is)
          (take_granted around (wiring_of d.shape t a) i g (subst (λ (v : Want). granted (calm_around around) (wiring_of d.shape t a) v ≡ Some g) is h));
    });
  }

  credits : {A : Type 0} (a : Agent) (o g : ℕ) (w : Want) → w ≡ want.Credit o → granted (calm_around around) (wiring_of d.shape t a) w ≡ Some g → A
  credits a o g w is h = absurd (no_credit around (wiring_of d.shape t a) o g (subst (λ (v : Want). granted (calm_around around) (wiring_of d.shape t a) v ≡ Some g) is h))

  sends : (l : List ℕ) (w : Want) (g : ℕ) → u.processor.to_put ≡ l
      → option_map (λ flit. want.Put 0 flit) (channel.first_of (flits_due (tiles_of d.shape) d.words t l (ready (calm_record u.processor.operations)))) ≡ Some w
      → granted (calm_around around) (wiring_of d.shape t Processor) w ≡ Some g → Goes Processor choice.Send w
  sends [] w g is h grants =
      let none : option_map (λ flit. want.Put 0 flit) (channel.first_of (flits_due (tiles_of d.shape) d.words t [] (ready (calm_record u.processor.operations)))) ≡ None =
      ap (λ r. option_map (λ flit. want.Put 0 flit) (channel.first_of (flits_due (tiles_of d.shape) d.words t [] r))) (none_next u.processor.operations) in
      absurd (cc)
  sends (f ∷ fs) w g is h grants =
      puts Processor choice.Send 0 f g w refl (sym (same_Some (want.Put 0 f) w h))
      (ap (λ l. option_map (λ flit. want.Put 0 flit) (channel.first_of (flits_due (tiles_of d.shape) d.words t l (ready u.processor.operations)))) is ∙ h)
      (ap (is_begin Processor choice.Send) is) grants

  by_latch : (i : ℕ) (l : Option ℕ) (w : Want) (g : ℕ) → wants_to_take d.shape t i l ≡ Some w → router_wants d.shape t u.router (choice.TakeFrom i) ≡ Some w
      → granted (calm_around around) (wiring_of d.shape t Router) w ≡ Some g → Goes Router (choice.TakeFrom i) w
  by_latch i None w g h wanted grants = takes Router (choice.TakeFrom i) i g w refl (sym (same_Some (want.Take i) w h)) wanted refl grants
  by_latch i (Some f) w g h wanted grants = absurd (cc)

  by_output : (i f : ℕ) (o : Option ℕ) (w : Want) (g : ℕ) → option_map (λ o. want.Put o f) o ≡ Some w → router_wants d.shape t u.router (choice.Put i) ≡ Some w
      → granted (calm_around around) (wiring_of d.shape t Router) w ≡ Some g → Goes Router (choice.Put i) w
  by_output i f None w g h wanted grants = absurd (cc)
  by_output i f (Some o) w g h wanted grants = puts Router (choice.Put i) o f g w refl (sym (same_Some (want.Put o f) w h)) wanted refl grants

  by_full : (i : ℕ) (l : Option ℕ) (w : Want) (g : ℕ) → wants_to_put d.shape t u.router i l ≡ Some w → router_wants d.shape t u.router (choice.Put i) ≡ Some w
      → granted (calm_around around) (wiring_of d.shape t Router) w ≡ Some g → Goes Router (choice.Put i) w
  by_full i None w g h wanted grants = absurd (cc)
  by_full i (Some f) w g h wanted grants = by_output i f (output_for d.shape t u.router i (head_of f)) w g h wanted grants

  by_reply : (l : List ℕ) (w : Want) (g : ℕ) → option_map (λ f. want.Put 0 f) (channel.first_of l) ≡ Some w → bank_wants (tiles_of d.shape) t u.bank choice.Send ≡ Some w
      → granted (calm_around around) (wiring_of d.shape t Bank) w ≡ Some g → Goes Bank choice.Send w
  by_reply [] w g h wanted grants = absurd (cc)
  by_reply (f ∷ fs) w g h wanted grants = puts Bank choice.Send 0 f g w refl (sym (same_Some (want.Put 0 f) w h)) wanted refl grants

  by_request : (o : Option Asking) (w : Want) (g : ℕ) → option_map (λ (r : Asking). want.Access (address_of t (tiles_of d.shape) r.word) r.op) o ≡ Some w
      → bank_wants (tiles_of d.shape) t u.bank choice.Serve ≡ Some w
      → granted (calm_around around) (wiring_of d.shape t Bank) w ≡ Some g → Goes Bank choice.Serve w
  by_request None w g h wanted grants = absurd (cc)
  by_request (Some r) w g h wanted grants =
      let is : w ≡ want.Access (address_of t (tiles_of d.shape) r.word) r.op = sym (same_Some (want.Access (address_of t (tiles_of d.shape) r.word) r.op) w h) in
      record {
        wanted = wanted;
        plain = refl;
        goes = inl (record {
          counts = refl;
          steady = subst IsSteady (sym is) tt;
          learned = told_by r.op (slice_index around.words (address_of t (tiles_of d.shape) r.word));
          grants = ap (granted around (wiring_of d.shape t Bank)) is;
        });
      }

  pub goes_on : (a : Agent) (c : Choice) (w : Want) (g : ℕ) → tile_wants d t (calm_tile u) a c ≡ Some w
      → granted (calm_around around) (wiring_of d.shape t a) w ≡ Some g → Goes a c w
  goes_on Processor choice.Send w g h grants = sends u.processor.to_put w g refl h grants
  goes_on Processor choice.Take w g h grants = takes Processor choice.Take 0 g w refl (sym (same_Some (want.Take 0) w h)) h refl grants
  goes_on Processor choice.Credit w g h grants = credits Processor 0 g w (sym (same_Some (want.Credit 0) w h)) grants
  goes_on Processor choice.Done w g h grants =
      let no : ◌≡◌ {A = Bool} (is_finished (calm_following u.processor.operations.following) && false) true =
      (if_so (is_finished (calm_following u.processor.operations.following) && false) (Some (want.Access d.words (Add 1))) w h).0 in
      let is = and_false (is_finished (calm_following u.processor.operations.following)) in
      absurd (cc)
  goes_on Processor choice.Look w g h grants = absurd (cc)
  goes_on Processor (choice.TakeFrom i) w g h grants = absurd (cc)
  goes_on Processor (choice.Put i) w g h grants = absurd (cc)
  goes_on Processor (choice.CreditOf i) w g h grants = absurd (cc)
  goes_on Processor choice.Serve w g h grants = absurd (cc)
  goes_on Router (choice.TakeFrom i) w g h grants =
      by_latch i (latch_of u.router i) w g (if_so (nat_lt i (port_count (dims_of d.shape))) (wants_to_take d.shape t i (latch_of u.router i)) w h).1 h grants
  goes_on Router (choice.Put i) w g h grants =
      by_full i (latch_of u.router i) w g (if_so (nat_lt i (port_count (dims_of d.shape))) (wants_to_put d.shape t u.router i (latch_of u.router i)) w h).1 h grants
  goes_on Router (choice.CreditOf o) w g h grants =
      credits Router o g w (sym (same_Some (want.Credit o) w (if_so (nat_lt o (port_count (dims_of d.shape))) (Some (want.Credit o)) w h).1)) grants
  goes_on Router choice.Send w g h grants = absurd (cc)
  goes_on Router choice.Take w g h grants = absurd (cc)
  goes_on Router choice.Credit w g h grants = absurd (cc)
  goes_on Router choice.Done w g h grants = absurd (cc)
  goes_on Router choice.Look w g h grants = absurd (cc)
  goes_on Router choice.Serve w g h grants = absurd (cc)
  goes_on Bank choice.Take w g h grants =
      takes Bank choice.Take 0 g w refl (sym (same_Some (want.Take 0) w (if_so (is_none u.bank.waiting && is_nil u.bank.to_put) (Some (want.Take 0)) w h).1)) h refl grants
  goes_on Bank choice.Serve w g h grants = by_request u.bank.waiting w g h h grants
  goes_on Bank choice.Send w g h grants = by_reply u.bank.to_put w g h h grants
  goes_on Bank choice.Credit w g h grants = credits Bank 0 g w (sym (same_Some (want.Credit 0) w h)) grants
  goes_on Bank choice.Done w g h grants = absurd (cc)
  goes_on Bank choice.Look w g h grants = absurd (cc)
  goes_on Bank (choice.TakeFrom i) w g h grants = absurd (cc)
  goes_on Bank (choice.Put i) w g h grants = absurd (cc)
  goes_on Bank (choice.CreditOf i) w g h grants = absurd (cc)

  -- a step of the calm state
  pub calm_step : (a : Agent) (c : Choice) (p : TileState × Surroundings) → tile_step d t (calm_tile u) (calm_around around) a c ≡ Some p
      → (w : Want) × Goes a c w
  calm_step Processor c p h =
      let W : ProcessorState → Choice → Option Want = processor_wants (tiles_of d.shape) d.words t in
      let q = option_map_some _
      (agent_step W (processor_after (tiles_of d.shape) d.words t) d.depth (processor_wiring d.shape t) (calm_tile u).processor (calm_around around) c) p h in
      let x = did W (processor_after (tiles_of d.shape) d.words t) d.depth (processor_wiring d.shape t) (calm_tile u).processor (calm_around around) c (q.0).0 (q.0).1 q.1 in
      (x.want, goes_on Processor c x.want x.learned x.wanted x.grants)
  calm_step Router c p h =
      let W : RouterState → Choice → Option Want = router_wants d.shape t in
      let q = option_map_some _ (agent_step W router_after d.depth (router_wiring d.shape t) u.router (calm_around around) c) p h in
      let x = did W router_after d.depth (router_wiring d.shape t) u.router (calm_around around) c (q.0).0 (q.0).1 q.1 in
      (x.want, goes_on Router c x.want x.learned x.wanted x.grants)
  calm_step Bank c p h =
      let W : BankState → Choice → Option Want = bank_wants (tiles_of d.shape) t in
      let q = option_map_some _ (agent_step W (bank_after (tiles_of d.shape) t) d.depth (bank_wiring d.shape t) u.bank (calm_around around) c) p h in
      let x = did W (bank_after (tiles_of d.shape) t) d.depth (bank_wiring d.shape t) u.bank (calm_around around) c (q.0).0 (q.0).1 q.1 in
      (x.want, goes_on Bank c x.want x.learned x.wanted x.grants)
