-- No dead state of the machine: a step is enabled, or every script is finished.
use Rattle.std.proofs.Common.{◌≡◌, ◌⊎◌, ⊎_elim, ℕ, ◌+◌, ◌^◌, ◌<◌, Bool, true, false, cond, List, [], ◌∷◌, ◌++◌, length, map, Option, Some, None, inl, inr}
use Rattle.std.proofs.Common.{refl, sym, ◌∙◌, ap, subst, arith, slice_get, eq-eqb, append-nil, length-append}
use Rattle.std.specs.Prelude.{◌==◌, ◌&&◌, option_map, option_and_then, option_to_list}
use Rattle.std.proofs.Math.Bool.{true-and}
use Rattle.torus.specs.Shape.{tiles_of}
use Rattle.torus.specs.declared.shape.Class.TheVariants.{Request, Reply}
use Rattle.torus.specs.declared.step.Step.{Step}
use Rattle.torus.specs.declared.step.Choice.TheVariants as choice
use Rattle.packet.specs.declared.kinds.Operation.{Operation}
use Rattle.packet.specs.declared.kinds.Request.{Request as Asking}
use Rattle.packet.specs.declared.kinds.Response.{Response as Telling}
use Rattle.tag_table.specs.Tags.{free_tag}
use Rattle.one_order.specs.Following.{next_operation_of, is_finished}
use Rattle.one_order.specs.Observed.{list_at}
use Rattle.flit_buffer.specs.declared.want.Want.TheVariants as want
use Rattle.flit_buffer.specs.Channel as channel
use Rattle.wormhole.specs.Net.{IsNet, IsOn}
use Rattle.wormhole.specs.Words.{Words}
use Rattle.wormhole.specs.Routes.{Routes, between}
use Rattle.wormhole.specs.Delivery.{whole, whole_of}
use Rattle.wormhole.specs.Ends.{AreTiles, IsQuiet}
use Rattle.wormhole.proofs.Quiescence.{goes_or_quiet, or_all}
use Rattle.wormhole.proofs.Come.{all_come}
use Rattle.one_order.specs.ProcessorRecord.{ProcessorRecord, ready, request_of}
use Rattle.packet.specs.Flit.{field}
use Rattle.packet.specs.Spelling.{heading_of, values_of}
use Rattle.packet.specs.Written.{head_flit, flits_for}
use Rattle.packet.specs.declared.kinds.Packet.{Packet}
use Rattle.packet.specs.declared.kinds.Packet.TheVariants as packet
use Rattle.core_laws.specs.Heads.{carries_route}
use Rattle.packet.specs.Flits.{flits_of}
use Rattle.one_order.specs.ProcessorTable.{flits_due, request_flits}
use Rattle.channel_number.specs.Ports.{injection_channel, ejection_channel}
use Rattle.core_laws.specs.Wiring.{processor_wiring}
use Rattle.core_laws.specs.Tile.{Design}
use Rattle.core_laws.specs.Core.{State, step, round}
use Rattle.core_laws.proofs.Projection.{net_of, request_parcel, response_parcel}
use Rattle.core_laws.proofs.Stands.{tile_at, Ghost, Mirrors, Carries, served_requests, responses_from, unsent, last_of, asked_between, told_between}
use Rattle.core_laws.proofs.Steps.{IsThere, processor_goes}
use Rattle.core_laws.proofs.Wires.{AreWires, FlitsTell, ends_of}
use Rattle.core_laws.proofs.Enabled.{machine_goes, puts_granted, serves_waiting, puts_reply}
use Rattle.core_laws.proofs.Alike.{asked_length, told_length, no_items, none_pass}

-- a request of the machine's tiles is in flight, or a response is
abbrev pub IsInFlight : Design → Ghost → Type 0
IsInFlight d g =
    ((j : ℕ) × (r : Asking) × (slice_get g.asked j ≡ Some r) × (r.source < tiles_of d.shape) × (r.destination < tiles_of d.shape))
    ⊎ ((j : ℕ) × (r : Telling) × (slice_get g.told j ≡ Some r) × (r.source < tiles_of d.shape) × (r.destination < tiles_of d.shape))

-- an empty list has no first flit
pub no_head : carries_route 0 ≡ false
unfolding field
no_head = refl

none_unsent : (made : List Telling) → unsent [] made ≡ []
none_unsent made = ap (λ b. cond b (last_of made) []) no_head

-- what is asked of the records: where nothing is in flight, a processor has all its tags free, and one at least; and it has finished, or an operation is ready
pub record TagsTell (d : Design) (s : State) (g : Ghost) : Type 0 where
  pub free : (IsInFlight d g → ⊥) → (p : ℕ) → p < tiles_of d.shape → (tag : ℕ) × (free_tag (tile_at s p).processor.operations.tags ≡ Some tag)
  pub ready : (IsInFlight d g → ⊥) → (p : ℕ) → p < tiles_of d.shape → is_finished (tile_at s p).processor.operations.following ≡ false
      → (o : Operation) × (next_operation_of (tile_at s p).processor.operations.following ≡ Some o)

module _ (d : Design) (s : State) (g : Ghost) (carries : Carries d s g) (quiet : (x : ℕ) → x < (net_of d).channels → IsQuiet (net_of d) g.net x)
    (net : IsNet (net_of d)) (routes : Routes (net_of d) g.net) (wires : AreWires d)
    (joins_requests : (p b : ℕ) → p < tiles_of d.shape → b < tiles_of d.shape
    → (net_of d).joins (injection_channel d.shape p Request) (ejection_channel d.shape b Request) ≡ true)
    (joins_replies : (b p : ℕ) → b < tiles_of d.shape → p < tiles_of d.shape
    → (net_of d).joins (injection_channel d.shape b Reply) (ejection_channel d.shape p Reply) ≡ true)
    (idle : (b : ℕ) → b < tiles_of d.shape → ((tile_at s b).bank.waiting ≡ None) × ((tile_at s b).bank.to_put ≡ [])) where
  all_whole : (x : ℕ) → x < (net_of d).channels → whole g.net x ≡ (g.net.notes x).begun
  all_whole x within = ap (λ a. whole_of a (g.net.notes x).begun) (quiet x within).awaited

  -- what was asked of a bank has been served
  none_asked : (p b : ℕ) → p < tiles_of d.shape → b < tiles_of d.shape → asked_between p b g.asked ≡ []
  none_asked p b hp hb =
      let i : ℕ = injection_channel d.shape p Request in
      let j : ℕ = ejection_channel d.shape b Request in
      let served : List Asking = served_requests (tiles_of d.shape) b (tile_at s b).bank.entries in
      let came : whole g.net j ≡ map (request_parcel d.shape) served =
      carries.requests_whole b hb ∙ ap (λ w. map (request_parcel d.shape) (served ++ option_to_list w)) (idle b hb).0
      ∙ ap (map (request_parcel d.shape)) (append-nil served) in
      let flow : between i j (g.net.notes j).begun ≡ between i j (g.net.notes i).sent =
      all_come (net_of d) g.net net routes quiet i j (joins_requests p b hp hb) in
      let same : between i j (map (request_parcel d.shape) served) ≡ between i j (map (request_parcel d.shape) (list_at g.requests p)) =
      ap (between i j) (sym came ∙ all_whole j (wires.ejects b Request hb)) ∙ flow ∙ ap (between i j) (carries.requests_sent p hp) in
      let a = asked_length d.shape p b served in
      let c = asked_length d.shape p b (list_at g.requests p) in
      let e = ap length same in
      let split = ap length (carries.asked p b hp hb) ∙ length-append (asked_between p b served) (asked_between p b g.asked) in
      no_items (asked_between p b g.asked) (omega arith)

  -- what a bank told a processor has been taken
  none_told : (b p : ℕ) → b < tiles_of d.shape → p < tiles_of d.shape → told_between b p g.told ≡ []
  none_told b p hb hp =
      let i : ℕ = injection_channel d.shape b Reply in
      let j : ℕ = ejection_channel d.shape p Reply in
      let made : List Telling = responses_from b 0 (tile_at s b).bank.entries in
      let put : map (response_parcel d.shape) made ≡ (g.net.notes i).sent = carries.replies_sent b hb
      ∙ ap (λ l. (g.net.notes i).sent ++ map (response_parcel d.shape) (unsent l made)) (idle b hb).1
      ∙ ap (λ ks. (g.net.notes i).sent ++ map (response_parcel d.shape) ks) (none_unsent made) ∙ append-nil (g.net.notes i).sent in
      let flow : between i j (g.net.notes j).begun ≡ between i j (g.net.notes i).sent =
      all_come (net_of d) g.net net routes quiet i j (joins_replies b p hb hp) in
      let same : between i j (map (response_parcel d.shape) made) ≡ between i j (map (response_parcel d.shape) (list_at g.taken p)) =
      ap (between i j) put ∙ sym flow ∙ ap (between i j) (sym (all_whole j (wires.ejects p Reply hp)) ∙ carries.replies_whole p hp) in
      let a = told_length d.shape b p made in
      let c = told_length d.shape b p (list_at g.taken p) in
      let e = ap length same in
      let split = ap length (carries.told b p hb hp) ∙ length-append (told_between b p (list_at g.taken p)) (told_between b p g.told) in
      no_items (told_between b p g.told) (omega arith)

  passes : (a b : ℕ) → ((a == a) && (b == b)) ≡ true
  passes a b = ap (λ z. z && (b == b)) (eq-eqb a a refl) ∙ true-and (b == b) ∙ eq-eqb b b refl

  -- nothing is in flight
  pub none_in_flight : IsInFlight d g → ⊥
  none_in_flight at = ⊎_elim
      (λ (a : (j : ℕ) × (r : Asking) × (slice_get g.asked j ≡ Some r) × (r.source < tiles_of d.shape) × (r.destination < tiles_of d.shape)).
      none_pass (λ (q : Asking). q.source == (a.1).source && q.destination == (a.1).destination) g.asked a.0 a.1
      (none_asked (a.1).source (a.1).destination a.3 a.4) a.2 (passes (a.1).source (a.1).destination))
      (λ (a : (j : ℕ) × (r : Telling) × (slice_get g.told j ≡ Some r) × (r.source < tiles_of d.shape) × (r.destination < tiles_of d.shape)).
      none_pass (λ (q : Telling). q.source == (a.1).source && q.destination == (a.1).destination) g.told a.0 a.1
      (none_told (a.1).source (a.1).destination a.3 a.4) a.2 (passes (a.1).source (a.1).destination))
      at

-- a packet has a first flit
has_flit : (p : Packet) → (f : ℕ) × (channel.first_of (flits_of p) ≡ Some f)
unfolding flits_of
has_flit p = by_values (head_flit (heading_of p)) (values_of p)
  where
    by_values : (h : ℕ) (vs : List ℕ) → (f : ℕ) × (channel.first_of (flits_for h vs) ≡ Some f)
    by_values h [] = (2 ^ 62 + h, refl)
    by_values h (v ∷ []) = (h, refl)
    by_values h (v ∷ w ∷ vs) = (h, refl)

module _ (d : Design) (s : State) (g : Ghost) (Go : Type 0) (filled : length s.tiles ≡ tiles_of d.shape)
    (go : (a : Step) → IsOn a (round d.shape) → IsThere (step d s a) → Go)
    (net : IsNet (net_of d)) (deep : 0 < (net_of d).depth) (words : Words (net_of d) g.net) (routes : Routes (net_of d) g.net)
    (mirrors : Mirrors d s g.net.lines) (carries : Carries d s g) (wires : AreWires d) (tell : FlitsTell d s) (are : AreTiles (net_of d) (ends_of d))
    (tags : TagsTell d s g)
    (joins_requests : (p b : ℕ) → p < tiles_of d.shape → b < tiles_of d.shape
    → (net_of d).joins (injection_channel d.shape p Request) (ejection_channel d.shape b Request) ≡ true)
    (joins_replies : (b p : ℕ) → b < tiles_of d.shape → p < tiles_of d.shape
    → (net_of d).joins (injection_channel d.shape b Reply) (ejection_channel d.shape p Reply) ≡ true)
    (injects : (t : ℕ) → t < tiles_of d.shape → (net_of d).injects (injection_channel d.shape t Request) ≡ true) where
  -- a bank is idle, or it goes
  bank_by : (b : ℕ) → b < tiles_of d.shape → 0 < (g.net.lines (injection_channel d.shape b Reply)).held → (w : Option Asking) (l : List ℕ)
      → (tile_at s b).bank.waiting ≡ w → (tile_at s b).bank.to_put ≡ l
      → Go ⊎ (((tile_at s b).bank.waiting ≡ None) × ((tile_at s b).bank.to_put ≡ []))
  bank_by b here credit (Some r) l waits due = inl (serves_waiting d s g.net.lines Go filled go mirrors wires b r here waits)
  bank_by b here credit None (f ∷ fs) waits due = inl (puts_reply d s g.net.lines Go filled go mirrors wires b f fs here due credit)
  bank_by b here credit None [] waits due = inr (waits, due)

  -- a processor with a free tag and an operation that is ready sends it
  sends_ready : (p tag : ℕ) (o : Operation) → p < tiles_of d.shape → 0 < (g.net.lines (injection_channel d.shape p Request)).held
      → (tile_at s p).processor.to_put ≡ []
      → next_operation_of (tile_at s p).processor.operations.following ≡ Some o → free_tag (tile_at s p).processor.operations.tags ≡ Some tag → Go
  sends_ready p tag o here credit none next free =
      let b : ProcessorRecord = (tile_at s p).processor.operations in
      let due : ready b ≡ Some (tag, o) =
      ap (λ n. option_and_then (λ x. option_map (λ t. (t, x)) (free_tag b.tags)) n) next ∙ ap (option_map (λ t. (t, o))) free in
      let flit = has_flit (packet.Request (request_of (tiles_of d.shape) p tag o)) in
      processor_goes d s Go filled go p choice.Send (want.Put 0 flit.0) 0 here ([], choice.Take ∷ choice.Credit ∷ choice.Done ∷ choice.Look ∷ [], refl)
      (ap (λ l. option_map (λ f. want.Put 0 f) (channel.first_of (flits_due (tiles_of d.shape) d.words p l (ready b)))) none
      ∙ ap (λ r. option_map (λ f. want.Put 0 f) (channel.first_of (request_flits (tiles_of d.shape) d.words p r))) due
      ∙ ap (option_map (λ f. want.Put 0 f)) flit.1)
      (puts_granted d s g.net.lines Go filled go mirrors wires (processor_wiring d.shape p) 0 (injection_channel d.shape p Request) flit.0 refl
      (wires.injects p Request here) credit)

  processor_by : ((x : ℕ) → x < (net_of d).channels → IsQuiet (net_of d) g.net x) → (IsInFlight d g → ⊥) → (p : ℕ) → p < tiles_of d.shape → (b : Bool)
      → is_finished (tile_at s p).processor.operations.following ≡ b
      → Go ⊎ (is_finished (tile_at s p).processor.operations.following ≡ true)
  processor_by quiet none p here true is = inr is
  processor_by quiet none p here false is =
      let tag = tags.free none p here in
      let o = tags.ready none p here is in
      let at = quiet (injection_channel d.shape p Request) (wires.injects p Request here) in
      let to_put : (tile_at s p).processor.to_put ≡ [] =
      sym (mirrors.sends_requests p here) ∙ sym (words.senders (injection_channel d.shape p Request) (injects p here)) ∙ at.owed in
      inl (sends_ready p tag.0 o.0 here (subst (λ n. 0 < n) (sym at.credits) deep) to_put o.1 tag.1)

  -- No dead state: a step is enabled, or every script is finished.
  pub machine_lives : (p : ℕ) → p < tiles_of d.shape → Go ⊎ (is_finished (tile_at s p).processor.operations.following ≡ true)
  machine_lives p here = ⊎_elim
      (λ (x : Go). inl x)
      (λ (quiet : (x : ℕ) → x < (net_of d).channels → IsQuiet (net_of d) g.net x). ⊎_elim
      (λ (x : Go). inl x)
      (λ (idle : (b : ℕ) → b < tiles_of d.shape → ((tile_at s b).bank.waiting ≡ None) × ((tile_at s b).bank.to_put ≡ [])).
      processor_by quiet (none_in_flight d s g carries quiet net routes wires joins_requests joins_replies idle) p here
      (is_finished (tile_at s p).processor.operations.following) refl)
      (or_all Go (λ b. ((tile_at s b).bank.waiting ≡ None) × ((tile_at s b).bank.to_put ≡ [])) (tiles_of d.shape) (λ b hb.
      let at = quiet (injection_channel d.shape b Reply) (wires.injects b Reply hb) in
      bank_by b hb (subst (λ n. 0 < n) (sym at.credits) deep) (tile_at s b).bank.waiting (tile_at s b).bank.to_put refl refl)))
      (goes_or_quiet (net_of d) g.net (ends_of d) Go net deep words routes are (machine_goes d s g.net Go filled go net words routes mirrors wires tell))
