-- A choice that is enabled in two states, where they are the same in what it wants, leaves them the same there.
use Rattle.std.proofs.Common.{◌≡◌, ℕ, ◌-◌, ◌<◌, ◌≤◌, ⊎_elim, List, length, Option, Some, None, refl, sym, ◌∙◌, ap, subst, arith, get_or-set_same}
use Rattle.std.specs.Prelude.{nat_lt, slice_index, option_map, if◌then◌else◌}
use Rattle.std.proofs.lemmas.Bool.{cases_lt}
use Rattle.std.proofs.lemmas.List.{get_or_past, set_past}
use Rattle.std.proofs.lemmas.Option.{same_Some}
use Rattle.torus.specs.Shape.{tiles_of}
use Rattle.torus.specs.declared.step.Choice.{Choice}
use Rattle.packet.specs.Memory.{new_word}
use Rattle.flit_buffer.specs.Channel.{first_of, rest}
use Rattle.flit_buffer.specs.Places.{Ring, take_from_ring, put_in_ring, credit_of_ring}
use Rattle.flit_buffer.specs.declared.want.Want.{Want}
use Rattle.flit_buffer.specs.declared.want.Want.TheVariants.{Take, Put, Credit, Access, Await}
use Rattle.flit_buffer.specs.OwnPart.{SameWhereWanted}
use Rattle.flit_buffer.specs.Surroundings.{Surroundings, Wiring, ring, no_ring, changed, granted, surroundings_after, agent_step}
use Rattle.flit_buffer.proofs.ManyRings.{changed_here}
use Rattle.router.specs.Table.{RouterState, router_wants, router_after}
use Rattle.router.specs.Beginning.{router_wiring}
use Rattle.one_order.specs.ProcessorTable.{ProcessorState, processor_wants, processor_after}
use Rattle.home_bank.specs.BankTable.{BankState, bank_wants, bank_after}
use Rattle.tile.specs.Wiring.{processor_wiring, bank_wiring}
use Rattle.tile.specs.declared.agent.Agent.TheVariants.{Processor, Router, Bank}
use Rattle.tile.specs.Tile.{Design, TileState, tile_step}
use Rattle.core_laws.proofs.AgentSteps.{did, option_map_some}

-- a channel of which something is granted is there
within : (A : Type 0) (seen : Ring → Option A) (rings : List Ring) (x : ℕ) (y : A) → seen no_ring ≡ None → seen (ring rings x) ≡ Some y → x < length rings
within A seen rings x y none h = ⊎_elim
    (λ (low : x < length rings). low)
    (λ (high : length rings ≤ x). let no : ◌≡◌ {A = Option A} None (Some y) = sym (ap seen (get_or_past rings x no_ring high) ∙ none) ∙ h in absurd (cc))
    (cases_lt x (length rings))

abbrev where_some : ℕ → Option ℕ
where_some n = if nat_lt 0 n then Some 0 else None

-- of a ring that is changed in both
same_changed : {A : Type 0} (part : Ring → A) (a b : Surroundings) (x : ℕ) (f : Ring → Ring) (g : A → A) → ((r : Ring) → part (f r) ≡ g (part r))
    → x < length a.rings → x < length b.rings
    → part (ring a.rings x) ≡ part (ring b.rings x) → part (ring (changed a x f).rings x) ≡ part (ring (changed b x f).rings x)
same_changed part a b x f g is in_a in_b same =
    ap part (changed_here a x f in_a) ∙ (is (ring a.rings x) ∙ (ap g same ∙ (sym (is (ring b.rings x)) ∙ ap part (sym (changed_here b x f in_b)))))

-- what a granted want leaves in both is the same where it looked
pub same_end : (depth : ℕ) (a b : Surroundings) (wiring : Wiring) (want : Want) (m n : ℕ) → length a.words ≡ length b.words → granted a wiring want ≡ Some m
    → granted b wiring want ≡ Some n
    → SameWhereWanted a b wiring want → SameWhereWanted (surroundings_after depth a wiring want) (surroundings_after depth b wiring want) wiring want
same_end depth a b wiring (Take i) m n size in_a in_b same =
    let x : ℕ = slice_index wiring.inputs i in
    let seen : Ring → Option ℕ = λ r. first_of r.channel.flits in
    same_changed (λ (r : Ring). r.channel.flits) a b x (take_from_ring depth) rest (λ r. refl) (within ℕ seen a.rings x m refl in_a)
    (within ℕ seen b.rings x n refl in_b) same
same_end depth a b wiring (Put o flit) m n size in_a in_b same =
    let x : ℕ = slice_index wiring.outputs o in
    let seen : Ring → Option ℕ = λ r. where_some r.channel.held in
    same_changed (λ (r : Ring). r.channel.held) a b x (put_in_ring flit) (λ k. k - 1) (λ r. refl) (within ℕ seen a.rings x m refl in_a)
    (within ℕ seen b.rings x n refl in_b) same
same_end depth a b wiring (Credit o) m n size in_a in_b same =
    let x : ℕ = slice_index wiring.outputs o in
    let seen : Ring → Option ℕ = λ r. where_some r.channel.returning in
    same_changed (λ (r : Ring). r.channel.returning) a b x credit_of_ring (λ k. k - 1) (λ r. refl) (within ℕ seen a.rings x m refl in_a)
    (within ℕ seen b.rings x n refl in_b) same
same_end depth a b wiring (Access word op) m n size in_a in_b same = ⊎_elim
    (λ (low : word < length a.words).
    get_or-set_same a.words word (new_word op (slice_index a.words word)) 0 low
    ∙ (ap (new_word op) same ∙ sym (get_or-set_same b.words word (new_word op (slice_index b.words word)) 0 (omega (arith, size, low)))))
    (λ (high : length a.words ≤ word).
    ap (λ (ws : List ℕ). slice_index ws word) (set_past a.words word _ high)
    ∙ (same ∙ ap (λ (ws : List ℕ). slice_index ws word) (sym (set_past b.words word _ (omega (arith, size, high))))))
    (cases_lt word (length a.words))
same_end depth a b wiring (Await word value) m n size in_a in_b same = same

-- of an agent in its tile
module _ {S : Type 0} (wants : S → Choice → Option Want) (after : S → Choice → Want → ℕ → S) (depth : ℕ) (wiring : Wiring) (part : TileState → S)
    (put_back : TileState → S → TileState) where
  abbrev in_tile : TileState → Surroundings → Choice → Option (TileState × Surroundings)
  in_tile tile around c = option_map (λ (p : S × Surroundings). (put_back tile p.0, p.1)) (agent_step wants after depth wiring (part tile) around c)

  pub ends_alike : (v w : TileState) (a b : Surroundings) (c : Choice) (p q : TileState × Surroundings) (want : Want) → part v ≡ part w
      → length a.words ≡ length b.words
      → in_tile v a c ≡ Some p → in_tile w b c ≡ Some q → wants (part v) c ≡ Some want → SameWhereWanted a b wiring want → SameWhereWanted p.1 q.1 wiring want
  ends_alike v w a b c p q want same size h k wanted alike =
      let f = option_map_some (λ (x : S × Surroundings). (put_back v x.0, x.1)) _ p h in
      let g = option_map_some (λ (x : S × Surroundings). (put_back w x.0, x.1)) _ q k in
      let x = did wants after depth wiring (part v) a c f.0.0 f.0.1 f.1 in
      let y = did wants after depth wiring (part w) b c g.0.0 g.0.1 g.1 in
      let first : x.want ≡ want = same_Some _ _ (sym x.wanted ∙ wanted) in
      let second : y.want ≡ want = same_Some _ _ (sym y.wanted ∙ (ap (λ (z : S). wants z c) (sym same) ∙ wanted)) in
      let new = same_end depth a b wiring want x.learned y.learned size (ap (granted a wiring) (sym first) ∙ x.grants)
      (ap (granted b wiring) (sym second) ∙ y.grants) alike in
      let left : surroundings_after depth a wiring want ≡ p.1 =
      ap (surroundings_after depth a wiring) (sym first) ∙ (sym x.around_is ∙ ap (λ (z : TileState × Surroundings). z.1) f.2) in
      let right : surroundings_after depth b wiring want ≡ q.1 =
      ap (surroundings_after depth b wiring) (sym second) ∙ (sym y.around_is ∙ ap (λ (z : TileState × Surroundings). z.1) g.2) in
      subst (λ (z : Surroundings). SameWhereWanted z q.1 wiring want) left
      (subst (λ (z : Surroundings). SameWhereWanted (surroundings_after depth a wiring want) z wiring want) right new)

pub processor_ends : (d : Design) (t : ℕ) (v w : TileState) (a b : Surroundings) (c : Choice) (p q : TileState × Surroundings) (want : Want)
    → v.processor ≡ w.processor → length a.words ≡ length b.words
    → tile_step d t v a Processor c ≡ Some p → tile_step d t w b Processor c ≡ Some q → processor_wants (tiles_of d.shape) d.words t v.processor c ≡ Some want
    → SameWhereWanted a b (processor_wiring d.shape t) want → SameWhereWanted p.1 q.1 (processor_wiring d.shape t) want
processor_ends d t v w a b c p q want same size h k wanted alike =
    ends_alike (processor_wants (tiles_of d.shape) d.words t) (processor_after (tiles_of d.shape) d.words t) d.depth (processor_wiring d.shape t)
    (λ (x : TileState). x.processor) (λ (x : TileState) (y : ProcessorState). record x { processor = y }) v w a b c p q want same size h k wanted alike

pub router_ends : (d : Design) (t : ℕ) (v w : TileState) (a b : Surroundings) (c : Choice) (p q : TileState × Surroundings) (want : Want) → v.router ≡ w.router
    → length a.words ≡ length b.words
    → tile_step d t v a Router c ≡ Some p → tile_step d t w b Router c ≡ Some q → router_wants d.shape t v.router c ≡ Some want
    → SameWhereWanted a b (router_wiring d.shape t) want → SameWhereWanted p.1 q.1 (router_wiring d.shape t) want
router_ends d t v w a b c p q want same size h k wanted alike =
    ends_alike (router_wants d.shape t) router_after d.depth (router_wiring d.shape t)
    (λ (x : TileState). x.router) (λ (x : TileState) (y : RouterState). record x { router = y }) v w a b c p q want same size h k wanted alike

pub bank_ends : (d : Design) (t : ℕ) (v w : TileState) (a b : Surroundings) (c : Choice) (p q : TileState × Surroundings) (want : Want) → v.bank ≡ w.bank
    → length a.words ≡ length b.words
    → tile_step d t v a Bank c ≡ Some p → tile_step d t w b Bank c ≡ Some q → bank_wants (tiles_of d.shape) t v.bank c ≡ Some want
    → SameWhereWanted a b (bank_wiring d.shape t) want → SameWhereWanted p.1 q.1 (bank_wiring d.shape t) want
bank_ends d t v w a b c p q want same size h k wanted alike =
    ends_alike (bank_wants (tiles_of d.shape) t) (bank_after (tiles_of d.shape) t) d.depth (bank_wiring d.shape t)
    (λ (x : TileState). x.bank) (λ (x : TileState) (y : BankState). record x { bank = y }) v w a b c p q want same size h k wanted alike
