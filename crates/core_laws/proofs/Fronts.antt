-- The front of a channel counts the flits that were words_taken from it, round the ring.
use Rattle.std.proofs.Common.{◌≡◌, ℕ, ◌+◌, ◌*◌, ◌%◌, ◌<◌, List, [], ◌∷◌, ◌++◌, length, take, get_or, Option, Some, None, refl, sym, ap, ◌∙◌, subst}
use Rattle.std.proofs.Common.{arith, mod-eq_of_lt, slice_get, slice_set}
use Rattle.std.specs.Prelude.{is_some, if◌then◌else◌, option_map, option_and_then}
use Rattle.std.proofs.lemmas.List.{get_or-replicate}
use Rattle.std.proofs.lemmas.Option.{slice_get_within}
use Rattle.torus.specs.Shape.{IsAccepted as IsAcceptedShape, tiles_of}
use Rattle.torus.specs.declared.step.Step.{Step}
use Rattle.torus.specs.declared.step.Choice.{Choice}
use Rattle.channel_number.specs.Order.{channel_count}
use Rattle.flit_buffer.specs.Places.{empty_ring}
use Rattle.flit_buffer.specs.Surroundings.{Surroundings, Wiring, ring, no_ring, AreRings, IsWired, IsPossible, granted, taken_from, step_with, agent_step}
use Rattle.flit_buffer.specs.declared.want.Want.{Want}
use Rattle.flit_buffer.proofs.AgentSteps.{front_counts}
use Rattle.flit_buffer.proofs.RingArithmetic.{place_from}
use Rattle.one_order.specs.ProcessorTable.{processor_wants, processor_after}
use Rattle.home_bank.specs.BankTable.{bank_wants, bank_after}
use Rattle.router.specs.Table.{router_wants, router_after}
use Rattle.core_laws.specs.Agent.{Agent}
use Rattle.core_laws.specs.Agent.TheVariants.{Processor, Router, Bank}
use Rattle.core_laws.specs.Tile.{Design, TileState, tile_step}
use Rattle.core_laws.specs.Agents.{wiring_of, tile_wants, agent_kind, agent_tile}
use Rattle.core_laws.specs.Refinement.{IsSurrounded, IsPossibleChoice}
use Rattle.core_laws.proofs.Channels.{wired}
use Rattle.core_laws.specs.Core.{Load, State, design_of, first_state, after, after_from, next, or_same}
use Rattle.core_laws.specs.Runs.{IsAcceptedLoad, state_after}
use Rattle.core_laws.specs.Row.{row_of}
use Rattle.core_laws.specs.Taken.{want_takes, tile_takes, step_takes, row_takes, words_taken}
use Rattle.core_laws.proofs.RowOfRuns as reached
use Rattle.core_laws.proofs.RowSteps.{step_of_tile, step_of_none}

-- the surroundings after a step, or the same where there is none
abbrev left_by : {T : Type 0} → Surroundings → Option (T × Surroundings) → Surroundings
left_by around None = around
left_by around (Some p) = p.1

left_in : {S T : Type 0} (around : Surroundings) (into : S → T) (o : Option (S × Surroundings))
    → left_by around (option_map (λ (p : S × Surroundings). let q : T × Surroundings = (into p.0, p.1) in q) o) ≡ left_by around o
left_in around into None = refl
left_in around into (Some p) = refl

module _ (depth : ℕ) (around : Surroundings) (are : AreRings depth around) (x : ℕ) (there : x < length around.rings) where
  abbrev front : Surroundings → ℕ
  front left = (ring left.rings x).front

  stays : front around ≡ (front around + 0) % depth
  stays = let r = are x there in sym (ap (λ n. n % depth) (omega arith) ∙ mod-eq_of_lt r.front)

  module _ {S : Type 0} (wants : S → Choice → Option Want) (next : S → Choice → Want → ℕ → S) (wiring : Wiring) (state : S) (choice : Choice)
      (is_wired : IsWired (length around.rings) wiring) (possible : (want : Want) → wants state choice ≡ Some want → IsPossible around wiring want) where
    by_grant : (want : Want) → wants state choice ≡ Some want → (g : Option ℕ)
        → front (left_by around (step_with wants next depth wiring state around choice want g))
        ≡ (front around + (if is_some g then taken_from wiring want x else 0)) % depth
    by_grant want is None = stays
    by_grant want is (Some learned) = front_counts depth around are x there wiring is_wired want (possible want is)

    by_want : (o : Option Want) → wants state choice ≡ o
        → front (left_by around (option_and_then (λ want. step_with wants next depth wiring state around choice want (granted around wiring want)) o))
        ≡ (front around + want_takes around wiring x o) % depth
    by_want None is = stays
    by_want (Some want) is = by_grant want is (granted around wiring want)

    agent_front : front (left_by around (agent_step wants next depth wiring state around choice))
        ≡ (front around + want_takes around wiring x (wants state choice)) % depth
    agent_front = by_want (wants state choice) refl

module _ (d : Design) (ok : IsAcceptedShape d.shape) (t : ℕ) (t_in : t < tiles_of d.shape) (tile : TileState) (around : Surroundings)
    (in_network : IsSurrounded d around)
    (choice : Choice) (x : ℕ) (there : x < length around.rings) where
  abbrev Counts : Agent → Type 0
  Counts a = (ring (left_by around (tile_step d t tile around a choice)).rings x).front
      ≡ ((ring around.rings x).front + want_takes around (wiring_of d.shape t a) x (tile_wants d t tile a choice)) % d.depth

  wired_here : (a : Agent) → IsWired (length around.rings) (wiring_of d.shape t a)
  wired_here a = subst (λ n. IsWired n (wiring_of d.shape t a)) (sym in_network.count) (wired d.shape ok t t_in a)

  tile_front : (a : Agent) → IsPossibleChoice d t tile around a choice → Counts a
  tile_front Processor possible =
      ap (λ (l : Surroundings). (ring l.rings x).front)
      (left_in around (λ s. record tile { processor = s })
      (agent_step (processor_wants (tiles_of d.shape) d.words t) (processor_after (tiles_of d.shape) d.words t) d.depth (wiring_of d.shape t Processor)
      tile.processor around choice))
      ∙ agent_front d.depth around in_network.rings x there (processor_wants (tiles_of d.shape) d.words t) (processor_after (tiles_of d.shape) d.words t)
      (wiring_of d.shape t Processor) tile.processor choice (wired_here Processor) possible
  tile_front Router possible =
      ap (λ (l : Surroundings). (ring l.rings x).front)
      (left_in around (λ s. record tile { router = s })
      (agent_step (router_wants d.shape t) router_after d.depth (wiring_of d.shape t Router) tile.router around choice))
      ∙ agent_front d.depth around in_network.rings x there (router_wants d.shape t) router_after (wiring_of d.shape t Router) tile.router choice
      (wired_here Router) possible
  tile_front Bank possible =
      ap (λ (l : Surroundings). (ring l.rings x).front)
      (left_in around (λ s. record tile { bank = s })
      (agent_step (bank_wants (tiles_of d.shape) t) (bank_after (tiles_of d.shape) t) d.depth (wiring_of d.shape t Bank) tile.bank around choice))
      ∙ agent_front d.depth around in_network.rings x there (bank_wants (tiles_of d.shape) t) (bank_after (tiles_of d.shape) t) (wiring_of d.shape t Bank)
      tile.bank choice (wired_here Bank) possible

left_next : (s : State) (t : ℕ) (o : Option (TileState × Surroundings))
    → (or_same s (option_map (λ p. record { tiles = slice_set s.tiles t p.0; around = p.1 }) o)).around ≡ left_by s.around o
left_next s t None = refl
left_next s t (Some p) = refl

module _ (l : Load) (ok : IsAcceptedLoad l) (steps : List Step) (n : ℕ) (attempt : Step) (x : ℕ) (x_in : x < channel_count l.shape) where
  abbrev s : State
  s = state_after l steps n

  abbrev t : ℕ
  t = agent_tile attempt.agent

  there : x < length s.around.rings
  there = let k = reached.surrounded l ok steps n in subst (λ (m : ℕ). x < m) (sym k.count) x_in

  by_tile : (o : Option TileState) → slice_get s.tiles t ≡ o
      → (ring (next (design_of l) s attempt).around.rings x).front ≡ ((ring s.around.rings x).front + tile_takes (design_of l) s.around attempt x o) % l.depth
  by_tile None e =
      let k = reached.surrounded l ok steps n in
      ap (λ (o : Option State). (ring (or_same s o).around.rings x).front) (step_of_none (design_of l) s attempt e)
      ∙ stays l.depth s.around k.rings x there
  by_tile (Some tile) e =
      let k = reached.surrounded l ok steps n in
      let t_in : t < tiles_of l.shape = subst (λ (m : ℕ). t < m) (reached.tiles_there l ok steps n) (slice_get_within s.tiles t tile e) in
      ap (λ (o : Option State). (ring (or_same s o).around.rings x).front) (step_of_tile (design_of l) s attempt tile e)
      ∙ (ap (λ (a : Surroundings). (ring a.rings x).front)
      (left_next s t (tile_step (design_of l) t tile s.around (agent_kind attempt.agent) attempt.choice))
      ∙ tile_front (design_of l) ok.shape t t_in tile s.around k attempt.choice x there (agent_kind attempt.agent)
      (reached.possible_there l ok steps n attempt tile e))

  step_front : (ring (next (design_of l) s attempt).around.rings x).front ≡ ((ring s.around.rings x).front + step_takes (design_of l) s attempt x) % l.depth
  step_front = by_tile (slice_get s.tiles t) refl

module _ (l : Load) (ok : IsAcceptedLoad l) (x : ℕ) (x_in : x < channel_count l.shape) where
  one_more : (xs : List Step) (attempt : Step)
      → (ring (next (design_of l) (after l xs) attempt).around.rings x).front
      ≡ ((ring (after l xs).around.rings x).front + step_takes (design_of l) (after l xs) attempt x) % l.depth
  one_more xs attempt =
      subst (λ (z : State). (ring (next (design_of l) z attempt).around.rings x).front
      ≡ ((ring z.around.rings x).front + step_takes (design_of l) z attempt x) % l.depth) (reached.all_steps l xs)
      (step_front l ok xs (length xs) attempt x x_in)

  front_in : (xs : List Step) → (ring (after l xs).around.rings x).front < l.depth
  front_in xs =
      subst (λ (z : State). (ring z.around.rings x).front < l.depth) (reached.all_steps l xs) (reached.front_within l ok xs (length xs) x x_in)

  fronts_from : (xs ys : List Step)
      → (ring (after_from (design_of l) (after l xs) ys).around.rings x).front
      ≡ ((ring (after l xs).around.rings x).front + row_takes (design_of l) (after l xs) ys x) % l.depth
  fronts_from xs [] = let low = front_in xs in sym (ap (λ n. n % l.depth) (omega arith) ∙ mod-eq_of_lt low)
  fronts_from xs (attempt ∷ ys) =
      let more : after l (xs ++ attempt ∷ []) ≡ next (design_of l) (after l xs) attempt = reached.run_append l (first_state l) xs (attempt ∷ []) in
      let rest = fronts_from (xs ++ attempt ∷ []) ys in
      subst (λ (z : State). (ring (after_from (design_of l) z ys).around.rings x).front
      ≡ ((ring z.around.rings x).front + row_takes (design_of l) z ys x) % l.depth) more rest
      ∙ (ap (λ k. (k + row_takes (design_of l) (next (design_of l) (after l xs) attempt) ys x) % l.depth) (one_more xs attempt)
      ∙ place_from l.depth (ring (after l xs).around.rings x).front (step_takes (design_of l) (after l xs) attempt x)
      (row_takes (design_of l) (next (design_of l) (after l xs) attempt) ys x))

  first_front : (ring (first_state l).around.rings x).front ≡ 0
  first_front = ap (λ r. r.front) (get_or-replicate (channel_count l.shape) x (empty_ring l.depth) no_ring x_in)

  -- the front counts the flits words_taken
  pub front_counts_taken : (steps : List Step) (n : ℕ) → (ring (state_after l steps n).around.rings x).front ≡ words_taken l (take n steps) x % l.depth
  front_counts_taken steps n =
      fronts_from [] (take n steps)
      ∙ ap (λ k. (k + words_taken l (take n steps) x) % l.depth) first_front
      ∙ ap (λ k. k % l.depth) (omega arith)

  -- so flit i stands where the flits words_taken and i lead
  pub flit_behind_taken : (steps : List Step) (n i : ℕ) → i < length (ring (state_after l steps n).around.rings x).channel.flits
      → get_or (row_of (design_of l) (state_after l steps n)) (x * l.depth + (words_taken l (take n steps) x + i) % l.depth) 0
      ≡ get_or (ring (state_after l steps n).around.rings x).channel.flits i 0
  flit_behind_taken steps n i h =
      let gone : ℕ = words_taken l (take n steps) x in
      let at : (gone % l.depth + i) % l.depth ≡ (gone + i) % l.depth =
      ap (λ k. (k % l.depth + i) % l.depth) (let z : gone ≡ gone + 0 = omega arith in z)
      ∙ (place_from l.depth gone 0 i ∙ ap (λ k. k % l.depth) (omega arith)) in
      ap (λ k. get_or (row_of (design_of l) (state_after l steps n)) (x * l.depth + k) 0)
      (sym at ∙ ap (λ k. (k + i) % l.depth) (sym (front_counts_taken steps n)))
      ∙ reached.flit_shown l ok steps n x x_in i h
