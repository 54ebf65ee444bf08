-- What an attempt at a tile asks and finds; where it is not enabled, the machine stays as it is.
use Rattle.std.proofs.Common.{◌≡◌, ℕ, ◌<◌, List, length, map, Option, Some, None, sym, ◌∙◌, ap, subst}
use Rattle.std.proofs.Common.{slice_get, slice_set, slice_index, vec_len}
use Rattle.std.specs.Prelude.{Vec, MatchOption, option_and_then}
use Rattle.std.specs.Option.{option_map, IfSome}
use Rattle.std.proofs.lemmas.Option.{slice_get-map}
use Rattle.torus.specs.declared.step.Step.{Step}
use Rattle.torus.specs.declared.step.Stepped.TheVariants.{Idle}
use Rattle.one_order.specs.Events.{Event}
use Rattle.flit_buffer.specs.Tries.{performed_by}
use Rattle.flit_buffer.specs.Words.{word_of}
use Rattle.flit_buffer.specs.declared.word_op.WordOp.{WordOp}
use Rattle.tile.specs.declared.agent.Agent.TheVariants.{Bank}
use Rattle.tile.specs.Tile.{Design}
use Rattle.tile.specs.Agents.{TilePlace, tile_next_op, tile_absorbed, agent_kind, agent_tile}
use Rattle.machine_parts.specs.Placed.{PlacedTile, IsAcceptableTo, tile_attempted}
use Rattle.machine_parts.specs.Core.{Load, State, design_of, step, after}
use Rattle.machine_parts.specs.Seen.{IsShown, LeadsOn, state_seen}
use Rattle.machine_parts.proofs.RowAttempts.{leads_on}
use Rattle.machine_parts.specs.Machine.{Core, IsAfter, Steps, built_to, event_in}
use Rattle.machine_parts.proofs.Tries.{word_there, word_asked}
use Rattle.machine_parts.proofs.Room.{full_shown}
use Rattle.machine_core.specs.declared.machine.Machine.TheInside.{Inside}
use Rattle.machine_core.specs.Noted.{IsOfFullBank}
use Rattle.machine_core.specs.Inside.{design_in, places_in, core_of, HaveRoom, IsMachine}
use Rattle.machine_core.proofs.Fields.{Led, stays, set_there, with_parts, core_by}
use Rattle.machine_core.proofs.Standing.{all_steps, shown_now, design_is, state_is}

module _ {A : Type 0} (a : Inside A) (is : IsMachine a) where
  abbrev l : Load
  l = is.load

  abbrev s : State
  s = after l is.steps

  module _ (attempt : Step) where
    abbrev t : ℕ
    t = agent_tile attempt.agent

    abbrev event : Event
    event = event_in (design_of l) s attempt

    pub step_is : step (built_to (core_of a)) (core_of a).state attempt ≡ step (design_of l) s attempt
    step_is = ap (λ (d : Design). step d (core_of a).state attempt) (design_is a is) ∙ ap (λ (x : State). step (design_of l) x attempt) (state_is a is)

    pub event_is : event_in (built_to (core_of a)) (core_of a).state attempt ≡ event
    event_is = ap (λ (d : Design). event_in d (core_of a).state attempt) (design_is a is) ∙ ap (λ (x : State). event_in (design_of l) x attempt) (state_is a is)

    module _ (v : PlacedTile) (there : slice_get a.tiles.items t ≡ Some v) where
      pub place_there : slice_get (places_in a) t ≡ Some v.place
      place_there = slice_get-map (λ (w : PlacedTile). w.place) a.tiles.items t ∙ ap (option_map (λ (w : PlacedTile). w.place)) there

      -- what the agent asks
      pub word_in : IfSome (tile_next_op v.place attempt) (λ o. word_of o < vec_len a.row)
      word_in = subst (λ (n : ℕ). IfSome (tile_next_op v.place attempt) (λ o. word_of o < n)) (sym a.row.ok.0)
          (word_there l is.after.accepted is.steps (length is.steps) (places_in a) a.row.items (shown_now a is) attempt v.place place_there)

      pub word_fits : IfSome (tile_next_op v.place attempt)
          (λ o. IsAcceptableTo v.place (agent_kind attempt.agent) attempt.choice (slice_index a.row.items (word_of o)))
      word_fits = word_asked l is.after.accepted is.steps (length is.steps) (places_in a) a.row.items (shown_now a is) attempt v.place place_there

      -- a full bank serves nothing
      pub full_stays : agent_kind attempt.agent ≡ Bank → IsOfFullBank v attempt.choice → Steps (core_of a) (core_of a) Idle attempt
      full_stays bank full =
          let none = full_shown l is.after.accepted is.steps (length is.steps) (places_in a) a.row.items (shown_now a is) attempt v.place place_there
          (full.full ∙ is.banks t v there) bank full.service in
          stays (core_of a) attempt (step_is ∙ subst (λ (xs : List Step). step (design_of l) (after l xs) attempt ≡ None) (all_steps a is) none)

      pub leads : LeadsOn (design_of l) s (places_in a) a.row.items attempt v.place
      leads = subst (λ (xs : List Step). LeadsOn (design_of l) (after l xs) (places_in a) a.row.items attempt v.place) (all_steps a is)
          (leads_on l is.after.accepted is.steps (length is.steps) (places_in a) a.row.items (shown_now a is) attempt v.place place_there)

      idles : (o : Option TilePlace) → o ≡ None
          → MatchOption o ((step (design_of l) s attempt ≡ None) × (performed_by a.row.items (tile_next_op v.place attempt) ≡ a.row.items))
          (λ q. (next : State) × (step (design_of l) s attempt ≡ Some next)
          × IsShown (design_of l) next (slice_set (places_in a) t q) (performed_by a.row.items (tile_next_op v.place attempt)))
          → (step (design_of l) s attempt ≡ None) × (performed_by a.row.items (tile_next_op v.place attempt) ≡ a.row.items)
      idles None e h = h
      idles (Some q) e h = absurd (cc)

      -- an attempt without an operation isn't enabled
      pub without_op : tile_next_op v.place attempt ≡ None → Steps (core_of a) (core_of a) Idle attempt
      without_op none =
          let idle : tile_attempted v.place attempt a.row.items ≡ None =
          ap (option_and_then (λ (o : WordOp). tile_absorbed v.place attempt (slice_index a.row.items (word_of o)))) none in
          stays (core_of a) attempt (step_is ∙ (idles (tile_attempted v.place attempt a.row.items) idle leads).0)

      -- the fields after an attempt that isn't enabled
      pub idle : (tiles : Vec PlacedTile A) (row : Vec ℕ A) → tile_attempted v.place attempt a.row.items ≡ None
          → (w : PlacedTile) → w ≡ v → tiles.items ≡ slice_set a.tiles.items t w → row.items ≡ performed_by a.row.items (tile_next_op v.place attempt)
          → Led a (with_parts a tiles row a.book a.awake a.ports a.left) Idle attempt
      idle tiles row none w same tiles_are row_is =
          let k = idles (tile_attempted v.place attempt a.row.items) none leads in
          let tiles_stay : tiles.items ≡ a.tiles.items = tiles_are ∙ (ap (slice_set a.tiles.items t) same ∙ set_there a.tiles.items t v there) in
          let row_stays : row.items ≡ a.row.items = row_is ∙ k.1 in
          let core_stays : core_of (with_parts a tiles row a.book a.awake a.ports a.left) ≡ core_of a =
          ap (λ (vs : List PlacedTile). core_by a (state_seen (design_in a) (map (λ v. v.place) vs) row.items) a.book.book a.left) tiles_stay
          ∙ ap (λ (ws : List ℕ). core_by a (state_seen (design_in a) (places_in a) ws) a.book.book a.left) row_stays in
          record {
            machine = record {
              load = l;
              steps = is.steps;
              after = subst (λ (c : Core). IsAfter l c is.steps) (sym core_stays) is.after;
              seen = subst (λ (vs : List PlacedTile). IsShown (design_of l) s (map (λ v. v.place) vs) row.items) (sym tiles_stay)
                  (subst (λ (ws : List ℕ). IsShown (design_of l) s (places_in a) ws) (sym row_stays) is.seen);
              banks = subst (HaveRoom l) (sym tiles_stay) is.banks;
              room = is.room;
              built = is.built;
              sleepers = is.sleepers;
              routed = is.routed;
              ports = is.ports;
            };
            steps = subst (λ (c : Core). Steps (core_of a) c Idle attempt) (sym core_stays) (stays (core_of a) attempt (step_is ∙ k.0));
          }
