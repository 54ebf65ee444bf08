-- Where a machine stands, said of its fields.
use Rattle.std.proofs.Common.{◌≡◌, ℕ, ◌<◌, ◌≤◌, List, length, map, take, None, refl, sym, ◌∙◌, ap, subst, arith}
use Rattle.std.proofs.Common.{slice_get}
use Rattle.std.proofs.lemmas.List.{length-map, take_all}
use Rattle.std.proofs.lemmas.Option.{slice_get_past}
use Rattle.torus.specs.Shape.{Shape, tiles_of, dims_of}
use Rattle.torus.specs.declared.step.Step.{Step}
use Rattle.channel_number.specs.Ports.{port_count}
use Rattle.tile.specs.Agents.{state_of, agent_tile}
use Rattle.machine_parts.specs.Placed.{PlacedTile}
use Rattle.machine_parts.specs.Core.{Load, State, design_of, step, after}
use Rattle.machine_parts.specs.Runs.{state_after}
use Rattle.machine_parts.proofs.EveryRun.{holds_in}
use Rattle.machine_parts.specs.Seen.{IsShown}
use Rattle.machine_parts.specs.Machine.{Core, built_to, book_after}
use Rattle.machine_core.specs.declared.machine.Machine.TheInside.{Inside}
use Rattle.machine_core.specs.Inside.{design_in, places_in, core_of, IsMachine}

module _ {A : Type 0} (a : Inside A) (is : IsMachine a) where
  abbrev l : Load
  l = is.load

  abbrev s : State
  s = after l is.steps

  pub all_steps : take (length is.steps) is.steps ≡ is.steps
  all_steps = take_all (length is.steps) is.steps (omega arith)

  pub shown_now : IsShown (design_of l) (state_after l is.steps (length is.steps)) (places_in a) a.row.items
  shown_now = subst (λ (xs : List Step). IsShown (design_of l) (after l xs) (places_in a) a.row.items) (sym all_steps) is.seen

  -- what the machine is built to
  pub design_is : design_in a ≡ design_of l
  design_is =
      ap (λ (x : Shape). record { shape = x; depth = a.depth; words = length a.opening.items }) is.after.shape
      ∙ (ap (λ (x : ℕ). record { shape = l.shape; depth = x; words = length a.opening.items }) is.after.depth
      ∙ ap (λ (xs : List ℕ). record { shape = l.shape; depth = l.depth; words = length xs }) is.after.opening)

  pub state_is : (core_of a).state ≡ s
  state_is = is.after.state

  pub book_is : a.book.book ≡ book_after l is.steps
  book_is = is.after.book

  -- as many tiles as the torus has
  pub tiles_counted : length a.tiles.items ≡ tiles_of l.shape
  tiles_counted =
      sym (length-map a.tiles.items (λ (v : PlacedTile). v.place))
      ∙ (sym (length-map (places_in a) state_of)
      ∙ (ap (λ (x : State). length x.tiles) state_is ∙ counted))
    where
      counted : length s.tiles ≡ tiles_of l.shape
      counted = subst (λ (xs : List Step). length (after l xs).tiles ≡ tiles_of l.shape) all_steps
          (holds_in l is.after.accepted is.steps (length is.steps)).stands.tiles

  pub few_tiles : length a.tiles.items ≤ 64
  few_tiles = let h = is.after.accepted.shape.tiles in let e = tiles_counted in omega arith

  -- there is no attempt of a tile that isn't there
  pub none_past : (attempt : Step) → length a.tiles.items ≤ agent_tile attempt.agent → step (built_to (core_of a)) (core_of a).state attempt ≡ None
  none_past attempt h =
      let past : slice_get (map state_of (places_in a)) (agent_tile attempt.agent) ≡ None =
      slice_get_past (map state_of (places_in a)) (agent_tile attempt.agent)
      (omega (arith, length-map (places_in a) state_of, length-map a.tiles.items (λ (v : PlacedTile). v.place))) in
      rw past refl

  -- a router has few ports
  pub ports_few : (c : Core) → core_of a ≡ c → (ports : ℕ) → ports ≡ port_count (dims_of c.shape) → ports < 32
  ports_few c view ports all =
      let few = is.after.accepted.shape.dims_high in
      let same : dims_of c.shape ≡ dims_of is.load.shape = ap (λ (x : Core). dims_of x.shape) (sym view) ∙ ap dims_of is.after.shape in
      omega (arith, few, same, all)
