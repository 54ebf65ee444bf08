-- The row of every state that a run reaches, and what attempts do to it.
use Rattle.std.proofs.Common.{◌≡◌, ◌≢◌, ◌↔◌, ℕ, ◌+◌, ◌*◌, ◌%◌, ◌<◌, ◌≤◌, List, [], ◌∷◌, ◌++◌, length, get_or, get_or-take, Option, Some, None, All, refl}
use Rattle.std.proofs.Common.{sym, ap, ◌∙◌, subst, arith, append_assoc, slice_get}
use Rattle.std.proofs.Math.Nat.{mul-le-mul}
use Rattle.std.proofs.Math.Seq.{take-length}
use Rattle.std.proofs.lemmas.List.{append-nil}
use Rattle.std.proofs.lemmas.List.Elements.{All-head, All-tail}
use Rattle.std.proofs.lemmas.Option.{slice_get_within, get_or_from_slice_get}
use Rattle.torus.specs.Shape.{tiles_of}
use Rattle.torus.specs.declared.step.Step.{Step}
use Rattle.one_order.specs.Events.{order_after}
use Rattle.channel_number.specs.Order.{channel_count, channels_at_tile}
use Rattle.flit_buffer.specs.Surroundings.{ring, ShowsAll}
use Rattle.core_laws.specs.Agent.{Agent}
use Rattle.core_laws.specs.Tile.{TileState}
use Rattle.core_laws.specs.Agents.{TilePlace, agent_kind, agent_tile}
use Rattle.core_laws.specs.Refinement.{IsSurrounded, IsPossibleChoice, KeepsOthers, OnlyAgent}
use Rattle.core_laws.specs.Core.{Load, State, design_of, first_state, after, after_from, next, or_same, step, show}
use Rattle.core_laws.specs.Runs.{IsAcceptedLoad, state_after}
use Rattle.core_laws.specs.Noted.{noted}
use Rattle.core_laws.proofs.EveryRun.{holds_in}
use Rattle.core_laws.proofs.Histories.{event_at}
use Rattle.core_laws.proofs.Stands.{Stands, tile_at, no_tile}
use Rattle.core_laws.proofs.Values.{limited}
use Rattle.core_laws.specs.Row.{row_of}
use Rattle.core_laws.specs.Attempts.{tile_in, IsWordOperation}
use Rattle.core_laws.proofs.RowRows as rows
use Rattle.core_laws.proofs.Possible as possible
use Rattle.core_laws.proofs.RowSteps as steps_of

module _ (l : Load) (ok : IsAcceptedLoad l) (steps : List Step) (n : ℕ) where
  abbrev s : State
  s = state_after l steps n

  st : Stands (design_of l) l.tags l.opening s (noted l steps n) (order_after (event_at l steps) n)
  st = (holds_in l ok steps n).stands

  pub surrounded : IsSurrounded (design_of l) s.around
  surrounded = possible.surrounded (design_of l) l.tags (limited l ok) l.opening s (noted l steps n) (order_after (event_at l steps) n) st
      (holds_in l ok steps n).values

  possible_at : (t : ℕ) (tile : TileState) → slice_get s.tiles t ≡ Some tile → (a : Agent) (attempt : Step)
      → IsPossibleChoice (design_of l) t tile s.around a attempt.choice
  possible_at t tile e a attempt =
      let is : tile_at s t ≡ tile = get_or_from_slice_get s.tiles t tile no_tile e in
      let t_in : t < tiles_of l.shape = subst (λ (k : ℕ). t < k) st.tiles (slice_get_within s.tiles t tile e) in
      subst (λ (w : TileState). IsPossibleChoice (design_of l) t w s.around a attempt.choice) is
      (possible.possible_here (design_of l) l.tags (limited l ok) l.opening s (noted l steps n) (order_after (event_at l steps) n) st
      (holds_in l ok steps n).values t t_in a attempt.choice)

  pub possible_there : (attempt : Step) (tile : TileState) → slice_get s.tiles (agent_tile attempt.agent) ≡ Some tile
      → IsPossibleChoice (design_of l) (agent_tile attempt.agent) tile s.around (agent_kind attempt.agent) attempt.choice
  possible_there attempt tile e = possible_at (agent_tile attempt.agent) tile e (agent_kind attempt.agent) attempt

  pub tiles_there : length s.tiles ≡ tiles_of l.shape
  tiles_there = st.tiles

  pub front_within : (x : ℕ) → x < channel_count l.shape → (ring s.around.rings x).front < l.depth
  front_within x x_in = let r = surrounded.rings x (subst (λ (k : ℕ). x < k) (sym surrounded.count) x_in) in r.front

  -- attempts
  pub is_operation : (attempt : Step) → IsWordOperation (design_of l) s attempt
  is_operation attempt = steps_of.is_operation (design_of l) s ok.shape st.tiles surrounded possible_at attempt

  pub others_stay : (attempt : Step) (left : State) → step (design_of l) s attempt ≡ Some left
      → KeepsOthers (design_of l) (agent_tile attempt.agent) (agent_kind attempt.agent) s.around left.around
  others_stay attempt left e = steps_of.others_stay (design_of l) s ok.shape st.tiles surrounded possible_at attempt left e

  pub tile_stays : (attempt : Step) (left : State) (u : ℕ) → step (design_of l) s attempt ≡ Some left → u ≢ agent_tile attempt.agent
      → tile_in (design_of l) left u ≡ tile_in (design_of l) s u
  tile_stays attempt left u e other = steps_of.tile_stays (design_of l) s ok.shape st.tiles surrounded possible_at attempt left e u other

  pub only_own : (attempt : Step) (left : State) (p q : TilePlace) → step (design_of l) s attempt ≡ Some left
      → tile_in (design_of l) s (agent_tile attempt.agent) ≡ Some p → tile_in (design_of l) left (agent_tile attempt.agent) ≡ Some q
      → OnlyAgent (agent_kind attempt.agent) p q
  only_own attempt left p q e before now = steps_of.only_own (design_of l) s ok.shape st.tiles surrounded possible_at attempt left p q e before now

  -- the row
  pub one_row : (row : List ℕ) → ShowsAll row l.depth s.around ↔ (row ≡ row_of (design_of l) s)
  one_row row = rows.one_row l.depth s.around surrounded.rings row

  pub size : length (row_of (design_of l) s) ≡ channel_count l.shape * l.depth + length l.opening + 1
  size =
      rows.row_count l.depth s.around
      ∙ ap (λ (k : ℕ). k * l.depth + length s.around.words) surrounded.count
      ∙ (let w = st.size in omega (arith, w))

  pub at_most : length (row_of (design_of l) s) ≤ 79873
  at_most =
      let tiles = ok.shape.tiles in
      let dims = ok.shape.dims_high in
      let each : channels_at_tile l.shape ≤ 28 = omega (arith, dims) in
      let channels : channel_count l.shape ≤ 64 * 28 = mul-le-mul tiles each in
      let places : channel_count l.shape * l.depth ≤ (64 * 28) * 8 = mul-le-mul channels ok.depth.1 in
      let words = ok.size.1 in
      let is = size in
      omega (arith, places, words, is)

  module _ (x : ℕ) (x_in : x < channel_count l.shape) where
    there : x < length s.around.rings
    there = subst (λ (k : ℕ). x < k) (sym surrounded.count) x_in

    pub flit_shown : (i : ℕ) → i < length (ring s.around.rings x).channel.flits
        → get_or (row_of (design_of l) s) (x * l.depth + ((ring s.around.rings x).front + i) % l.depth) 0 ≡ get_or (ring s.around.rings x).channel.flits i 0
    flit_shown i h =
        let shows = (rows.row_shows l.depth s.around surrounded.rings) in
        let r = surrounded.rings x there in
        let c = r.channel in
        (shows.rings x there).places i (let up = c.adds_up in omega (arith, up))

    pub rest_empty : (q : ℕ) → q < l.depth
        → ((i : ℕ) → i < length (ring s.around.rings x).channel.flits → ((ring s.around.rings x).front + i) % l.depth ≢ q)
        → get_or (row_of (design_of l) s) (x * l.depth + q) 0 ≡ 0
    rest_empty q low none = rows.empty_place l.depth s.around surrounded.rings x q there low none

  word_shown : (a : ℕ) → get_or (row_of (design_of l) s) (channel_count l.shape * l.depth + a) 0 ≡ get_or s.around.words a 0
  word_shown a = ap (λ (k : ℕ). get_or (row_of (design_of l) s) (k * l.depth + a) 0) (sym surrounded.count) ∙ rows.row_word l.depth s.around a

  pub memory_shown : (a : ℕ) → a < length l.opening
      → get_or (row_of (design_of l) s) (channel_count l.shape * l.depth + a) 0 ≡ get_or (show (length l.opening) s).memory a 0
  memory_shown a h = word_shown a ∙ sym (get_or-take (length l.opening) s.around.words a 0 h)

  pub done_shown : get_or (row_of (design_of l) s) (channel_count l.shape * l.depth + length l.opening) 0 ≡ get_or s.around.words (length l.opening) 0
  done_shown = word_shown (length l.opening)

-- a state that all of a list of steps lead to
pub all_steps : (l : Load) (xs : List Step) → state_after l xs (length xs) ≡ after l xs
all_steps l xs = ap (after l) (take-length xs)

-- runs, one after the other
pub run_append : (l : Load) (s : State) (xs ys : List Step)
    → after_from (design_of l) s (xs ++ ys) ≡ after_from (design_of l) (after_from (design_of l) s xs) ys
run_append l s [] ys = refl
run_append l s (x ∷ xs) ys = run_append l (next (design_of l) s x) xs ys

module _ (l : Load) (ok : IsAcceptedLoad l) where
  -- a step of another tile, enabled or not
  next_leaves : (xs : List Step) (attempt : Step) (u : ℕ) → agent_tile attempt.agent ≢ u
      → tile_in (design_of l) (next (design_of l) (after l xs) attempt) u ≡ tile_in (design_of l) (after l xs) u
  next_leaves xs attempt u other =
      subst (λ (z : State). tile_in (design_of l) (next (design_of l) z attempt) u ≡ tile_in (design_of l) z u) (all_steps l xs)
      (by_step (step (design_of l) (state_after l xs (length xs)) attempt) refl)
    where
      by_step : (o : Option State) → step (design_of l) (state_after l xs (length xs)) attempt ≡ o
          → tile_in (design_of l) (or_same (state_after l xs (length xs)) o) u ≡ tile_in (design_of l) (state_after l xs (length xs)) u
      by_step None e = refl
      by_step (Some left) e = tile_stays l ok xs (length xs) attempt left u e (λ q. other (sym q))

  -- steps of other tiles leave a tile
  pub run_leaves : (steps more : List Step) (u : ℕ) → All (λ attempt. agent_tile attempt.agent ≢ u) more
      → tile_in (design_of l) (after l (steps ++ more)) u ≡ tile_in (design_of l) (after l steps) u
  run_leaves steps [] u all = ap (λ xs. tile_in (design_of l) (after l xs) u) (append-nil steps)
  run_leaves steps (attempt ∷ more) u all =
      ap (λ xs. tile_in (design_of l) (after l xs) u) (sym (append_assoc steps (attempt ∷ []) more))
      ∙ (run_leaves (steps ++ attempt ∷ []) more u (All-tail (λ x. agent_tile x.agent ≢ u) attempt more all)
      ∙ (ap (λ (z : State). tile_in (design_of l) z u) (run_append l (first_state l) steps (attempt ∷ []))
      ∙ next_leaves steps attempt u (All-head (λ x. agent_tile x.agent ≢ u) attempt more all)))
