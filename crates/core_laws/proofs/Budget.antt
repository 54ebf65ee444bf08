-- No run makes more moves than are owed at first.
use Rattle.std.proofs.Common.{◌≡◌, ℕ, zero, suc, ◌+◌, ◌<◌, ◌≤◌, cond, List, [], length, take, Option, Some, None, refl, sym, ◌∙◌, ap, subst, arith, slice_get}
use Rattle.std.proofs.Common.{slice_index_or}
use Rattle.std.proofs.lemmas.List.{get_or-map}
use Rattle.torus.specs.Shape.{tiles_of, dims_of}
use Rattle.torus.specs.declared.step.Step.{Step}
use Rattle.script_lines.specs.declared.line.Line.{Line}
use Rattle.script_lines.specs.Lines.{operation_count, total_count}
use Rattle.one_order.specs.Following.{first_of, left_of}
use Rattle.one_order.proofs.Followable.{accepted_followable}
use Rattle.one_order.specs.Events.{order_after}
use Rattle.wormhole.specs.State.{NetState}
use Rattle.wormhole.specs.Events.{network_after}
use Rattle.wormhole.specs.Weight.{sum_below}
use Rattle.wormhole.specs.Work.{End, end_weight, work, first_end}
use Rattle.core_laws.specs.Rounds.{one_if_moved}
use Rattle.wormhole.proofs.Sums.{sum_same}
use Rattle.wormhole.proofs.Bounded.{ends_owe, empty_owes}
use Rattle.core_laws.specs.Tile.{Design, TileState}
use Rattle.core_laws.specs.Core.{Load, State, design_of, first_state, first_tile, or_same, step}
use Rattle.core_laws.specs.Runs.{IsAcceptedLoad, state_after}
use Rattle.one_order.specs.Room.{home_room}
use Rattle.core_laws.specs.Network.{net_of, network_event}
use Rattle.core_laws.specs.Noted.{noted, event_by}
use Rattle.core_laws.proofs.Histories.{event_at, next_at, after_more}
use Rattle.core_laws.proofs.EveryRun.{holds_in}
use Rattle.core_laws.proofs.Rooms.{bank_room}
use Rattle.core_laws.proofs.Values.{limited}
use Rattle.core_laws.proofs.ValuesProper.{ready_proper}
use Rattle.core_laws.proofs.ResponseLists.{no_head}
use Rattle.core_laws.proofs.Stands.{tile_at, no_tile}
use Rattle.core_laws.specs.ProgressMoves.{moves_made, most_moves}
use Rattle.core_laws.proofs.Rows.{end_of}
use Rattle.core_laws.proofs.Live.{stands_live}
use Rattle.core_laws.proofs.MachineWork.{ends_at, HasRoom, machine_work_falls}
use Rattle.core_laws.proofs.Counts.{all_homes, all_left, left_at_first}
use Rattle.core_laws.proofs.Made.{made_by, made_more, take_all, still}

-- what the ends of a tile have to do at first
first_weight : (dims tags cap : ℕ) (lines : List Line)
    → end_weight (end_of cap (first_tile dims tags lines).processor (first_tile dims tags lines).bank) ≡ end_weight (first_end (left_of (first_of lines)) cap)
first_weight dims tags cap lines =
    let none : (end_of cap (first_tile dims tags lines).processor (first_tile dims tags lines).bank).unsent ≡ 0 = ap (λ b. cond b 0 0) no_head in
    omega arith

module _ (l : Load) (ok : IsAcceptedLoad l) where
  abbrev d : Design
  d = design_of l

  -- so many entries a bank may make
  abbrev cap : ℕ → ℕ
  cap b = home_room (tiles_of l.shape) b l.scripts

  -- the moves that the machine owes after some steps
  abbrev owed : List Step → ℕ → ℕ
  owed steps n = work (net_of d) (tiles_of l.shape) (ends_at cap (state_after l steps n)) (noted l steps n).net

  has_room : (steps : List Step) (n : ℕ) → HasRoom d (state_after l steps n) cap
  has_room steps n = record {
    proper = λ t tag o here due.
        (ready_proper d l.tags (limited l ok) l.opening (state_after l steps n) (noted l steps n) (order_after (event_at l steps) n)
        (holds_in l ok steps n).stands (holds_in l ok steps n).values t tag o here due).0;
    room = λ t r here waits. bank_room l ok steps n t r waits;
  }

  script_left : (p : ℕ) → p < length l.scripts → left_of (first_of (slice_index_or l.scripts p [])) ≤ operation_count (slice_index_or l.scripts p [])
  script_left p low =
      left_at_first (slice_index_or l.scripts p []) (accepted_followable (length l.opening) (slice_index_or l.scripts p []) (ok.scripts.each p))

  -- at first no more is owed than the most moves
  first_owed : (steps : List Step) → owed steps 0 ≤ most_moves l
  first_owed steps =
      let tiles : ℕ = tiles_of l.shape in
      let ops : ℕ → ℕ = λ t. left_of (first_of (slice_index_or l.scripts t [])) in
      let ends : sum_below tiles (λ t. end_weight (ends_at cap (first_state l) t)) ≡ sum_below tiles (λ t. end_weight (first_end (ops t) (cap t))) =
      sum_same tiles (λ t. end_weight (first_end (ops t) (cap t))) (λ t. end_weight (ends_at cap (first_state l) t)) (λ t here.
      let low : t < length l.scripts = subst (λ (k : ℕ). t < k) (sym ok.processors) here in
      let is : tile_at (first_state l) t ≡ first_tile (dims_of l.shape) l.tags (slice_index_or l.scripts t []) =
      get_or-map (first_tile (dims_of l.shape) l.tags) l.scripts t [] no_tile low in
      ap (λ (u : TileState). end_weight (end_of (cap t) u.processor u.bank)) is
      ∙ first_weight (dims_of l.shape) l.tags (cap t) (slice_index_or l.scripts t [])) in
      let all = ends_owe ops cap tiles in
      let none = empty_owes (net_of d) (net_of d).channels in
      let left : sum_below (length l.scripts) ops ≤ total_count l.scripts = all_left l.scripts (λ lines. left_of (first_of lines)) script_left in
      let left_too : sum_below tiles ops ≤ total_count l.scripts = subst (λ (k : ℕ). sum_below k ops ≤ total_count l.scripts) ok.processors left in
      let homes = all_homes tiles tiles l.scripts in
      omega arith

  -- what is owed falls by each move, and stays where an attempt isn't enabled
  step_owed : (steps : List Step) (n : ℕ) (a : Step) (o : Option State) → step d (state_after l steps n) a ≡ o → slice_get steps n ≡ Some a
      → made_by d (state_after l steps n) (Some a) + owed steps (suc n) ≤ owed steps n
  step_owed steps n a None is there =
      let s : State = state_after l steps n in
      let made : one_if_moved (step d s a) ≡ 0 = ap one_if_moved is in
      let state : state_after l steps (suc n) ≡ s = after_more d steps (first_state l) n ∙ ap (next_at d s) there ∙ ap (or_same s) is in
      let net : (noted l steps (suc n)).net ≡ (noted l steps n).net =
      ap (λ (b : Option Step). network_after (net_of d) (noted l steps n).net (event_by l s b)) there
      ∙ ap (network_after (net_of d) (noted l steps n).net) (still d s a is) in
      let same : owed steps (suc n) ≡ owed steps n =
      ap (λ (t : State). work (net_of d) (tiles_of l.shape) (ends_at cap t) (noted l steps (suc n)).net) state
      ∙ ap (work (net_of d) (tiles_of l.shape) (ends_at cap s)) net in
      omega arith
  step_owed steps n a (Some after) is there =
      let s : State = state_after l steps n in
      let made : one_if_moved (step d s a) ≡ 1 = ap one_if_moved is in
      let state : state_after l steps (suc n) ≡ after = after_more d steps (first_state l) n ∙ ap (next_at d s) there ∙ ap (or_same s) is in
      let new : NetState = network_after (net_of d) (noted l steps n).net (network_event d s a) in
      let net : (noted l steps (suc n)).net ≡ new =
      ap (λ (b : Option Step). network_after (net_of d) (noted l steps n).net (event_by l s b)) there in
      let same : owed steps (suc n) ≡ work (net_of d) (tiles_of l.shape) (ends_at cap after) new =
      ap (λ (t : State). work (net_of d) (tiles_of l.shape) (ends_at cap t) (noted l steps (suc n)).net) state
      ∙ ap (work (net_of d) (tiles_of l.shape) (ends_at cap after)) net in
      let falls = machine_work_falls d l.tags l.opening s (noted l steps n) (order_after (event_at l steps) n) ok.shape (stands_live l ok steps n) cap
      (has_room steps n) a after is in
      omega arith

  by_attempt : (steps : List Step) (n : ℕ) (a : Option Step) → slice_get steps n ≡ a → made_by d (state_after l steps n) a + owed steps (suc n) ≤ owed steps n
  by_attempt steps n None there =
      let s : State = state_after l steps n in
      let state : state_after l steps (suc n) ≡ s = after_more d steps (first_state l) n ∙ ap (next_at d s) there in
      let net : (noted l steps (suc n)).net ≡ (noted l steps n).net =
      ap (λ (b : Option Step). network_after (net_of d) (noted l steps n).net (event_by l s b)) there in
      let same : owed steps (suc n) ≡ owed steps n =
      ap (λ (t : State). work (net_of d) (tiles_of l.shape) (ends_at cap t) (noted l steps (suc n)).net) state
      ∙ ap (work (net_of d) (tiles_of l.shape) (ends_at cap s)) net in
      omega arith
  by_attempt steps n (Some a) there = step_owed steps n a (step d (state_after l steps n) a) refl there

  -- the moves made, and those that are owed, are no more than the most moves
  pub budget : (steps : List Step) (n : ℕ) → moves_made l (take n steps) + owed steps n ≤ most_moves l
  budget steps zero = let first = first_owed steps in omega arith
  budget steps (suc n) =
      let before = budget steps n in
      let more = made_more d steps (first_state l) n in
      let one = by_attempt steps n (slice_get steps n) refl in
      omega arith

  -- no list of attempts makes more moves
  pub few_moves : (steps : List Step) → moves_made l steps ≤ most_moves l
  few_moves steps =
      let all = budget steps (length steps) in
      let same = ap (moves_made l) (take_all steps) in
      omega arith
