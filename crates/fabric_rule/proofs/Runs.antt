-- What a run that is the beginning of a longer one, and one word of the row, tell of the longer one.
use Rattle.std.proofs.Common.{◌≡◌, ◌≢◌, ℕ, ◌+◌, ◌*◌, ◌<◌, Bool, true, false, List, [], ◌∷◌, ◌++◌, length, Option, Some, None, All, refl, sym, ap}
use Rattle.std.proofs.Common.{◌∙◌, subst, arith}
use Rattle.std.specs.Prelude.{slice_get, slice_index, is_some, unwrap_or, option_map, option_and_then, MatchOption, if◌then◌else◌, IfSome}
use Rattle.std.proofs.lemmas.List.Elements.{All-nil, All-cons}
use Rattle.std.proofs.lemmas.Option.{same_Some, slice_get_within}
use Rattle.torus.specs.Shape.{tiles_of}
use Rattle.torus.specs.declared.step.Step.{Step}
use Rattle.torus.specs.declared.step.Choice.{Choice}
use Rattle.torus.specs.declared.step.Choice.TheVariants as choice
use Rattle.packet.specs.declared.kinds.Request.{Request}
use Rattle.flit_buffer.specs.Words.{word_of, performed}
use Rattle.flit_buffer.specs.declared.word_op.WordOp.{WordOp}
use Rattle.channel_number.specs.Order.{channel_count}
use Rattle.one_order.specs.Room.{home_room}
use Rattle.tile.specs.declared.agent.Agent.{Agent}
use Rattle.tile.specs.declared.agent.Agent.TheVariants.{Processor, Router, Bank}
use Rattle.tile.specs.Tile.{Design, TileState}
use Rattle.tile.specs.Agents.{TilePlace, tile_placed, agent_op, tile_next_op, tile_absorbed, agent_kind, agent_tile}
use Rattle.tile.specs.Placed.{IsAcceptableTo, HasRoomForEntry}
use Rattle.core_laws.specs.Core.{Load, State, design_of, first_state, after, next, or_same, step}
use Rattle.core_laws.specs.Runs.{IsAcceptedLoad, state_after}
use Rattle.core_laws.proofs.AskedFor.{bank_asked}
use Rattle.core_laws.specs.Row.{row_of}
use Rattle.core_laws.specs.Attempts.{tile_in, LeavesRow, MovesRow, IsWordOperation}
use Rattle.core_laws.proofs.RowOfRuns.{is_operation, run_leaves, all_steps, run_append, size, tiles_there, surrounded}
use Rattle.core_laws.proofs.RowRows.{row_word}
use Rattle.core_laws.proofs.Tries.{may_try}
use Rattle.fabric_rule.specs.Known.{tile_of, known, enabled, ShowsBeginning, word_after, row_length, op_of, moves, left_by, Suits}
use Rattle.fabric_rule.specs.Told.{Away, grown, Tells}

away_all : (t : ℕ) (more : List Step) → Away t more → All (λ (attempt : Step). agent_tile attempt.agent ≢ t) more
away_all t [] away = All-nil (λ (attempt : Step). agent_tile attempt.agent ≢ t)
away_all t (attempt ∷ more) away = All-cons (λ (x : Step). agent_tile x.agent ≢ t) attempt more away.0 (away_all t more away.1)

-- a service that has an operation has a request that waits
served : (d : Design) (p : TilePlace) (room : ℕ) (op : WordOp) → ((r : Request) → p.bank.state.waiting ≡ Some r → length p.bank.state.entries < room)
    → agent_op p Bank choice.Serve ≡ Some op → length p.bank.state.entries < room
served d p room op asks is = by_waiting p.bank.state.waiting refl
  where
    by_waiting : (w : Option Request) → p.bank.state.waiting ≡ w → length p.bank.state.entries < room
    by_waiting None e = absurd (none_waits e)
      where
        none_waits : p.bank.state.waiting ≡ None → ⊥
        none_waits e = cc
    by_waiting (Some r) e = asks r e

has_room : (d : Design) (p : TilePlace) (room : ℕ) (op : WordOp) (a : Agent) (c : Choice)
    → ((r : Request) → p.bank.state.waiting ≡ Some r → length p.bank.state.entries < room)
    → agent_op p a c ≡ Some op → HasRoomForEntry (record { place = p; room = room }) a c
has_room d p room op Processor c asks is = tt
has_room d p room op Router c asks is = tt
has_room d p room op Bank choice.Serve asks is = served d p room op asks is
has_room d p room op Bank choice.Take asks is = tt
has_room d p room op Bank choice.Send asks is = tt
has_room d p room op Bank choice.Credit asks is = tt
has_room d p room op Bank choice.Done asks is = tt
has_room d p room op Bank choice.Look asks is = tt
has_room d p room op Bank (choice.TakeFrom i) asks is = tt
has_room d p room op Bank (choice.Put i) asks is = tt
has_room d p room op Bank (choice.CreditOf o) asks is = tt

-- the operation of an attempt is that of its agent
pub own_op : (b : Bool) (x : Option WordOp) (op : WordOp) → (if b then x else None) ≡ Some op → x ≡ Some op
own_op true x op e = e
own_op false x op e = absurd (cc)

if_some : (o : Option WordOp) (P : WordOp → Type 0) (op : WordOp) → o ≡ Some op → IfSome o P → P op
if_some o P op e k = subst (λ (x : Option WordOp). IfSome x P) e k

pub after_one : (load : Load) (xs : List Step) (attempt : Step) → after load (xs ++ attempt ∷ []) ≡ next (design_of load) (after load xs) attempt
after_one load xs attempt = run_append load (first_state load) xs (attempt ∷ [])

-- the row that shows the state after a run
abbrev pub shown_row : Load → List Step → List ℕ
shown_row load run = row_of (design_of load) (after load run)

pub row_shows : (load : Load) (run : List Step) → ShowsBeginning load (shown_row load run) run
unfolding ShowsBeginning
row_shows load run = refl

module _ (load : Load) (ok : IsAcceptedLoad load) where
  abbrev d : Design
  d = design_of load

  pub known_away : (run more : List Step) (t : ℕ) → Away t more → known load (run ++ more) t ≡ known load run t
  unfolding known
  known_away run more t away = run_leaves load ok run more t (away_all t more away)

  -- the state after a run, as the run's last
  abbrev last : List Step → State
  last run = state_after load run (length run)

  tile_last : (run : List Step) (t : ℕ) (p : TilePlace) → tile_in d (last run) t ≡ Some p
      → (tile : TileState) × (slice_get (last run).tiles t ≡ Some tile) × (tile_placed d t tile (last run).around ≡ p)
  tile_last run t p here = by_state (slice_get (last run).tiles t) refl here
    where
      by_state : (o : Option TileState) → slice_get (last run).tiles t ≡ o → option_map (λ tile. tile_placed d t tile (last run).around) o ≡ Some p
          → (tile : TileState) × (slice_get (last run).tiles t ≡ Some tile) × (tile_placed d t tile (last run).around ≡ p)
      by_state None e h = absurd (cc)
      by_state (Some tile) e h = (tile, e, same_Some _ _ h)

  to_last : (run : List Step) (t : ℕ) (p : TilePlace) → known load run t ≡ Some p → tile_in d (last run) t ≡ Some p
  unfolding known
  to_last run t p here = ap (λ (z : State). tile_in d z t) (all_steps load run) ∙ here

  pub names_tile : (run : List Step) (t : ℕ) (p : TilePlace) → known load run t ≡ Some p → t < tiles_of load.shape
  names_tile run t p here =
      let k = tile_last run t p (to_last run t p here) in
      subst (λ (n : ℕ). t < n) (tiles_there load ok run (length run)) (slice_get_within (last run).tiles t k.0 k.1)

  pub row_size : (row : List ℕ) (run : List Step) → ShowsBeginning load row run → length row ≡ row_length load
  unfolding ShowsBeginning
  row_size row run shows =
      let n = size load ok run (length run) in
      ap length (shows ∙ ap (λ (z : State). row_of d z) (sym (all_steps load run))) ∙ (omega (arith, n))

  pub word_shown : (row : List ℕ) (run : List Step) → ShowsBeginning load row run → (a : ℕ)
      → slice_index row (channel_count load.shape * load.depth + a) ≡ word_after load run a
  unfolding ShowsBeginning word_after
  word_shown row run shows a =
      let s = last run in
      ap (λ (r : List ℕ). slice_index r (channel_count load.shape * load.depth + a)) (shows ∙ ap (λ (z : State). row_of d z) (sym (all_steps load run)))
      ∙ (ap (λ (k : ℕ). slice_index (row_of d s) (k * load.depth + a)) (sym (surrounded load ok run (length run)).count)
      ∙ (row_word load.depth s.around a
      ∙ ap (λ (z : State). slice_index z.around.words a) (all_steps load run)))

  module _ (row : List ℕ) (run : List Step) (attempt : Step) (p : TilePlace) (op : WordOp) where
    abbrev t : ℕ
    t = tile_of attempt

    abbrev n : ℕ
    n = slice_index row (word_of op)

    -- the word found suits the attempt
    suits_here : ShowsBeginning load row run → known load run t ≡ Some p → op_of p attempt ≡ Some op → Suits load p attempt n
    unfolding ShowsBeginning op_of Suits
    suits_here shows here asks =
        let k = tile_last run t p (to_last run t p here) in
        let asked = bank_asked load ok run (length run) t k.0 k.1 in
        let of_agent : agent_op p (agent_kind attempt.agent) attempt.choice ≡ Some op = own_op _ _ op asks in
        let accepts : IfSome (tile_next_op p attempt)
        (λ o. IsAcceptableTo p (agent_kind attempt.agent) attempt.choice (slice_index (row_of d (last run)) (word_of o))) =
        subst (λ (q : TilePlace). IfSome (tile_next_op q attempt)
        (λ o. IsAcceptableTo q (agent_kind attempt.agent) attempt.choice (slice_index (row_of d (last run)) (word_of o)))) k.2
        (may_try load ok run (length run) t k.0 k.1 attempt) in
        let row_is : row_of d (last run) ≡ row = ap (λ (z : State). row_of d z) (all_steps load run) ∙ sym shows in (
          subst (λ (r : List ℕ). IsAcceptableTo p (agent_kind attempt.agent) attempt.choice (slice_index r (word_of op))) row_is
              (if_some (tile_next_op p attempt)
              (λ o. IsAcceptableTo p (agent_kind attempt.agent) attempt.choice (slice_index (row_of d (last run)) (word_of o))) op asks
              accepts),
          has_room d p (home_room (tiles_of load.shape) t load.scripts) op (agent_kind attempt.agent) attempt.choice
              (subst (λ (q : TilePlace). (r : Request) → q.bank.state.waiting ≡ Some r
              → length q.bank.state.entries < home_room (tiles_of load.shape) t load.scripts) k.2 asked.room) of_agent,
        )

    abbrev s : State
    s = after load run

    -- what the tile, once the word was found, tells
    abbrev SoIs : Option TilePlace → Type 0
    SoIs q = (is_some (step d s attempt) ≡ is_some q)
        × (performed op row ≡ row_of d (after load (grown (is_some q) run attempt)))
        × (tile_in d (after load (grown (is_some q) run attempt)) t ≡ Some (unwrap_or q p))

    module _ (shows : row ≡ row_of d s) (here : tile_in d s t ≡ Some p) where
      absorbs : tile_absorbed p attempt n ≡ option_and_then (λ (q : TilePlace). tile_absorbed q attempt (slice_index (row_of d s) (word_of op))) (tile_in d s t)
      absorbs =
          ap (λ (r : List ℕ). tile_absorbed p attempt (slice_index r (word_of op))) shows
          ∙ sym (ap (λ (o : Option TilePlace). option_and_then (λ (q : TilePlace). tile_absorbed q attempt (slice_index (row_of d s) (word_of op))) o) here)

      by_step : (o : Option State) → step d s attempt ≡ o → MatchOption o (LeavesRow d s attempt op) (λ left. MovesRow d s attempt op left)
          → SoIs (tile_absorbed p attempt n)
      by_step None is k = subst SoIs (sym (absorbs ∙ k.idle)) (
        ap (λ (o : Option State). is_some o) is,
        ap (performed op) shows ∙ k.row,
        here,
      )
      by_step (Some left) is k =
          let now : after load (run ++ attempt ∷ []) ≡ left = after_one load run attempt ∙ ap (or_same s) is in
          subst SoIs (sym (absorbs ∙ k.moved)) (
            ap (λ (o : Option State). is_some o) is,
            ap (performed op) shows ∙ (k.row ∙ ap (λ (z : State). row_of d z) (sym now)),
            ap (λ (z : State). tile_in d z t) now ∙ k.next_tile,
          )

    abbrev OfOp : Option WordOp → Type 0
    OfOp o = MatchOption o (step d s attempt ≡ None)
        (λ x. (word_of x < length (row_of d s)) × MatchOption (step d s attempt) (LeavesRow d s attempt x) (λ left. MovesRow d s attempt x left))

    operation : tile_in d s t ≡ Some p → tile_next_op p attempt ≡ Some op → OfOp (Some op)
    operation here asks =
        let any : IsWordOperation d s attempt =
        subst (λ (z : State). IsWordOperation d z attempt) (all_steps load run) (is_operation load ok run (length run) attempt) in
        subst OfOp (ap (λ (o : Option TilePlace). option_and_then (λ (q : TilePlace). tile_next_op q attempt) o) here ∙ asks) any

    pub tells : ShowsBeginning load row run → known load run t ≡ Some p → op_of p attempt ≡ Some op → Tells load row run attempt p op
    unfolding known ShowsBeginning enabled op_of moves left_by
    tells shows here asks =
        let k = operation here asks in
        let so = by_step shows here (step d s attempt) refl k.1 in
        record {
          within = subst (λ (r : List ℕ). word_of op < length r) (sym shows) k.0;
          enabled_there = so.0;
          shows = so.1;
          tile = so.2;
          suits = suits_here shows here asks;
        }

  -- what Tells says of a tile that is known after a beginning of the run, behind which the tile made no step
  pub tells_later : (row : List ℕ) (run more : List Step) (attempt : Step) (p : TilePlace) (op : WordOp) → ShowsBeginning load row (run ++ more)
      → Away (tile_of attempt) more
      → known load run (tile_of attempt) ≡ Some p → op_of p attempt ≡ Some op → Tells load row (run ++ more) attempt p op
  tells_later row run more attempt p op shows away here asks =
      tells row (run ++ more) attempt p op shows (known_away run more (tile_of attempt) away ∙ here) asks
