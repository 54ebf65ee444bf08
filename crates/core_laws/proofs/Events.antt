-- Which event a step is, told by the counts of its tile.
use Rattle.std.proofs.Common.{◌≡◌, ℕ, ◌<◌, List, [], ◌∷◌, ◌++◌, length, Option, Some, None, refl, sym, ◌∙◌, ap, subst, arith, slice_get, slice_set}
use Rattle.std.specs.Prelude.{option_and_then, option_map}
use Rattle.std.proofs.lemmas.List.{length_push}
use Rattle.std.proofs.lemmas.Option.{same_Some, slice_get_within}
use Rattle.torus.specs.Shape.{tiles_of}
use Rattle.torus.specs.declared.step.Step.{Step}
use Rattle.packet.specs.declared.kinds.Request.{Request}
use Rattle.packet.specs.declared.kinds.Operation.{Operation}
use Rattle.home_bank.specs.declared.entry.Entry.{Entry}
use Rattle.one_order.specs.declared.answer.Answer.{Answer}
use Rattle.one_order.specs.Order.{home}
use Rattle.one_order.specs.Events.{order_after}
use Rattle.one_order.proofs.Lists.{get_push, get_set_same}
use Rattle.one_order.specs.Following.{next_operation_of}
use Rattle.one_order.specs.ProcessorRecord.{ProcessorRecord, index_of, operation_under, answer_of}
use Rattle.one_order.specs.Flight.{Flight, Move, Sends, Serves, Takes, processor_at, flight_event}
use Rattle.one_order.specs.EventBook.{EventBook, noted_event, noted_issue, noted_service, noted_answer}
use Rattle.one_order.proofs.Bounds.{room_for}
use Rattle.flit_buffer.specs.Surroundings.{Surroundings}
use Rattle.core_laws.specs.Agent.{Agent}
use Rattle.core_laws.specs.Tile.{Design, TileState, tile_step}
use Rattle.core_laws.specs.Agents.{agent_kind, agent_tile}
use Rattle.core_laws.specs.Core.{Load, State, design_of, step}
use Rattle.core_laws.specs.Moves.{tile_move, move_of}
use Rattle.core_laws.specs.Runs.{IsAcceptedLoad, state_after, without_packets}
use Rattle.core_laws.specs.Noted.{noted, flight_after}
use Rattle.core_laws.proofs.AgentSteps.{option_map_some}
use Rattle.core_laws.proofs.TileMoves.{RecordMoved, EntriesMoved, TileMoved, tile_moves}
use Rattle.core_laws.proofs.StepEvents.{found}
use Rattle.core_laws.proofs.Networks.{network}
use Rattle.core_laws.proofs.Followed.{next_inside}
use Rattle.core_laws.proofs.Histories.{event_at}
use Rattle.core_laws.proofs.EveryRun.{holds_in}
use Rattle.core_laws.proofs.Stands.{tile_at}
use Rattle.core_laws.specs.Machine.{event_in}
use Rattle.core_laws.proofs.Moments.{moment, points}
use Rattle.core_laws.specs.Seen.{IsToldByCounts}

-- a list that stayed has nothing behind its end
pub no_more : {A : Type 0} (xs ys : List A) (a : A) → ys ≡ xs → slice_get ys (length xs) ≡ Some a → ⊥
no_more xs ys a same h =
    let within = slice_get_within ys (length xs) a h in
    let count = ap length same in
    omega (arith, within, count)

-- the last element of a list with one more
pub last_pushed : {A : Type 0} (xs ys : List A) (x a : A) → ys ≡ xs ++ x ∷ [] → slice_get ys (length xs) ≡ Some a → x ≡ a
last_pushed xs ys x a same h = same_Some x a (sym (get_push xs x) ∙ (sym (ap (λ zs. slice_get zs (length xs)) same) ∙ h))

-- a list with one more is longer
no_push : {A : Type 0} (xs ys : List A) (x : A) → ys ≡ xs ++ x ∷ [] → length ys ≡ length xs → ⊥
no_push xs ys x e same =
    let more = ap length e in
    omega (arith, more, same, length_push xs x)

module _ (tiles t : ℕ) (f : Flight) (b c : ProcessorRecord) (m : List ℕ) (es fs : List Entry) (g : EventBook) where
  issue_told : (move : Option Move) → RecordMoved t b c move → length b.issued < length c.issued → noted_event tiles g (flight_event f move) ≡ noted_issue t g
  issue_told None h more = let same = ap (λ (r : ProcessorRecord). length r.issued) h in absurd (omega (arith, more, same))
  issue_told (Some (Sends p tag o)) h more = ap (λ (u : ℕ). noted_issue u g) h.0
  issue_told (Some (Serves r)) h more = let same = ap (λ (r : ProcessorRecord). length r.issued) h in absurd (omega (arith, more, same))
  issue_told (Some (Takes r)) h more = let same = ap (λ (r : ProcessorRecord). length r.issued) h in absurd (omega (arith, more, same))

  answer_told : (move : Option Move) → RecordMoved t b c move → (a : Answer) → slice_get c.answers (length b.answers) ≡ Some a
      → noted_event tiles g (flight_event f move) ≡ noted_answer a.bank a.place g
  answer_told None h a there = absurd (no_more b.answers c.answers a (ap (λ (r : ProcessorRecord). r.answers) h) there)
  answer_told (Some (Sends p tag o)) h a there = absurd (no_more b.answers c.answers a (ap (λ (r : ProcessorRecord). r.answers) h.1) there)
  answer_told (Some (Serves r)) h a there = absurd (no_more b.answers c.answers a (ap (λ (r : ProcessorRecord). r.answers) h) there)
  answer_told (Some (Takes r)) h a there =
      ap (λ (x : Answer). noted_answer x.bank x.place g) (last_pushed b.answers c.answers (answer_of b r) a (ap (λ (x : ProcessorRecord). x.answers) h) there)

  service_told : (move : Option Move) → EntriesMoved tiles t m es fs move
      → ((r : Request) → move ≡ Some (Serves r) → home tiles (operation_under (processor_at f r.source) r.tag.0) ≡ t)
      → (e : Entry) → slice_get fs (length es) ≡ Some e
      → noted_event tiles g (flight_event f move) ≡ noted_service t e.source (index_of (processor_at f e.source) e.tag.0) g
  service_told None h homes e there = absurd (no_more es fs e h there)
  service_told (Some (Sends p tag o)) h homes e there = absurd (no_more es fs e h there)
  service_told (Some (Takes r)) h homes e there = absurd (no_more es fs e h there)
  service_told (Some (Serves r)) h homes e there =
      ap (λ (u : ℕ). noted_service u r.source (index_of (processor_at f r.source) r.tag.0) g) (homes r refl)
      ∙ ap (λ (x : Entry). noted_service t x.source (index_of (processor_at f x.source) x.tag.0) g) (last_pushed es fs _ e h there)

  nothing_told : (move : Option Move) → RecordMoved t b c move → EntriesMoved tiles t m es fs move
      → length c.issued ≡ length b.issued → length c.answers ≡ length b.answers → length fs ≡ length es → noted_event tiles g (flight_event f move) ≡ g
  nothing_told None h k issued answers entries = refl
  nothing_told (Some (Sends p tag o)) h k issued answers entries =
      let more = ap (λ (x : ProcessorRecord). length x.issued) h.1 in absurd (omega (arith, more, issued, length_push b.issued o))
  nothing_told (Some (Takes r)) h k issued answers entries =
      let more = ap (λ (x : ProcessorRecord). length x.answers) h in absurd (omega (arith, more, answers, length_push b.answers (answer_of b r)))
  nothing_told (Some (Serves r)) h k issued answers entries =
      absurd (no_push es fs _ k entries)

module _ (l : Load) (ok : IsAcceptedLoad l) (steps : List Step) (n : ℕ) (attempt : Step) (next : State)
    (is : step (design_of l) (state_after l steps n) attempt ≡ Some next) (before after : TileState)
    (there : slice_get (state_after l steps n).tiles (agent_tile attempt.agent) ≡ Some before)
    (later : slice_get next.tiles (agent_tile attempt.agent) ≡ Some after) where
  abbrev d : Design
  d = design_of l

  abbrev s : State
  s = state_after l steps n

  abbrev t : ℕ
  t = agent_tile attempt.agent

  abbrev agent : Agent
  agent = agent_kind attempt.agent

  abbrev with_tile : TileState × Surroundings → State
  with_tile p = record { tiles = slice_set s.tiles t p.0; around = p.1 }

  pub stepped : (p : TileState × Surroundings) × (tile_step d t before s.around agent attempt.choice ≡ Some p) × (with_tile p ≡ next)
  stepped = option_map_some with_tile (tile_step d t before s.around agent attempt.choice) next
      (sym (ap (λ (o : Option TileState). option_and_then (λ (v : TileState). option_map with_tile (tile_step d t v s.around agent attempt.choice)) o) there)
      ∙ is)

  pub left_is : stepped.0.0 ≡ after
  left_is = same_Some _ _ (sym (get_set_same s.tiles t stepped.0.0 (slice_get_within s.tiles t before there))
      ∙ (ap (λ (x : State). slice_get x.tiles t) stepped.2 ∙ later))

  move_is : move_of d s attempt ≡ tile_move d t before s.around agent attempt.choice
  move_is = ap (λ (o : Option TileState). option_and_then (λ (v : TileState). tile_move d t v s.around agent attempt.choice) o) there

  pub addressed : (u : ℕ) (o : Operation) → u < tiles_of d.shape → next_operation_of (tile_at s u).processor.operations.following ≡ Some o
      → o.address < length l.opening
  addressed u o u_in e = (next_inside d.words 4096 (tile_at s u).processor.operations.following o ((holds_in l ok steps n).values.tiles u).followed e).0

  pub moves : TileMoved (tiles_of d.shape) d.words t before s.around after stepped.0.1 (move_of d s attempt)
  moves =
      subst (λ (k : Option Move). TileMoved (tiles_of d.shape) d.words t before s.around after stepped.0.1 k) (sym move_is)
      (subst (λ (v : TileState). TileMoved (tiles_of d.shape) d.words t before s.around v stepped.0.1 (tile_move d t before s.around agent attempt.choice))
      left_is
      (tile_moves d t before s.around agent attempt.choice stepped.0.0 stepped.0.1 stepped.1 (λ k e.
      (found d (network d ok.shape) l.tags l.opening s (noted l steps n) (order_after (event_at l steps) n) (holds_in l ok steps n).stands addressed attempt k
      (move_is ∙ e)).1)))

  homes : (r : Request) → move_of d s attempt ≡ Some (Serves r)
      → home (tiles_of d.shape) (operation_under (processor_at (flight_after l steps n) r.source) r.tag.0) ≡ t
  homes r e =
      let f = found d (network d ok.shape) l.tags l.opening s (noted l steps n) (order_after (event_at l steps) n) (holds_in l ok steps n).stands addressed
      attempt (Serves r) e in
      let room = room_for (tiles_of l.shape) l.tags l.opening l.scripts _ n (flight_after l steps n) (points l steps n) (moment l steps ok n) (Serves r) f.0 in
      room.home ∙ f.1.0

  pub told_by_counts : (g : EventBook) → IsToldByCounts s t before after g (noted_event (tiles_of d.shape) g (event_in d s attempt))
  told_by_counts g =
      let f : Flight = without_packets d.words s in
      let b = before.processor.operations in
      let c = after.processor.operations in
      record {
        issue = issue_told (tiles_of d.shape) t f b c [] [] [] g (move_of d s attempt) moves.operations;
        answer = answer_told (tiles_of d.shape) t f b c [] [] [] g (move_of d s attempt) moves.operations;
        service = service_told (tiles_of d.shape) t f b c _ before.bank.entries after.bank.entries g (move_of d s attempt) moves.entries homes;
        nothing = nothing_told (tiles_of d.shape) t f b c _ before.bank.entries after.bank.entries g (move_of d s attempt) moves.operations moves.entries;
      }
