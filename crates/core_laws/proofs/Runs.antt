-- Every run from an accepted load is a history of events, in which the processors follow their scripts: what is left is that the steps that are no issue,
-- service or answer keep what holds.
use Rattle.std.proofs.Common.{◌≡◌, ⊎_elim, ℕ, zero, suc, ◌<◌, ◌≤◌, List, [], ◌∷◌, ◌++◌, map, length, slice_index_or, Option, Some, None, IfSome, refl, sym}
use Rattle.std.proofs.Common.{◌∙◌, ap, subst, arith, slice_get}
use Rattle.std.proofs.lemmas.Bool.{cases_lt}
use Rattle.std.proofs.lemmas.List.{append-nil}
use Rattle.std.proofs.lemmas.Option.{same_Some, get_or_from_slice_get}
use Rattle.torus.specs.Shape.{tiles_of, dims_of}
use Rattle.torus.specs.declared.step.Step.{Step}
use Rattle.packet.specs.declared.kinds.Operation.{Operation}
use Rattle.script_lines.specs.declared.line.Line.{Line}
use Rattle.script_lines.specs.Lines.{IsAcceptedScript as IsReadScript}
use Rattle.one_order.specs.Following.{Following, first_of, next_operation_of}
use Rattle.one_order.proofs.Shown.{followed}
use Rattle.one_order.specs.Observed.{Observed, list_at}
use Rattle.one_order.proofs.Lists.{list_at_none, within_length}
use Rattle.one_order.specs.Order.{LinearizationPoint}
use Rattle.one_order.specs.Events.{Event, happens, points_of, order_after, MayHappen, IsHistory}
use Rattle.wormhole.specs.Net.{IsNet}
use Rattle.one_order.specs.ProcessorRecord.{ProcessorRecord, no_processor}
use Rattle.one_order.specs.Flight.{Flight, Move, Sends, Serves, Takes, moved_by, flight_event, IsFound}
use Rattle.one_order.specs.AbstractScripts.{HasFollowed, FollowScripts}
use Rattle.one_order.proofs.Follows.{Follows, follows_first}
use Rattle.one_order.proofs.FollowsMoves.{follows_any}
use Rattle.tile.specs.Tile.{Design}
use Rattle.core_laws.specs.Core.{Load, State, design_of, first_tile, first_state, next, records_of, show, run_of}
use Rattle.core_laws.specs.Moves.{move_of}
use Rattle.core_laws.proofs.Projection.{net_of}
use Rattle.core_laws.proofs.Networks.{network}
use Rattle.core_laws.proofs.FlightSteps.{record_in, flight_with, flight_step}
use Rattle.core_laws.proofs.StepEvents.{found, is_event}
use Rattle.core_laws.proofs.Begins.{begins, first_shown}
use Rattle.core_laws.proofs.Histories.{move_at, next_at, state_at, event_at, after_more}
use Rattle.core_laws.proofs.Keeps.{keeps_step}
use Rattle.core_laws.proofs.Followed.{next_inside}
use Rattle.one_order.proofs.Followable.{accepted_followable}
use Rattle.core_laws.specs.Runs.{IsAcceptedLoad}
use Rattle.wormhole.specs.Events.{CanHappen}
use Rattle.core_laws.specs.Network.{network_event}
use Rattle.core_laws.specs.Noted.{noted_by, noted, event_by as network_by}
use Rattle.core_laws.proofs.QuietSteps.{Stays}
use Rattle.core_laws.proofs.Values.{HasValues, limited, values_first}
use Rattle.core_laws.proofs.ValuesProper.{ready_proper, reply_proper}
use Rattle.core_laws.proofs.ValuesKept.{values_kept}
use Rattle.core_laws.proofs.Stands.{Ghost, Stands, tile_at, flight_of}

-- what is left to be proved: a step that is no issue, service or answer keeps what holds
abbrev pub AreQuiet : Design → ℕ → List ℕ → Type 0
AreQuiet d tags opening = (s : State) (g : Ghost) (order : List LinearizationPoint) → Stands d tags opening s g order → HasValues d s
    → (attempt : Step) → move_of d s attempt ≡ None → Stays d tags opening g order (next d s attempt) (network_event d s attempt)

-- which event a move is depends on the records alone
event_same : (words : ℕ) (s : State) (g : Ghost) (m : Option Move) → flight_event (flight_of words s g) m ≡ flight_event (flight_with words s [] []) m
event_same words s g None = refl
event_same words s g (Some (Sends t tag o)) = refl
event_same words s g (Some (Serves r)) = refl
event_same words s g (Some (Takes r)) = refl

-- what the processor of a number follows
abbrev pub following_in : State → ℕ → Following
following_in s p = (slice_index_or (records_of s) p no_processor).following

first_following : (dims tags : ℕ) (scripts : List (List Line)) (p : ℕ) (lines : List Line) → slice_get scripts p ≡ Some lines
    → (slice_index_or (map record_in (map (first_tile dims tags) scripts)) p no_processor).following ≡ first_of lines
first_following dims tags [] p lines h = absurd (cc)
first_following dims tags (x ∷ scripts) zero lines h = ap first_of (same_Some x lines h)
first_following dims tags (x ∷ scripts) (suc p) lines h = first_following dims tags scripts p lines h

-- what holds after n steps
pub record HoldsIn (l : Load) (steps : List Step) (n : ℕ) : Type 0 where
  pub stands : Stands (design_of l) l.tags l.opening (state_at l steps n) (noted l steps n) (order_after (event_at l steps) n)
  pub values : HasValues (design_of l) (state_at l steps n)
  pub history : IsHistory (tiles_of l.shape) l.tags l.opening (run_of l steps) (event_at l steps) n
  pub follows : (p : ℕ) (lines : List Line) → slice_get l.scripts p ≡ Some lines → Follows (run_of l steps) n p lines (following_in (state_at l steps n) p)

-- one step more: of an attempt that is there, and of none
pub record Goes (l : Load) (n : ℕ) (s : State) (g : Ghost) (order : List LinearizationPoint) (attempt : Option Step) : Type 0 where
  pub stands : Stands (design_of l) l.tags l.opening (next_at (design_of l) s attempt)
      (noted_by (design_of l) s g (move_at (design_of l) s attempt) (network_by l s attempt))
      (order ++ points_of (flight_event (flight_with (length l.opening) s [] []) (move_at (design_of l) s attempt)) (suc n))
  pub values : HasValues (design_of l) (next_at (design_of l) s attempt)
  pub shown : show (length l.opening) (next_at (design_of l) s attempt)
      ≡ happens (tiles_of l.shape) (show (length l.opening) s) (flight_event (flight_with (length l.opening) s [] []) (move_at (design_of l) s attempt))
  pub may : MayHappen (tiles_of l.shape) l.tags l.opening (show (length l.opening) s) order
      (flight_event (flight_with (length l.opening) s [] []) (move_at (design_of l) s attempt))
  pub can : IfSome (network_by l s attempt) (CanHappen (net_of (design_of l)) g.net.lines)
  pub finds : (m : Move) → move_at (design_of l) s attempt ≡ Some m → IsFound (length l.opening) (flight_of (length l.opening) s g) m
  pub flight : flight_of (length l.opening) (next_at (design_of l) s attempt)
      (noted_by (design_of l) s g (move_at (design_of l) s attempt) (network_by l s attempt))
      ≡ moved_by (tiles_of l.shape) (flight_of (length l.opening) s g) (move_at (design_of l) s attempt)

module _ (l : Load) (ok : IsAcceptedLoad l) (quiet : AreQuiet (design_of l) l.tags l.opening) where
  abbrev d : Design
  d = design_of l

  net_is : IsNet (net_of d)
  net_is = network d ok.shape

  pub goes : (n : ℕ) (s : State) (g : Ghost) (order : List LinearizationPoint) → Stands d l.tags l.opening s g order → HasValues d s → (attempt : Option Step)
      → Goes l n s g order attempt
  goes n s g order st v None = record {
    stands = subst (λ (xs : List LinearizationPoint). Stands d l.tags l.opening s g xs) (sym (append-nil order)) st;
    values = v;
    shown = refl;
    may = tt;
    can = tt;
    finds = λ m h. absurd (cc);
    flight = refl;
  }
  goes n s g order st v (Some attempt) =
      let more = keeps_step d net_is l.tags l.opening s g order st (record {
        requests = ready_proper d l.tags (limited l ok) l.opening s g order st v;
        responses = reply_proper d l.tags (limited l ok) l.opening s g order st v;
        quiet = quiet s g order st v;
      }) (suc n) attempt in
      let addressed : (t : ℕ) (o : Operation) → t < tiles_of l.shape → next_operation_of (tile_at s t).processor.operations.following ≡ Some o
      → o.address < length l.opening =
      λ t o t_in is. (next_inside d.words 4096 (tile_at s t).processor.operations.following o (v.tiles t).followed is).0 in
      let e = is_event d net_is l.tags l.opening s g order st addressed attempt (suc n) in
      let same = event_same (length l.opening) s g (move_of d s attempt) in
      record {
        stands = subst (λ (x : Event). Stands d l.tags l.opening (next d s attempt) (noted_by d s g (move_of d s attempt) (network_event d s attempt))
            (order ++ points_of x (suc n))) same more.stands;
        can = more.may;
        values = values_kept d l.tags (limited l ok) l.opening s g order st v attempt;
        shown = e.shown ∙ ap (happens (tiles_of l.shape) (show (length l.opening) s)) same;
        may = subst (MayHappen (tiles_of l.shape) l.tags l.opening (show (length l.opening) s) order) same e.may;
        finds = λ m h. (found d net_is l.tags l.opening s g order st addressed attempt m h).0;
        flight = flight_step d s g.asked g.told attempt (λ m h. (found d net_is l.tags l.opening s g order st addressed attempt m h).1);
      }

  -- What holds at first and is kept by each step holds after any number of steps.
  pub holds_in : (steps : List Step) (n : ℕ) → HoldsIn l steps n
  holds_in steps zero = record {
    stands = begins l ok.depth.0 ok.processors;
    values = values_first l ok;
    history = record { start = first_shown l ok.depth.0 ok.processors; each = λ j h. absurd (omega arith); may = λ j h. absurd (omega arith) };
    follows = λ p lines there. subst (Follows (run_of l steps) 0 p lines) (sym (first_following (dims_of l.shape) l.tags l.scripts p lines there))
        (follows_first (run_of l steps) p lines
        (ap (λ (y : Observed). list_at y.issued p) (first_shown l ok.depth.0 ok.processors) ∙ list_at_none {A = Operation} (tiles_of l.shape) p));
  }
  holds_in steps (suc n) =
      let before = holds_in steps n in
      let s : State = state_at l steps n in
      let order = order_after (event_at l steps) n in
      let go = goes n s (noted l steps n) order before.stands before.values (slice_get steps n) in
      let now : state_at l steps (suc n) ≡ next_at d s (slice_get steps n) = after_more d steps (first_state l) n in
      record {
        stands = subst (λ (x : State). Stands d l.tags l.opening x (noted l steps (suc n)) (order_after (event_at l steps) (suc n))) (sym now) go.stands;
        values = subst (HasValues d) (sym now) go.values;
        history = record {
          start = before.history.start;
          each = λ j h. ⊎_elim
              (λ (below : j < n). before.history.each j below)
              (λ (above : n ≤ j). let e : n ≡ j = omega arith in
              subst (λ (x : ℕ). run_of l steps (suc x) ≡ happens (tiles_of l.shape) (run_of l steps x) (event_at l steps x)) e
              (ap (show (length l.opening)) now ∙ go.shown))
              (cases_lt j n);
          may = λ j h. ⊎_elim
              (λ (below : j < n). before.history.may j below)
              (λ (above : n ≤ j). let e : n ≡ j = omega arith in
              subst (λ (x : ℕ). MayHappen (tiles_of l.shape) l.tags l.opening (run_of l steps x) (order_after (event_at l steps) x) (event_at l steps x)) e
              go.may)
              (cases_lt j n);
        };
        follows = λ p lines there.
            let f : Flight = flight_of (length l.opening) s (noted l steps n) in
            let m : Option Move = move_at d s (slice_get steps n) in
            let same : flight_event f m ≡ event_at l steps n = event_same (length l.opening) s (noted l steps n) m in
            let happened : run_of l steps (suc n) ≡ happens (tiles_of l.shape) (run_of l steps n) (flight_event f m) =
            (ap (show (length l.opening)) now ∙ go.shown) ∙ ap (happens (tiles_of l.shape) (run_of l steps n)) (sym same) in
            let may : MayHappen (tiles_of l.shape) l.tags l.opening (run_of l steps n) order (flight_event f m) =
            subst (MayHappen (tiles_of l.shape) l.tags l.opening (run_of l steps n) order) (sym same) go.may in
            let new = follows_any (tiles_of l.shape) l.tags l.opening (run_of l steps) n f order refl before.stands.flight (event_at l steps) before.history m
            go.finds happened may p lines (before.follows p lines there) in
            subst (λ (x : State). Follows (run_of l steps) (suc n) p lines (following_in x p)) (sym now)
            (subst (λ (bs : List ProcessorRecord). Follows (run_of l steps) (suc n) p lines (slice_index_or bs p no_processor).following)
            (sym (ap (λ (x : Flight). x.processors) go.flight)) new);
      }

  -- Every run from an accepted load is a history, where the quiet steps keep what holds.
  pub run_is_history : (steps : List Step) (n : ℕ) → IsHistory (tiles_of l.shape) l.tags l.opening (run_of l steps) (event_at l steps) n
  run_is_history steps n = (holds_in steps n).history

  -- In every such run each processor follows its script.
  pub scripts_are_followed : (steps : List Step) (n : ℕ) → FollowScripts (run_of l steps) n l.scripts
  scripts_are_followed steps n = record {
    each = λ p below.
        let script = within_length l.scripts p below in
        let lines_are : list_at l.scripts p ≡ script.0 = get_or_from_slice_get l.scripts p script.0 [] script.1 in
        let f = (holds_in steps n).follows p script.0 script.1 in
        let read : IsReadScript (length l.opening) script.0 = subst (IsReadScript (length l.opening)) lines_are (ok.scripts.each p) in
        subst (HasFollowed (run_of l steps) n p) (sym lines_are)
        (record {
          ops = f.ops;
          are = f.are;
          follows = followed script.0 f.ops (following_in (state_at l steps n) p) (accepted_followable (length l.opening) script.0 read) f.shows;
        });
  }
