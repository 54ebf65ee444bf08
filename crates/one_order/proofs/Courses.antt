-- Courses of a flight are histories of events, in which the processors follow their scripts.
use Rattle.std.proofs.Common.{◌≡◌, ⊎_elim, ℕ, zero, suc, ◌<◌, ◌≤◌, List, [], length, Option, Some, refl, sym, ◌∙◌, ap}
use Rattle.std.proofs.Common.{subst, arith, slice_get}
use Rattle.std.proofs.lemmas.Bool.{cases_lt}
use Rattle.std.proofs.lemmas.Option.{get_or_from_slice_get}
use Rattle.packet.specs.declared.kinds.Operation.{Operation}
use Rattle.script_lines.specs.declared.line.Line.{Line}
use Rattle.one_order.specs.Scripts.{IsFollowable}
use Rattle.one_order.proofs.Shown.{followed}
use Rattle.one_order.specs.Observed.{Observed, list_at}
use Rattle.one_order.specs.Order.{LinearizationPoint}
use Rattle.one_order.specs.Events.{happens, order_after, IsHistory, MayHappen}
use Rattle.one_order.proofs.Lists.{list_at_none, within_length}
use Rattle.one_order.specs.Flight.{Flight, Move, IsFound, processor_at, moved_by, show}
use Rattle.one_order.specs.Courses.{IsCourse, course_run, events_of}
use Rattle.one_order.specs.AbstractScripts.{HasFollowed, FollowScripts}
use Rattle.one_order.proofs.Whole.{Whole, any_steps}
use Rattle.one_order.proofs.Follows.{Follows, follows_first}
use Rattle.one_order.proofs.FollowsMoves.{follows_any}
use Rattle.one_order.proofs.First.{first_shown, first_whole, first_following}

module _ (tiles tags : ℕ) (opening : List ℕ) (scripts : List (List Line)) (flight : ℕ → Flight) (move : ℕ → Option Move) where
  -- fewer steps of a course are one
  pub shorter : (n : ℕ) → IsCourse tiles tags opening scripts flight move (suc n) → IsCourse tiles tags opening scripts flight move n
  shorter n c = record {
    processors = c.processors;
    start = c.start;
    each = λ k h. c.each k (omega arith);
    found = λ k m h e. c.found k m (omega arith) e;
  }

  -- what holds after n steps
  pub record HoldsAt (n : ℕ) : Type 0 where
    pub whole : Whole tiles tags opening (flight n) (order_after (events_of flight move) n)
    pub history : IsHistory tiles tags opening (course_run flight) (events_of flight move) n
    pub follows : (p : ℕ) (lines : List Line) → slice_get scripts p ≡ Some lines
        → Follows (course_run flight) n p lines (processor_at (flight n) p).following

  pub holds_at : (n : ℕ) → IsCourse tiles tags opening scripts flight move n → HoldsAt n
  holds_at zero c =
      let shown = ap show c.start ∙ first_shown tiles tags opening scripts c.processors in
      record {
        whole = subst (λ (f : Flight). Whole tiles tags opening f []) (sym c.start) (first_whole tiles tags opening scripts c.processors);
        history = record { start = shown; each = λ j h. absurd (omega arith); may = λ j h. absurd (omega arith) };
        follows = λ p lines there.
            subst (Follows (course_run flight) 0 p lines)
            (sym (ap (λ (f : Flight). (processor_at f p).following) c.start ∙ first_following tags scripts p lines there))
            (follows_first (course_run flight) p lines (ap (λ (y : Observed). list_at y.issued p) shown ∙ list_at_none {A = Operation} tiles p));
      }
  holds_at (suc n) c =
      let before = holds_at n (shorter n c) in
      let f : Flight = flight n in
      let m : Option Move = move n in
      let order : List LinearizationPoint = order_after (events_of flight move) n in
      let found : (x : Move) → m ≡ Some x → IsFound (length opening) f x = λ x e. c.found n x (omega arith) e in
      let goes = any_steps tiles tags opening f order (suc n) m before.whole found in
      let now : flight (suc n) ≡ moved_by tiles f m = c.each n (omega arith) in
      let happened : course_run flight (suc n) ≡ happens tiles (course_run flight n) (events_of flight move n) = ap show now ∙ goes.shown in
      record {
        whole = subst (λ (x : Flight). Whole tiles tags opening x (order_after (events_of flight move) (suc n))) (sym now) goes.whole;
        history = record {
          start = before.history.start;
          each = λ j h. ⊎_elim
              (λ (below : j < n). before.history.each j below)
              (λ (above : n ≤ j).
              let e : n ≡ j = omega arith in
              subst (λ (x : ℕ). course_run flight (suc x) ≡ happens tiles (course_run flight x) (events_of flight move x)) e happened)
              (cases_lt j n);
          may = λ j h. ⊎_elim
              (λ (below : j < n). before.history.may j below)
              (λ (above : n ≤ j).
              let e : n ≡ j = omega arith in
              subst (λ (x : ℕ). MayHappen tiles tags opening (course_run flight x) (order_after (events_of flight move) x) (events_of flight move x)) e goes.may)
              (cases_lt j n);
        };
        follows = λ p lines there.
            subst (λ (x : Flight). Follows (course_run flight) (suc n) p lines (processor_at x p).following) (sym now)
            (follows_any tiles tags opening (course_run flight) n f order refl before.whole (events_of flight move) before.history m found happened goes.may p lines
            (before.follows p lines there));
      }

  pub scripts_followed : (n : ℕ) → IsCourse tiles tags opening scripts flight move n
      → ((p : ℕ) → p < length scripts → IsFollowable (list_at scripts p)) → FollowScripts (course_run flight) n scripts
  scripts_followed n c accepted = record {
    each = λ p below.
        let script = within_length scripts p below in
        let lines_are : list_at scripts p ≡ script.0 = get_or_from_slice_get scripts p script.0 [] script.1 in
        let f = (holds_at n c).follows p script.0 script.1 in
        let good : IsFollowable script.0 = subst IsFollowable lines_are (accepted p below) in
        subst (HasFollowed (course_run flight) n p) (sym lines_are)
        (record { ops = f.ops; are = f.are; follows = followed script.0 f.ops (processor_at (flight n) p).following good f.shows });
  }
