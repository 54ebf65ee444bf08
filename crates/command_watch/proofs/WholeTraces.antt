-- A trace that is watched to its end.
use Rattle.std.proofs.Common.{◌≡◌, ◌<◌, ◌+◌, ℕ, suc, List, [], ◌∷◌, ◌++◌, None, Some, length, map, take, ap, sym, subst, ◌∙◌, refl, slice_get, get_or, arith}
use Rattle.std.specs.Prelude.{Option}
use Rattle.std.specs.List.{slice_index_or}
use Rattle.packet.specs.declared.kinds.Reply.{Reply}
use Rattle.trace_laws.specs.declared.event.Call.{Call}
use Rattle.trace_laws.specs.declared.event.Event.{Event}
use Rattle.trace_laws.specs.Orders.{IsOrder, IsLinearizable}
use Rattle.trace_laws.specs.Traces.{IsTrace}
use Rattle.trace_laws.proofs.Lists.{get_within, take_push, within_length}
use Rattle.trace_judge.proofs.Boundary.{trace_take}
use Rattle.trace_text.specs.Renumbered.{IsRenumbered, IsRenumbering, moved_call, moved_event}
use Rattle.trace_text.specs.Traced.{TraceSpec, opening_of}
use Rattle.trace_text.proofs.Found.{read_is}
use Rattle.trace_text.proofs.Renumbered.{get_map, order_back, order_there, renumbering_take, take_map}
use Rattle.trace_watch.specs.declared.watch.Watch.{Watch}
use Rattle.trace_watch.specs.declared.watch.Seen.TheVariants.{Linearizable, NotLinearizable, NoTrace}
use Rattle.trace_watch.specs.Follows.{AnswersMany, Tracks, TellsSeen}
use Rattle.command_watch.specs.declared.whole.Halt.{Halt}
use Rattle.command_watch.specs.declared.whole.Halt.TheVariants as halt
use Rattle.command_watch.specs.declared.whole.Watched.{Watched}
use Rattle.command_watch.specs.Whole.{AnswersManyAt, CrowdsWord, EndsOrders, TellsHalt, TellsWatched, watched_of}

-- no operation explains no event
pub none_seen : (opening : List ℕ) → IsLinearizable opening []
none_seen opening = (
  [],
  record {
    once = λ x y c d h k e. absurd (let n : None ≡ Some c = h in cc);
    issued = λ x c h. absurd (let n : None ≡ Some c = h in cc);
    answered = λ i id reply h. absurd (cc);
    real_time = λ i j x y c d reply l h m k n. absurd (cc);
    replies = λ i x c reply h m. absurd (let n : None ≡ Some c = h in cc);
  },
)

-- a beginning of the moved trace, and of the trace
back_of : (t : TraceSpec) (opening : List ℕ) (events : List Event) → IsRenumbered t opening events → (n : ℕ)
    → IsLinearizable opening (take n events) → IsLinearizable (opening_of t) (take n t.events)
back_of t opening events r n is =
    let moved : IsOrder opening (map (moved_event r.place) (take n t.events)) is.0 =
    subst (λ (es : List Event). IsOrder opening es is.0) (ap (take n) r.is ∙ take_map (moved_event r.place) n t.events) is.1 in (
      map (moved_call r.back) is.0,
      order_back r.place r.back (opening_of t) opening (take n t.events)
          (renumbering_take r.place r.back (opening_of t) opening t.events n r.words) is.0 moved,
    )

there_of : (t : TraceSpec) (opening : List ℕ) (events : List Event) → IsRenumbered t opening events → (n : ℕ)
    → IsLinearizable (opening_of t) (take n t.events) → IsLinearizable opening (take n events)
there_of t opening events r n is = (
  map (moved_call r.place) is.0,
  subst (λ (es : List Event). IsOrder opening es (map (moved_call r.place) is.0))
      (sym (ap (take n) r.is ∙ take_map (moved_event r.place) n t.events))
      (order_there r.place r.back (opening_of t) opening (take n t.events)
      (renumbering_take r.place r.back (opening_of t) opening t.events n r.words) is.0 is.1),
)

-- the line of an event of the moved trace
line_of : (t : TraceSpec) (opening : List ℕ) (events : List Event) → IsRenumbered t opening events → length t.lines ≡ length t.events
    → (k line : ℕ) (e : Event) → slice_get events k ≡ Some e → line ≡ slice_index_or t.lines k 0 → slice_get t.lines k ≡ Some line
line_of t opening events r sized k line e at is =
    let there = get_map (moved_event r.place) t.events k e (ap (λ (es : List Event). slice_get es k) (sym r.is) ∙ at) in
    let low = get_within t.events k there.0 there.1 in
    let found = within_length t.lines k (omega arith) in
    found.1 ∙ ap (λ (n : ℕ). Some n) (sym (is ∙ read_is t.lines k found.0 0 found.1))

-- what a watch of the moved trace tells of the trace
all_watched : (t : TraceSpec) (opening : List ℕ) (events : List Event) → IsRenumbered t opening events → IsLinearizable opening events
    → IsLinearizable (opening_of t) t.events
all_watched t opening events r is = (
  map (moved_call r.back) is.0,
  order_back r.place r.back (opening_of t) opening t.events r.words is.0 (subst (λ (es : List Event). IsOrder opening es is.0) r.is is.1),
)

no_watched : (t : TraceSpec) (opening : List ℕ) (events : List Event) → IsRenumbered t opening events → length t.lines ≡ length t.events
    → (k line : ℕ) → line ≡ slice_index_or t.lines k 0 → EndsOrders opening events k
    → (n : ℕ) × (slice_get t.lines n ≡ Some line) × EndsOrders (opening_of t) t.events n
no_watched t opening events r sized k line is ends =
    let there = get_map (moved_event r.place) t.events k ends.event (ap (λ (es : List Event). slice_get es k) (sym r.is) ∙ ends.there) in (
      k,
      line_of t opening events r sized k line ends.event ends.there is,
      record {
        event = there.0;
        there = there.1;
        before = back_of t opening events r k ends.before;
        none = λ more. ends.none (there_of t opening events r (k + 1) more);
      },
    )

many_watched : (t : TraceSpec) (opening : List ℕ) (events : List Event) → IsRenumbered t opening events → length t.lines ≡ length t.events
    → (bound k line : ℕ) → line ≡ slice_index_or t.lines k 0 → AnswersManyAt opening events bound k
    → (n : ℕ) × (slice_get t.lines n ≡ Some line) × CrowdsWord t bound n
many_watched t opening events r sized bound k line is many = (
  k,
  line_of t opening events r sized k line many.event many.there is,
  record { opening = opening; events = events; same = r; many = many },
)

-- a beginning and the next event
next_event : (trace : List Event) (k : ℕ) (e : Event) → slice_get trace k ≡ Some e → take (k + 1) trace ≡ take k trace ++ e ∷ []
next_event trace k e h =
    let more : k + 1 ≡ suc k = omega arith in
    ap (λ (n : ℕ). take n trace) more ∙ take_push trace k e h

-- what stands at a place
pub event_at : (trace : List Event) (k : ℕ) (other : Event) → k < length trace → slice_get trace k ≡ Some (get_or trace k other)
event_at trace k other low =
    let found = within_length trace k low in
    found.1 ∙ ap (λ (e : Event). Some e) (sym (read_is trace k found.0 other found.1))

-- an event is taken
pub event_taken : {A : Type 0} (opening : List ℕ) (trace : List Event) (k : ℕ) (e : Event) (watch : Watch A) → slice_get trace k ≡ Some e
    → TellsSeen opening (take k trace) e watch Linearizable
    → Tracks opening (take (k + 1) trace) watch × IsLinearizable opening (take (k + 1) trace)
event_taken {A} opening trace k e watch h tells =
    subst (λ (es : List Event). Tracks {A = A} opening es watch × IsLinearizable opening es) (sym (next_event trace k e h)) tells

-- it ends all orders
pub event_refused : {A : Type 0} (opening : List ℕ) (trace : List Event) (k : ℕ) (e : Event) (watch : Watch A) → slice_get trace k ≡ Some e
    → TellsSeen opening (take k trace) e watch NotLinearizable → EndsOrders opening trace k
event_refused opening trace k e watch h tells = record {
  event = e;
  there = h;
  before = tells.2;
  none = λ is. tells.3 (subst (IsLinearizable opening) (next_event trace k e h) is);
}

-- it is one of a trace
pub event_fits : {A : Type 0} (opening : List ℕ) (trace : List Event) → IsTrace (length opening) trace → (k : ℕ) (e : Event) (watch : Watch A)
    → slice_get trace k ≡ Some e → TellsSeen opening (take k trace) e watch NoTrace → ⊥
event_fits opening trace t k e watch h tells =
    tells.1 (subst (IsTrace (length opening)) (next_event trace k e h) (trace_take (length opening) (k + 1) trace t))

-- what is told of equal words and events
tells_of : (ws opening : List ℕ) (es events : List Event) (bound : ℕ) (halt : Option Halt) → ws ≡ opening → es ≡ events
    → TellsHalt ws es bound halt → TellsHalt opening events bound halt
tells_of ws opening es events bound halt w e tells =
    subst (λ (v : List ℕ). TellsHalt v events bound halt) w (subst (λ (f : List Event). TellsHalt ws f bound halt) e tells)

-- what is told of a watch is told of the trace
told_of : (t : TraceSpec) (opening : List ℕ) (events : List Event) → IsRenumbered t opening events → length t.lines ≡ length t.events
    → (bound : ℕ) (halt : Option Halt) → TellsHalt opening events bound halt → TellsWatched t bound (watched_of t.lines halt)
told_of t opening events r sized bound None tells = all_watched t opening events r tells
told_of t opening events r sized bound (Some (halt.NoOrder k)) tells = no_watched t opening events r sized k (slice_index_or t.lines k 0) refl tells
told_of t opening events r sized bound (Some (halt.TooMany k)) tells =
    many_watched t opening events r sized bound k (slice_index_or t.lines k 0) refl tells

pub whole_watched : (t : TraceSpec) (opening ws : List ℕ) (events es : List Event) → IsRenumbered t opening events → length t.lines ≡ length t.events
    → (bound : ℕ) (halt : Option Halt) → ws ≡ opening → es ≡ events → TellsHalt ws es bound halt → (lines : List ℕ) → lines ≡ t.lines
    → (watched : Watched) → watched ≡ watched_of lines halt → TellsWatched t bound watched
whole_watched t opening ws events es r sized bound halt w e tells lines l watched is =
    let same : watched ≡ watched_of t.lines halt = is ∙ ap (λ (ls : List ℕ). watched_of ls halt) l in
    subst (TellsWatched t bound) (sym same) (told_of t opening events r sized bound halt (tells_of ws opening es events bound halt w e tells))
