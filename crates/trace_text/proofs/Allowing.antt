-- A trace with another answer at its end, as it is written and with places for addresses.
use Rattle.std.proofs.Common.{◌≡◌, ◌⊎◌, inl, inr, ⊎_elim, ℕ, ◌<◌, ◌≤◌, List, [], ◌∷◌, ◌++◌, length, Some, sym, ◌∙◌, ap, subst, arith, slice_get, take, map}
use Rattle.std.proofs.Common.{Bool, true, false}
use Rattle.std.specs.Prelude.{Vec, Option, None, Result, Ok, Err, MatchOption, is_some, is_ok, is_err, if◌then◌else◌}
use Rattle.std.proofs.lemmas.List.{map_push, length-take-le}
use Rattle.packet.specs.declared.kinds.Reply.{Reply}
use Rattle.trace_laws.specs.declared.event.Call.{Call}
use Rattle.trace_laws.specs.declared.event.Event.{Event}
use Rattle.trace_laws.specs.declared.event.Event.TheVariants.{Issue, Answer}
use Rattle.trace_laws.specs.Traces.{IsTrace, TraceIssuesAt, TraceAnswersAt}
use Rattle.trace_laws.specs.Orders.{IsOrder, IsLinearizable}
use Rattle.trace_laws.proofs.Lists.{get_push_cases, get_append_left, get_push, get_within, take_get, get_take}
use Rattle.trace_judge.specs.Stops.{IsUndecided, TellsMany}
use Rattle.trace_judge.specs.declared.undecided.Undecided.{Undecided}
use Rattle.trace_judge.specs.declared.undecided.Undecided.TheVariants as undecided
use Rattle.trace_text.specs.declared.linearize.Unfound.{Unfound}
use Rattle.trace_text.specs.Allowed.{answered_so, trace_answered_so, IsAllowed}
use Rattle.trace_text.specs.Findings.{place_of_address, placed_address, trace_read, unfound_at, IsUnfound}
use Rattle.trace_text.specs.Kept.{IsKeptIssue}
use Rattle.trace_text.specs.Renumbered.{moved_call, moved_event, IsRenumbering}
use Rattle.trace_text.specs.Traced.{TraceReading, opening_of}
use Rattle.trace_text.proofs.Found.{others, renumbering, line_is, crowd_in}
use Rattle.trace_text.proofs.Many.{many_back}
use Rattle.trace_text.proofs.Renumbered.{map_get, issue_back, answer_back, order_there, order_back}

-- what the trace with another answer issues is issued before it
pub issue_before : (trace : List Event) (n id : ℕ) (reply : Reply) (i : ℕ) (c : Call) → TraceIssuesAt (answered_so trace n id reply) i c
    → (i < n) × TraceIssuesAt trace i c
issue_before trace n id reply i c h = ⊎_elim
    (λ l. take_get n trace i (Issue c) l)
    (λ (r : (i ≡ length (take n trace)) × (Answer id reply ≡ Issue c)). absurd (let e = r.1 in cc))
    (get_push_cases (take n trace) (Answer id reply) i (Issue c) h)

pub issue_kept : (trace : List Event) (n id : ℕ) (reply : Reply) (i : ℕ) (c : Call) → i < n → TraceIssuesAt trace i c
    → TraceIssuesAt (answered_so trace n id reply) i c
issue_kept trace n id reply i c l h =
    get_append_left (take n trace) (Answer id reply ∷ []) i (Issue c) (get_take n trace i (Issue c) l h)

-- what it answers is answered in the trace, maybe otherwise
pub answer_before : (trace : List Event) (n id : ℕ) (reply told : Reply) → TraceAnswersAt trace n id told → (i other : ℕ) (r : Reply)
    → TraceAnswersAt (answered_so trace n id reply) i other r
    → ((i < n) × TraceAnswersAt trace i other r) ⊎ ((i ≡ n) × (other ≡ id) × (r ≡ reply))
answer_before trace n id reply told at i other r h =
    let low = get_within trace n (Answer id told) at in
    ⊎_elim
    (λ l. inl (take_get n trace i (Answer other r) l))
    (λ (e : (i ≡ length (take n trace)) × (Answer id reply ≡ Answer other r)).
    inr (e.0 ∙ length-take-le n trace (omega arith), (let f = e.1 in cc), (let f = e.1 in cc)))
    (get_push_cases (take n trace) (Answer id reply) i (Answer other r) h)

pub answer_kept : (trace : List Event) (n id : ℕ) (reply : Reply) (i other : ℕ) (r : Reply) → i < n → TraceAnswersAt trace i other r
    → TraceAnswersAt (answered_so trace n id reply) i other r
answer_kept trace n id reply i other r l h =
    get_append_left (take n trace) (Answer id reply ∷ []) i (Answer other r) (get_take n trace i (Answer other r) l h)

pub answer_last : (trace : List Event) (n id : ℕ) (reply told : Reply) → TraceAnswersAt trace n id told
    → TraceAnswersAt (answered_so trace n id reply) n id reply
answer_last trace n id reply told at =
    let low = get_within trace n (Answer id told) at in
    subst (λ (k : ℕ). slice_get (answered_so trace n id reply) k ≡ Some (Answer id reply)) (length-take-le n trace (omega arith))
    (get_push (take n trace) (Answer id reply))

-- an answer at its place in the trace itself
there : (trace : List Event) (n id : ℕ) (told : Reply) → TraceAnswersAt trace n id told → (i other : ℕ) (r reply : Reply)
    → ((i < n) × TraceAnswersAt trace i other r) ⊎ ((i ≡ n) × (other ≡ id) × (r ≡ reply))
    → (i ≤ n) × (s : Reply) × TraceAnswersAt trace i other s
there trace n id told at i other r reply h = ⊎_elim
    (λ (l : (i < n) × TraceAnswersAt trace i other r). (omega arith, r, l.1))
    (λ (e : (i ≡ n) × (other ≡ id) × (r ≡ reply)).
    let same = e.0 in (
      omega arith,
      told,
      subst (λ (k : ℕ). TraceAnswersAt trace k other told) (sym e.0) (subst (λ (k : ℕ). TraceAnswersAt trace n k told) (sym e.1) at),
    ))
    h

-- it is a trace
pub trace_answered : (words : ℕ) (trace : List Event) (n id : ℕ) (reply told : Reply) → IsTrace words trace → TraceAnswersAt trace n id told
    → IsTrace words (answered_so trace n id reply)
trace_answered words trace n id reply told t at =
    let back : (i other : ℕ) (r : Reply) → TraceAnswersAt (answered_so trace n id reply) i other r
    → (i ≤ n) × (s : Reply) × TraceAnswersAt trace i other s = λ i other r h.
    there trace n id told at i other r reply (answer_before trace n id reply told at i other r h) in
    record {
      rising = λ i j a b l h m.
          t.rising i j a b l (issue_before trace n id reply i a h).1 (issue_before trace n id reply j b m).1;
      issued = λ j other r h.
          let b = back j other r h in
          let early = b.0 in
          let w = t.issued j other b.1 b.2 in
          let before = w.2 in
          (w.0, w.1, w.2, w.3, issue_kept trace n id reply w.0 w.1 (omega arith) w.4);
      once = λ i j other r s h m.
          let a = back i other r h in
          let b = back j other s m in
          t.once i j other a.1 b.1 a.2 b.2;
      inside = λ i c h. t.inside i c (issue_before trace n id reply i c h).1;
    }

-- addresses have places there too
renumbering_answered : (place back : ℕ → ℕ) (opening words : List ℕ) (trace : List Event) (n id : ℕ) (reply : Reply)
    → IsRenumbering place back opening words trace → IsRenumbering place back opening words (answered_so trace n id reply)
renumbering_answered place back opening words trace n id reply r = record {
  inside = λ i c h. r.inside i c (issue_before trace n id reply i c h).1;
  placed = λ i c h. r.placed i c (issue_before trace n id reply i c h).1;
  word = λ i c h. r.word i c (issue_before trace n id reply i c h).1;
  inverse = λ i c h. r.inverse i c (issue_before trace n id reply i c h).1;
}

-- a trace with places is a trace
trace_placed : (place back : ℕ → ℕ) (opening words : List ℕ) (trace : List Event) (count : ℕ) → IsTrace count trace
    → IsRenumbering place back opening words trace → IsTrace (length words) (map (moved_event place) trace)
trace_placed place back opening words trace count t r = record {
  rising = λ i j a b l h m.
      let c = issue_back place trace i a h in
      let d = issue_back place trace j b m in
      let low = t.rising i j c.0 d.0 l c.1 d.1 in
      let e = ap (λ (x : Call). x.id) c.2 in
      let f = ap (λ (x : Call). x.id) d.2 in
      subst (λ (k : ℕ). k < b.id) e (subst (λ (k : ℕ). c.0.id < k) f low);
  issued = λ j id reply h.
      let w = t.issued j id reply (answer_back place trace j id reply h) in
      (w.0, moved_call place w.1, w.2, w.3, map_get (moved_event place) trace w.0 (Issue w.1) w.4);
  once = λ i j id s u h m.
      t.once i j id s u (answer_back place trace i id s h) (answer_back place trace j id u m);
  inside = λ i c h.
      let b = issue_back place trace i c h in
      let low = r.placed i b.0 b.1 in
      subst (λ (x : Call). x.operation.address < length words) b.2 low;
}

-- the events that the judge is given

pub given_is : (r : TraceReading) (n id : ℕ) (reply : Reply) (begun es : List Event)
    → begun ≡ map (moved_event (place_of_address r.places)) (take n r.events) → es ≡ begun ++ Answer id reply ∷ []
    → es ≡ map (moved_event (place_of_address r.places)) (answered_so r.events n id reply)
given_is r n id reply begun es b e =
    e ∙ (ap (λ (xs : List Event). xs ++ Answer id reply ∷ []) b
    ∙ sym (map_push (moved_event (place_of_address r.places)) (take n r.events) (Answer id reply)))

pub answered_given : (r : TraceReading) → IsKeptIssue r → (n id : ℕ) (reply told : Reply) → TraceAnswersAt r.events n id told → (ws : List ℕ) (es : List Event)
    → ws ≡ others r → es ≡ map (moved_event (place_of_address r.places)) (answered_so r.events n id reply) → IsTrace (length ws) es
answered_given r k n id reply told at ws es w e = rw (w, e)
    (trace_placed (place_of_address r.places) (placed_address r.addresses) (opening_of (trace_read r)) (others r) (answered_so r.events n id reply) r.head.words
    (trace_answered r.head.words r.events n id reply told k.trace at)
    (renumbering_answered (place_of_address r.places) (placed_address r.addresses) (opening_of (trace_read r)) (others r) r.events n id reply (renumbering r k)))

-- it is linearizable where it is with places
pub allowed_given : (r : TraceReading) → IsKeptIssue r → (n id : ℕ) (reply : Reply) (ws : List ℕ) (es : List Event)
    → ws ≡ others r → es ≡ map (moved_event (place_of_address r.places)) (answered_so r.events n id reply) → IsLinearizable ws es
    → IsAllowed (opening_of (trace_read r)) r.events n id reply
allowed_given r k n id reply ws es w e is =
    let back = placed_address r.addresses in
    let there = subst (λ (v : List ℕ). IsLinearizable v (map (moved_event (place_of_address r.places)) (answered_so r.events n id reply))) w
    (subst (λ (f : List Event). IsLinearizable ws f) e is) in (
      map (moved_call back) there.0,
      order_back (place_of_address r.places) back (opening_of (trace_read r)) (others r) (answered_so r.events n id reply)
          (renumbering_answered (place_of_address r.places) back (opening_of (trace_read r)) (others r) r.events n id reply (renumbering r k))
          there.0 there.1,
    )

pub given_allowed : (r : TraceReading) → IsKeptIssue r → (n id : ℕ) (reply : Reply) (ws : List ℕ) (es : List Event)
    → ws ≡ others r → es ≡ map (moved_event (place_of_address r.places)) (answered_so r.events n id reply)
    → IsAllowed (opening_of (trace_read r)) r.events n id reply → IsLinearizable ws es
given_allowed r k n id reply ws es w e is = rw (w, e) (
  map (moved_call (place_of_address r.places)) is.0,
  order_there (place_of_address r.places) (placed_address r.addresses) (opening_of (trace_read r)) (others r) (answered_so r.events n id reply)
      (renumbering_answered (place_of_address r.places) (placed_address r.addresses) (opening_of (trace_read r)) (others r) r.events n id reply (renumbering r k))
      is.0 is.1,
)

-- why it isn't decided, of the trace as it is written
not_decided : (r : TraceReading) → IsKeptIssue r → (n id : ℕ) (reply told : Reply) → TraceAnswersAt r.events n id told → (bound : ℕ) (why : Undecided)
    → IsUndecided (map (moved_event (place_of_address r.places)) (answered_so r.events n id reply)) why
    → TellsMany (others r) (map (moved_event (place_of_address r.places)) (answered_so r.events n id reply)) bound why
    → IsUnfound (trace_answered_so (trace_read r) n id reply) bound (unfound_at r.lines why)
not_decided r k n id reply told at bound undecided.Memory u many = tt
not_decided r k n id reply told at bound (undecided.Configurations event) u many =
    let a = answer_back (place_of_address r.places) (answered_so r.events n id reply) event u.0 u.1 u.2 in
    let early = (there r.events n id told at event u.0 u.1 reply (answer_before r.events n id reply told at event u.0 u.1 a)).0 in
    let low = get_within r.events n (Answer id told) at in (
      event,
      line_is r k event (omega arith),
      record {
        answer = (u.0, u.1, a);
        many = many_back (place_of_address r.places) (placed_address r.addresses) (opening_of (trace_read r)) (others r)
            (answered_so r.events n id reply) event bound
            (renumbering_answered (place_of_address r.places) (placed_address r.addresses) (opening_of (trace_read r)) (others r) r.events n id reply
            (renumbering r k)) many;
      },
    )
not_decided r k n id reply told at bound (undecided.Operations event) u many =
    let w = crowd_in (place_of_address r.places) (placed_address r.addresses) (opening_of (trace_read r)) (others r) (answered_so r.events n id reply)
    (renumbering_answered (place_of_address r.places) (placed_address r.addresses) (opening_of (trace_read r)) (others r) r.events n id reply (renumbering r k))
    event u in
    let early = (issue_before r.events n id reply event w.another w.issue).0 in
    let low = get_within r.events n (Answer id told) at in
    (event, line_is r k event (omega arith), w)

pub undecided_given : (r : TraceReading) → IsKeptIssue r → (n id : ℕ) (reply told : Reply) → TraceAnswersAt r.events n id told → (ws : List ℕ) (es : List Event)
    → ws ≡ others r → es ≡ map (moved_event (place_of_address r.places)) (answered_so r.events n id reply) → (bound : ℕ) (why : Undecided)
    (tells : Unfound) → IsUndecided es why → TellsMany ws es bound why → tells ≡ unfound_at r.lines why
    → IsUnfound (trace_answered_so (trace_read r) n id reply) bound tells
undecided_given r k n id reply told at ws es w e bound why tells u many is =
    let placed : List Event = map (moved_event (place_of_address r.places)) (answered_so r.events n id reply) in
    subst (λ (x : Unfound). IsUnfound (trace_answered_so (trace_read r) n id reply) bound x) (sym is)
    (not_decided r k n id reply told at bound why (subst (λ (f : List Event). IsUndecided f why) e u)
    (subst (λ (v : List ℕ). TellsMany v placed bound why) w (subst (λ (f : List Event). TellsMany ws f bound why) e many)))

-- a push that went well
pub pushed : {T E A : Type 0} (r : Result T E) (b : Bool) (new more old : List A) → b ≡ is_err r → b ≡ false
    → new ≡ (if is_ok r then more else old) → new ≡ more
pushed (Ok x) b new more old e f h = h
pushed (Err x) b new more old e f h = absurd (let g : true ≡ false = sym e ∙ f in cc)

-- what is decided
pub decided_yes : {A : Type 0} (ws : List ℕ) (es : List Event) (order : Option (Vec Call A)) (b : Bool) → b ≡ is_some order
    → MatchOption order (IsLinearizable ws es → ⊥) (λ o. IsOrder ws es o.items) → b ≡ true → IsLinearizable ws es
decided_yes ws es None b e m t = absurd (let g : false ≡ true = sym e ∙ t in cc)
decided_yes ws es (Some o) b e m t = (o.items, m)

pub decided_no : {A : Type 0} (ws : List ℕ) (es : List Event) (order : Option (Vec Call A)) (b : Bool) → b ≡ is_some order
    → MatchOption order (IsLinearizable ws es → ⊥) (λ o. IsOrder ws es o.items) → b ≡ false → IsLinearizable ws es → ⊥
decided_no ws es None b e m f = m
decided_no ws es (Some o) b e m f = λ is. let g : true ≡ false = sym e ∙ f in cc
