-- What is found of a trace with places for addresses is so of the trace as it is written.
use Rattle.std.proofs.Common.{◌≡◌, ℕ, zero, suc, ◌+◌, ◌<◌, List, [], ◌∷◌, length, Some, None, sym, ◌∙◌, ap, subst, arith, slice_get, take}
use Rattle.std.proofs.Common.{get_or, map}
use Rattle.std.specs.Prelude.{unwrap_or}
use Rattle.std.proofs.lemmas.List.{length-map}
use Rattle.std.proofs.lemmas.List.FromFn.{length-map-range_with_len, get_or-map-range_with_len}
use Rattle.packet.specs.declared.kinds.Reply.{Reply}
use Rattle.trace_laws.specs.declared.event.Call.{Call}
use Rattle.trace_laws.specs.declared.event.Event.{Event}
use Rattle.trace_laws.specs.declared.event.Event.TheVariants.{Issue, Answer}
use Rattle.trace_laws.specs.Traces.{IsTrace, TraceIssuesAt, TraceAnswersAt}
use Rattle.trace_laws.specs.Orders.{IsOrder, IsLinearizable}
use Rattle.trace_laws.proofs.Lists.{get_within, within_length}
use Rattle.trace_judge.specs.Stops.{IsAnswered, IsCrowded, IsAnAnswer, IsOpen, IsUndecided, TellsMany}
use Rattle.trace_judge.specs.declared.undecided.Undecided.{Undecided}
use Rattle.trace_judge.specs.declared.undecided.Undecided.TheVariants as undecided
use Rattle.std.specs.Prelude.{Vec}
use Rattle.trace_judge.specs.declared.judge.Verdict.{Verdict}
use Rattle.trace_judge.specs.declared.judge.Verdict.TheVariants.{Linearizable, No, NoBy}
use Rattle.trace_judge.specs.Verdicts.{IsBadByEvent, TellsTraceVerdict}
use Rattle.trace_text.specs.declared.linearize.Unfound.{Unfound}
use Rattle.trace_text.specs.Findings.{place_of_address, placed_address, opening_words_at, trace_read, unfound_at, IsBadBy, IsOpenAtLine, IsUnfound}
use Rattle.trace_text.specs.Kept.{IsKeptIssue}
use Rattle.trace_text.specs.Renumbered.{moved_call, moved_event, IsRenumbered, IsRenumbering}
use Rattle.trace_lines.specs.Head.{value_in}
use Rattle.trace_text.specs.Traced.{TraceReading, opening_of}
use Rattle.trace_text.proofs.Renumbered.{map_get, get_map, take_map, issue_back, answer_back, order_there, order_back, renumbering_take}
use Rattle.trace_text.proofs.Many.{many_back}

-- what stands at a place, as the code reads it
pub read_is : {A : Type 0} (xs : List A) (k : ℕ) (x d : A) → slice_get xs k ≡ Some x → get_or xs k d ≡ x
read_is [] k x d h = absurd (let e : None ≡ Some x = h in cc)
read_is (y ∷ ys) zero x d h = cc
read_is (y ∷ ys) (suc k) x d h = read_is ys k x d h

-- the events with places
abbrev pub moved : TraceReading → List Event
moved r = map (moved_event (place_of_address r.places)) r.events

-- the words with places
abbrev pub others : TraceReading → List ℕ
others r = opening_words_at r.head.inits r.addresses

abbrev word_at : TraceReading → ℕ → ℕ
word_at r a = unwrap_or (value_in r.head.inits a) 0

place_is : (r : TraceReading) (a p : ℕ) → value_in r.places a ≡ Some p → place_of_address r.places a ≡ p
place_is r a p h = ap (λ o. unwrap_or o 0) h

-- places are numbers of their own
pub renumbering : (r : TraceReading) → IsKeptIssue r
    → IsRenumbering (place_of_address r.places) (placed_address r.addresses) (opening_of (trace_read r)) (others r) r.events
renumbering r k = record {
  inside = λ i c h.
      let low = k.trace.inside i c h in
      let sized = length-map-range_with_len (word_at r) 0 r.head.words in
      omega arith;
  placed = λ i c h.
      let q = k.placed i c h in
      let low = get_within r.addresses q.0 c.operation.address (k.addressed c.operation.address q.0 q.1) in
      let sized = length-map r.addresses (word_at r) in
      subst (λ (n : ℕ). n < length (others r)) (sym (place_is r c.operation.address q.0 q.1)) (omega arith);
  word = λ i c h.
      let q = k.placed i c h in
      let at = k.addressed c.operation.address q.0 q.1 in
      let low = k.trace.inside i c h in
      ap (λ (n : ℕ). get_or (others r) n 0) (place_is r c.operation.address q.0 q.1)
      ∙ (read_is (others r) q.0 (word_at r c.operation.address) 0 (map_get (word_at r) r.addresses q.0 c.operation.address at)
      ∙ sym (get_or-map-range_with_len (word_at r) 0 r.head.words c.operation.address c.operation.address 0 low (omega arith)));
  inverse = λ i c h.
      let q = k.placed i c h in
      ap (placed_address r.addresses) (place_is r c.operation.address q.0 q.1)
      ∙ read_is r.addresses q.0 c.operation.address 0 (k.addressed c.operation.address q.0 q.1);
}

-- the events with places are a trace
pub trace_moved : (r : TraceReading) → IsKeptIssue r → IsTrace (length (others r)) (moved r)
trace_moved r k = record {
  rising = λ i j a b l h m.
      let c = issue_back (place_of_address r.places) r.events i a h in
      let d = issue_back (place_of_address r.places) r.events j b m in
      let low = k.trace.rising i j c.0 d.0 l c.1 d.1 in
      let e = ap (λ (x : Call). x.id) c.2 in
      let f = ap (λ (x : Call). x.id) d.2 in
      subst (λ (n : ℕ). n < b.id) e (subst (λ (n : ℕ). c.0.id < n) f low);
  issued = λ j id reply h.
      let w = k.trace.issued j id reply (answer_back (place_of_address r.places) r.events j id reply h) in
      (w.0, moved_call (place_of_address r.places) w.1, w.2, w.3, map_get (moved_event (place_of_address r.places)) r.events w.0 (Issue w.1) w.4);
  once = λ i j id s t h m.
      k.trace.once i j id s t (answer_back (place_of_address r.places) r.events i id s h) (answer_back (place_of_address r.places) r.events j id t m);
  inside = λ i c h.
      let b = issue_back (place_of_address r.places) r.events i c h in
      let low = (renumbering r k).placed i b.0 b.1 in
      subst (λ (x : Call). x.operation.address < length (others r)) b.2 low;
}

-- a yes
pub found_yes : (r : TraceReading) → IsKeptIssue r → (order : List Call) → IsOrder (others r) (moved r) order
    → IsOrder (opening_of (trace_read r)) r.events (map (moved_call (placed_address r.addresses)) order)
found_yes r k order o =
    order_back (place_of_address r.places) (placed_address r.addresses) (opening_of (trace_read r)) (others r) r.events (renumbering r k) order o

-- beginnings are linearizable together
beginning_back : (r : TraceReading) → IsKeptIssue r → (n : ℕ) → IsLinearizable (others r) (take n (moved r))
    → IsLinearizable (opening_of (trace_read r)) (take n r.events)
beginning_back r k n is =
    let place = place_of_address r.places in
    let back = placed_address r.addresses in
    let o : IsOrder (others r) (map (moved_event place) (take n r.events)) is.0 =
    subst (λ (t : List Event). IsOrder (others r) t is.0) (take_map (moved_event place) n r.events) is.1 in (
      map (moved_call back) is.0,
      order_back place back (opening_of (trace_read r)) (others r) (take n r.events)
          (renumbering_take place back (opening_of (trace_read r)) (others r) r.events n (renumbering r k)) is.0 o,
    )

beginning_there : (r : TraceReading) → IsKeptIssue r → (n : ℕ) → IsLinearizable (opening_of (trace_read r)) (take n r.events)
    → IsLinearizable (others r) (take n (moved r))
beginning_there r k n is =
    let place = place_of_address r.places in
    let back = placed_address r.addresses in (
      map (moved_call place) is.0,
      subst (λ (t : List Event). IsOrder (others r) t (map (moved_call place) is.0))
          (sym (take_map (moved_event place) n r.events))
          (order_there place back (opening_of (trace_read r)) (others r) (take n r.events)
          (renumbering_take place back (opening_of (trace_read r)) (others r) r.events n (renumbering r k)) is.0 is.1),
    )

-- the line of an event
pub line_is : (r : TraceReading) → IsKeptIssue r → (event : ℕ) → event < length r.events → slice_get r.lines event ≡ Some (get_or r.lines event 0)
line_is r k event low =
    let sized = k.lines in
    let at = within_length r.lines event (omega arith) in
    at.1 ∙ ap (λ (n : ℕ). Some n) (sym (read_is r.lines event at.0 0 at.1))

-- a no
pub found_no : (r : TraceReading) → IsKeptIssue r → (event : ℕ) → event < length (moved r) → IsLinearizable (others r) (take event (moved r))
    → (IsLinearizable (others r) (take (event + 1) (moved r)) → ⊥)
    → (e : ℕ) × (slice_get r.lines e ≡ Some (get_or r.lines event 0))
    × IsLinearizable (opening_of (trace_read r)) (take e r.events)
    × (IsLinearizable (opening_of (trace_read r)) (take (e + 1) r.events) → ⊥)
found_no r k event low good bad =
    let sized = length-map r.events (moved_event (place_of_address r.places)) in
    (event, line_is r k event (omega arith), beginning_back r k event good, λ is. bad (beginning_there r k (event + 1) is))

-- an answer of the events with places
answer_in : (r : TraceReading) (event : ℕ) → IsAnAnswer (moved r) event → IsAnAnswer r.events event
answer_in r event a =
    (a.0, a.1, answer_back (place_of_address r.places) r.events event a.0 a.1 a.2)

-- a crowd of the events with places
pub crowd_in : (place back : ℕ → ℕ) (opening words : List ℕ) (trace : List Event) → IsRenumbering place back opening words trace → (event : ℕ)
    → IsCrowded (map (moved_event place) trace) event → IsCrowded trace event
crowd_in place back opening words trace n event w =
    let issue : (i : ℕ) (c : Call) → TraceIssuesAt (map (moved_event place) trace) i c → TraceIssuesAt trace i (moved_call back c) = λ i c h.
    let b = issue_back place trace i c h in
    let inverse = n.inverse i b.0 b.1 in
    let same : moved_call back c ≡ b.0 =
    ap (moved_call back) (sym b.2) ∙ ap (λ (a : ℕ). record { id = b.0.id; operation = record { address = a; op = b.0.operation.op } }) inverse in
    subst (λ (x : Call). TraceIssuesAt trace i x) (sym same) b.1 in
    let forth : (i id : ℕ) (reply : Reply) → TraceAnswersAt trace i id reply → TraceAnswersAt (map (moved_event place) trace) i id reply =
    λ i id reply at. map_get (moved_event place) trace i (Answer id reply) at in
    let answered_forth : (id : ℕ) → IsAnswered trace id → IsAnswered (map (moved_event place) trace) id = λ id a. (a.0, a.1, forth a.0 id a.1 a.2) in
    let answered_back : (id : ℕ) → IsAnswered (map (moved_event place) trace) id → IsAnswered trace id =
    λ id a. (a.0, a.1, answer_back place trace a.0 id a.1 a.2) in
    record {
      calls = map (moved_call back) w.calls;
      many = length-map w.calls (moved_call back) ∙ w.many;
      issued = λ s c h.
          let g = get_map (moved_call back) w.calls s c h in
          let i = w.issued s g.0 g.1 in
          let at = issue i.0 g.0 i.2 in
          (i.0, i.1, subst (λ (x : Call). TraceIssuesAt trace i.0 x) g.2 at);
      pending = λ s c h i reply at.
          let g = get_map (moved_call back) w.calls s c h in
          let e = ap (λ (x : Call). x.id) g.2 in
          w.pending s g.0 g.1 i reply (forth i g.0.id reply (subst (λ (m : ℕ). TraceAnswersAt trace i m reply) (sym e) at));
      distinct = λ s u c d h m e.
          let g = get_map (moved_call back) w.calls s c h in
          let f = get_map (moved_call back) w.calls u d m in
          w.distinct s u g.0 f.0 g.1 f.1 (ap (λ (x : Call). x.id) g.2 ∙ (e ∙ sym (ap (λ (x : Call). x.id) f.2)));
      here = λ s c h.
          let g = get_map (moved_call back) w.calls s c h in
          ap (λ (x : Call). x.operation.address) (sym g.2) ∙ ap back (w.here s g.0 g.1);
      another = moved_call back w.another;
      issue = issue event w.another w.issue;
      later = λ s c h a.
          let g = get_map (moved_call back) w.calls s c h in
          subst (λ (n : ℕ). IsAnswered trace n) (ap (λ (x : Call). x.id) g.2)
          (answered_back g.0.id (w.later s g.0 g.1 (answered_forth w.another.id a)));
      never = λ s c h a.
          let g = get_map (moved_call back) w.calls s c h in
          answered_back w.another.id (w.never s g.0 g.1
          (answered_forth g.0.id (subst (λ (n : ℕ). IsAnswered trace n) (sym (ap (λ (x : Call). x.id) g.2)) a)));
    }

-- why it is not judged
pub unfound : (r : TraceReading) → IsKeptIssue r → (bound : ℕ) (why : Undecided) → IsUndecided (moved r) why → TellsMany (others r) (moved r) bound why
    → IsUnfound (trace_read r) bound (unfound_at r.lines why)
unfound r k bound undecided.Memory u many = tt
unfound r k bound (undecided.Configurations event) u many =
    let a = answer_in r event u in (
      event,
      line_is r k event (get_within r.events event (Answer a.0 a.1) a.2),
      record {
        answer = a;
        many = many_back (place_of_address r.places) (placed_address r.addresses) (opening_of (trace_read r)) (others r) r.events event bound
            (renumbering r k) many;
      },
    )
unfound r k bound (undecided.Operations event) u many =
    let w = crowd_in (place_of_address r.places) (placed_address r.addresses) (opening_of (trace_read r)) (others r) r.events (renumbering r k) event u in
    (event, line_is r k event (get_within r.events event (Issue w.another) w.issue), w)

-- why a beginning is not judged
open_in : (r : TraceReading) → IsKeptIssue r → (bound : ℕ) (why : Undecided) → IsOpen (others r) (moved r) bound why
    → IsOpenAtLine (trace_read r) bound (unfound_at r.lines why)
open_in r k bound undecided.Memory o = absurd o
open_in r k bound (undecided.Configurations event) o = unfound r k bound (undecided.Configurations event) o.0 o.1
open_in r k bound (undecided.Operations event) o = unfound r k bound (undecided.Operations event) o tt

-- a no, of which a beginning is not judged
bad_in : (r : TraceReading) → IsKeptIssue r → (bound event : ℕ) (why : Undecided) → IsBadByEvent (others r) (moved r) bound event why
    → (e : ℕ) × (slice_get r.lines e ≡ Some (get_or r.lines event 0)) × IsBadBy (trace_read r) bound e (unfound_at r.lines why)
bad_in r k bound event why bad =
    let sized = length-map r.events (moved_event (place_of_address r.places)) in
    let within = bad.none.1 in (
      event,
      line_is r k event (omega arith),
      record {
        none = λ is. bad.none.2 (beginning_there r k (event + 1) is);
        undecided = open_in r k bound why bad.undecided;
      },
    )

-- the words and the events that the judge was given are a trace
pub trace_given : (r : TraceReading) → IsKeptIssue r → (ws : List ℕ) (es : List Event) → ws ≡ others r → es ≡ moved r → IsTrace (length ws) es
trace_given r k ws es w e = rw (w, e) (trace_moved r k)

pub renumbered_given : (r : TraceReading) → IsKeptIssue r → (ws : List ℕ) (es : List Event) → ws ≡ others r → es ≡ moved r
    → IsRenumbered (trace_read r) ws es
renumbered_given r k ws es w e = record {
  place = place_of_address r.places;
  back = placed_address r.addresses;
  words = subst (λ (v : List ℕ). IsRenumbering (place_of_address r.places) (placed_address r.addresses) (opening_of (trace_read r)) v r.events)
      (sym w) (renumbering r k);
  is = e;
}

pub yes_given : (r : TraceReading) → IsKeptIssue r → (ws : List ℕ) (es : List Event) → ws ≡ others r → es ≡ moved r → (order named : List Call)
    → IsOrder ws es order → named ≡ map (moved_call (placed_address r.addresses)) order → IsOrder (opening_of (trace_read r)) r.events named
yes_given r k ws es w e order named o n =
    subst (λ (cs : List Call). IsOrder (opening_of (trace_read r)) r.events cs) (sym n)
    (found_yes r k order
    (subst (λ (v : List ℕ). IsOrder v (moved r) order) w (subst (λ (f : List Event). IsOrder ws f order) e o)))

pub no_given : (r : TraceReading) → IsKeptIssue r → (ws : List ℕ) (es : List Event) → ws ≡ others r → es ≡ moved r → (event line : ℕ)
    → (event < length es) × IsLinearizable ws (take event es) × (IsLinearizable ws (take (event + 1) es) → ⊥) → line ≡ get_or r.lines event 0
    → (n : ℕ) × (slice_get r.lines n ≡ Some line)
    × IsLinearizable (opening_of (trace_read r)) (take n r.events)
    × (IsLinearizable (opening_of (trace_read r)) (take (n + 1) r.events) → ⊥)
no_given r k ws es w e event line tells l =
    let moved_tells : (event < length (moved r)) × IsLinearizable (others r) (take event (moved r))
    × (IsLinearizable (others r) (take (event + 1) (moved r)) → ⊥) =
    subst (λ (v : List ℕ). (event < length (moved r)) × IsLinearizable v (take event (moved r)) × (IsLinearizable v (take (event + 1) (moved r)) → ⊥)) w
    (subst (λ (f : List Event). (event < length f) × IsLinearizable ws (take event f) × (IsLinearizable ws (take (event + 1) f) → ⊥)) e tells) in
    let found = found_no r k event moved_tells.0 moved_tells.1 moved_tells.2 in
    (found.0, found.1 ∙ ap (λ (n : ℕ). Some n) (sym l), found.2, found.3)

pub bad_given : (r : TraceReading) → IsKeptIssue r → (ws : List ℕ) (es : List Event) → ws ≡ others r → es ≡ moved r → (bound event line : ℕ)
    (why : Undecided) (told : Unfound) → IsBadByEvent ws es bound event why → line ≡ get_or r.lines event 0 → told ≡ unfound_at r.lines why
    → (n : ℕ) × (slice_get r.lines n ≡ Some line) × IsBadBy (trace_read r) bound n told
bad_given r k ws es w e bound event line why told bad l is =
    let found = bad_in r k bound event why
    (subst (λ (v : List ℕ). IsBadByEvent v (moved r) bound event why) w (subst (λ (f : List Event). IsBadByEvent ws f bound event why) e bad)) in
    (found.0, found.1 ∙ ap (λ (n : ℕ). Some n) (sym l), subst (λ (x : Unfound). IsBadBy (trace_read r) bound found.0 x) (sym is) found.2)

pub unfound_given : (r : TraceReading) → IsKeptIssue r → (ws : List ℕ) (es : List Event) → ws ≡ others r → es ≡ moved r → (bound : ℕ) (why : Undecided)
    (told : Unfound) → IsUndecided es why → TellsMany ws es bound why → told ≡ unfound_at r.lines why → IsUnfound (trace_read r) bound told
unfound_given r k ws es w e bound why told u many is =
    subst (λ (x : Unfound). IsUnfound (trace_read r) bound x) (sym is)
    (unfound r k bound why (subst (λ (f : List Event). IsUndecided f why) e u)
    (subst (λ (v : List ℕ). TellsMany v (moved r) bound why) w (subst (λ (f : List Event). TellsMany ws f bound why) e many)))

-- what a verdict tells, by its kind
pub yes_told : {A : Type 0} (ws : List ℕ) (es : List Event) (bound : ℕ) (verdict : Verdict A) (order : Vec Call A) → verdict ≡ Linearizable order
    → TellsTraceVerdict ws es bound verdict → IsOrder ws es order.items
yes_told {A} ws es bound verdict order is tells = subst (λ (v : Verdict A). TellsTraceVerdict ws es bound v) is tells

pub no_told : {A : Type 0} (ws : List ℕ) (es : List Event) (bound : ℕ) (verdict : Verdict A) (event : ℕ) → verdict ≡ No event
    → TellsTraceVerdict ws es bound verdict
    → (event < length es) × IsLinearizable ws (take event es) × (IsLinearizable ws (take (event + 1) es) → ⊥)
no_told {A} ws es bound verdict event is tells = subst (λ (v : Verdict A). TellsTraceVerdict ws es bound v) is tells

pub bad_told : {A : Type 0} (ws : List ℕ) (es : List Event) (bound : ℕ) (verdict : Verdict A) (event : ℕ) (why : Undecided)
    → verdict ≡ NoBy event why → TellsTraceVerdict ws es bound verdict → IsBadByEvent ws es bound event why
bad_told {A} ws es bound verdict event why is tells = subst (λ (v : Verdict A). TellsTraceVerdict ws es bound v) is tells
