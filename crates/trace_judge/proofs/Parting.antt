-- Slots for operations that the trace answers, and for those that it never does.
use Rattle.std.proofs.Common.{◌≡◌, ◌≢◌, ◌⊎◌, inl, inr, ⊎_elim, ℕ, zero, suc, ◌+◌, ◌-◌, ◌<◌, ◌≤◌, List, [], ◌∷◌, ◌++◌, length, Option, Some, None, refl, sym, ◌∙◌, ap, subst}
use Rattle.std.proofs.Common.{arith, slice_get, set, replicate, append-nil, append_assoc, add-one, MatchOption}
use Rattle.std.proofs.lemmas.Bool.{cases_eq, cases_lt}
use Rattle.std.proofs.lemmas.List.{length-replicate}
use Rattle.std.proofs.Common.{length-append}
use Rattle.std.specs.Prelude.{IsSome}
use Rattle.packet.specs.declared.kinds.Reply.{Reply}
use Rattle.trace_laws.specs.declared.event.Call.{Call}
use Rattle.trace_laws.specs.declared.event.Event.{Event}
use Rattle.trace_laws.specs.declared.event.Event.TheVariants.{Answer}
use Rattle.trace_laws.specs.Traces.{IsTrace, TraceIssuesAt, TraceAnswersAt, IsAnswered}
use Rattle.trace_laws.proofs.Issues.{one_issue}
use Rattle.trace_laws.proofs.Lists.{take_get, within_length, get_set_same, get_set_other, get_push_cases}
use Rattle.trace_laws.specs.declared.opened.Open.{Open}
use Rattle.trace_laws.specs.Searches.{IsAt}
use Rattle.trace_judge.specs.Stops.{IsBeginning}
use Rattle.trace_judge.specs.Slots.{IsPut, IsBegunSlot, IsFirstSlot, IsParted}

-- slots with nothing in them
pub pads_none : (table : List (Option Open)) → table ≡ table ++ replicate 0 None
pads_none table = sym (append-nil table)

replicate_push : (x : Option Open) (n : ℕ) → replicate n x ++ x ∷ [] ≡ replicate (suc n) x
replicate_push x zero = refl
replicate_push x (suc n) = ap (λ (ts : List (Option Open)). x ∷ ts) (replicate_push x n)

pub pads_more : (old table later : List (Option Open)) (n : ℕ) → table ≡ old ++ replicate n None
    → later ≡ table ++ None ∷ [] → later ≡ old ++ replicate (n + 1) None
pads_more old table later n was is =
    is ∙ (ap (λ (ts : List (Option Open)). ts ++ None ∷ []) was
    ∙ (append_assoc old (replicate n None) (None ∷ [])
    ∙ (ap (λ (ts : List (Option Open)). old ++ ts) (replicate_push None n)
    ∙ ap (λ (m : ℕ). old ++ replicate m None) (sym (add-one n)))))

no_some : (n s : ℕ) (o : Open) → slice_get (replicate n None) s ≡ Some (Some o) → ⊥
no_some zero s o h = cc
no_some (suc n) zero o h = cc
no_some (suc n) (suc s) o h = no_some n s o h

-- what stands in a longer list, stands in one of its parts
get_append_cases : {A : Type 0} (xs ys : List A) (k : ℕ) (x : A) → slice_get (xs ++ ys) k ≡ Some x
    → (slice_get xs k ≡ Some x) ⊎ ((j : ℕ) × (slice_get ys j ≡ Some x))
get_append_cases [] ys k x h = inr (k, h)
get_append_cases (z ∷ xs) ys zero x h = inl h
get_append_cases (z ∷ xs) ys (suc k) x h = get_append_cases xs ys k x h

padded_at : (table : List (Option Open)) (n s : ℕ) (o : Open) → IsAt (table ++ replicate n None) s o → IsAt table s o
padded_at table n s o h = ⊎_elim {C = IsAt table s o}
    (λ there. there)
    (λ (r : (j : ℕ) × (slice_get (replicate n None) j ≡ Some (Some o))). absurd (no_some n r.0 o r.1))
    (get_append_cases table (replicate n None) s (Some o) h)

-- what a beginning answers, the whole trace does
pub answer_on : (events whole : List Event) (i id : ℕ) (reply : Reply) → IsBeginning events whole
    → TraceAnswersAt events i id reply → TraceAnswersAt whole i id reply
answer_on events whole i id reply is h = (take_get is.0 whole i (Answer id reply)
    (subst (λ (es : List Event). TraceAnswersAt es i id reply) is.1 h)).1

-- and the other way, below its end
pub answer_back : (events whole : List Event) (i id : ℕ) (reply : Reply) → IsBeginning events whole → i < length events
    → TraceAnswersAt whole i id reply → TraceAnswersAt events i id reply
answer_back events whole i id reply is l h =
    let e = within_length events i l in
    let at = (take_get is.0 whole i e.0 (subst (λ (es : List Event). slice_get es i ≡ Some e.0) is.1 e.1)).1 in
    let same : e.0 ≡ Answer id reply = let there : slice_get whole i ≡ Some (Answer id reply) = h in cc in
    e.1 ∙ ap (λ (x : Event). Some x) same

-- where an operation is put, tells whether the whole trace answers it
pub begun_first : (words : ℕ) (events whole : List Event) (k : ℕ) (call : Call) (promise : Option Reply) (first : ℕ)
    → IsTrace words events → IsBeginning events whole → TraceIssuesAt events k call
    → MatchOption promise ((i : ℕ) (reply : Reply) → k + 1 ≤ i → TraceAnswersAt events i call.id reply → ⊥)
    (λ reply. (i : ℕ) × (k + 1 ≤ i) × TraceAnswersAt events i call.id reply)
    → IsBegunSlot whole (length events) call.id promise first → IsFirstSlot whole call.id first
begun_first words events whole k call promise first t is now tells begun = ⊎_elim {C = IsFirstSlot whole call.id first}
    (λ (r : (first ≡ 0) × (IsSome promise ⊎ IsAnswered whole call.id)). inl (
      r.0,
      ⊎_elim {C = IsAnswered whole call.id}
          (λ (some : IsSome promise). told promise some tells)
          (λ (a : IsAnswered whole call.id). a)
          r.1,
    ))
    (λ (r : (first ≡ 64) × (promise ≡ None) × ((i : ℕ) (reply : Reply) → length events ≤ i → TraceAnswersAt whole i call.id reply → ⊥)).
    inr (
      r.0,
      λ (a : IsAnswered whole call.id). ⊎_elim {C = ⊥}
          (λ (low : a.0 < length events). never r.1 a.0 a.1 (answer_back events whole a.0 call.id a.1 is low a.2))
          (λ (high : length events ≤ a.0). r.2 a.0 a.1 high a.2)
          (cases_lt a.0 (length events)),
    ))
    begun
  where
    told : (p : Option Reply) → IsSome p
        → MatchOption p ((i : ℕ) (reply : Reply) → k + 1 ≤ i → TraceAnswersAt events i call.id reply → ⊥)
        (λ reply. (i : ℕ) × (k + 1 ≤ i) × TraceAnswersAt events i call.id reply) → IsAnswered whole call.id
    told None some h = cc
    told (Some reply) some h = (h.0, reply, answer_on events whole h.0 call.id reply is h.2)

    never : promise ≡ None → (i : ℕ) (reply : Reply) → TraceAnswersAt events i call.id reply → ⊥
    never none i reply h =
        let late : (j : ℕ) (s : Reply) → k + 1 ≤ j → TraceAnswersAt events j call.id s → ⊥ =
        subst (λ (p : Option Reply). MatchOption p ((j : ℕ) (s : Reply) → k + 1 ≤ j → TraceAnswersAt events j call.id s → ⊥)
        (λ s. (j : ℕ) × (k + 1 ≤ j) × TraceAnswersAt events j call.id s)) none tells in
        ⊎_elim {C = ⊥}
        (λ (early : i < k + 1).
        let issue = t.issued i call.id reply h in
        let same = one_issue words events t issue.0 k issue.1 call issue.4 now issue.3 in
        let before = issue.2 in
        absurd (omega arith))
        (λ (l : k + 1 ≤ i). late i reply l h)
        (cases_lt i (k + 1))

-- a first slot is one of two
pub first_low : (whole : List Event) (id first : ℕ) → IsFirstSlot whole id first → first ≤ 64
first_low whole id first is = ⊎_elim {C = first ≤ 64}
    (λ (r : (first ≡ 0) × IsAnswered whole id). let e = r.0 in omega arith)
    (λ (r : (first ≡ 64) × (IsAnswered whole id → ⊥)). let e = r.0 in omega arith)
    is

parted_first : (whole : List Event) (id first s : ℕ) → IsFirstSlot whole id first → first ≤ s → s < first + 64 → IsParted whole s id
parted_first whole id first s is low high = ⊎_elim {C = IsParted whole s id}
    (λ (r : (first ≡ 0) × IsAnswered whole id). let e = r.0 in inl (omega arith, r.1))
    (λ (r : (first ≡ 64) × (IsAnswered whole id → ⊥)). let e = r.0 in inr (omega arith, r.1))
    is

-- operations are in their slots still, with one that is put
pub parted_put : (whole : List Event) (old new : List (Option Open)) (first : ℕ) (b : Open)
    → IsFirstSlot whole b.call.id first → IsPut old first b new
    → ((s : ℕ) (o : Open) → IsAt old s o → IsParted whole s o.call.id)
    → (s : ℕ) (o : Open) → IsAt new s o → IsParted whole s o.call.id
parted_put whole old new first b is put parted s o h = ⊎_elim {C = IsParted whole s o.call.id}
    (λ (r : (u : ℕ) × (first ≤ u) × (u < first + 64) × (slice_get old u ≡ Some None) × (new ≡ set old u (Some b))).
    let there : IsAt (set old r.0 (Some b)) s o = subst (λ (ts : List (Option Open)). IsAt ts s o) r.4 h in
    ⊎_elim {C = IsParted whole s o.call.id}
    (λ (e : s ≡ r.0).
    let same : Some o ≡ Some b = get_set_same old r.0 None (Some b) (Some o) r.3
    (ap (λ (n : ℕ). slice_get (set old r.0 (Some b)) n) (sym e) ∙ there) in
    let one : b ≡ o = cc in
    subst (λ (q : Open). IsParted whole s q.call.id) one
    (subst (λ (n : ℕ). IsParted whole n b.call.id) (sym e) (parted_first whole b.call.id first r.0 is r.1 r.2)))
    (λ (ne : s ≢ r.0). parted s o (sym (get_set_other old r.0 s (Some b) ne) ∙ there))
    (cases_eq s r.0))
    (λ (r : (length old < first + 64) × (new ≡ (old ++ replicate (first - length old) None) ++ Some b ∷ [])).
    let pads : List (Option Open) = replicate (first - length old) None in
    let there : slice_get ((old ++ pads) ++ Some b ∷ []) s ≡ Some (Some o) =
    subst (λ (ts : List (Option Open)). slice_get ts s ≡ Some (Some o)) r.1 h in
    ⊎_elim {C = IsParted whole s o.call.id}
    (λ (before : slice_get (old ++ pads) s ≡ Some (Some o)). parted s o (padded_at old (first - length old) s o before))
    (λ (q : (s ≡ length (old ++ pads)) × (Some b ≡ Some o)).
    let one : b ≡ o = let e = q.1 in cc in
    let long : length (old ++ pads) ≡ length old + (first - length old) =
    length-append old pads ∙ ap (λ (n : ℕ). length old + n) (length-replicate (first - length old) None) in
    let few = r.0 in
    let here = q.0 in
    subst (λ (q : Open). IsParted whole s q.call.id) one
    (parted_first whole b.call.id first s is (omega arith) (omega arith)))
    (get_push_cases (old ++ pads) (Some b) s (Some o) there))
    put

-- and without one that is answered
pub parted_freed : (whole : List Event) (old : List (Option Open)) (slot : ℕ) (a : Open) → IsAt old slot a
    → ((s : ℕ) (o : Open) → IsAt old s o → IsParted whole s o.call.id)
    → (s : ℕ) (o : Open) → IsAt (set old slot None) s o → IsParted whole s o.call.id
parted_freed whole old slot a there parted s o h = ⊎_elim {C = IsParted whole s o.call.id}
    (λ (e : s ≡ slot). absurd
    (let same : Some o ≡ None = get_set_same old slot (Some a) None (Some o) there
    (ap (λ (n : ℕ). slice_get (set old slot None) n) (sym e) ∙ h) in cc))
    (λ (ne : s ≢ slot). parted s o (sym (get_set_other old slot s None ne) ∙ h))
    (cases_eq s slot)

-- whether a place holds nothing
pub is_free : (table : List (Option Open)) (s : ℕ) (place : Option Open) → slice_get table s ≡ Some place
    → place ≡ None → slice_get table s ≡ Some None
is_free table s place at e = at ∙ ap (λ (p : Option Open). Some p) e

pub is_filled : (table : List (Option Open)) (s : ℕ) (place : Option Open) → slice_get table s ≡ Some place
    → (place ≡ None → ⊥) → slice_get table s ≡ Some None → ⊥
is_filled table s place at some h = some (let e : Some place ≡ Some None = sym at ∙ h in cc)
