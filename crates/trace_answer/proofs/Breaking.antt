-- The event up to which no order explains a trace, over other numbers of its words.
use Rattle.std.proofs.Common.{◌⊎◌, ⊎_elim, inl, inr, ℕ, ◌+◌, List, length, ◌∙◌, ap, arith, take}
use Rattle.std.proofs.lemmas.List.{length-map}
use Rattle.trace_judge.specs.declared.undecided.Undecided.{Undecided}
use Rattle.trace_judge.specs.Verdicts.{IsBadByEvent, IsFirstBadEvent}
use Rattle.trace_laws.specs.declared.event.Event.{Event}
use Rattle.trace_laws.specs.Orders.{IsLinearizable}
use Rattle.trace_text.specs.Renumbered.{IsRenumbered, moved_event}
use Rattle.trace_text.specs.Traced.{TraceSpec, opening_of}
use Rattle.trace_text.proofs.Renumbered.{renumbering_take, take_map}
use Rattle.trace_answer.specs.Parts.{IsBadEvent, IsBrokenAt, IsExplained, IsOpenTrace, IsUnshown, beginning_of}
use Rattle.trace_answer.proofs.Judging.{explained, unexplained}

-- what a verdict tells
pub no_is_bad : (opening : List ℕ) (events : List Event) (bound event : ℕ) → IsFirstBadEvent opening events event → IsBadEvent opening events bound event
no_is_bad opening events bound event f = record {
  none = let low = f.0 in (omega arith, omega arith, f.2);
  first = inl f.1;
}

pub by_is_bad : (opening : List ℕ) (events : List Event) (bound event : ℕ) (why : Undecided) → IsBadByEvent opening events bound event why
    → IsBadEvent opening events bound event
by_is_bad opening events bound event why b = record { none = b.none; first = inr (why, b.undecided) }

-- a beginning of a trace with other numbers of its words
renumbered_beginning : (t : TraceSpec) (opening : List ℕ) (events : List Event) (n : ℕ) → IsRenumbered t opening events
    → IsRenumbered (beginning_of n t) opening (take n events)
renumbered_beginning t opening events n r = record {
  place = r.place;
  back = r.back;
  words = renumbering_take r.place r.back (opening_of t) opening t.events n r.words;
  is = ap (take n) r.is ∙ take_map (moved_event r.place) n t.events;
}

-- a trace that has no order has none over other numbers
pub none_over : (t : TraceSpec) (opening : List ℕ) (events : List Event) → IsRenumbered t opening events
    → (IsExplained t → ⊥) → IsLinearizable opening events → ⊥
none_over t opening events r none is = none (explained t opening events r is.0 is.1)

-- the event up to which none explains it
pub broken_over : (t : TraceSpec) (opening : List ℕ) (events : List Event) (bound event : ℕ) → IsRenumbered t opening events
    → IsBadEvent opening events bound event → IsBrokenAt t bound event
broken_over t opening events bound event r bad = record {
  there = let long = ap length r.is ∙ length-map t.events (moved_event r.place) in let low = bad.none.1 in omega arith;
  none = unexplained (beginning_of (event + 1) t) opening (take (event + 1) events) (renumbered_beginning t opening events (event + 1) r) bad.none.2;
  first = ⊎_elim {C = IsExplained (beginning_of event t) ⊎ IsOpenTrace t bound}
      (λ (is : IsLinearizable opening (take event events)).
      inl (explained (beginning_of event t) opening (take event events) (renumbered_beginning t opening events event r) is.0 is.1))
      (λ (u : IsUnshown opening events bound). inr (record { opening = opening; events = events; named = r; unshown = u }))
      bad.first;
}
