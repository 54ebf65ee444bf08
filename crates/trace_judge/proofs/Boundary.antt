-- Between a beginning that is linearizable and one that isn't.
use Rattle.std.proofs.Common.{◌≡◌, ℕ, ◌+◌, ◌<◌, ◌≤◌, List, length, true, false, Option, Some, None, Vec, MatchOption, subst, sym, arith, take}
use Rattle.std.specs.Prelude.{is_some}
use Rattle.std.proofs.lemmas.List.{take_all}
use Rattle.trace_laws.specs.declared.event.Event.{Event}
use Rattle.trace_laws.specs.declared.event.Event.TheVariants.{Issue, Answer}
use Rattle.trace_laws.specs.Traces.{IsTrace}
use Rattle.trace_laws.specs.declared.event.Call.{Call}
use Rattle.trace_laws.specs.Orders.{IsOrder, IsLinearizable}
use Rattle.trace_laws.proofs.Lists.{get_take, take_get}
use Rattle.trace_judge.specs.Verdicts.{IsBadBeginning, IsGoodUntil}
use Rattle.trace_judge.specs.Stops.{IsBeginning}

-- a beginning of a trace is one
pub trace_take : (words n : ℕ) (trace : List Event) → IsTrace words trace → IsTrace words (take n trace)
trace_take words n trace t = record {
  rising = λ i j a b l h k. t.rising i j a b l (take_get n trace i (Issue a) h).1 (take_get n trace j (Issue b) k).1;
  issued = λ j id reply h.
      let at = take_get n trace j (Answer id reply) h in
      let low = at.0 in
      let r = t.issued j id reply at.1 in
      let l = r.2 in
      (r.0, r.1, l, r.3, get_take n trace r.0 (Issue r.1) (omega arith) r.4);
  once = λ i j id r s h k. t.once i j id r s (take_get n trace i (Answer id r) h).1
      (take_get n trace j (Answer id s) k).1;
  inside = λ i call h. t.inside i call (take_get n trace i (Issue call) h).1;
}

pub record Boundary (opening : List ℕ) (trace : List Event) (good bad : ℕ) : Type 0 where
  pub apart : good < bad
  pub within : bad ≤ length trace
  pub before : IsLinearizable opening (take good trace)
  pub behind : IsLinearizable opening (take bad trace) → ⊥

-- the trace is not, and what comes before an event is
pub boundary_from : (opening : List ℕ) (trace : List Event) (event : ℕ) → (IsLinearizable opening trace → ⊥)
    → IsGoodUntil opening trace event → Boundary opening trace event (length trace)
boundary_from opening trace event not_so good = record {
  apart = good.0;
  within = omega arith;
  before = good.1;
  behind = λ is. not_so
      (subst (λ (t : List Event). IsLinearizable opening t) (take_all (length trace) trace (omega arith)) is);
}

pub boundary_good : (opening : List ℕ) (trace : List Event) (good bad middle : ℕ) → middle < bad
    → IsLinearizable opening (take middle trace) → Boundary opening trace good bad
    → Boundary opening trace middle bad
boundary_good opening trace good bad middle l is was = record { apart = l; within = was.within; before = is; behind = was.behind }

pub boundary_bad : (opening : List ℕ) (trace : List Event) (good bad middle : ℕ) → good < middle → middle ≤ bad
    → (IsLinearizable opening (take middle trace) → ⊥) → Boundary opening trace good bad
    → Boundary opening trace good middle
boundary_bad opening trace good bad middle l m not_so was =
    record { apart = l; within = let w = was.within in omega arith; before = was.before; behind = not_so }

-- a beginning of so many events is judged: it is the good one, or the bad one
pub boundary_judged : {A : Type 0} (opening : List ℕ) (trace : List Event) (good bad middle : ℕ) (found : Option (Vec Call A))
    → good < middle → middle < bad → MatchOption found (IsLinearizable opening (take middle trace) → ⊥)
    (λ order. IsOrder opening (take middle trace) order.items) → Boundary opening trace good bad
    → (is_some found ≡ true → Boundary opening trace middle bad) × (is_some found ≡ false → Boundary opening trace good middle)
boundary_judged {A} opening trace good bad middle (Some order) low high tells was = (
  λ e. boundary_good opening trace good bad middle high (order.items, tells) was,
  λ e. absurd (let no : true ≡ false = e in cc (no)),
)
boundary_judged {A} opening trace good bad middle None low high tells was = (
  λ e. absurd (let no : false ≡ true = e in cc (no)),
  λ e. boundary_bad opening trace good bad middle low (omega arith) tells was,
)

pub boundary_found : (opening : List ℕ) (trace : List Event) (good bad : ℕ) → bad ≤ good + 1
    → Boundary opening trace good bad
    → (good < length trace) × IsLinearizable opening (take good trace) ×
    (IsLinearizable opening (take (good + 1) trace) → ⊥)
boundary_found opening trace good bad l was =
    let a = was.apart in
    let w = was.within in
    let e : bad ≡ good + 1 = omega arith in
    (omega arith, was.before, subst (λ (n : ℕ). IsLinearizable opening (take n trace) → ⊥) e was.behind)

pub boundary_behind : (opening : List ℕ) (trace : List Event) (good bad : ℕ) → Boundary opening trace good bad
    → IsBadBeginning opening trace bad
boundary_behind opening trace good bad was =
    let a = was.apart in
    let w = was.within in
    (omega arith, omega arith, was.behind)

-- a trace is a beginning of itself
pub whole_beginning : (trace : List Event) → IsBeginning trace trace
whole_beginning trace = (length trace, sym (take_all (length trace) trace (omega arith)))
