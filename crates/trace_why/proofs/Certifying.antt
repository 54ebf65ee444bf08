-- A certificate of a word that holds in the first events of a trace.
use Rattle.std.proofs.Common.{◌≡◌, ℕ, ◌<◌, ◌≤◌, List, length, sym, subst, slice_index, take}
use Rattle.trace_laws.specs.declared.event.Call.{Call}
use Rattle.trace_laws.specs.declared.event.Event.{Event}
use Rattle.trace_laws.specs.Traces.{IsTrace, TraceIssuesAt}
use Rattle.trace_zones.specs.Conflicts.{IsConflict}
use Rattle.trace_zones.specs.declared.conflict.Conflict.{Conflict}
use Rattle.trace_zones.proofs.Certificates.{certified}
use Rattle.trace_judge.proofs.Boundary.{trace_take}
use Rattle.trace_text.specs.Traced.{TraceSpec, opening_of}
use Rattle.trace_text.proofs.Opening.{length-opening}
use Rattle.trace_why.specs.Certified.{IsCertified}

pub certifies : {A : Type 0} (t : TraceSpec) (events : List Event) (k first : ℕ) (call : Call) (initial : ℕ) (why : Conflict A)
    → events ≡ t.events → IsTrace t.words events → k ≤ length events → TraceIssuesAt events first call
    → initial ≡ slice_index (opening_of t) call.operation.address
    → IsConflict initial (take k events) call.operation.address why → IsCertified t k call.operation.address why
certifies {A} t events k first call initial why same trace l issue opens holds =
    let w : ℕ = call.operation.address in
    let inside : w < t.words = trace.inside first call issue in
    let own : IsTrace t.words t.events = subst (λ (es : List Event). IsTrace t.words es) same trace in
    let here : IsConflict (slice_index (opening_of t) w) (take k t.events) w why =
    subst (λ (es : List Event). IsConflict (slice_index (opening_of t) w) (take k es) w why) same
    (subst (λ (n : ℕ). IsConflict n (take k events) w why) opens holds) in
    record {
      inside = inside;
      within = subst (λ (es : List Event). k ≤ length es) same l;
      holds = here;
      none = certified (opening_of t) (take k t.events) w why
          (subst (λ (n : ℕ). IsTrace n (take k t.events)) (sym (length-opening t)) (trace_take t.words k t.events own))
          (subst (λ (n : ℕ). w < n) (sym (length-opening t)) inside) here;
    }
