-- What a certificate says, as the laws have it.
use Rattle.std.proofs.Common.{◌≡◌, inl, inr, ℕ, Bool, ◌<◌, List, None, Some, length, sym, ◌∙◌, subst, slice_index}
use Rattle.std.proofs.lemmas.Option.{same_Some}
use Rattle.trace_laws.specs.declared.event.Call.{Call}
use Rattle.trace_laws.specs.declared.event.Event.{Event}
use Rattle.trace_laws.specs.declared.event.Event.TheVariants.{Issue}
use Rattle.trace_laws.specs.Traces.{IsTrace, TraceIssuesAt, TraceAnswersAt}
use Rattle.trace_laws.specs.Orders.{IsLinearizable}
use Rattle.trace_laws.proofs.Issues.{one_issue}
use Rattle.trace_zones.specs.Zones.{LeavesSet, IsSeenBefore, is_listed}
use Rattle.trace_zones.specs.Conflicts.{IsSetReader, IsSetLeaver, IsSetLeftBy, IsSetWriter, IsSetWitness, IsOverBefore, IsBefore, IsConflict}
use Rattle.trace_zones.specs.declared.conflict.Before.{Before}
use Rattle.trace_zones.specs.declared.conflict.Before.TheVariants.{Times, Atomic, Opening}
use Rattle.trace_zones.specs.declared.conflict.Conflict.{Conflict}
use Rattle.trace_zones.specs.declared.conflict.Conflict.TheVariants.{Crossed, Early, Unwritten, Twice}
use Rattle.trace_zones.proofs.Meeting.{conflict, early, unwritten, left_twice}

-- an event issues one operation
pub one_at : (trace : List Event) (i : ℕ) (c d : Call) → TraceIssuesAt trace i c → TraceIssuesAt trace i d → c ≡ d
one_at trace i c d h g = let e : Issue c ≡ Issue d = same_Some (Issue c) (Issue d) (sym h ∙ g) in cc

seen_before : (initial : ℕ) (trace : List Event) (w : ℕ) (one other : ℕ → Bool) (before : Before)
    → IsBefore initial trace w one other before → IsSeenBefore initial trace w one other
seen_before initial trace w one other (Times first second) h =
    let over : IsOverBefore trace first second = h.0 in
    let a : IsSetWitness initial trace w one first = h.1 in
    let b : IsSetWitness initial trace w other second = h.2 in
    let same : over.0 ≡ a.0 = one_at trace first over.0 a.0 over.1 a.1 in
    inl (
      a.0,
      b.0,
      over.2.0,
      second,
      over.2.1,
      over.2.2,
      subst (λ (c : Call). TraceAnswersAt trace over.2.0 c.id over.2.1) same over.2.3,
      b.1,
      a.2,
      b.2,
    )
seen_before initial trace w one other (Atomic event) h =
    let a : IsSetReader trace w one event = h.0 in
    let b : IsSetLeaver trace w other event = h.1 in
    let same : b.0 ≡ a.0 = one_at trace event b.0 a.0 b.1 a.1 in
    inr (inl (a.0, ((event, a.1), inl a.2), a.3, subst (λ (c : Call). LeavesSet trace w other c) same b.3))
seen_before initial trace w one other (Opening event) h = inr (inr (h.0, (h.1.0, h.1.2)))

pub certified : {A : Type 0} (opening : List ℕ) (trace : List Event) (w : ℕ) (c : Conflict A)
    → IsTrace (length opening) trace → w < length opening → IsConflict (slice_index opening w) trace w c
    → IsLinearizable opening trace → ⊥
certified opening trace w (Crossed one other before behind) t l h is =
    conflict opening trace w (is_listed one.words.items) (is_listed other.words.items) t l h.0 h.1 h.2
    (seen_before (slice_index opening w) trace w (is_listed one.words.items) (is_listed other.words.items) before h.3)
    (seen_before (slice_index opening w) trace w (is_listed other.words.items) (is_listed one.words.items) behind h.4)
    is.0 is.1
certified opening trace w (Early zone writer) t l h is =
    let reader : IsSetReader trace w (is_listed zone.words.items) zone.reader = h.0 in
    let source : IsSetWriter (slice_index opening w) trace w (is_listed zone.words.items) writer = h.1 in
    let over : IsOverBefore trace zone.reader writer = h.2 in
    let same : over.0 ≡ reader.0 = one_at trace zone.reader over.0 reader.0 over.1 reader.1 in
    early opening trace w (is_listed zone.words.items) t l (
      reader.0,
      source.0,
      over.2.0,
      writer,
      over.2.1,
      over.2.2,
      subst (λ (c : Call). TraceAnswersAt trace over.2.0 c.id over.2.1) same over.2.3,
      source.1,
      reader.3,
      ((zone.reader, reader.1), inl reader.2),
      source.2,
    ) is.0 is.1
certified opening trace w (Unwritten zone) t l h is =
    let reader : IsSetReader trace w (is_listed zone.words.items) zone.reader = h.0 in
    unwritten opening trace w (is_listed zone.words.items) t l (
      (reader.0, zone.reader, reader.1, reader.2, reader.3),
      h.1,
      λ i d issue enters. let e : None ≡ Some i = h.2 i d issue enters in cc,
    )
    is.0 is.1
certified opening trace w (Twice zone first second) t l h is =
    let a : IsSetLeftBy trace w (is_listed zone.words.items) first = h.1 in
    let b : IsSetLeftBy trace w (is_listed zone.words.items) second = h.2 in
    left_twice opening trace w (is_listed zone.words.items) a.0 b.0 t l h.0
    ((first, a.1), inl a.2) ((second, b.1), inl b.2) a.3 b.3
    (λ e. h.3 (one_issue (length opening) trace t first second a.0 b.0 a.1 b.1 e))
    is.0 is.1
