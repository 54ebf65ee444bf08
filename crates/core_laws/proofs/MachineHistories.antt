-- The trace of a history, step by step.
use Rattle.std.proofs.Common.{◌≡◌, ℕ, zero, suc, ◌<◌, List, [], ◌∷◌, ◌++◌, length, sym, subst, arith, get_or}
use Rattle.std.proofs.lemmas.List.{append-nil}
use Rattle.std.proofs.lemmas.Option.{get_or_from_slice_get}
use Rattle.one_order.specs.Observed.{Observed, Run, list_at}
use Rattle.one_order.specs.Order.{LinearizationPoint}
use Rattle.one_order.specs.Events.{Event as RunEvent, Nothing, Issued, Served, Answered, happens, points_of, order_after, MayHappen, IsHistory}
use Rattle.one_order.proofs.Lists.{within_length}
use Rattle.one_order.proofs.History.{shorter}
use Rattle.trace_laws.specs.declared.event.Call.{Call}
use Rattle.trace_laws.specs.declared.event.Event.{Event}
use Rattle.trace_laws.specs.declared.event.Event.TheVariants.{Answer}
use Rattle.trace_laws.specs.Traces.{IsTrace}
use Rattle.trace_laws.specs.Orders.{IsLinearizable}
use Rattle.trace_laws.proofs.Lists.{get_within}
use Rattle.core_laws.specs.TraceOfRun.{numbers_with, numbers_after, told_in_trace, trace_after}
use Rattle.core_laws.proofs.MachineTold.{IsNumber, IsTold, told_none, told_nothing}
use Rattle.core_laws.proofs.ToldIssues.{told_issue}
use Rattle.core_laws.proofs.ToldServices.{told_serve}
use Rattle.core_laws.proofs.ToldAnswers.{told_answer}

-- the trace goes together with what is shown, by some order under the numbers
abbrev Told : ℕ → List ℕ → ℕ → Observed → List LinearizationPoint → List (List ℕ) → List Event → Type 0
Told tiles opening n s order numbers trace = (calls : List Call) × IsTold tiles opening n s order numbers trace calls

-- the number of an operation that a processor has issued
number_of : (tiles : ℕ) (opening : List ℕ) (n : ℕ) (s : Observed) (order : List LinearizationPoint)
    (numbers : List (List ℕ)) (trace : List Event) (calls : List Call)
    → IsTold tiles opening n s order numbers trace calls → (p i : ℕ) → i < length (list_at s.issued p)
    → (id : ℕ) × IsNumber numbers p i id
number_of tiles opening n s order numbers trace calls w p i l =
    let e = w.counts p in
    within_length (list_at numbers p) i (omega arith)

-- over one event
told_event : (tiles tags : ℕ) (opening : List ℕ) (n : ℕ) (s : Observed) (order : List LinearizationPoint)
    (numbers : List (List ℕ)) (trace : List Event) (event : RunEvent)
    → MayHappen tiles tags opening s order event → Told tiles opening n s order numbers trace
    → Told tiles opening (suc n) (happens tiles s event) (order ++ points_of event (suc n))
    (numbers_with numbers n event) (trace ++ told_in_trace numbers n event)
told_event tiles tags opening n s order numbers trace Nothing may w =
    subst (λ (xs : List LinearizationPoint). Told tiles opening (suc n) s xs numbers (trace ++ []))
    (sym (append-nil order))
    (subst (λ (es : List Event). Told tiles opening (suc n) s order numbers es) (sym (append-nil trace))
    (w.0, told_nothing tiles opening n s order numbers trace w.0 w.1))
told_event tiles tags opening n s order numbers trace (Issued p o) may w =
    subst (λ (xs : List LinearizationPoint). Told tiles opening (suc n) (happens tiles s (Issued p o)) xs
    (numbers_with numbers n (Issued p o)) (trace ++ told_in_trace numbers n (Issued p o)))
    (sym (append-nil order))
    (w.0, told_issue tiles opening n s order numbers trace w.0 p o may w.1)
told_event tiles tags opening n s order numbers trace (Served p i tag o) may w =
    let id = number_of tiles opening n s order numbers trace w.0 w.1 p i
    (get_within (list_at s.issued p) i o may.issued) in
    subst (λ (es : List Event). Told tiles opening (suc n) (happens tiles s (Served p i tag o))
    (order ++ points_of (Served p i tag o) (suc n)) numbers es)
    (sym (append-nil trace))
    (w.0 ++ record { id = id.0; operation = o } ∷ [], told_serve tiles tags opening n s order numbers trace w.0 p i tag o may id.0 id.1 w.1)
told_event tiles tags opening n s order numbers trace (Answered p a) may w =
    let r = w.1.places may.tells.k may.tells.point may.tells.there in
    let number : IsNumber numbers p a.index r.0 = subst (λ (v : ℕ). IsNumber numbers p v r.0) may.tells.index
    (subst (λ (v : ℕ). IsNumber numbers v may.tells.point.index r.0) may.tells.source r.1) in
    let e : r.0 ≡ get_or (list_at numbers p) a.index 0 = sym
    (get_or_from_slice_get (list_at numbers p) a.index r.0 0 number) in
    subst (λ (xs : List LinearizationPoint). Told tiles opening (suc n) (happens tiles s (Answered p a)) xs numbers
    (trace ++ told_in_trace numbers n (Answered p a)))
    (sym (append-nil order))
    (subst (λ (v : ℕ). Told tiles opening (suc n) (happens tiles s (Answered p a)) order numbers
    (trace ++ Answer v a.reply ∷ [])) e
    (w.0, told_answer tiles opening n s order numbers trace w.0 p a may r.0 number w.1))

-- over all of them
told_history : (tiles tags : ℕ) (opening : List ℕ) (run : Run) (event : ℕ → RunEvent) (n : ℕ)
    → IsHistory tiles tags opening run event n
    → Told tiles opening n (run n) (order_after event n) (numbers_after tiles event n) (trace_after tiles event n)
told_history tiles tags opening run event zero h =
    subst (λ (s : Observed). Told tiles opening 0 s [] (numbers_after tiles event 0) []) (sym h.start)
    ([], told_none tiles opening)
told_history tiles tags opening run event (suc n) h =
    let was = told_history tiles tags opening run event n (shorter tiles tags opening run event n h) in
    let now = told_event tiles tags opening n (run n) (order_after event n) (numbers_after tiles event n)
    (trace_after tiles event n) (event n)
    (h.may n (omega arith)) was in
    subst (λ (s : Observed). Told tiles opening (suc n) s (order_after event (suc n))
    (numbers_after tiles event (suc n)) (trace_after tiles event (suc n)))
    (sym (h.each n (omega arith))) now

pub history_is_trace : (tiles tags : ℕ) (opening : List ℕ) (run : Run) (event : ℕ → RunEvent) (n : ℕ)
    → IsHistory tiles tags opening run event n
    → IsTrace (length opening) (trace_after tiles event n)
history_is_trace tiles tags opening run event n h = (told_history tiles tags opening run event n h).1.trace_law

pub history_is_linearizable : (tiles tags : ℕ) (opening : List ℕ) (run : Run) (event : ℕ → RunEvent) (n : ℕ)
    → IsHistory tiles tags opening run event n
    → IsLinearizable opening (trace_after tiles event n)
history_is_linearizable tiles tags opening run event n h =
    let w = told_history tiles tags opening run event n h in
    (w.0, w.1.order_law)
