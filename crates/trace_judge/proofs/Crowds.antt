-- A table without a free slot holds as many operations.
use Rattle.std.proofs.Common.{◌≡◌, ⊎_elim, ℕ, zero, suc, ◌+◌, ◌<◌, ◌≤◌, List, [], ◌∷◌, length, Option, Some, None, refl, sym, ◌∙◌, ap, subst, arith, slice_get}
use Rattle.std.proofs.Common.{take, drop, length-drop}
use Rattle.std.proofs.lemmas.Bool.{cases_lt}
use Rattle.std.proofs.lemmas.List.{length-take-le}
use Rattle.trace_laws.specs.declared.event.Call.{Call}
use Rattle.trace_laws.specs.declared.event.Event.{Event}
use Rattle.trace_laws.specs.declared.event.Event.TheVariants.{Issue}
use Rattle.trace_laws.specs.Traces.{TraceIssuesAt, TraceAnswersAt, IsAnswered}
use Rattle.trace_laws.proofs.Lists.{take_get}
use Rattle.trace_laws.specs.declared.opened.Open.{Open}
use Rattle.trace_laws.specs.Searches.{IsAt, IsIndexTable}
use Rattle.trace_judge.specs.Stops.{IsBeginning, IsCrowded}
use Rattle.trace_judge.specs.Slots.{IsFilled, IsFullWord, IsFirstSlot, IsParted}
use Rattle.trace_judge.proofs.Parting.{answer_back}

abbrev calls_of : List (Option Open) → List Call
calls_of [] = []
calls_of (None ∷ table) = calls_of table
calls_of (Some o ∷ table) = o.call ∷ calls_of table

many : (table : List (Option Open)) → ((s : ℕ) → slice_get table s ≡ Some None → ⊥) → length (calls_of table) ≡ length table
many [] full = refl
many (None ∷ table) full = absurd (full zero refl)
many (Some o ∷ table) full = ap suc (many table (λ s h. full (suc s) h))

there : (table : List (Option Open)) → ((s : ℕ) → slice_get table s ≡ Some None → ⊥) → (s : ℕ) (c : Call)
    → slice_get (calls_of table) s ≡ Some c → (o : Open) × (slice_get table s ≡ Some (Some o)) × (o.call ≡ c)
there [] full s c h = absurd (let e : None ≡ Some c = h in cc)
there (None ∷ table) full s c h = absurd (full zero refl)
there (Some o ∷ table) full zero c h = (o, refl, cc)
there (Some o ∷ table) full (suc s) c h = there table (λ u e. full (suc u) e) s c h

get_drop : {A : Type 0} (n : ℕ) (xs : List A) (k : ℕ) (x : A) → slice_get (drop n xs) k ≡ Some x
    → (j : ℕ) × (j ≡ n + k) × (slice_get xs j ≡ Some x)
get_drop zero xs k x h = (k, omega arith, h)
get_drop (suc n) [] k x h = cc
get_drop (suc n) (y ∷ xs) k x h = let r = get_drop n xs k x h in (suc r.0, (let e = r.1 in omega arith), r.2)

-- the 64 slots from one on
abbrev part : ℕ → List (Option Open) → List (Option Open)
part first table = take 64 (drop first table)

part_at : (first : ℕ) (table : List (Option Open)) (s : ℕ) (place : Option Open)
    → slice_get (part first table) s ≡ Some place
    → (j : ℕ) × (j ≡ first + s) × (s < 64) × (slice_get table j ≡ Some place)
part_at first table s place h =
    let low = take_get 64 (drop first table) s place h in
    let r = get_drop first table s place low.1 in
    (r.0, r.1, low.0, r.2)

part_full : (first : ℕ) (table : List (Option Open)) → IsFilled first table
    → (s : ℕ) → slice_get (part first table) s ≡ Some None → ⊥
part_full first table filled s h =
    let r = part_at first table s None h in
    let e = r.1 in
    let l = r.2 in
    filled r.0 (omega arith) (omega arith) r.3

-- an operation of the crowd, and its slot
crowd_at : (first : ℕ) (table : List (Option Open)) → IsFilled first table → (s : ℕ) (c : Call)
    → slice_get (calls_of (part first table)) s ≡ Some c
    → (j : ℕ) × (o : Open) × (j ≡ first + s) × (s < 64) × IsAt table j o × (o.call ≡ c)
crowd_at first table filled s c h =
    let o = there (part first table) (part_full first table filled) s c h in
    let r = part_at first table s (Some o.0) o.1 in
    (r.0, o.0, r.1, r.2, r.3, o.2)

-- the operations of these slots are as one of them
alike_later : (whole : List Event) (id other first j : ℕ) → IsFirstSlot whole id first → IsParted whole j other
    → first ≤ j → j < first + 64 → IsAnswered whole id → IsAnswered whole other
alike_later whole id other first j is parted low high answered = ⊎_elim {C = IsAnswered whole other}
    (λ (p : (j < 64) × IsAnswered whole other). p.1)
    (λ (p : (64 ≤ j) × (IsAnswered whole other → ⊥)). ⊎_elim {C = IsAnswered whole other}
    (λ (r : (first ≡ 0) × IsAnswered whole id). absurd (let e = r.0 in let m = p.0 in omega arith))
    (λ (r : (first ≡ 64) × (IsAnswered whole id → ⊥)). absurd (r.1 answered))
    is)
    parted

alike_never : (whole : List Event) (id other first j : ℕ) → IsFirstSlot whole id first → IsParted whole j other
    → first ≤ j → j < first + 64 → IsAnswered whole other → IsAnswered whole id
alike_never whole id other first j is parted low high answered = ⊎_elim {C = IsAnswered whole id}
    (λ (r : (first ≡ 0) × IsAnswered whole id). r.1)
    (λ (r : (first ≡ 64) × (IsAnswered whole id → ⊥)). ⊎_elim {C = IsAnswered whole id}
    (λ (p : (j < 64) × IsAnswered whole other). absurd (let e = r.0 in let m = p.0 in omega arith))
    (λ (p : (64 ≤ j) × (IsAnswered whole other → ⊥)). absurd (p.1 answered))
    parted)
    is

issue_on : (events whole : List Event) (i : ℕ) (c : Call) → IsBeginning events whole → TraceIssuesAt events i c
    → TraceIssuesAt whole i c
issue_on events whole i c is h = (take_get is.0 whole i (Issue c)
    (subst (λ (es : List Event). TraceIssuesAt es i c) is.1 h)).1

-- so an issue finds 64 operations open on its word
pub crowded : (trace whole : List Event) (k first : ℕ) (table : List (Option Open)) (call : Call)
    → IsBeginning trace whole → k < length trace → IsFirstSlot whole call.id first
    → ((s : ℕ) (o : Open) → IsAt table s o → IsParted whole s o.call.id)
    → IsIndexTable trace k call.operation.address table → IsFullWord first table → TraceIssuesAt trace k call
    → IsCrowded whole k
crowded trace whole k first table call begun inside begins parted t is now =
    let enough : 64 ≤ length (drop first table) =
    let e = length-drop first table in let m = is.many in omega arith in
    record {
      another = call;
      issue = issue_on trace whole k call begun now;
      calls = calls_of (part first table);
      many = many (part first table) (part_full first table is.filled) ∙ length-take-le 64 (drop first table) enough;
      issued = λ s c h.
          let o = crowd_at first table is.filled s c h in
          let p = t.pending o.0 o.1 o.4 in
          (p.at, p.early, subst (λ (d : Call). TraceIssuesAt whole p.at d) o.5 (issue_on trace whole p.at o.1.call begun p.issue));
      pending = λ s c h i reply at.
          let o = crowd_at first table is.filled s c h in
          let p = t.pending o.0 o.1 o.4 in
          ⊎_elim {C = k ≤ i}
          (λ (l : i < length trace). p.unanswered i reply
          (answer_back trace whole i o.1.call.id reply begun l
          (subst (λ (d : Call). TraceAnswersAt whole i d.id reply) (sym o.5) at)))
          (λ (l : length trace ≤ i). omega arith)
          (cases_lt i (length trace));
      here = λ s c h.
          let o = crowd_at first table is.filled s c h in
          ap (λ (d : Call). d.operation.address) (sym o.5) ∙ t.here o.0 o.1 o.4;
      distinct = λ s u c d h m e.
          let o = crowd_at first table is.filled s c h in
          let p = crowd_at first table is.filled u d m in
          let same = t.distinct o.0 p.0 o.1 p.1 o.4 p.4
          (ap (λ (a : Call). a.id) o.5 ∙ (e ∙ sym (ap (λ (a : Call). a.id) p.5))) in
          let a = o.2 in
          let b = p.2 in
          omega arith;
      later = λ s c h answered.
          let o = crowd_at first table is.filled s c h in
          let a = o.2 in
          let b = o.3 in
          subst (λ (d : Call). IsAnswered whole d.id) o.5
          (alike_later whole call.id o.1.call.id first o.0 begins (parted o.0 o.1 o.4) (omega arith) (omega arith) answered);
      never = λ s c h answered.
          let o = crowd_at first table is.filled s c h in
          let a = o.2 in
          let b = o.3 in
          alike_never whole call.id o.1.call.id first o.0 begins (parted o.0 o.1 o.4) (omega arith) (omega arith)
          (subst (λ (d : Call). IsAnswered whole d.id) (sym o.5) answered);
    }
