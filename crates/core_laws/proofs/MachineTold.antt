-- What a trace tells of a history, and the order of the operations under their numbers; where nothing happens it stays.
use Rattle.std.proofs.Common.{◌≡◌, ℕ, suc, ◌<◌, List, [], length, Some, None, refl, sym, ◌∙◌, ap}
use Rattle.std.proofs.Common.{arith, slice_get, replicate}
use Rattle.std.proofs.lemmas.List.{length-replicate}
use Rattle.packet.specs.declared.kinds.Operation.{Operation}
use Rattle.packet.specs.declared.kinds.Reply.{Reply}
use Rattle.packet.specs.Memory.{replies}
use Rattle.one_order.specs.Observed.{Observed, list_at, HasAnswered}
use Rattle.one_order.specs.Order.{LinearizationPoint, operations_of}
use Rattle.one_order.specs.Events.{happens, nothing_yet}
use Rattle.one_order.proofs.Lists.{list_at_none}
use Rattle.trace_laws.specs.declared.event.Call.{Call}
use Rattle.trace_laws.specs.declared.event.Event.{Event}
use Rattle.trace_laws.specs.declared.event.Event.TheVariants.{Issue, Answer}
use Rattle.trace_laws.specs.Traces.{IsTrace, TraceIssuesAt, TraceAnswersAt}
use Rattle.trace_laws.specs.Orders.{IsOrder, operations_of as asked_of}

-- this number is that of p's operation i
abbrev pub IsNumber : List (List ℕ) → ℕ → ℕ → ℕ → Type 0
IsNumber numbers p i id = slice_get (list_at numbers p) i ≡ Some id

-- p's operation i asks this
abbrev pub Asks : Observed → ℕ → ℕ → Operation → Type 0
Asks s p i o = slice_get (list_at s.issued p) i ≡ Some o

-- an operation that was issued, under its number
pub record IsCallOf (numbers : List (List ℕ)) (s : Observed) (c : Call) : Type 0 where
  pub p : ℕ
  pub i : ℕ
  pub number : IsNumber numbers p i c.id
  pub asked : Asks s p i c.operation

-- the k-th of the order, under its number
pub record IsPointOf (numbers : List (List ℕ)) (order : List LinearizationPoint) (k : ℕ) (c : Call) : Type 0 where
  pub point : LinearizationPoint
  pub there : slice_get order k ≡ Some point
  pub number : IsNumber numbers point.source point.index c.id
  pub operation : point.operation ≡ c.operation

-- What is shown after n steps, the order of their services, the numbers of their issues, the trace and the order under
-- these numbers go together.
pub record IsTold (tiles : ℕ) (opening : List ℕ) (n : ℕ) (s : Observed) (order : List LinearizationPoint)
    (numbers : List (List ℕ)) (trace : List Event) (calls : List Call) : Type 0 where
  pub processors : length s.issued ≡ tiles
  pub answerers : length s.answers ≡ tiles
  pub sized : length numbers ≡ tiles
  pub counts : (p : ℕ) → length (list_at numbers p) ≡ length (list_at s.issued p)
  pub below : (p i id : ℕ) → IsNumber numbers p i id → id < n
  pub apart : (p q i j id : ℕ) → IsNumber numbers p i id → IsNumber numbers q j id → (p ≡ q) × (i ≡ j)
  pub issues : (x : ℕ) (c : Call) → TraceIssuesAt trace x c → IsCallOf numbers s c
  pub told : (p i id : ℕ) (o : Operation) → IsNumber numbers p i id → Asks s p i o
      → (x : ℕ) × TraceIssuesAt trace x (record { id = id; operation = o })
  pub answers : (x id : ℕ) (reply : Reply) → TraceAnswersAt trace x id reply
      → (p : ℕ) × (i : ℕ) × IsNumber numbers p i id × HasAnswered s p i
  pub places : (k : ℕ) (point : LinearizationPoint) → slice_get order k ≡ Some point
      → (id : ℕ) × IsNumber numbers point.source point.index id
      × (slice_get calls k ≡ Some (record { id = id; operation = point.operation }))
  pub points : (k : ℕ) (c : Call) → slice_get calls k ≡ Some c → IsPointOf numbers order k c
  pub same : operations_of order ≡ asked_of calls
  pub trace_law : IsTrace (length opening) trace
  pub order_law : IsOrder opening trace calls

none_there : {A : Type 0} (n p i : ℕ) (x : A) → slice_get (list_at {A = A} (replicate n []) p) i ≡ Some x → ⊥
none_there {A} n p i x h =
    let e : slice_get {X = A} [] i ≡ Some x = ap (λ (xs : List A). slice_get xs i) (sym (list_at_none n p)) ∙ h in
    cc

-- before any step
pub told_none : (tiles : ℕ) (opening : List ℕ)
    → IsTold tiles opening 0 (nothing_yet tiles opening) [] (replicate tiles []) [] []
told_none tiles opening = record {
  processors = length-replicate tiles [];
  answerers = length-replicate tiles [];
  sized = length-replicate tiles [];
  counts = λ p. ap (λ (xs : List ℕ). length xs) (list_at_none tiles p) ∙ sym
      (ap (λ (xs : List Operation). length xs) (list_at_none tiles p));
  below = λ p i id h. absurd (none_there tiles p i id h);
  apart = λ p q i j id h k. absurd (none_there tiles p i id h);
  issues = λ x c h. absurd (let e : None ≡ Some (Issue c) = h in cc);
  told = λ p i id o h k. absurd (none_there tiles p i id h);
  answers = λ x id reply h. absurd (let e : None ≡ Some (Answer id reply) = h in cc);
  places = λ k point h. absurd (let e : None ≡ Some point = h in cc);
  points = λ k c h. absurd (let e : None ≡ Some c = h in cc);
  same = refl;
  trace_law = record {
    rising = λ i j a b l h k. absurd (let e : None ≡ Some (Issue a) = h in cc);
    issued = λ j id reply h. absurd (let e : None ≡ Some (Answer id reply) = h in cc);
    once = λ i j id r t h k. absurd (let e : None ≡ Some (Answer id r) = h in cc);
    inside = λ i c h. absurd (let e : None ≡ Some (Issue c) = h in cc);
  };
  order_law = record {
    once = λ x y c d h k e. absurd (let f : None ≡ Some c = h in cc);
    issued = λ x c h. absurd (let e : None ≡ Some c = h in cc);
    answered = λ i id reply h. absurd (let e : None ≡ Some (Answer id reply) = h in cc);
    real_time = λ i j x y c d reply l h k m q. absurd (let e : None ≡ Some (Issue d) = k in cc);
    replies = λ i x c reply h k. absurd (let e : None ≡ Some c = h in cc);
  };
}

-- nothing happens
pub told_nothing : (tiles : ℕ) (opening : List ℕ) (n : ℕ) (s : Observed) (order : List LinearizationPoint)
    (numbers : List (List ℕ)) (trace : List Event) (calls : List Call)
    → IsTold tiles opening n s order numbers trace calls
    → IsTold tiles opening (suc n) s order numbers trace calls
told_nothing tiles opening n s order numbers trace calls w = record {
  processors = w.processors;
  answerers = w.answerers;
  sized = w.sized;
  counts = w.counts;
  below = λ p i id h. let l = w.below p i id h in omega arith;
  apart = w.apart;
  issues = w.issues;
  told = w.told;
  answers = w.answers;
  places = w.places;
  points = w.points;
  same = w.same;
  trace_law = w.trace_law;
  order_law = w.order_law;
}
