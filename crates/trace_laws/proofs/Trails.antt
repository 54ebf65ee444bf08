-- Nodes on trails, as nodes are added.
use Rattle.std.proofs.Common.{◌≡◌, ◌≢◌, ◌⊎◌, ⊎_elim, ℕ, zero, suc, ◌<◌, ◌==◌, Bool, true, false, cond, List, [], ◌∷◌, ◌++◌, length, Option, Some, None}
use Rattle.std.proofs.Common.{refl, sym, ◌∙◌, ap, subst, arith, slice_get, eq-eqb}
use Rattle.std.proofs.lemmas.Bool.{ne_eqb, cond-true, cond-false}
use Rattle.std.specs.Option.{IfSome}
use Rattle.packet.specs.declared.kinds.Reply.{Reply}
use Rattle.packet.specs.Memory.{reply_to}
use Rattle.trace_laws.specs.declared.event.Call.{Call}
use Rattle.trace_laws.specs.declared.event.Event.{Event}
use Rattle.trace_laws.specs.declared.opened.Open.{Open}
use Rattle.trace_laws.specs.declared.opened.Node.{Node}
use Rattle.trace_laws.specs.Traces.{TraceAnswersAt}
use Rattle.trace_laws.specs.Configs.{AgreesWithValue, IsIn}
use Rattle.trace_laws.specs.Searches.{IsPending, order_of, IsTrail}
use Rattle.trace_laws.proofs.Lists.{get_push_cases, get_append_left}

-- a function with a new value at one place
abbrev pub put : {A : Type 0} → (ℕ → A) → ℕ → A → ℕ → A
put f w x v = cond (v == w) x (f v)

pub put_same : {A : Type 0} (f : ℕ → A) (w : ℕ) (x : A) (v : ℕ) → v ≡ w → put f w x v ≡ x
put_same f w x v e = cond-true (v == w) x (f v) (eq-eqb v w e)

pub put_other : {A : Type 0} (f : ℕ → A) (w : ℕ) (x : A) (v : ℕ) → v ≢ w → put f w x v ≡ f v
put_other f w x v ne = cond-false (v == w) x (f v) (ne_eqb v w ne)

-- what the word replies is what the trace tells
pub told : (trace : List Event) (k : ℕ) (o : Open) (word : ℕ) → IsPending trace k o → AgreesWithValue o word
    → (j : ℕ) (reply : Reply) → TraceAnswersAt trace j o.call.id reply
    → reply ≡ reply_to o.call.operation.op word
told trace k o word p agrees j reply h =
    let is = p.kept j reply h in
    sym (subst (λ (q : Option Reply). IfSome q (λ r. reply_to o.call.operation.op word ≡ r)) is agrees)

-- one more node
pub order_push : (nodes : List Node) (node : Node) (marks : List Bool) (mark : Bool)
    → length marks ≡ length nodes
    → order_of (nodes ++ node ∷ []) (marks ++ mark ∷ []) ≡ order_of nodes marks ++ cond mark (node.call ∷ []) []
order_push [] node [] mark e = refl
order_push [] node (m ∷ marks) mark e = absurd (omega arith)
order_push (n ∷ nodes) node [] mark e = absurd (omega arith)
order_push (n ∷ nodes) node (true ∷ marks) mark e = ap (λ (cs : List Call). n.call ∷ cs)
    (order_push nodes node marks mark (omega arith))
order_push (n ∷ nodes) node (false ∷ marks) mark e = order_push nodes node marks mark (omega arith)

-- a list with an element has a last one
pub split_last : {A : Type 0} (xs : List A) (n : ℕ) → length xs ≡ suc n
    → (ys : List A) × (y : A) × (xs ≡ ys ++ y ∷ []) × (length ys ≡ n)
split_last [] n e = absurd (omega arith)
split_last (x ∷ []) n e = ([], x, refl, omega arith)
split_last (x ∷ z ∷ xs) zero e = absurd (omega arith)
split_last (x ∷ z ∷ xs) (suc n) e = let r = split_last (z ∷ xs) n (omega arith) in
    (x ∷ r.0, r.1, ap (λ zs. x ∷ zs) r.2, omega (arith, r.3))

-- the nodes on a trail are there
pub trail_below : (nodes : List Node)
    → ((i j : ℕ) (node : Node) → slice_get nodes i ≡ Some node → node.before ≡ Some j → j < i)
    → (trail : List ℕ) (last : Option ℕ) (n : ℕ) → IsTrail nodes last trail → ((i : ℕ) → last ≡ Some i → i < n)
    → (i : ℕ) → IsIn trail i → i < n
trail_below nodes back [] last n is low i at = absurd (let e : None ≡ Some i = at.1 in cc)
trail_below nodes back (j ∷ trail) last n is low i (zero, at) = low i
    (let e : j ≡ i = cc in is.1 ∙ ap (λ (m : ℕ). Some m) e)
trail_below nodes back (j ∷ trail) last n is low i (suc k, at) =
    trail_below nodes back trail is.0.before n is.3
    (λ m e. let l = back j m is.0 is.2 e in let h = low j is.1 in omega arith) i (k, at)

-- a trail stays as nodes are added, and was there before, if it begins below them
pub trail_push : (nodes : List Node) (node : Node) (trail : List ℕ) (last : Option ℕ) → IsTrail nodes last trail
    → IsTrail (nodes ++ node ∷ []) last trail
trail_push nodes node [] last is = is
trail_push nodes node (i ∷ trail) last is =
    (is.0, is.1, get_append_left nodes (node ∷ []) i is.0 is.2, trail_push nodes node trail is.0.before is.3)

pub trail_old : (nodes : List Node) (node : Node)
    → ((i j : ℕ) (n : Node) → slice_get nodes i ≡ Some n → n.before ≡ Some j → j < i)
    → (trail : List ℕ) (last : Option ℕ) → ((i : ℕ) → last ≡ Some i → i < length nodes)
    → IsTrail (nodes ++ node ∷ []) last trail → IsTrail nodes last trail
trail_old nodes node back [] last low is = is
trail_old nodes node back (i ∷ trail) last low is =
    let l = low i is.1 in
    let at : slice_get nodes i ≡ Some is.0 = ⊎_elim
    (λ h. h)
    (λ (r : (i ≡ length nodes) × (node ≡ is.0)). absurd (let e = r.0 in omega arith))
    (get_push_cases nodes node i is.0 is.2) in (
      is.0,
      is.1,
      at,
      trail_old nodes node back trail is.0.before
          (λ j e. let m = back i j is.0 at e in omega arith) is.3,
    )
