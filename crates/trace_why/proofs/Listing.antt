-- Lists that are made of a trace, event by event.
use Rattle.std.proofs.Common.{◌≡◌, ◌⊎◌, ⊎_elim, ℕ, ◌+◌, ◌<◌, ◌≤◌, List, [], ◌∷◌, ◌++◌, length, Some, None, sym, ◌∙◌, ap, subst, arith, slice_get}
use Rattle.std.specs.Prelude.{Contains, Option, IfSome, MatchOption}
use Rattle.std.proofs.lemmas.Bool.{cases_lt}
use Rattle.std.proofs.lemmas.List.Elements.{Contains-push, Contains-push_cases, Contains-append_left}
use Rattle.packet.specs.declared.kinds.Reply.{Reply}
use Rattle.trace_laws.specs.declared.event.Call.{Call}
use Rattle.trace_laws.specs.declared.event.Event.{Event}
use Rattle.trace_laws.specs.declared.event.Event.TheVariants.{Issue, Answer}
use Rattle.trace_laws.specs.Traces.{IsTrace, TraceIssuesAt, TraceAnswersAt}
use Rattle.trace_laws.proofs.Lists.{get_push_cases, get_within, same_get}
use Rattle.trace_laws.proofs.Issues.{one_issue, one_call}
use Rattle.trace_why.specs.declared.calls.CallAt.{CallAt}
use Rattle.trace_why.specs.Calls.{IsOpenOnWord, AreOpenOn, IsAnsweredOn, IsOver}
use Rattle.trace_why.specs.Values.{left_word}
use Rattle.trace_why.proofs.Places.{in_contains}

-- an operation with its event
same_at : (c d : CallAt) → c.event ≡ d.event → c.call ≡ d.call → c ≡ d
same_at c d e f = ap (λ (n : ℕ). record { event = n; call = c.call }) e ∙ ap (λ (k : Call). record { event = d.event; call = k }) f

-- what an event issues
pub one_at : (trace : List Event) (i : ℕ) (c d : Call) → TraceIssuesAt trace i c → TraceIssuesAt trace i d → c ≡ d
one_at trace i c d h k = let e = same_get trace i (Issue c) (Issue d) h k in cc

-- an operation that isn't answered from its issue on is open
pub is_open : (words : ℕ) (trace : List Event) (k w i : ℕ) (c : Call) → IsTrace words trace → i < k → TraceIssuesAt trace i c → c.operation.address ≡ w
    → ((j : ℕ) (reply : Reply) → i ≤ j → j < k → TraceAnswersAt trace j c.id reply → ⊥) → IsOpenOnWord trace k w (record { event = i; call = c })
is_open words trace k w i c t low issue here none = record {
  early = low;
  issue = issue;
  here = here;
  unanswered = λ j reply a. ⊎_elim {C = k ≤ j}
      (λ (l : j < k).
      let before = t.issued j c.id reply a in
      let same : before.0 ≡ i = one_issue words trace t before.0 i before.1 c before.4 issue before.3 in
      let less = before.2 in
      absurd (none j reply (omega arith) l a))
      (λ right. right)
      (cases_lt j k);
}

-- the operations that the first i events issue, and that are open
pub record Opening (trace : List Event) (k w i : ℕ) (pending : List CallAt) : Type 0 where
  pub inside : (c : CallAt) → Contains pending c → IsOpenOnWord trace k w c
  pub below : (c : CallAt) → Contains pending c → c.event < i
  pub all : (c : CallAt) → IsOpenOnWord trace k w c → c.event < i → Contains pending c
  pub rising : (x y : ℕ) (c d : CallAt) → x < y → slice_get pending x ≡ Some c → slice_get pending y ≡ Some d → c.event < d.event

pub opening_none : (trace : List Event) (k w : ℕ) → Opening trace k w 0 []
opening_none trace k w = record {
  inside = λ c h. let l = h.1 in absurd (omega arith);
  below = λ c h. let l = h.1 in absurd (omega arith);
  all = λ c o l. absurd (omega arith);
  rising = λ x y c d l h m. absurd (let e : None ≡ Some c = h in cc);
}

pub opening_skip : (trace : List Event) (k w i : ℕ) (pending : List CallAt) → Opening trace k w i pending
    → ((c : CallAt) → IsOpenOnWord trace k w c → c.event ≡ i → ⊥) → Opening trace k w (i + 1) pending
opening_skip trace k w i pending o none = record {
  inside = o.inside;
  below = λ c h. let l = o.below c h in omega arith;
  all = λ c is l. ⊎_elim {C = Contains pending c}
      (λ (low : c.event < i). o.all c is low)
      (λ (high : i ≤ c.event). absurd (none c is (omega arith)))
      (cases_lt c.event i);
  rising = o.rising;
}

pub opening_push : (trace : List Event) (k w i : ℕ) (pending : List CallAt) (found : CallAt) → Opening trace k w i pending
    → IsOpenOnWord trace k w found → found.event ≡ i → Opening trace k w (i + 1) (pending ++ found ∷ [])
opening_push trace k w i pending found o is e = record {
  inside = λ c h. ⊎_elim {C = IsOpenOnWord trace k w c}
      (λ old. o.inside c old)
      (λ (same : found ≡ c). subst (λ (x : CallAt). IsOpenOnWord trace k w x) same is)
      (Contains-push_cases pending found c h);
  below = λ c h. ⊎_elim {C = c.event < i + 1}
      (λ old. let l = o.below c old in omega arith)
      (λ (same : found ≡ c). let f : found.event ≡ c.event = ap (λ (x : CallAt). x.event) same in omega arith)
      (Contains-push_cases pending found c h);
  all = λ c there l. ⊎_elim {C = Contains (pending ++ found ∷ []) c}
      (λ (low : c.event < i). Contains-append_left pending (found ∷ []) c (o.all c there low))
      (λ (high : i ≤ c.event).
      let f : found.event ≡ c.event = omega arith in
      let g : found.call ≡ c.call = one_at trace found.event found.call c.call is.issue
      (subst (λ (n : ℕ). TraceIssuesAt trace n c.call) (sym f) there.issue) in
      subst (λ (x : CallAt). Contains (pending ++ found ∷ []) x) (same_at found c f g) (Contains-push pending found))
      (cases_lt c.event i);
  rising = λ x y c d l h m. ⊎_elim {C = c.event < d.event}
      (λ (old : slice_get pending y ≡ Some d). ⊎_elim {C = c.event < d.event}
      (λ (also : slice_get pending x ≡ Some c). o.rising x y c d l also old)
      (λ (last : (x ≡ length pending) × (found ≡ c)). let e = last.0 in let n = get_within pending y d old in absurd (omega arith))
      (get_push_cases pending found x c h))
      (λ (last : (y ≡ length pending) × (found ≡ d)). ⊎_elim {C = c.event < d.event}
      (λ (also : slice_get pending x ≡ Some c).
      let below = o.below c (in_contains pending c (x, also)) in
      let f : found.event ≡ d.event = ap (λ (z : CallAt). z.event) last.1 in omega arith)
      (λ (both : (x ≡ length pending) × (found ≡ c)). let a = both.0 in let b = last.0 in absurd (omega arith))
      (get_push_cases pending found x c h))
      (get_push_cases pending found y d m);
}

pub opening_all : (trace : List Event) (k w : ℕ) (pending : List CallAt) → Opening trace k w k pending → AreOpenOn trace k w pending
opening_all trace k w pending o = record {
  inside = o.inside;
  all = λ c is. o.all c is is.early;
  rising = o.rising;
}

-- an event answers one operation, in one way
pub one_answer : (words : ℕ) (trace : List Event) (i w : ℕ) (c d : CallAt) (r s : Reply) → IsTrace words trace → IsAnsweredOn trace i w c r
    → IsAnsweredOn trace i w d s → left_word c.call.operation.op r ≡ left_word d.call.operation.op s
one_answer words trace i w c d r s t a b =
    let e : Answer c.call.id r ≡ Answer d.call.id s = same_get trace i (Answer c.call.id r) (Answer d.call.id s) a.answer b.answer in
    let id : c.call.id ≡ d.call.id = cc in
    let reply : r ≡ s = cc in
    let call : c.call ≡ d.call = one_call words trace t c.event d.event c.call d.call a.issue b.issue id in
    ap (λ (x : Call). left_word x.operation.op r) call ∙ ap (left_word d.call.operation.op) reply

-- the values that operations left which the events up to i answer
pub record Adding (trace : List Event) (from w i : ℕ) (old new : List ℕ) : Type 0 where
  pub kept : (v : ℕ) → Contains old v → Contains new v
  pub left : (j : ℕ) (c : CallAt) (reply : Reply) → from ≤ j → j < i → IsAnsweredOn trace j w c reply
      → Contains new (left_word c.call.operation.op reply)

pub adding_skip : (trace : List Event) (from w i : ℕ) (old new : List ℕ) → Adding trace from w i old new
    → ((c : CallAt) (reply : Reply) → IsAnsweredOn trace i w c reply → ⊥) → Adding trace from w (i + 1) old new
adding_skip trace from w i old new a none = record {
  kept = a.kept;
  left = λ j c reply l h is. ⊎_elim {C = Contains new (left_word c.call.operation.op reply)}
      (λ (low : j < i). a.left j c reply l low is)
      (λ (high : i ≤ j).
      let same : j ≡ i = omega arith in
      absurd (none c reply (subst (λ (n : ℕ). IsAnsweredOn trace n w c reply) same is)))
      (cases_lt j i);
}

pub adding_one : (words : ℕ) (trace : List Event) (from w i : ℕ) (old new more : List ℕ) (found : CallAt) (told : Reply) → IsTrace words trace
    → Adding trace from w i old new → IsAnsweredOn trace i w found told → ((v : ℕ) → Contains new v → Contains more v)
    → Contains more (left_word found.call.operation.op told) → Adding trace from w (i + 1) old more
adding_one words trace from w i old new more found told t a now keeps there = record {
  kept = λ v h. keeps v (a.kept v h);
  left = λ j c reply l h is. ⊎_elim {C = Contains more (left_word c.call.operation.op reply)}
      (λ (low : j < i). keeps (left_word c.call.operation.op reply) (a.left j c reply l low is))
      (λ (high : i ≤ j).
      let same : j ≡ i = omega arith in
      subst (λ (v : ℕ). Contains more v)
      (one_answer words trace i w found c told reply t now (subst (λ (n : ℕ). IsAnsweredOn trace n w c reply) same is)) there)
      (cases_lt j i);
}

-- the later of two operations that are over
pub later_over : (trace : List Event) (n i w : ℕ) (first : Option CallAt) (second : Option (CallAt × Reply)) (result : Option CallAt) → i < n
    → IfSome first (IsOver trace n w)
    → MatchOption second ((c : CallAt) (reply : Reply) → IsAnsweredOn trace i w c reply → ⊥) (λ r. IsAnsweredOn trace i w r.0 r.1)
    → IfSome result (λ c. (first ≡ Some c) ⊎ ((reply : Reply) × (second ≡ Some (c, reply)))) → IfSome result (IsOver trace n w)
later_over trace n i w first second None low h m r = tt
later_over trace n i w first second (Some c) low h m r = ⊎_elim {C = IsOver trace n w c}
    (λ (e : first ≡ Some c). subst (λ (o : Option CallAt). IfSome o (IsOver trace n w)) e h)
    (λ (s : (reply : Reply) × (second ≡ Some (c, reply))). (
      i,
      s.0,
      low,
      subst (λ (o : Option (CallAt × Reply)).
          MatchOption o ((d : CallAt) (reply : Reply) → IsAnsweredOn trace i w d reply → ⊥) (λ r. IsAnsweredOn trace i w r.0 r.1)) s.1 m,
    ))
    r
