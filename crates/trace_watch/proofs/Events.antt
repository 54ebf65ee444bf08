-- Traces with one event more.
use Rattle.std.proofs.Common.{◌≡◌, ◌⊎◌, inl, inr, ⊎_elim, ℕ, ◌<◌, ◌≤◌, List, [], ◌∷◌, ◌++◌, length, Option, Some, None, refl, sym, ◌∙◌, ap, subst, arith}
use Rattle.std.proofs.Common.{slice_get}
use Rattle.packet.specs.declared.kinds.Reply.{Reply}
use Rattle.trace_laws.specs.declared.event.Call.{Call}
use Rattle.trace_laws.specs.declared.event.Event.{Event}
use Rattle.trace_laws.specs.declared.event.Event.TheVariants.{Issue, Answer}
use Rattle.trace_laws.specs.Traces.{IsTrace, TraceIssuesAt, TraceAnswersAt, WasIssuedBefore, IsAnswered}
use Rattle.trace_laws.proofs.Issues.{one_issue}
use Rattle.trace_laws.proofs.Lists.{get_push_cases, get_append_left, get_push, get_within}
use Rattle.trace_laws.specs.Configs.{IsIn}
use Rattle.trace_watch.specs.Known.{IsPendingCall, ArePending, IsNewest}

pub issue_up : (t : List Event) (e : Event) (i : ℕ) (c : Call) → TraceIssuesAt t i c → TraceIssuesAt (t ++ e ∷ []) i c
issue_up t e i c h = get_append_left t (e ∷ []) i (Issue c) h

pub answer_up : (t : List Event) (e : Event) (i id : ℕ) (r : Reply) → TraceAnswersAt t i id r
    → TraceAnswersAt (t ++ e ∷ []) i id r
answer_up t e i id r h = get_append_left t (e ∷ []) i (Answer id r) h

pub answered_up : (t : List Event) (e : Event) (id : ℕ) → IsAnswered t id → IsAnswered (t ++ e ∷ []) id
answered_up t e id a = (a.0, a.1, answer_up t e a.0 id a.1 a.2)

pub issue_cases : (t : List Event) (e : Event) (i : ℕ) (c : Call) → TraceIssuesAt (t ++ e ∷ []) i c
    → TraceIssuesAt t i c ⊎ ((i ≡ length t) × (e ≡ Issue c))
issue_cases t e i c h = get_push_cases t e i (Issue c) h

pub answer_cases : (t : List Event) (e : Event) (i id : ℕ) (r : Reply) → TraceAnswersAt (t ++ e ∷ []) i id r
    → TraceAnswersAt t i id r ⊎ ((i ≡ length t) × (e ≡ Answer id r))
answer_cases t e i id r h = get_push_cases t e i (Answer id r) h

pub no_issue : (id : ℕ) (r : Reply) (c : Call) → Answer id r ≡ Issue c → ⊥
no_issue id r c e = cc

pub no_answer : (id : ℕ) (r : Reply) (c : Call) → Issue c ≡ Answer id r → ⊥
no_answer id r c e = cc

pub same_call : (b c : Call) → Issue b ≡ Issue c → b ≡ c
same_call b c e = cc

pub same_number : (id other : ℕ) (r s : Reply) → Answer id r ≡ Answer other s → (id ≡ other) × (r ≡ s)
same_number id other r s e = (cc, cc)

-- before an answer the issues are the old ones
pub issue_down : (t : List Event) (id : ℕ) (r : Reply) (i : ℕ) (c : Call)
    → TraceIssuesAt (t ++ Answer id r ∷ []) i c → TraceIssuesAt t i c
issue_down t id r i c h = ⊎_elim {C = TraceIssuesAt t i c} (λ old. old) (λ new. absurd (no_issue id r c new.1))
    (issue_cases t (Answer id r) i c h)

-- and before an issue the answers
pub answer_down : (t : List Event) (b : Call) (i id : ℕ) (r : Reply)
    → TraceAnswersAt (t ++ Issue b ∷ []) i id r → TraceAnswersAt t i id r
answer_down t b i id r h = ⊎_elim {C = TraceAnswersAt t i id r} (λ old. old) (λ new. absurd (no_answer id r b new.1))
    (answer_cases t (Issue b) i id r h)

pub trace_none : (words : ℕ) → IsTrace words []
trace_none words = record {
  rising = λ i j a b l h k. absurd (let e : None ≡ Some (Issue a) = h in cc);
  issued = λ j id reply h. absurd (let e : None ≡ Some (Answer id reply) = h in cc);
  once = λ i j id r s h k. absurd (let e : None ≡ Some (Answer id r) = h in cc);
  inside = λ i call h. absurd (let e : None ≡ Some (Issue call) = h in cc);
}

-- an operation with a new number is issued
pub trace_issue : (words : ℕ) (t : List Event) (b : Call) → IsTrace words t
    → ((i : ℕ) (a : Call) → TraceIssuesAt t i a → a.id < b.id) → b.operation.address < words
    → IsTrace words (t ++ Issue b ∷ [])
trace_issue words t b is above inside = record {
  rising = λ i j a c l h k. ⊎_elim {C = a.id < c.id}
      (λ (old : TraceIssuesAt t j c).
      ⊎_elim {C = a.id < c.id}
      (λ (also : TraceIssuesAt t i a). is.rising i j a c l also old)
      (λ (new : (i ≡ length t) × (Issue b ≡ Issue a)).
      let m = get_within t j (Issue c) old in let n = new.0 in absurd (omega arith))
      (issue_cases t (Issue b) i a h))
      (λ (new : (j ≡ length t) × (Issue b ≡ Issue c)).
      let same = same_call b c new.1 in
      ⊎_elim {C = a.id < c.id}
      (λ (old : TraceIssuesAt t i a). subst (λ (d : Call). a.id < d.id) same (above i a old))
      (λ (also : (i ≡ length t) × (Issue b ≡ Issue a)). let n = new.0 in let m = also.0 in absurd (omega arith))
      (issue_cases t (Issue b) i a h))
      (issue_cases t (Issue b) j c k);
  issued = λ j id reply h.
      let w = is.issued j id reply (answer_down t b j id reply h) in
      (w.0, w.1, w.2, w.3, issue_up t (Issue b) w.0 w.1 w.4);
  once = λ i j id r s h k. is.once i j id r s (answer_down t b i id r h) (answer_down t b j id s k);
  inside = λ i c h. ⊎_elim {C = c.operation.address < words}
      (λ old. is.inside i c old)
      (λ new. subst (λ (d : Call). d.operation.address < words) (same_call b c new.1) inside)
      (issue_cases t (Issue b) i c h);
}

-- an open operation is answered
pub trace_answer : (words : ℕ) (t : List Event) (id : ℕ) (reply : Reply) (at : ℕ) (b : Call) → IsTrace words t
    → TraceIssuesAt t at b → b.id ≡ id → (IsAnswered t id → ⊥) → IsTrace words (t ++ Answer id reply ∷ [])
trace_answer words t id reply at b is issue number never = record {
  rising = λ i j a c l h k. is.rising i j a c l (issue_down t id reply i a h) (issue_down t id reply j c k);
  issued = λ j other r h. ⊎_elim {C = WasIssuedBefore (t ++ Answer id reply ∷ []) j other}
      (λ old. let w = is.issued j other r old in
      (w.0, w.1, w.2, w.3, issue_up t (Answer id reply) w.0 w.1 w.4))
      (λ (new : (j ≡ length t) × (Answer id reply ≡ Answer other r)).
      let m = get_within t at (Issue b) issue in
      let n = new.0 in
      (at, b, omega arith, number ∙ (same_number id other reply r new.1).0, issue_up t (Answer id reply) at b issue))
      (answer_cases t (Answer id reply) j other r h);
  once = λ i j other r s h k. ⊎_elim {C = i ≡ j}
      (λ (old : TraceAnswersAt t i other r). ⊎_elim {C = i ≡ j}
      (λ (also : TraceAnswersAt t j other s). is.once i j other r s old also)
      (λ (new : (j ≡ length t) × (Answer id reply ≡ Answer other s)).
      absurd (never (subst (λ (n : ℕ). IsAnswered t n) (sym (same_number id other reply s new.1).0) (i, r, old))))
      (answer_cases t (Answer id reply) j other s k))
      (λ (new : (i ≡ length t) × (Answer id reply ≡ Answer other r)). ⊎_elim {C = i ≡ j}
      (λ (old : TraceAnswersAt t j other s).
      absurd (never (subst (λ (n : ℕ). IsAnswered t n) (sym (same_number id other reply r new.1).0) (j, s, old))))
      (λ (also : (j ≡ length t) × (Answer id reply ≡ Answer other s)). new.0 ∙ sym also.0)
      (answer_cases t (Answer id reply) j other s k))
      (answer_cases t (Answer id reply) i other r h);
  inside = λ i c h. is.inside i c (issue_down t id reply i c h);
}

-- what can't be an event of a trace: an address outside
pub outside : (words : ℕ) (t : List Event) (b : Call) → words ≤ b.operation.address
    → IsTrace words (t ++ Issue b ∷ []) → ⊥
outside words t b far is = let l = is.inside (length t) b (get_push t (Issue b)) in omega arith

-- a number that isn't above the newest
pub not_rising : (words : ℕ) (t : List Event) (b : Call) (last : Option ℕ) (n : ℕ) → IsNewest t last
    → last ≡ Some n → b.id ≤ n → IsTrace words (t ++ Issue b ∷ []) → ⊥
not_rising words t b last n newest e low is =
    let a = newest.told n e in
    let m = get_within t a.0 (Issue a.1) a.2 in
    let l = is.rising a.0 (length t) a.1 b m (issue_up t (Issue b) a.0 a.1 a.2) (get_push t (Issue b)) in
    let s = a.3 in
    omega arith

-- an answer to what isn't open
pub not_pending : (words : ℕ) (t : List Event) (id : ℕ) (reply : Reply) (calls : List Call) → ArePending t calls
    → ((c : Call) → IsIn calls c → c.id ≡ id → ⊥) → IsTrace words (t ++ Answer id reply ∷ []) → ⊥
not_pending words t id reply calls pending none is =
    let w = is.issued (length t) id reply (get_push t (Answer id reply)) in
    let issue = issue_down t id reply w.0 w.1 w.4 in
    ⊎_elim {C = ⊥}
    (λ (a : IsAnswered t w.1.id).
    let told : TraceAnswersAt t a.0 id a.1 = subst (λ (n : ℕ). TraceAnswersAt t a.0 n a.1) w.3 a.2 in
    let m = get_within t a.0 (Answer id a.1) told in
    let e = is.once a.0 (length t) id a.1 reply (answer_up t (Answer id reply) a.0 id a.1 told)
    (get_push t (Answer id reply)) in
    omega arith)
    (λ (on : IsIn calls w.1). none w.1 on w.3)
    (pending.all w.0 w.1 issue)

-- a number that is issued now isn't answered yet
pub not_yet : (words : ℕ) (t : List Event) (b : Call) → IsTrace words (t ++ Issue b ∷ []) → IsAnswered t b.id → ⊥
not_yet words t b is a =
    let told = answer_up t (Issue b) a.0 b.id a.1 a.2 in
    let w = is.issued a.0 b.id a.1 told in
    let l = get_within t a.0 (Answer b.id a.1) a.2 in
    let early = w.2 in
    let same = one_issue words (t ++ Issue b ∷ []) is w.0 (length t) w.1 b w.4 (get_push t (Issue b)) w.3 in
    omega arith

pub answered_down : (t : List Event) (b : Call) (id : ℕ) → IsAnswered (t ++ Issue b ∷ []) id → IsAnswered t id
answered_down t b id a = (a.0, a.1, answer_down t b a.0 id a.1 a.2)

-- what is open after an issue
pub pending_issue : (words : ℕ) (t : List Event) (b : Call) (calls : List Call)
    → IsTrace words (t ++ Issue b ∷ []) → ArePending t calls
    → ArePending (t ++ Issue b ∷ []) (calls ++ b ∷ [])
pending_issue words t b calls is p = record {
  each = λ c on. ⊎_elim {C = IsPendingCall (t ++ Issue b ∷ []) c}
      (λ (old : slice_get calls on.0 ≡ Some c).
      let q = p.each c (on.0, old) in
      record {
        issued = (q.issued.0, issue_up t (Issue b) q.issued.0 c q.issued.1);
        unanswered = λ a. q.unanswered (answered_down t b c.id a);
      })
      (λ (new : (on.0 ≡ length calls) × (b ≡ c)).
      subst (λ (d : Call). IsPendingCall (t ++ Issue b ∷ []) d) new.1 (record {
        issued = (length t, get_push t (Issue b));
        unanswered = λ a. not_yet words t b is (answered_down t b b.id a);
      }))
      (get_push_cases calls b on.0 c on.1);
  all = λ i c h. ⊎_elim {C = IsAnswered (t ++ Issue b ∷ []) c.id ⊎ IsIn (calls ++ b ∷ []) c}
      (λ (old : TraceIssuesAt t i c).
      ⊎_elim {C = IsAnswered (t ++ Issue b ∷ []) c.id ⊎ IsIn (calls ++ b ∷ []) c}
      (λ (a : IsAnswered t c.id). inl (answered_up t (Issue b) c.id a))
      (λ (on : IsIn calls c). inr (on.0, get_append_left calls (b ∷ []) on.0 c on.1))
      (p.all i c old))
      (λ (new : (i ≡ length t) × (Issue b ≡ Issue c)).
      inr (subst (λ (d : Call). IsIn (calls ++ b ∷ []) d) (same_call b c new.1) (length calls, get_push calls b)))
      (issue_cases t (Issue b) i c h);
}

-- and after an answer
pub pending_answer : (t : List Event) (id : ℕ) (reply : Reply) (calls later : List Call) → ArePending t calls
    → ((c : Call) → IsIn later c → IsIn calls c × (c.id ≡ id → ⊥))
    → ((c : Call) → IsIn calls c → (c.id ≡ id) ⊎ IsIn later c)
    → ArePending (t ++ Answer id reply ∷ []) later
pending_answer t id reply calls later p from kept = record {
  each = λ c on.
      let f = from c on in
      let q = p.each c f.0 in
      record {
        issued = (q.issued.0, issue_up t (Answer id reply) q.issued.0 c q.issued.1);
        unanswered = λ a. ⊎_elim {C = ⊥}
            (λ (old : TraceAnswersAt t a.0 c.id a.1). q.unanswered (a.0, a.1, old))
            (λ new. f.1 (sym (same_number id c.id reply a.1 new.1).0))
            (answer_cases t (Answer id reply) a.0 c.id a.1 a.2);
      };
  all = λ i c h. ⊎_elim {C = IsAnswered (t ++ Answer id reply ∷ []) c.id ⊎ IsIn later c}
      (λ (a : IsAnswered t c.id). inl (answered_up t (Answer id reply) c.id a))
      (λ (on : IsIn calls c). ⊎_elim {C = IsAnswered (t ++ Answer id reply ∷ []) c.id ⊎ IsIn later c}
      (λ (e : c.id ≡ id). inl (
        length t,
        reply,
        subst (λ (n : ℕ). TraceAnswersAt (t ++ Answer id reply ∷ []) (length t) n reply)
            (sym e) (get_push t (Answer id reply)),
      ))
      (λ (l : IsIn later c). inr l)
      (kept c on))
      (p.all i c (issue_down t id reply i c h));
}

pub newest_issue : (t : List Event) (b : Call) (last : Option ℕ) → IsNewest t last
    → ((i : ℕ) (a : Call) → TraceIssuesAt t i a → a.id < b.id) → IsNewest (t ++ Issue b ∷ []) (Some b.id)
newest_issue t b last n above = record {
  above = λ i c h. ⊎_elim {C = (m : ℕ) × (Some b.id ≡ Some m) × (c.id ≤ m)}
      (λ (old : TraceIssuesAt t i c). let l = above i c old in (b.id, refl, omega arith))
      (λ (new : (i ≡ length t) × (Issue b ≡ Issue c)).
      let e = ap (λ (d : Call). d.id) (same_call b c new.1) in (b.id, refl, omega arith))
      (issue_cases t (Issue b) i c h);
  told = λ m e. (length t, b, get_push t (Issue b), cc);
}

pub newest_answer : (t : List Event) (id : ℕ) (reply : Reply) (last : Option ℕ) → IsNewest t last
    → IsNewest (t ++ Answer id reply ∷ []) last
newest_answer t id reply last n = record {
  above = λ i c h. n.above i c (issue_down t id reply i c h);
  told = λ m e. let r = n.told m e in (r.0, r.1, issue_up t (Answer id reply) r.0 r.1 r.2, r.3);
}

-- numbers that are above the newest are above all
pub above_all : (t : List Event) (last : Option ℕ) (id : ℕ) → IsNewest t last
    → ((n : ℕ) → last ≡ Some n → n < id) → (i : ℕ) (a : Call) → TraceIssuesAt t i a → a.id < id
above_all t last id n less i a h = let r = n.above i a h in let l = less r.0 r.1 in let m = r.2 in omega arith
