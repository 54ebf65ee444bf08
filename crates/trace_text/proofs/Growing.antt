-- Traces that grow by an event at their end.
use Rattle.std.proofs.Common.{◌≡◌, ◌≢◌, ◌⊎◌, inl, inr, ⊎_elim, ℕ, ◌+◌, ◌<◌, ◌≤◌, List, [], ◌∷◌, ◌++◌, length, Some, None, sym, ◌∙◌, subst, arith}
use Rattle.std.proofs.lemmas.List.{length-append}
use Rattle.packet.specs.declared.kinds.Reply.{Reply}
use Rattle.trace_laws.specs.declared.event.Call.{Call}
use Rattle.trace_laws.specs.declared.event.Event.{Event}
use Rattle.trace_laws.specs.declared.event.Event.TheVariants.{Issue, Answer}
use Rattle.trace_laws.specs.Traces.{IsTrace, TraceIssuesAt, TraceAnswersAt, WasIssuedBefore}
use Rattle.trace_laws.proofs.Lists.{get_push_cases, get_append_left, get_within}

pub longer : {A : Type 0} (xs : List A) (x : A) → length (xs ++ x ∷ []) ≡ length xs + 1
longer xs x = length-append xs (x ∷ [])

-- no events
pub none_issued : (i : ℕ) (c : Call) → TraceIssuesAt [] i c → ⊥
none_issued i c h = let e : None ≡ Some (Issue c) = h in absurd (cc)

pub none_answered : (i id : ℕ) (reply : Reply) → TraceAnswersAt [] i id reply → ⊥
none_answered i id reply h = let e : None ≡ Some (Answer id reply) = h in absurd (cc)

pub none_trace : (words : ℕ) → IsTrace words []
none_trace words = record {
  rising = λ i j a b l h m. absurd (none_issued i a h);
  issued = λ j id reply h. absurd (none_answered j id reply h);
  once = λ i j id r s h m. absurd (none_answered i id r h);
  inside = λ i c h. absurd (none_issued i c h);
}

-- what is issued and answered once there is an issue more
pub issued_with : (trace : List Event) (new : Call) (i : ℕ) (c : Call) → TraceIssuesAt (trace ++ Issue new ∷ []) i c
    → TraceIssuesAt trace i c ⊎ ((i ≡ length trace) × (new ≡ c))
issued_with trace new i c h = ⊎_elim
    (λ (old : TraceIssuesAt trace i c). inl old)
    (λ (last : (i ≡ length trace) × (Issue new ≡ Issue c)). inr (last.0, (let e = last.1 in cc)))
    (get_push_cases trace (Issue new) i (Issue c) h)

pub answered_before : (trace : List Event) (new : Call) (i id : ℕ) (reply : Reply) → TraceAnswersAt (trace ++ Issue new ∷ []) i id reply
    → TraceAnswersAt trace i id reply
answered_before trace new i id reply h = ⊎_elim
    (λ (old : TraceAnswersAt trace i id reply). old)
    (λ (last : (i ≡ length trace) × (Issue new ≡ Answer id reply)). absurd (let e = last.1 in cc))
    (get_push_cases trace (Issue new) i (Answer id reply) h)

-- what is issued and answered once there is an answer more
pub issued_before : (trace : List Event) (n : ℕ) (reply : Reply) (i : ℕ) (c : Call) → TraceIssuesAt (trace ++ Answer n reply ∷ []) i c
    → TraceIssuesAt trace i c
issued_before trace n reply i c h = ⊎_elim
    (λ (old : TraceIssuesAt trace i c). old)
    (λ (last : (i ≡ length trace) × (Answer n reply ≡ Issue c)). absurd (let e = last.1 in cc))
    (get_push_cases trace (Answer n reply) i (Issue c) h)

pub answered_with : (trace : List Event) (n : ℕ) (reply : Reply) (i id : ℕ) (told : Reply) → TraceAnswersAt (trace ++ Answer n reply ∷ []) i id told
    → TraceAnswersAt trace i id told ⊎ ((i ≡ length trace) × (n ≡ id) × (reply ≡ told))
answered_with trace n reply i id told h = ⊎_elim
    (λ (old : TraceAnswersAt trace i id told). inl old)
    (λ (last : (i ≡ length trace) × (Answer n reply ≡ Answer id told)). inr (last.0, (let e = last.1 in cc), (let e = last.1 in cc)))
    (get_push_cases trace (Answer n reply) i (Answer id told) h)

-- what was issued was so once more has happened
pub was_issued : (trace : List Event) (e : Event) (j n : ℕ) → WasIssuedBefore trace j n → WasIssuedBefore (trace ++ e ∷ []) j n
was_issued trace e j n w = (w.0, w.1, w.2, w.3, get_append_left trace (e ∷ []) w.0 (Issue w.1) w.4)

pub issued_later : (trace : List Event) (j m n : ℕ) → j ≤ m → WasIssuedBefore trace j n → WasIssuedBefore trace m n
issued_later trace j m n l w = let before = w.2 in (w.0, w.1, omega arith, w.3, w.4)

-- an issue more, of a greater number than those before
pub issue_grows : (words : ℕ) (trace : List Event) (new : Call) → IsTrace words trace
    → ((i : ℕ) (c : Call) → TraceIssuesAt trace i c → c.id < new.id) → new.operation.address < words → IsTrace words (trace ++ Issue new ∷ [])
issue_grows words trace new t above low = record {
  rising = λ i j a b l h m. ⊎_elim
      (λ (first : TraceIssuesAt trace i a). ⊎_elim
      (λ (second : TraceIssuesAt trace j b). t.rising i j a b l first second)
      (λ (second : (j ≡ length trace) × (new ≡ b)). subst (λ (c : Call). a.id < c.id) second.1 (above i a first))
      (issued_with trace new j b m))
      (λ (first : (i ≡ length trace) × (new ≡ a)). ⊎_elim
      (λ (second : TraceIssuesAt trace j b). absurd (let w = get_within trace j (Issue b) second in let f = first.0 in omega arith))
      (λ (second : (j ≡ length trace) × (new ≡ b)). absurd (let f = first.0 in let g = second.0 in omega arith))
      (issued_with trace new j b m))
      (issued_with trace new i a h);
  issued = λ j id reply h. was_issued trace (Issue new) j id (t.issued j id reply (answered_before trace new j id reply h));
  once = λ i j id r s h m. t.once i j id r s (answered_before trace new i id r h) (answered_before trace new j id s m);
  inside = λ i c h. ⊎_elim
      (λ (old : TraceIssuesAt trace i c). t.inside i c old)
      (λ (last : (i ≡ length trace) × (new ≡ c)). subst (λ (d : Call). d.operation.address < words) last.1 low)
      (issued_with trace new i c h);
}

-- an answer more, to an operation that was issued and has none
pub answer_grows : (words : ℕ) (trace : List Event) (n : ℕ) (reply : Reply) → IsTrace words trace → WasIssuedBefore trace (length trace) n
    → ((i : ℕ) (told : Reply) → TraceAnswersAt trace i n told → ⊥) → IsTrace words (trace ++ Answer n reply ∷ [])
answer_grows words trace n reply t was none =
    let other : (i id : ℕ) (told : Reply) → TraceAnswersAt trace i id told → n ≢ id =
    λ i id told at e. none i told (subst (λ (m : ℕ). TraceAnswersAt trace i m told) (sym e) at) in
    record {
      rising = λ i j a b l h m. t.rising i j a b l (issued_before trace n reply i a h) (issued_before trace n reply j b m);
      issued = λ j id told h. ⊎_elim
          (λ (old : TraceAnswersAt trace j id told). was_issued trace (Answer n reply) j id (t.issued j id told old))
          (λ (last : (j ≡ length trace) × (n ≡ id) × (reply ≡ told)).
          subst (λ (m : ℕ). WasIssuedBefore (trace ++ Answer n reply ∷ []) j m) last.1
          (subst (λ (m : ℕ). WasIssuedBefore (trace ++ Answer n reply ∷ []) m n) (sym last.0)
          (was_issued trace (Answer n reply) (length trace) n was)))
          (answered_with trace n reply j id told h);
      once = λ i j id r s h m. ⊎_elim
          (λ (one : TraceAnswersAt trace i id r). ⊎_elim
          (λ (two : TraceAnswersAt trace j id s). t.once i j id r s one two)
          (λ (two : (j ≡ length trace) × (n ≡ id) × (reply ≡ s)). absurd (other i id r one two.1))
          (answered_with trace n reply j id s m))
          (λ (one : (i ≡ length trace) × (n ≡ id) × (reply ≡ r)). ⊎_elim
          (λ (two : TraceAnswersAt trace j id s). absurd (other j id s two one.1))
          (λ (two : (j ≡ length trace) × (n ≡ id) × (reply ≡ s)). one.0 ∙ sym two.0)
          (answered_with trace n reply j id s m))
          (answered_with trace n reply i id r h);
      inside = λ i c h. t.inside i c (issued_before trace n reply i c h);
    }
