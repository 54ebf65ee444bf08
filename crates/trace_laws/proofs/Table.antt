-- The open operations on a word, in the slots of its table.
use Rattle.std.proofs.Common.{◌≡◌, ◌≢◌, inl, inr, ⊎_elim, ℕ, suc, ◌<◌, List, [], ◌∷◌, ◌++◌, length, Option, Some, None, sym, ◌∙◌, ap, subst, arith, slice_get, set, length-set}
use Rattle.std.proofs.lemmas.Bool.{cases_eq}
use Rattle.std.proofs.lemmas.List.{length_push}
use Rattle.packet.specs.declared.kinds.Reply.{Reply}
use Rattle.trace_laws.specs.declared.event.Call.{Call}
use Rattle.trace_laws.specs.declared.event.Event.{Event}
use Rattle.trace_laws.specs.declared.event.Event.TheVariants.{Issue, Answer}
use Rattle.trace_laws.specs.declared.opened.Open.{Open}
use Rattle.trace_laws.specs.Traces.{IsTrace, TraceIssuesAt, TraceAnswersAt}
use Rattle.trace_laws.proofs.Lists.{get_within, get_set_same, set_get_same, get_set_other, get_push_cases, get_append_left}
use Rattle.trace_laws.proofs.Issues.{one_issue, one_call}
use Rattle.trace_laws.specs.Unanswered.{IsUnansweredLoad}
use Rattle.trace_laws.specs.Searches.{IsAt, IsPending, IsIndexTable}

pub at_within : (trace : List Event) (k w : ℕ) (table : List (Option Open)) (s : ℕ) (o : Open)
    → IsIndexTable trace k w table → IsAt table s o → s < 128
at_within trace k w table s o t h = let l = get_within table s (Some o) h in let m = t.slots in omega arith

-- what is pending before an issue is so behind it
pending_issue : (trace : List Event) (k : ℕ) (c : Call) (o : Open) → TraceIssuesAt trace k c → IsPending trace k o
    → IsPending trace (suc k) o
pending_issue trace k c o now p = record {
  at = p.at;
  early = let e = p.early in omega arith;
  issue = p.issue;
  unanswered = λ i reply h. ⊎_elim
      (λ (e : i ≡ k). absurd
      (let there : slice_get trace i ≡ Some (Issue c) = ap (λ (n : ℕ). slice_get trace n) e ∙ now in cc))
      (λ (ne : i ≢ k). let l = p.unanswered i reply h in omega arith)
      (cases_eq i k);
  kept = p.kept;
  honest = p.honest;
}

-- and behind the answer to another
pending_answer : (trace : List Event) (k id : ℕ) (reply : Reply) (o : Open) → TraceAnswersAt trace k id reply
    → id ≢ o.call.id → IsPending trace k o → IsPending trace (suc k) o
pending_answer trace k id reply o now other p = record {
  at = p.at;
  early = let e = p.early in omega arith;
  issue = p.issue;
  unanswered = λ i told m. ⊎_elim
      (λ (e : i ≡ k).
      let at : slice_get trace i ≡ Some (Answer id reply) = ap (λ (n : ℕ). slice_get trace n) e ∙ now in
      let same : id ≡ o.call.id = cc in
      absurd (other same))
      (λ (ne : i ≢ k). let l = p.unanswered i told m in omega arith)
      (cases_eq i k);
  kept = p.kept;
  honest = p.honest;
}

-- the next event issues an operation, which takes a free slot
pub table_issue : (words : ℕ) (trace : List Event) (k : ℕ) (table : List (Option Open)) (s : ℕ) (b : Open)
    → IsTrace words trace → TraceIssuesAt trace k b.call
    → slice_get table s ≡ Some None → IsPending trace (suc k) b → IsIndexTable trace k b.call.operation.address table
    → IsIndexTable trace (suc k) b.call.operation.address (set table s (Some b))
table_issue words trace k table s b t now free new is = record {
  slots = let e = length-set table s (Some b) in let l = is.slots in omega arith;
  pending = λ u o h. ⊎_elim
      (λ (e : u ≡ s). subst (λ (q : Open). IsPending trace (suc k) q) (sym (new_one u o e h)) new)
      (λ (ne : u ≢ s). pending_issue trace k b.call o now (is.pending u o (old u o ne h)))
      (cases_eq u s);
  here = λ u o h. ⊎_elim
      (λ (e : u ≡ s). ap (λ (q : Open). q.call.operation.address) (new_one u o e h))
      (λ (ne : u ≢ s). is.here u o (old u o ne h))
      (cases_eq u s);
  distinct = λ u v o p h m same. ⊎_elim
      (λ (eu : u ≡ s). ⊎_elim
      (λ (ev : v ≡ s). eu ∙ sym ev)
      (λ (nv : v ≢ s). absurd
      (apart p (is.pending v p (old v p nv m)) (ap (λ (q : Open). q.call.id) (sym (new_one u o eu h)) ∙ same)))
      (cases_eq v s))
      (λ (nu : u ≢ s). ⊎_elim
      (λ (ev : v ≡ s). absurd
      (apart o (is.pending u o (old u o nu h)) (ap (λ (q : Open). q.call.id) (sym (new_one v p ev m)) ∙ sym same)))
      (λ (nv : v ≢ s). is.distinct u v o p (old u o nu h) (old v p nv m) same)
      (cases_eq v s))
      (cases_eq u s);
  known = λ i call l h on asked. ⊎_elim
      (λ (e : i ≡ k).
      let there : slice_get trace i ≡ Some (Issue b.call) = ap (λ (n : ℕ). slice_get trace n) e ∙ now in
      let same : b.call ≡ call = cc in
      inr (s, b, set_get_same table s None (Some b) free, same))
      (λ (ne : i ≢ k). ⊎_elim
      (λ r. inl (r.0, r.1, omega arith, r.3))
      (λ (r : (u : ℕ) × (o : Open) × IsAt table u o × (o.call ≡ call)). inr
      (r.0, r.1, get_set_other table s r.0 (Some b) (taken r.0 r.1 r.2) ∙ r.2, r.3))
      (is.known i call (omega arith) h on asked))
      (cases_eq i k);
}
  where
    new_one : (u : ℕ) (o : Open) → u ≡ s → IsAt (set table s (Some b)) u o → o ≡ b
    new_one u o e h =
        let same : Some o ≡ Some b = get_set_same table s None (Some b) (Some o) free
        (ap (λ (n : ℕ). slice_get (set table s (Some b)) n) (sym e) ∙ h) in
        cc

    old : (u : ℕ) (o : Open) → u ≢ s → IsAt (set table s (Some b)) u o → IsAt table u o
    old u o ne h = sym (get_set_other table s u (Some b) ne) ∙ h

    taken : (u : ℕ) (o : Open) → IsAt table u o → u ≢ s
    taken u o h e = let there : slice_get table s ≡ Some (Some o) = ap (λ (n : ℕ). slice_get table n) (sym e)
        ∙ h in cc

    apart : (o : Open) → IsPending trace k o → b.call.id ≡ o.call.id → ⊥
    apart o p e =
        let same = one_issue words trace t k p.at b.call o.call now p.issue e in
        let early = p.early in
        omega arith

-- on another word
pub table_issue_other : (trace : List Event) (k w : ℕ) (table : List (Option Open)) (c : Call) → TraceIssuesAt trace k c
    → w ≢ c.operation.address → IsIndexTable trace k w table → IsIndexTable trace (suc k) w table
table_issue_other trace k w table c now away is = record {
  slots = is.slots;
  pending = λ u o h. pending_issue trace k c o now (is.pending u o h);
  here = is.here;
  distinct = is.distinct;
  known = λ i call l h on asked. ⊎_elim
      (λ (e : i ≡ k).
      let there : slice_get trace i ≡ Some (Issue c) = ap (λ (n : ℕ). slice_get trace n) e ∙ now in
      let same : c ≡ call = cc in
      absurd (away (sym on ∙ ap (λ (d : Call). d.operation.address) (sym same))))
      (λ (ne : i ≢ k). ⊎_elim
      (λ r. inl (r.0, r.1, omega arith, r.3))
      (λ (r : (u : ℕ) × (o : Open) × IsAt table u o × (o.call ≡ call)). inr r)
      (is.known i call (omega arith) h on asked))
      (cases_eq i k);
}

-- the next event answers the operation in slot s
pub table_answer : (trace : List Event) (k w : ℕ) (table : List (Option Open)) (s : ℕ) (a : Open) (reply : Reply)
    → TraceAnswersAt trace k a.call.id reply
    → IsAt table s a → IsIndexTable trace k w table → IsIndexTable trace (suc k) w (set table s None)
table_answer trace k w table s a reply now there is = record {
  slots = let e = length-set table s None in let l = is.slots in omega arith;
  pending = λ u o h. pending_answer trace k a.call.id reply o now
      (λ same. other u o h (is.distinct u s o a (old u o h) there (sym same))) (is.pending u o (old u o h));
  here = λ u o h. is.here u o (old u o h);
  distinct = λ u v o p h m same. is.distinct u v o p (old u o h) (old v p m) same;
  known = λ i call l h on asked. ⊎_elim
      (λ (e : i ≡ k). absurd
      (let at : slice_get trace k ≡ Some (Issue call) = ap (λ (n : ℕ). slice_get trace n) (sym e) ∙ h in cc))
      (λ (ne : i ≢ k). ⊎_elim
      (λ r. inl (r.0, r.1, omega arith, r.3))
      (λ (r : (u : ℕ) × (o : Open) × IsAt table u o × (o.call ≡ call)). ⊎_elim
      (λ (e : r.0 ≡ s).
      let here : slice_get table s ≡ Some (Some r.1) = ap (λ (n : ℕ). slice_get table n) (sym e) ∙ r.2 in
      let same : a ≡ r.1 = cc in
      inl (
        k,
        reply,
        omega arith,
        subst (λ (c : Call). TraceAnswersAt trace k c.id reply)
            (ap (λ (q : Open). q.call) same ∙ r.3) now,
      ))
      (λ (nu : r.0 ≢ s). inr (r.0, r.1, get_set_other table s r.0 None nu ∙ r.2, r.3))
      (cases_eq r.0 s))
      (is.known i call (omega arith) h on asked))
      (cases_eq i k);
}
  where
    other : (u : ℕ) (o : Open) → IsAt (set table s None) u o → u ≢ s
    other u o h e =
        let same : Some o ≡ None = get_set_same table s (Some a) None (Some o) there
        (ap (λ (n : ℕ). slice_get (set table s None) n) (sym e) ∙ h) in
        cc

    old : (u : ℕ) (o : Open) → IsAt (set table s None) u o → IsAt table u o
    old u o h = sym (get_set_other table s u None (other u o h)) ∙ h

-- an operation on another word
pub table_answer_other : (words : ℕ) (trace : List Event) (k w : ℕ) (table : List (Option Open)) (a : Open) (reply : Reply)
    → IsTrace words trace → TraceAnswersAt trace k a.call.id reply → IsPending trace k a → w ≢ a.call.operation.address
    → IsIndexTable trace k w table → IsIndexTable trace (suc k) w table
table_answer_other words trace k w table a reply t now new away is = record {
  slots = is.slots;
  pending = λ u o h.
      let p = is.pending u o h in
      pending_answer trace k a.call.id reply o now
      (λ same.
      let one = one_call words trace t new.at p.at a.call o.call new.issue p.issue same in
      away (sym (is.here u o h) ∙ ap (λ (d : Call). d.operation.address) (sym one)))
      p;
  here = is.here;
  distinct = is.distinct;
  known = λ i call l h on asked. ⊎_elim
      (λ (e : i ≡ k). absurd
      (let at : slice_get trace k ≡ Some (Issue call) = ap (λ (n : ℕ). slice_get trace n) (sym e) ∙ h in cc))
      (λ (ne : i ≢ k). ⊎_elim
      (λ r. inl (r.0, r.1, omega arith, r.3))
      (λ (r : (u : ℕ) × (o : Open) × IsAt table u o × (o.call ≡ call)). inr r)
      (is.known i call (omega arith) h on asked))
      (cases_eq i k);
}

-- one more slot
pub at_more : (table : List (Option Open)) (s : ℕ) (o : Open) → IsAt (table ++ None ∷ []) s o → IsAt table s o
at_more table s o h = ⊎_elim
    (λ old. old)
    (λ (r : (s ≡ length table) × (None ≡ Some o)). absurd (let e = r.1 in cc))
    (get_push_cases table None s (Some o) h)

pub more_at : (table : List (Option Open)) (s : ℕ) (o : Open) → IsAt table s o → IsAt (table ++ None ∷ []) s o
more_at table s o h = get_append_left table (None ∷ []) s (Some o) h

pub table_more : (trace : List Event) (k w : ℕ) (table : List (Option Open)) → length table < 128
    → IsIndexTable trace k w table → IsIndexTable trace k w (table ++ None ∷ [])
table_more trace k w table small is = record {
  slots = let e = length_push table None in omega arith;
  pending = λ s o h. is.pending s o (at_more table s o h);
  here = λ s o h. is.here s o (at_more table s o h);
  distinct = λ s u o p h m same. is.distinct s u o p (at_more table s o h) (at_more table u p m) same;
  known = λ i call l h on asked. ⊎_elim
      (λ r. inl r)
      (λ (r : (u : ℕ) × (o : Open) × IsAt table u o × (o.call ≡ call)). inr (r.0, r.1, more_at table r.0 r.1 r.2, r.3))
      (is.known i call l h on asked);
}

-- the next event issues a load that is never answered
pub table_unanswered : (trace : List Event) (k w : ℕ) (table : List (Option Open)) (c : Call) → TraceIssuesAt trace k c
    → IsUnansweredLoad trace c → IsIndexTable trace k w table → IsIndexTable trace (suc k) w table
table_unanswered trace k w table c now lost is = record {
  slots = is.slots;
  pending = λ u o h. pending_issue trace k c o now (is.pending u o h);
  here = is.here;
  distinct = is.distinct;
  known = λ i call l h on asked. ⊎_elim
      (λ (e : i ≡ k).
      let there : slice_get trace i ≡ Some (Issue c) = ap (λ (n : ℕ). slice_get trace n) e ∙ now in
      let same : c ≡ call = cc in
      absurd (asked (subst (λ (d : Call). IsUnansweredLoad trace d) same lost)))
      (λ (ne : i ≢ k). ⊎_elim
      (λ r. inl (r.0, r.1, omega arith, r.3))
      (λ (r : (u : ℕ) × (o : Open) × IsAt table u o × (o.call ≡ call)). inr r)
      (is.known i call (omega arith) h on asked))
      (cases_eq i k);
}
