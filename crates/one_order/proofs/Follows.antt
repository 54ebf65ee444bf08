-- Each processor's operations in a run are those that its follower shows.
use Rattle.std.proofs.Common.{◌≡◌, ◌≢◌, ◌⊎◌, inl, inr, ⊎_elim, ℕ, suc, ◌+◌, ◌<◌, ◌≤◌, List, [], ◌∷◌, ◌++◌, length}
use Rattle.std.proofs.Common.{Option, Some, None, refl, sym, ◌∙◌, ap, subst, arith, slice_get, slice_set, length-set}
use Rattle.std.proofs.lemmas.Bool.{cases_eq, cases_lt}
use Rattle.std.proofs.lemmas.List.{length_push}
use Rattle.std.proofs.lemmas.Option.{slice_get_within, same_Some}
use Rattle.packet.specs.declared.kinds.Reply.{Reply}
use Rattle.packet.specs.declared.kinds.Operation.{Operation}
use Rattle.script_lines.specs.declared.line.Line.{Line}
use Rattle.one_order.specs.Scripts.{Invocation}
use Rattle.one_order.specs.Following.{Following, ShowsPast, starts, issues, answers, first_of, next_operation_of}
use Rattle.one_order.specs.Following.{after_issue, after_answer}
use Rattle.one_order.specs.declared.answer.Answer.{Answer}
use Rattle.one_order.specs.Observed.{Observed, Run, list_at, HasAnswered, IsIssuedAt, IsAnsweredAt}
use Rattle.one_order.proofs.Lists.{get_push_cases, get_append_left, get_push, within_length}
use Rattle.one_order.specs.AbstractScripts.{AreInvocationsOf}
use Rattle.one_order.proofs.Lists.{get_set_same, get_set_other}

-- the follower of p shows the operations that p issued in the first n steps of a run
pub record Follows (run : Run) (n p : ℕ) (lines : List Line) (f : Following) : Type 0 where
  pub ops : List Invocation
  pub are : AreInvocationsOf run n p ops
  pub shows : ShowsPast lines ops f

-- at first nothing is issued
pub follows_first : (run : Run) (p : ℕ) (lines : List Line) → list_at (run 0).issued p ≡ [] → Follows run 0 p lines (first_of lines)
follows_first run p lines none = record {
  ops = [];
  are = record {
    count = sym (ap length none);
    each = λ i o h. absurd (cc);
    unanswered = λ i o h. absurd (cc);
    answered = λ i o t reply h. absurd (cc);
  };
  shows = starts;
}

has_same : (s u : Observed) (p i : ℕ) → list_at s.answers p ≡ list_at u.answers p → HasAnswered s p i → HasAnswered u p i
has_same s u p i e h = (h.0, h.1, ap (λ xs. slice_get xs h.0) (sym e) ∙ h.2, h.3)

-- a step that leaves p's operations and answers leaves what its follower shows
pub follows_kept : (run : Run) (n p : ℕ) (lines : List Line) (f : Following) → Follows run n p lines f
    → list_at (run (suc n)).issued p ≡ list_at (run n).issued p → list_at (run (suc n)).answers p ≡ list_at (run n).answers p
    → Follows run (suc n) p lines f
follows_kept run n p lines f h issued answered = record {
  ops = h.ops;
  are = record {
    count = h.are.count ∙ ap length (sym issued);
    each = λ i o there. let old = h.are.each i o there in (ap (λ xs. slice_get xs i) issued ∙ old.0, old.1);
    unanswered = λ i o there none now. h.are.unanswered i o there none (has_same (run (suc n)) (run n) p i answered now);
    answered = λ i o t reply there is. let old = h.are.answered i o t reply there is in
        (old.0, (old.1.0, old.1.1, ap (λ xs. slice_get xs old.1.0) answered ∙ old.1.2, old.1.3, old.1.4));
  };
  shows = h.shows;
}

-- what was answered in the first n steps was answered at one of them
answered_by_now : (run : Run) (n p i t : ℕ) → IsAnsweredAt run p i t → HasAnswered (run n) p i → t ≤ n
answered_by_now run n p i t at now = ⊎_elim
    (λ (late : n < t). absurd (at.not_before n late now))
    (λ in_time. in_time)
    (cases_lt n t)

-- p issues the operation that its follower has ready
pub follows_issued : (run : Run) (n p : ℕ) (lines : List Line) (f : Following) (o : Operation) → Follows run n p lines f
    → next_operation_of f ≡ Some o
    → list_at (run (suc n)).issued p ≡ list_at (run n).issued p ++ o ∷ [] → list_at (run (suc n)).answers p ≡ list_at (run n).answers p
    → ((k : ℕ) → k ≤ n → length (list_at (run k).issued p) ≤ length (list_at (run n).issued p))
    → (HasAnswered (run n) p (length (list_at (run n).issued p)) → ⊥)
    → Follows run (suc n) p lines (after_issue f)
follows_issued run n p lines f o h is_next issued answered grown unanswered =
    let len : ℕ = length (list_at (run n).issued p) in
    let new : Invocation = record { operation = o; issue = suc n; answer = None } in
    let longer = length_push (list_at (run n).issued p) o in
    record {
      ops = h.ops ++ new ∷ [];
      are = record {
        count = length_push h.ops new ∙ (ap (λ m. m + 1) h.are.count ∙ (sym longer ∙ ap length (sym issued)));
        each = λ i x there. ⊎_elim
            (λ (l : slice_get h.ops i ≡ Some x). let old = h.are.each i x l in
            (ap (λ xs. slice_get xs i) issued ∙ get_append_left (list_at (run n).issued p) (o ∷ []) i x.operation old.0, old.1))
            (λ (r : (i ≡ length h.ops) × (new ≡ x)).
            let at : i ≡ len = r.0 ∙ h.are.count in
            let now : length (list_at (run (suc n)).issued p) ≡ len + 1 = ap length issued ∙ longer in (
              subst (λ (y : Invocation). slice_get (list_at (run (suc n)).issued p) i ≡ Some y.operation) r.1
                  (ap (λ xs. slice_get xs i) issued ∙ (ap (slice_get (list_at (run n).issued p ++ o ∷ [])) at ∙ get_push (list_at (run n).issued p) o)),
              subst (λ (y : Invocation). IsIssuedAt run p i y.issue) r.1 (record {
                holds = omega (arith, at, now);
                not_before = λ k below has. let g = grown k (omega arith) in omega (arith, g, at, has);
              }),
            ))
            (get_push_cases h.ops new i x there);
        unanswered = λ i x there none now. ⊎_elim
            (λ (l : slice_get h.ops i ≡ Some x). h.are.unanswered i x l none (has_same (run (suc n)) (run n) p i answered now))
            (λ (r : (i ≡ length h.ops) × (new ≡ x)).
            unanswered (subst (HasAnswered (run n) p) (r.0 ∙ h.are.count) (has_same (run (suc n)) (run n) p i answered now)))
            (get_push_cases h.ops new i x there);
        answered = λ i x t reply there is. ⊎_elim
            (λ (l : slice_get h.ops i ≡ Some x). let old = h.are.answered i x t reply l is in
            (old.0, (old.1.0, old.1.1, ap (λ xs. slice_get xs old.1.0) answered ∙ old.1.2, old.1.3, old.1.4)))
            (λ (r : (i ≡ length h.ops) × (new ≡ x)).
            let e : ◌≡◌ {A = Option (ℕ × Reply)} None (Some (t, reply)) = ap (λ (y : Invocation). y.answer) r.1 ∙ is in absurd (cc))
            (get_push_cases h.ops new i x there);
      };
      shows = issues h.ops f o (suc n) h.shows is_next (λ i x a reply there is.
          let old = h.are.answered i x a reply there is in
          let by_now = answered_by_now run n p i a old.0 (old.1.0, old.1.1, old.1.2, old.1.3) in
          omega arith);
    }

none_or_some : {A : Type 0} (o : Option A) → (o ≡ None) ⊎ ((x : A) × (o ≡ Some x))
none_or_some None = inl refl
none_or_some (Some x) = inr (x, refl)

-- p receives an answer of an operation that has none
pub follows_answered : (run : Run) (n p : ℕ) (lines : List Line) (f : Following) (a : Answer) → Follows run n p lines f
    → list_at (run (suc n)).issued p ≡ list_at (run n).issued p → list_at (run (suc n)).answers p ≡ list_at (run n).answers p ++ a ∷ []
    → a.index < length (list_at (run n).issued p) → (HasAnswered (run n) p a.index → ⊥)
    → ((k : ℕ) → k ≤ n → HasAnswered (run k) p a.index → HasAnswered (run n) p a.index)
    → Follows run (suc n) p lines (after_answer f a.index a.reply)
follows_answered run n p lines f a h issued answered within first grown =
    let i : ℕ = a.index in
    let here = within_length h.ops i (omega (arith, h.are.count)) in
    let o : Invocation = here.0 in
    let now : Invocation = record o { answer = Some (suc n, a.reply) } in
    let none : o.answer ≡ None = ⊎_elim
    (λ none. none)
    (λ (some : (x : ℕ × Reply) × (o.answer ≡ Some x)).
    let old = h.are.answered i o some.0.0 some.0.1 here.1 some.1 in absurd (first (old.1.0, old.1.1, old.1.2, old.1.3)))
    (none_or_some o.answer) in
    let in_ops : i < length h.ops = slice_get_within h.ops i o here.1 in
    let has_now : HasAnswered (run (suc n)) p i = (
      length (list_at (run n).answers p),
      a,
      ap (λ xs. slice_get xs (length (list_at (run n).answers p))) answered ∙ get_push
          (list_at (run n).answers p) a,
      refl,
    ) in
    record {
      ops = slice_set h.ops i now;
      are = record {
        count = length-set h.ops i now ∙ (h.are.count ∙ ap length (sym issued));
        each = λ j x there. ⊎_elim
            (λ (same : j ≡ i).
            let e : now ≡ x =
            same_Some _ _ (sym (get_set_same h.ops i now in_ops) ∙ (ap (slice_get (slice_set h.ops i now)) (sym same) ∙ there)) in
            let old = h.are.each i o here.1 in
            subst (λ (y : Invocation). (slice_get (list_at (run (suc n)).issued p) j ≡ Some y.operation) × IsIssuedAt run p j y.issue) e
            (rw same (ap (λ xs. slice_get xs i) issued ∙ old.0, old.1)))
            (λ (other : j ≢ i).
            let old = h.are.each j x (sym (get_set_other h.ops i j now other) ∙ there) in (ap (λ xs. slice_get xs j) issued ∙ old.0, old.1))
            (cases_eq j i);
        unanswered = λ j x there is has. ⊎_elim
            (λ (same : j ≡ i).
            let e : now ≡ x =
            same_Some _ _ (sym (get_set_same h.ops i now in_ops) ∙ (ap (slice_get (slice_set h.ops i now)) (sym same) ∙ there)) in
            let no : ◌≡◌ {A = Option (ℕ × Reply)} None (Some (suc n, a.reply)) =
            sym is ∙ ap (λ (y : Invocation). y.answer) (sym e) in absurd (cc))
            (λ (other : j ≢ i). ⊎_elim
            (λ (l : slice_get (list_at (run n).answers p) has.0 ≡ Some has.1).
            h.are.unanswered j x (sym (get_set_other h.ops i j now other) ∙ there) is (has.0, has.1, l, has.3))
            (λ (r : (has.0 ≡ length (list_at (run n).answers p)) × (a ≡ has.1)). other (sym (ap (λ (y : Answer). y.index) r.1 ∙ has.3)))
            (get_push_cases (list_at (run n).answers p) a has.0 has.1 (ap (λ xs. slice_get xs has.0) (sym answered) ∙ has.2)))
            (cases_eq j i);
        answered = λ j x t reply there is. ⊎_elim
            (λ (same : j ≡ i).
            let e : now ≡ x =
            same_Some _ _ (sym (get_set_same h.ops i now in_ops) ∙ (ap (slice_get (slice_set h.ops i now)) (sym same) ∙ there)) in
            let pair : ◌≡◌ {A = ℕ × Reply} (suc n, a.reply) (t, reply) = same_Some _ _ (ap (λ (y : Invocation). y.answer) e ∙ is) in
            let when : suc n ≡ t = ap (λ (y : ℕ × Reply). y.0) pair in
            let told : a.reply ≡ reply = ap (λ (y : ℕ × Reply). y.1) pair in (
              subst (λ (m : ℕ). IsAnsweredAt run p j m) when (rw same (record {
                holds = has_now;
                not_before = λ k below has. first (grown k (omega arith) has);
              })),
              (has_now.0, a, has_now.2, sym same, told),
            ))
            (λ (other : j ≢ i).
            let old = h.are.answered j x t reply (sym (get_set_other h.ops i j now other) ∙ there) is in (
              old.0,
              (
                old.1.0,
                old.1.1,
                ap (λ xs. slice_get xs old.1.0) answered ∙ get_append_left (list_at (run n).answers p)
                    (a ∷ []) old.1.0 old.1.1 old.1.2,
                old.1.3,
                old.1.4,
              ),
            ))
            (cases_eq j i);
      };
      shows = answers h.ops f i o (suc n) a.reply h.shows here.1 none;
    }
