-- One event more: what the events so far are stays so.
use Rattle.std.proofs.Common.{◌≡◌, ⊎_elim, ℕ, zero, suc, ◌<◌, ◌+◌, true, false, List, [], ◌∷◌, ◌++◌, length, Some, None, refl, sym, ◌∙◌}
use Rattle.std.proofs.Common.{ap, subst, arith, slice_get}
use Rattle.std.specs.Prelude.{Bool, Option, slice_set}
use Rattle.std.specs.List.{slice_index_or}
use Rattle.std.proofs.lemmas.List.{length-set}
use Rattle.packet.specs.declared.kinds.Operation.{Operation}
use Rattle.packet.specs.declared.kinds.Reply.{Reply}
use Rattle.trace_laws.specs.declared.event.Call.{Call}
use Rattle.trace_laws.specs.declared.event.Event.{Event}
use Rattle.trace_laws.specs.declared.event.Event.TheVariants.{Issue, Answer}
use Rattle.trace_laws.specs.Traces.{TraceAnswersAt}
use Rattle.trace_laws.proofs.Lists.{get_append_left, get_within, within_length, set_get_same, get_set_other}
use Rattle.trace_text.proofs.Growing.{longer, none_issued, none_answered, none_trace, issued_with, issued_before, answered_with, answered_before}
use Rattle.trace_text.proofs.Growing.{issue_grows, answer_grows}
use Rattle.c_handles.specs.Gathered.{Gathered, nothing_gathered, gathered_issue, gathered_answer, is_replied}
use Rattle.c_handles.specs.Kept.{IsGathered}

pub kept_none : (words : ℕ) → IsGathered words nothing_gathered
kept_none words = record {
  sized = refl;
  trace = none_trace words;
  ids = λ i c h. absurd (none_issued i c h);
  marked = λ i id reply h. absurd (none_answered i id reply h);
}

-- a new issue
pub issue_kept : (words : ℕ) (g : Gathered) → IsGathered words g → (p : ℕ) (o : Operation) → o.address < words → IsGathered words (gathered_issue g p o)
issue_kept words g k p o low =
    let new : Call = record { id = length g.events; operation = o } in
    record {
      sized = longer g.answered false ∙ (ap (λ n. n + 1) k.sized ∙ sym (longer g.events (Issue new)));
      trace = issue_grows words g.events new k.trace
          (λ i c h. subst (λ (n : ℕ). n < length g.events) (sym (k.ids i c h)) (get_within g.events i (Issue c) h)) low;
      ids = λ i c h. ⊎_elim
          (λ old. k.ids i c old)
          (λ last. ap (λ (d : Call). d.id) (sym last.1) ∙ sym last.0)
          (issued_with g.events new i c h);
      marked = λ i id reply h.
          get_append_left g.answered (false ∷ []) id true (k.marked i id reply (answered_before g.events new i id reply h));
    }

-- an event that a reply goes with is an issue
issue_of : (o : Option Event) (reply : Reply) → is_replied o reply ≡ true → (call : Call) × (o ≡ Some (Issue call))
issue_of None reply h = absurd (let e : false ≡ true = h in cc)
issue_of (Some (Issue call)) reply h = (call, refl)
issue_of (Some (Answer id other)) reply h = absurd (let e : false ≡ true = h in cc)

-- what isn't marked isn't answered
not_marked : (marks : List Bool) (n : ℕ) → slice_index_or marks n false ≡ false → slice_get marks n ≡ Some true → ⊥
not_marked [] n h m = let e : None ≡ Some true = m in absurd (cc)
not_marked (x ∷ xs) zero h m = let a : x ≡ false = h in let b : Some x ≡ Some true = m in absurd (cc)
not_marked (x ∷ xs) (suc n) h m = not_marked xs n h m

-- a new answer
pub answer_kept : (words : ℕ) (g : Gathered) → IsGathered words g → (n : ℕ) (reply : Reply) → is_replied (slice_get g.events n) reply ≡ true
    → slice_index_or g.answered n false ≡ false → IsGathered words (gathered_answer g n reply)
answer_kept words g k n reply goes open_ =
    let issue = issue_of (slice_get g.events n) reply goes in
    let low = get_within g.events n (Issue issue.0) issue.1 in
    let place = within_length g.answered n (let s = k.sized in omega (arith, s, low)) in
    let none : (j : ℕ) (s : Reply) → TraceAnswersAt g.events j n s → ⊥ = λ j s old. not_marked g.answered n open_ (k.marked j n s old) in
    record {
      sized = longer (slice_set g.answered n true) false
          ∙ (ap (λ m. m + 1) (length-set g.answered n true ∙ k.sized) ∙ sym (longer g.events (Answer n reply)));
      trace = answer_grows words g.events n reply k.trace (n, issue.0, low, k.ids n issue.0 issue.1, issue.1) none;
      ids = λ i c h. k.ids i c (issued_before g.events n reply i c h);
      marked = λ j id s h. ⊎_elim
          (λ (old : TraceAnswersAt g.events j id s). get_append_left (slice_set g.answered n true) (false ∷ []) id true
          (get_set_other g.answered n id true (λ (e : id ≡ n). none j s (subst (λ (m : ℕ). TraceAnswersAt g.events j m s) e old))
          ∙ k.marked j id s old))
          (λ (last : (j ≡ length g.events) × (n ≡ id) × (reply ≡ s)).
          subst (λ (m : ℕ). slice_get (slice_set g.answered n true ++ false ∷ []) m ≡ Some true) last.1
          (get_append_left (slice_set g.answered n true) (false ∷ []) n true (set_get_same g.answered n place.0 true place.1)))
          (answered_with g.events n reply j id s h);
    }
