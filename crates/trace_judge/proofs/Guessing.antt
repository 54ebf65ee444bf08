-- A likely trace grows event by event, and what explains it explains the trace.
use Rattle.std.proofs.Common.{◌≡◌, ⊎_elim, ℕ, ◌+◌, arith, List, [], ◌∷◌, ◌++◌, length, Option, Some, None, Vec, MatchOption, refl, sym, subst, slice_get, take, add-one}
use Rattle.packet.specs.declared.kinds.Reply.{Reply}
use Rattle.trace_laws.specs.declared.event.Call.{Call}
use Rattle.trace_laws.specs.declared.event.Event.{Event}
use Rattle.trace_laws.specs.declared.event.Event.TheVariants.{Answer}
use Rattle.trace_laws.specs.Traces.{IsTrace, TraceAnswersAt}
use Rattle.trace_laws.specs.Orders.{IsOrder, IsLinearizable}
use Rattle.trace_laws.specs.Unanswered.{IssuesUnanswered, IsResponse, IsWithout}
use Rattle.trace_laws.proofs.Lists.{take_push}
use Rattle.trace_laws.proofs.Unanswered.{to_long, to_fewer_answers}
use Rattle.trace_laws.proofs.Without.{without_kept, without_left}
use Rattle.trace_judge.specs.Verdicts.{IsGoodUntil}
use Rattle.trace_judge.specs.Guesses.{IsLikely, IsKeptOrLeft, HasGuessedAnswer}

likely_kept : (trace old new : List Event) (k : ℕ) (event : Event) → slice_get trace k ≡ Some event
    → IsKeptOrLeft trace k old new → IsLikely trace (take k trace) old → IsLikely trace (take (k + 1) trace) new
likely_kept trace old new k event at is was =
    subst (λ (n : ℕ). IsLikely trace (take n trace) new) (sym (add-one k))
    (subst (λ (es : List Event). IsLikely trace es new) (sym (take_push trace k event at))
    (⊎_elim {C = IsLikely trace (take k trace ++ event ∷ []) new}
    (λ (e : new ≡ old ++ event ∷ []). (
      was.0 ++ event ∷ [],
      without_kept (IssuesUnanswered trace) (take k trace) was.0 event was.1,
      subst (λ (es : List Event). IsWithout IsResponse es (was.0 ++ event ∷ [])) (sym e)
          (without_kept IsResponse old was.0 event was.2),
    ))
    (λ (r : (new ≡ old) × IssuesUnanswered trace event). (
      was.0,
      without_left (IssuesUnanswered trace) (take k trace) was.0 event r.1 was.1,
      subst (λ (es : List Event). IsWithout IsResponse es was.0) (sym r.0) was.2,
    ))
    (is event at)))

pub likely_answer : (trace events old new : List Event) → HasGuessedAnswer old new → IsLikely trace events old
    → IsLikely trace events new
likely_answer trace events old new is was = ⊎_elim {C = IsLikely trace events new}
    (λ (e : new ≡ old). subst (λ (es : List Event). IsLikely trace events es) (sym e) was)
    (λ (r : (id : ℕ) × (reply : Reply) × (new ≡ old ++ Answer id reply ∷ [])). (
      was.0,
      was.1,
      subst (λ (es : List Event). IsWithout IsResponse es was.0) (sym r.2)
          (without_left IsResponse old was.0 (Answer r.0 r.1) (r.0, r.1, refl) was.2),
    ))
    is

pub likely_more : (trace old middle new : List Event) (k : ℕ) (event : Event) → slice_get trace k ≡ Some event
    → IsKeptOrLeft trace k old middle → HasGuessedAnswer middle new → IsLikely trace (take k trace) old
    → IsLikely trace (take (k + 1) trace) new
likely_more trace old middle new k event at kept answer was =
    likely_answer trace (take (k + 1) trace) middle new answer (likely_kept trace old middle k event at kept was)

pub likely_explains : (opening : List ℕ) (trace likely : List Event) (order : List Call) → IsTrace (length opening) trace
    → IsLikely trace trace likely → IsOrder opening likely order → IsOrder opening trace order
likely_explains opening trace likely order t is o =
    to_long opening (length opening) trace is.0 order t
    (to_fewer_answers opening likely is.0 order o is.2) is.1

-- where nothing is answered, the empty order explains the trace
pub silent_order : (opening : List ℕ) (trace : List Event) (order : List Call) → order ≡ []
    → ((i id : ℕ) (reply : Reply) → TraceAnswersAt trace i id reply → ⊥) → IsOrder opening trace order
silent_order opening trace order empty none = record {
  once = λ x y c d h k e. absurd (nothing x c h);
  issued = λ x c h. absurd (nothing x c h);
  answered = λ i id reply h. absurd (none i id reply h);
  real_time = λ i j x y c d reply l h k m n. absurd (none i c.id reply h);
  replies = λ i x c reply h k. absurd (none i c.id reply k);
}
  where
    nothing : (x : ℕ) (c : Call) → slice_get order x ≡ Some c → ⊥
    nothing x c h = let e : slice_get [] x ≡ Some c = subst (λ (o : List Call). slice_get o x ≡ Some c) empty h in cc (e)

-- what is found for a likely trace
pub likely_found : {A : Type 0} (opening : List ℕ) (trace likely seen : List Event) (found : Option (Vec Call A))
    → IsTrace (length opening) trace → IsLikely trace trace likely → seen ≡ likely
    → MatchOption found (IsLinearizable opening seen → ⊥) (λ order. IsOrder opening seen order.items)
    → MatchOption found (Unit {0}) (λ order. IsOrder opening trace order.items)
likely_found opening trace likely seen None t is same found = tt
likely_found opening trace likely seen (Some order) t is same found =
    likely_explains opening trace likely order.items t is
    (subst (λ (es : List Event). IsOrder opening es order.items) same found)

-- where no order explains a trace there is an event, and nothing before it is linearizable
pub good_from_none : (opening : List ℕ) (trace : List Event) → (IsLinearizable opening trace → ⊥)
    → IsGoodUntil opening trace 0
good_from_none opening [] none = absurd (none ([], silent_order opening [] [] refl (λ i id reply h. cc)))
good_from_none opening (event ∷ rest) none = (omega arith, ([], silent_order opening [] [] refl (λ i id reply h. cc)))

-- a search of a trace that no order explains ended at an event, up to which one does
pub good_where_none : {A : Type 0} (opening : List ℕ) (trace : List Event) (found : Option (Vec Call A)) (event : ℕ)
    → (IsLinearizable opening trace → ⊥)
    → MatchOption found (IsLinearizable opening trace → ⊥) (λ order. IsOrder opening trace order.items)
    → (found ≡ None → IsGoodUntil opening trace event) → IsGoodUntil opening trace event
good_where_none opening trace None event none decided good = good refl
good_where_none opening trace (Some order) event none decided good = absurd (none (order.items, decided))
