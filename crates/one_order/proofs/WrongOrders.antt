-- Wrong orders of the run in which the load replies another word, and definitions that would take them.
use Rattle.std.proofs.Common.{◌≡◌, ℕ, zero, suc, ◌<◌, ◌≤◌, List, [], ◌∷◌, Some, refl, ap, slice_get, slice_index, arith}
use Rattle.packet.specs.declared.kinds.Op.TheVariants.{Load}
use Rattle.packet.specs.declared.kinds.Reply.TheVariants.{Old}
use Rattle.packet.specs.Memory.{memory_after}
use Rattle.one_order.specs.declared.answer.Answer.{Answer}
use Rattle.one_order.specs.Observed.{Run, list_at}
use Rattle.one_order.specs.Order.{LinearizationPoint, operations_of, WasIssued, TookEffect, IsLegalOrder}
use Rattle.one_order.specs.Events.{Event}
use Rattle.one_order.proofs.WrongOnes.{opening, run_of, on_word_0, answer, point, in_turn, run, each_of_two, each_pair, stored, loaded, IsAnyOrder, store_was_issued, load_was_issued, store_is_answered, load_is_answered, both_take_effect}

-- the run in which the load replies 0, though the store was answered before it was issued
abbrev stale : Run
stale = run_of (in_turn 0)

load_before_store_is_not_legal : IsLegalOrder opening stale 6 (loaded ∷ stored ∷ []) → ⊥
load_before_store_is_not_legal h = absurd (omega (arith, h.rising 0 1 loaded stored (omega arith) refl refl))

load_before_store_is_taken : IsAnyOrder opening stale 6 (loaded ∷ stored ∷ [])
load_before_store_is_taken = record {
  within = each_of_two loaded stored (λ x. x.step ≤ 6) (omega arith) (omega arith);
  distinct = each_pair loaded stored (λ j k x y. x.source ≡ y.source → x.index ≡ y.index → j ≡ k)
      (λ _ _. refl) (λ h _. absurd (omega (arith, h))) (λ h _. absurd (omega (arith, h))) (λ _ _. refl);
  issued = each_of_two loaded stored (WasIssued stale 6) (load_was_issued 0) (store_was_issued 0);
  answered = both_take_effect 0 (loaded ∷ stored ∷ [])
      (record {
        k = 1;
        point = stored;
        there = refl;
        source = refl;
        index = refl;
        op = refl;
        at = 3;
        answered = store_is_answered 0;
        before = omega arith;
        reply = refl;
      })
      (record {
        k = 0;
        point = loaded;
        there = refl;
        source = refl;
        index = refl;
        op = refl;
        at = 6;
        answered = load_is_answered 0;
        before = omega arith;
        reply = refl;
      });
  memory = refl;
}

-- wrong: answered operations need not be in the order
record IsOrderOfSome (opening : List ℕ) (run : Run) (n : ℕ) (order : List LinearizationPoint) : Type 0 where
  rising : (j k : ℕ) (x y : LinearizationPoint) → j < k → slice_get order j ≡ Some x → slice_get order k ≡ Some y
      → x.step < y.step
  within : (k : ℕ) (x : LinearizationPoint) → slice_get order k ≡ Some x → x.step ≤ n
  distinct : (j k : ℕ) (x y : LinearizationPoint) → slice_get order j ≡ Some x → slice_get order k ≡ Some y
      → x.source ≡ y.source → x.index ≡ y.index → j ≡ k
  issued : (k : ℕ) (x : LinearizationPoint) → slice_get order k ≡ Some x → WasIssued run n x
  memory : (run n).memory ≡ memory_after (operations_of order) opening

-- a load that replies 5, of a word that is 0
abbrev invented : Run
invented = run_of (
    Event.Issued 0 (on_word_0 Load)
    ∷ Event.Served 0 0 (record { 0 = 0 }) (on_word_0 Load)
    ∷ Event.Answered 0 (answer Load (Old 5) 0)
    ∷ [])

answer_is_of_an_operation : IsLegalOrder opening invented 3 [] → ⊥
answer_is_of_an_operation h = cc ((h.answered 0 0 (answer Load (Old 5) 0) refl).there)

answer_is_of_none : IsOrderOfSome opening invented 3 []
answer_is_of_none = record {
  rising = (λ j k x y low e f. absurd (cc));
  within = (λ k x e. absurd (cc));
  distinct = (λ j k x y e f g h. absurd (cc));
  issued = (λ k x e. absurd (cc));
  memory = refl;
}

-- wrong: the shown words need not be what the memory holds in the end
record LeavesAnyWords (opening : List ℕ) (run : Run) (n : ℕ) (order : List LinearizationPoint) : Type 0 where
  rising : (j k : ℕ) (x y : LinearizationPoint) → j < k → slice_get order j ≡ Some x → slice_get order k ≡ Some y
      → x.step < y.step
  within : (k : ℕ) (x : LinearizationPoint) → slice_get order k ≡ Some x → x.step ≤ n
  distinct : (j k : ℕ) (x y : LinearizationPoint) → slice_get order j ≡ Some x → slice_get order k ≡ Some y
      → x.source ≡ y.source → x.index ≡ y.index → j ≡ k
  issued : (k : ℕ) (x : LinearizationPoint) → slice_get order k ≡ Some x → WasIssued run n x
  answered : (p i : ℕ) (a : Answer) → slice_get (list_at (run n).answers p) i ≡ Some a
      → TookEffect opening run order p a

-- the store is served, and not answered yet
served_store_is_in_the_order : IsLegalOrder opening run 2 [] → ⊥
served_store_is_in_the_order h = absurd (omega (arith, ap (λ (words : List ℕ). slice_index words 0) h.memory))

served_store_is_left_out : LeavesAnyWords opening run 2 []
served_store_is_left_out = record {
  rising = (λ j k x y low e f. absurd (cc));
  within = (λ k x e. absurd (cc));
  distinct = (λ j k x y e f g h. absurd (cc));
  issued = (λ k x e. absurd (cc));
  answered = none;
}
  where
    none : (p i : ℕ) (a : Answer) → slice_get (list_at (run 2).answers p) i ≡ Some a → TookEffect opening run [] p a
    none zero i a e = absurd (cc)
    none (suc zero) i a e = absurd (cc)
    none (suc (suc p)) i a e = absurd (cc)
