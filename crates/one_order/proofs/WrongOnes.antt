-- Wrong orders: a run and the legal order of its operations, and runs and orders of which the definition says one thing
-- and each wrong one another.
use Rattle.std.proofs.Common.{◌≡◌, ℕ, zero, suc, ◌<◌, ◌≤◌, List, [], ◌∷◌, Some, take, refl, subst, slice_get, arith}
use Rattle.std.specs.Prelude.{fold}
use Rattle.packet.specs.declared.kinds.Op.{Op}
use Rattle.packet.specs.declared.kinds.Op.TheVariants.{Load, Store}
use Rattle.packet.specs.declared.kinds.Operation.{Operation}
use Rattle.packet.specs.declared.kinds.Reply.{Reply}
use Rattle.packet.specs.declared.kinds.Reply.TheVariants.{Old, Ok as Stored}
use Rattle.packet.specs.Memory.{memory_after}
use Rattle.one_order.specs.declared.answer.Answer.{Answer}
use Rattle.one_order.specs.Observed.{Run, HasIssued, HasAnswered, IsIssuedAt, IsAnsweredAt, list_at}
use Rattle.one_order.specs.Order.{LinearizationPoint, operations_of, WasIssued, TookEffect, IsLegalOrder}
use Rattle.one_order.specs.Events.{Event, happens, nothing_yet}

-- two processors and two words, which are 0 at first; what is shown after each number of these events
abbrev pub opening : List ℕ
opening = 0 ∷ 0 ∷ []

abbrev pub run_of : List Event → Run
run_of events k = fold (happens 2) (nothing_yet 2 opening) (take k events)

abbrev pub on_word_0 : Op → Operation
on_word_0 op = record { address = 0; op = op }

abbrev pub answer : Op → Reply → ℕ → Answer
answer op reply place = record { index = 0; op = op; reply = reply; bank = 0; place = place }

abbrev pub point : ℕ → Op → ℕ → LinearizationPoint
point source op step = record { source = source; index = 0; operation = on_word_0 op; step = step }

-- processor 0 stores 7 in word 0, which bank 0 serves at step 2; once that is answered, processor 1 loads it
abbrev pub in_turn : ℕ → List Event
in_turn word =
    Event.Issued 0 (on_word_0 (Store 7))
    ∷ Event.Served 0 0 (record { 0 = 0 }) (on_word_0 (Store 7))
    ∷ Event.Answered 0 (answer (Store 7) Stored 0)
    ∷ Event.Issued 1 (on_word_0 Load)
    ∷ Event.Served 1 0 (record { 0 = 0 }) (on_word_0 Load)
    ∷ Event.Answered 1 (answer Load (Old word) 1)
    ∷ []

abbrev pub run : Run
run = run_of (in_turn 7)

-- the store is issued at step 1, and at no other
store_is_issued : IsIssuedAt run 0 0 1
store_is_issued = record { holds = omega arith; not_before = not_before }
  where
    not_before : (k : ℕ) → k < 1 → HasIssued (run k) 0 0 → ⊥
    not_before zero low h = absurd (omega (arith, h))
    not_before (suc k) low h = absurd (omega (arith, low))

store_is_issued_once : IsIssuedAt run 0 0 2 → ⊥
store_is_issued_once h = absurd (h.not_before 1 (omega arith) (omega arith))

-- wrong: whatever has happened by then
abbrev HasHappened : (ℕ → Type 0) → ℕ → Type 0
HasHappened P t = P t

store_is_issued_again : HasHappened (λ k. HasIssued (run k) 0 0) 2
store_is_issued_again = omega arith

-- wrong: and not at that step either
record IsNever (P : ℕ → Type 0) (t : ℕ) : Type 0 where
  holds : P t
  not_before : (k : ℕ) → k ≤ t → P k → ⊥

store_is_never_issued : IsNever (λ k. HasIssued (run k) 0 0) 1 → ⊥
store_is_never_issued h = h.not_before 1 (omega arith) h.holds

-- what holds of two points holds of each of them in a list, and so what holds of pairs
module _ (a b : LinearizationPoint) where
  pub each_of_two : (P : LinearizationPoint → Type 0) → P a → P b
      → (k : ℕ) (x : LinearizationPoint) → slice_get (a ∷ b ∷ []) k ≡ Some x → P x
  each_of_two P at_a at_b zero x e = let same : a ≡ x = cc in subst P same at_a
  each_of_two P at_a at_b (suc zero) x e = let same : b ≡ x = cc in subst P same at_b
  each_of_two P at_a at_b (suc (suc k)) x e = absurd (cc)

  pub each_pair : (P : ℕ → ℕ → LinearizationPoint → LinearizationPoint → Type 0)
      → P 0 0 a a → P 0 1 a b → P 1 0 b a → P 1 1 b b
      → (j k : ℕ) (x y : LinearizationPoint) → slice_get (a ∷ b ∷ []) j ≡ Some x → slice_get (a ∷ b ∷ []) k ≡ Some y
      → P j k x y
  each_pair P aa ab ba bb zero k x y e f =
      let same : a ≡ x = cc in subst (λ z. P 0 k z y) same (with_first k y f)
    where
      with_first : (k : ℕ) (y : LinearizationPoint) → slice_get (a ∷ b ∷ []) k ≡ Some y → P 0 k a y
      with_first zero y f = let same : a ≡ y = cc in subst (P 0 0 a) same aa
      with_first (suc zero) y f = let same : b ≡ y = cc in subst (P 0 1 a) same ab
      with_first (suc (suc k)) y f = absurd (cc)
  each_pair P aa ab ba bb (suc zero) k x y e f =
      let same : b ≡ x = cc in subst (λ z. P 1 k z y) same (with_second k y f)
    where
      with_second : (k : ℕ) (y : LinearizationPoint) → slice_get (a ∷ b ∷ []) k ≡ Some y → P 1 k b y
      with_second zero y f = let same : a ≡ y = cc in subst (P 1 0 b) same ba
      with_second (suc zero) y f = let same : b ≡ y = cc in subst (P 1 1 b) same bb
      with_second (suc (suc k)) y f = absurd (cc)
  each_pair P aa ab ba bb (suc (suc j)) k x y e f = absurd (cc)

-- the store and the load, at the steps of their services
abbrev pub stored : LinearizationPoint
stored = point 0 (Store 7) 2

abbrev pub loaded : LinearizationPoint
loaded = point 1 Load 5

-- wrong: the steps need not rise, so the order need not be that of the services (Lamport, IEEE TC C-28(9), 1979:
-- sequential consistency)
pub record IsAnyOrder (opening : List ℕ) (run : Run) (n : ℕ) (order : List LinearizationPoint) : Type 0 where
  pub within : (k : ℕ) (x : LinearizationPoint) → slice_get order k ≡ Some x → x.step ≤ n
  pub distinct : (j k : ℕ) (x y : LinearizationPoint) → slice_get order j ≡ Some x → slice_get order k ≡ Some y
      → x.source ≡ y.source → x.index ≡ y.index → j ≡ k
  pub issued : (k : ℕ) (x : LinearizationPoint) → slice_get order k ≡ Some x → WasIssued run n x
  pub answered : (p i : ℕ) (a : Answer) → slice_get (list_at (run n).answers p) i ≡ Some a
      → TookEffect opening run order p a
  pub memory : (run n).memory ≡ memory_after (operations_of order) opening

-- the run in which the load replies this word
module _ (word : ℕ) where
  pub store_was_issued : WasIssued (run_of (in_turn word)) 6 stored
  store_was_issued =
      record {
        operation = refl;
        at = 1;
        issued = record { holds = omega arith; not_before = before };
        before = omega arith;
      }
    where
      before : (k : ℕ) → k < 1 → HasIssued (run_of (in_turn word) k) 0 0 → ⊥
      before zero low h = absurd (omega (arith, h))
      before (suc k) low h = absurd (omega (arith, low))

  pub load_was_issued : WasIssued (run_of (in_turn word)) 6 loaded
  load_was_issued =
      record {
        operation = refl;
        at = 4;
        issued = record { holds = omega arith; not_before = before };
        before = omega arith;
      }
    where
      before : (k : ℕ) → k < 4 → HasIssued (run_of (in_turn word) k) 1 0 → ⊥
      before zero low h = absurd (omega (arith, h))
      before (suc zero) low h = absurd (omega (arith, h))
      before (suc (suc zero)) low h = absurd (omega (arith, h))
      before (suc (suc (suc zero))) low h = absurd (omega (arith, h))
      before (suc (suc (suc (suc k)))) low h = absurd (omega (arith, low))

  pub store_is_answered : IsAnsweredAt (run_of (in_turn word)) 0 0 3
  store_is_answered = record { holds = (0, answer (Store 7) Stored 0, refl, refl); not_before = before }
    where
      before : (k : ℕ) → k < 3 → HasAnswered (run_of (in_turn word) k) 0 0 → ⊥
      before zero low h = cc (h.2)
      before (suc zero) low h = cc (h.2)
      before (suc (suc zero)) low h = cc (h.2)
      before (suc (suc (suc k))) low h = absurd (omega (arith, low))

  pub load_is_answered : IsAnsweredAt (run_of (in_turn word)) 1 0 6
  load_is_answered = record { holds = (0, answer Load (Old word) 1, refl, refl); not_before = before }
    where
      before : (k : ℕ) → k < 6 → HasAnswered (run_of (in_turn word) k) 1 0 → ⊥
      before zero low h = cc (h.2)
      before (suc zero) low h = cc (h.2)
      before (suc (suc zero)) low h = cc (h.2)
      before (suc (suc (suc zero))) low h = cc (h.2)
      before (suc (suc (suc (suc zero)))) low h = cc (h.2)
      before (suc (suc (suc (suc (suc zero))))) low h = cc (h.2)
      before (suc (suc (suc (suc (suc (suc k)))))) low h = absurd (omega (arith, low))

  -- both answers, if their operations take effect in an order
  pub both_take_effect : (order : List LinearizationPoint)
      → TookEffect opening (run_of (in_turn word)) order 0 (answer (Store 7) Stored 0)
      → TookEffect opening (run_of (in_turn word)) order 1 (answer Load (Old word) 1)
      → (p i : ℕ) (a : Answer) → slice_get (list_at (run_of (in_turn word) 6).answers p) i ≡ Some a
      → TookEffect opening (run_of (in_turn word)) order p a
  both_take_effect order first second zero zero a e =
      let same : answer (Store 7) Stored 0 ≡ a = cc in
      subst (TookEffect opening (run_of (in_turn word)) order 0) same first
  both_take_effect order first second zero (suc i) a e = absurd (cc)
  both_take_effect order first second (suc zero) zero a e =
      let same : answer Load (Old word) 1 ≡ a = cc in
      subst (TookEffect opening (run_of (in_turn word)) order 1) same second
  both_take_effect order first second (suc zero) (suc i) a e = absurd (cc)
  both_take_effect order first second (suc (suc p)) i a e = absurd (cc)

-- the store and then the load are a legal order of the run in which the load replies what was stored
order_is_legal : IsLegalOrder opening run 6 (stored ∷ loaded ∷ [])
order_is_legal = record {
  rising = (λ j k x y low e f. each_pair stored loaded (λ j k x y. j < k → x.step < y.step)
      (λ h. absurd (omega (arith, h))) (λ h. omega arith) (λ h. absurd (omega (arith, h)))
      (λ h. absurd (omega (arith, h))) j k x y e f low);
  within = each_of_two stored loaded (λ x. x.step ≤ 6) (omega arith) (omega arith);
  distinct = each_pair stored loaded (λ j k x y. x.source ≡ y.source → x.index ≡ y.index → j ≡ k)
      (λ _ _. refl) (λ h _. absurd (omega (arith, h))) (λ h _. absurd (omega (arith, h))) (λ _ _. refl);
  issued = each_of_two stored loaded (WasIssued run 6) (store_was_issued 7) (load_was_issued 7);
  answered = both_take_effect 7 (stored ∷ loaded ∷ [])
      (record {
        k = 0;
        point = stored;
        there = refl;
        source = refl;
        index = refl;
        op = refl;
        at = 3;
        answered = store_is_answered 7;
        before = omega arith;
        reply = refl;
      })
      (record {
        k = 1;
        point = loaded;
        there = refl;
        source = refl;
        index = refl;
        op = refl;
        at = 6;
        answered = load_is_answered 7;
        before = omega arith;
        reply = refl;
      });
  memory = refl;
}
