-- Choices that a search takes, gives up and turns back from.
use Rattle.std.proofs.Common.{◌≡◌, inl, inr, ℕ, ◌+◌, ◌<◌, ◌≤◌, true, false, List, [], ◌∷◌, ◌++◌, length, take, drop, refl, sym, subst, arith}
use Rattle.std.specs.Prelude.{Option, None, Some}
use Rattle.std.proofs.lemmas.Bool.{cases_lt}
use Rattle.std.proofs.lemmas.List.{take-append-drop}
use Rattle.memory_models.specs.declared.kinds.Rule.{Rule}
use Rattle.model_values.specs.declared.looking.Seen.{Seen}
use Rattle.model_values.specs.declared.question.OrderVerdict.{OrderVerdict}
use Rattle.model_values.specs.declared.question.OrderVerdict.TheVariants.{Breaks}
use Rattle.model_values.specs.declared.valued.Valued.{Valued}
use Rattle.model_values.specs.Choices.{Chooses, Forced, Takes, Refutes, Turns, Closes, CutsOffChoices, GivesNone, IsAbove, MayRead}
use Rattle.model_values.specs.Choices.{source_in}
use Rattle.model_values.specs.ChoiceSteps.{IsAnswerAt, IsSeen, IsStep, TakesNext, TurnsBack}
use Rattle.model_values.specs.Values.{IsReader}
use Rattle.model_values.proofs.Chosen.{may_read_in}
use Rattle.model_values.proofs.Choosing.{all_refuted}

-- the least source of an operation
pub takes : (v : Valued) (old new : List (ℕ × ℕ)) (x s : ℕ) → MayRead v x s → ((t : ℕ) → IsAbove None t → t < s → MayRead v x t → ⊥)
    → new ≡ old ++ (x, s) ∷ [] → TakesNext v old new x true
takes v old new x s may least is rules n from = Takes old new n (n + 1) x s from may (λ t below other. least t tt below other) is refl

-- the only source of an operation
pub forces : (v : Valued) (old new : List (ℕ × ℕ)) (x s : ℕ) → MayRead v x s → ((t : ℕ) → IsAbove None t → t < s → MayRead v x t → ⊥)
    → ((t : ℕ) → IsAbove (Some s) t → MayRead v x t → ⊥) → new ≡ old ++ (x, s) ∷ []
    → (rules : List Rule) (n : ℕ) → Chooses rules v old false n → Chooses rules v new false n
forces v old new x s may least greatest is rules n from = Forced old new n x s from may only is
  where
    only : (t : ℕ) → MayRead v x t → t ≡ s
    only t other = elim (cases_lt t s) [
      | inl below ↦ absurd (least t tt below other)
      | inr not ↦ elim (cases_lt s t) [
        | inl above ↦ absurd (greatest t above other)
        | inr same ↦ omega (arith, not, same)
      ]
    ]

-- the next source of the last operation
pub turns : (v : Valued) (path last next : List (ℕ × ℕ)) (x s t : ℕ) → last ≡ path ++ (x, s) ∷ [] → IsAbove (Some s) t → MayRead v x t
    → ((u : ℕ) → IsAbove (Some s) u → u < t → MayRead v x u → ⊥) → next ≡ path ++ (x, t) ∷ []
    → (rules : List Rule) (n : ℕ) → Chooses rules v last true n → Chooses rules v next false n
turns v path last next x s t was above may least is rules n from = Turns path last next n x s t from was above may least is

-- the last operation has no further source
pub closes : (v : Valued) (path last : List (ℕ × ℕ)) (x s : ℕ) → last ≡ path ++ (x, s) ∷ [] → ((u : ℕ) → IsAbove (Some s) u → MayRead v x u → ⊥)
    → (rules : List Rule) (n : ℕ) → Chooses rules v last true n → Chooses rules v path true n
closes v path last x s was none rules n from = Closes path last n x s from was none

-- no order gives an operation a source that it may not have
pub none_may : (rules : List Rule) (v : Valued) (path : List (ℕ × ℕ)) (x : ℕ) → x < length v.operations.now → IsReader v.operations.now x
    → ((t : ℕ) → MayRead v x t → ⊥) → GivesNone rules v path
none_may rules v path x low reads none placed writes e gives = none (source_in v placed writes x) (may_read_in v placed writes e.valued x low reads)

refuted_front : (rules : List Rule) (v : Valued) (path : List (ℕ × ℕ)) (depth n : ℕ) → GivesNone rules v (take depth path) → Chooses rules v path false n
    → Chooses rules v (take depth path) true (n + 1)
refuted_front rules v path depth n none from =
    Refutes (take depth path) (drop depth path) path n (n + 1) from (sym (take-append-drop depth path)) none refl

-- a search turns back from operations to which no order gives their sources
pub goes_back : (A : Type 0) (rules : List Rule) (v : Valued) (old new : List (ℕ × ℕ)) (depth left : ℕ) → GivesNone rules v (take depth old)
    → TurnsBack v (take depth old) new true → IsStep {A = A} rules v old new left None
goes_back A rules v old new depth left none back n from = back rules (n + 1) (refuted_front rules v old depth n none from)

pub goes_nowhere : (A : Type 0) (rules : List Rule) (v : Valued) (old new : List (ℕ × ℕ)) (depth left : ℕ) → GivesNone rules v (take depth old)
    → TurnsBack v (take depth old) new false → IsStep {A = A} rules v old new left (Some Breaks)
goes_nowhere A rules v old new depth left none back looked nodes from sum =
    all_refuted rules v (looked + 1) (back rules (looked + 1) (refuted_front rules v old depth looked none from))

-- the search has looked at all that it may
pub cut_off : (rules : List Rule) (v : Valued) (path : List (ℕ × ℕ)) (looked nodes : ℕ) → Chooses rules v path false looked → looked ≤ nodes → nodes ≤ looked
    → CutsOffChoices rules v nodes
cut_off rules v path looked nodes from most least =
    record { path = path; looked = looked; search = from; left = 0; most = omega (arith, most, least); cut = inl refl }

-- what is seen of a path
pub seen_at : {A : Type 0} (rules : List Rule) (v : Valued) (path items : List (ℕ × ℕ)) (left : ℕ) (seen other : Seen A) → path ≡ items → seen ≡ other
    → IsSeen rules v path left seen → IsSeen rules v items left other
seen_at {A = A} rules v path items left seen other at is said =
    subst (λ z. IsSeen {A = A} rules v items left z) is (subst (λ (p : List (ℕ × ℕ)). IsSeen {A = A} rules v p left seen) at said)

-- the answer of a step
pub step_answer : {A : Type 0} (rules : List Rule) (v : Valued) (old new : List (ℕ × ℕ)) (left : ℕ) (found : Option (OrderVerdict A))
    (verdict : OrderVerdict A) → found ≡ Some verdict → IsStep rules v old new left found → IsAnswerAt rules v old left verdict
step_answer {A = A} rules v old new left found verdict is step = subst (λ z. IsStep {A = A} rules v old new left z) is step
