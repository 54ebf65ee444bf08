-- The steps of the search over sources.
use Rattle.std.specs.Prelude.{◌≡◌, ℕ, ◌+◌, ◌<◌, Bool, true, false, List, [], length, take, Option, None, Some}
use Rattle.memory_models.specs.declared.kinds.Rule.{Rule}
use Rattle.model_values.specs.declared.looking.Seen.{Seen}
use Rattle.model_values.specs.declared.looking.Seen.TheVariants.{Answer, Refuted, Open}
use Rattle.model_values.specs.declared.question.OrderVerdict.{OrderVerdict}
use Rattle.model_values.specs.declared.valued.Valued.{Valued}
use Rattle.model_values.specs.Choices.{Chooses, GivesNone, MayRead}
use Rattle.model_values.specs.ValuedVerdict.{IsJudgedOn}
use Rattle.model_values.specs.Values.{IsReader}

-- the answer of a search that stands at a path and may look at so many choices more
abbrev pub IsAnswerAt : {A : Type 0} → List Rule → Valued → List (ℕ × ℕ) → ℕ → OrderVerdict A → Type 0
IsAnswerAt rules v path left verdict = (looked nodes : ℕ) → Chooses rules v path false looked
    → looked + left ≡ nodes → IsJudgedOn rules v nodes verdict

-- the answer; or no order gives so many first operations their sources; or one that reads its word
abbrev pub IsSeen : {A : Type 0} → List Rule → Valued → List (ℕ × ℕ) → ℕ → Seen A → Type 0
IsSeen rules v path left (Answer verdict) = IsAnswerAt rules v path left verdict
IsSeen rules v path left (Refuted depth) = GivesNone rules v (take depth path)
IsSeen rules v path left (Open x) = (x < length v.operations.now) × IsReader v.operations.now x

-- a search takes the least source of an operation; or this may have none
abbrev pub TakesNext : Valued → List (ℕ × ℕ) → List (ℕ × ℕ) → ℕ → Bool → Type 0
TakesNext v old new x true =
    (rules : List Rule) (n : ℕ) → Chooses rules v old false n → Chooses rules v new false (n + 1)
TakesNext v old new x false = (new ≡ old) × ((t : ℕ) → MayRead v x t → ⊥)

-- a search turns to the next sources; or no choice is left
abbrev pub TurnsBack : Valued → List (ℕ × ℕ) → List (ℕ × ℕ) → Bool → Type 0
TurnsBack v old new true =
    (rules : List Rule) (n : ℕ) → Chooses rules v old true n → Chooses rules v new false n
TurnsBack v old new false =
    (rules : List Rule) (n : ℕ) → Chooses rules v old true n → Chooses rules v [] true n

-- a search goes on by one choice; or it has the answer
abbrev pub IsStep : {A : Type 0} → List Rule → Valued → List (ℕ × ℕ) → List (ℕ × ℕ) → ℕ
    → Option (OrderVerdict A) → Type 0
IsStep rules v old new left None =
    (n : ℕ) → Chooses rules v old false n → Chooses rules v new false (n + 1)
IsStep rules v old new left (Some verdict) = IsAnswerAt rules v old left verdict
