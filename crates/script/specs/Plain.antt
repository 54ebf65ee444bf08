-- How a steps text begins whose first line has its words one space apart.
use Rattle.std.specs.Prelude.{◌≡◌, ℕ, List, [], ◌∷◌, ◌++◌, get_or, Some, Result, Ok, codes}
use Rattle.std.specs.Str.Lines.{lines}
use Rattle.torus.specs.declared.step.Step.{Step}
use Rattle.lexer.specs.Words.{words_of}
use Rattle.lexer.specs.Numbers.{index_of}
use Rattle.lexer.specs.Outcome.{◌>>=◌}
use Rattle.script.specs.declared.attempt.ChoiceWord.{ChoiceWord}
use Rattle.script.specs.declared.attempt.ChoiceWord.TheVariants.{Send, Take, Put, Credit, Serve, Done, Look}
use Rattle.script.specs.declared.attempt.Attempt.{Attempt}
use Rattle.script.specs.declared.reason.TextReason.{TextReason}
use Rattle.script.specs.Steps.{attempt_of, step_of}

-- the word for a choice
abbrev pub spelling : ChoiceWord → List ℕ
spelling Send = codes "send"
spelling Take = codes "take"
spelling Put = codes "put"
spelling Credit = codes "credit"
spelling Serve = codes "serve"
spelling Done = codes "done"
spelling Look = codes "look"

-- a text begins with digits that spell this number
abbrev pub BeginsWithNumber : List ℕ → ℕ → List ℕ → Type 0
BeginsWithNumber text n rest = (digits : List ℕ) × (text ≡ digits ++ rest) × (index_of digits ≡ Some n)

-- a text begins with the word for this choice
abbrev pub BeginsWithChoice : List ℕ → ChoiceWord → List ℕ → Type 0
BeginsWithChoice text word rest = text ≡ spelling word ++ rest

-- the first line of a text says this attempt, and its other lines are those of the rest
abbrev pub BeginsWithAttempt : List ℕ → Attempt → List ℕ → Type 0
BeginsWithAttempt text t rest = (line : List ℕ) × (lines text ≡ line ∷ lines rest)
    × (attempt_of (words_of line) ≡ Ok t)

-- the first line of a text that has one
abbrev pub first_line : List ℕ → List ℕ
first_line text = get_or (lines text) 0 []

-- the steps after one more attempt
abbrev pub after_attempt : ℕ → ℕ → List Step → Attempt → Result (List Step) TextReason
after_attempt tiles dims steps t = step_of tiles dims t >>= λ s. Ok (steps ++ s ∷ [])
