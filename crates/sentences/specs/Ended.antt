-- What became of the scripts of a run, by the answers that its processors had.
use Rattle.std.specs.Prelude.{◌≡◌, ℕ, ◌+◌, List, [], ◌∷◌, ◌++◌, length, map, sum_by}
use Rattle.std.specs.Prelude.{Result, Ok, Err, ◌⊎◌, if◌then◌else◌}
use Rattle.std.specs.Io.Iter.{u64_saturate}
use Rattle.std.specs.List.Sorted.{IsNonDecreasingBy, IsPermutation}
use Rattle.torus.specs.declared.fault.Fault.TheVariants as fault
use Rattle.lexer.specs.declared.fault.LineFault.{LineFault}
use Rattle.script_lines.specs.declared.line.Line.{Line}
use Rattle.script_lines.specs.Lines.{ScriptsSpec}
use Rattle.one_order.specs.declared.answer.Answer.{Answer}
use Rattle.sentences.specs.declared.spins.SpentSpin.{SpentSpin}
use Rattle.sentences.specs.declared.scripts.EndedSpin.{EndedSpin}
use Rattle.sentences.specs.declared.scripts.EndedScripts.{EndedScripts}
use Rattle.sentences.specs.Answered.{are_answered}
use Rattle.sentences.specs.Replies.{replies_in}
use Rattle.sentences.specs.Texts.{spent_lines}
use Rattle.sentences.specs.Told.{scripts_read}

-- a spin of a processor that ran out of loads, whose place is its line in the text of the scripts
abbrev pub ended_spin : ℕ → SpentSpin → EndedSpin
ended_spin p spin = record {
  processor = p;
  line = spin.place;
  address = spin.address;
  loads = spin.loads;
  wanted = spin.sought;
}

-- the spins that ran out of loads, of processors with these answers and scripts, of which the first
-- has this number: processor by processor, and each one's in the order of its script
abbrev pub spins_from : ℕ → List (List ℕ) → List (List Answer) → List (List Line) → List EndedSpin
spins_from p text [] scripts = []
spins_from p text (own ∷ answers) [] = []
spins_from p text (own ∷ answers) (script ∷ scripts) =
    map (ended_spin p) (spent_lines p text script own) ++ spins_from (p + 1) text answers scripts

-- of how many processors with these answers and scripts an operation isn't answered
abbrev pub unfinished_in : List (List Answer) → List (List Line) → ℕ
unfinished_in [] scripts = 0
unfinished_in (own ∷ answers) [] = 0
unfinished_in (own ∷ answers) (script ∷ scripts) =
    (if are_answered script (replies_in own) then 0 else 1) + unfinished_in answers scripts

-- how many operations are answered; at most u64::MAX
abbrev pub answered_in : List (List Answer) → ℕ
answered_in answers = u64_saturate (sum_by length answers)

-- this is what became of the scripts of a text, by the answers of each processor
pub record IsEndOf {A : Type 0} (text : List (List ℕ)) (scripts : List (List Line))
    (answers : List (List Answer)) (ended : EndedScripts A) : Type 0 where
  pub spins : ended.spins.items ≡ spins_from 0 text answers scripts
  pub unfinished : ended.unfinished ≡ unfinished_in answers scripts
  pub answered : ended.answered ≡ answered_in answers

-- this is what became of the scripts of a text for the machine of a text, of which neither has a
-- fault, by the answers of each processor
pub record IsEndOfTexts {A : Type 0} (machine text : List (List ℕ)) (answers : List (List Answer))
    (ended : EndedScripts A) : Type 0 where
  pub scripts : ScriptsSpec
  pub read : scripts_read machine text ≡ Ok scripts
  pub is : IsEndOf text scripts.lists answers ended

-- this is what became of the scripts of a text for the machine of a text, of which neither has a
-- fault, with the spins in the order of the script text
pub record IsEndInTextOrder {A : Type 0} (machine text : List (List ℕ)) (answers : List (List Answer))
    (ended : EndedScripts A) : Type 0 where
  pub scripts : ScriptsSpec
  pub read : scripts_read machine text ≡ Ok scripts
  pub spins : IsPermutation (spins_from 0 text answers scripts.lists) ended.spins.items
  pub rising : IsNonDecreasingBy (λ spin. spin.line) ended.spins.items
  pub unfinished : ended.unfinished ≡ unfinished_in answers scripts.lists
  pub answered : ended.answered ≡ answered_in answers

-- the first fault of a machine text and a script text, or out of memory
abbrev pub IsScriptsFault : List (List ℕ) → List (List ℕ) → LineFault → Type 0
IsScriptsFault machine text found = (scripts_read machine text ≡ Err found)
    ⊎ (found ≡ record { fault = fault.Memory; line = 0 })
