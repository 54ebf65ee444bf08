-- The program of a processor in a run: its operations in the order of issue, with the fences of its
-- script between them.
use Rattle.std.specs.Prelude.{ℕ, zero, suc, ◌+◌, ◌==◌, Bool, false, if◌then◌else◌, List, [], ◌∷◌}
use Rattle.std.specs.Prelude.{Option, Some, None, option_map, find, map, length}
use Rattle.std.specs.List.{range_with_len}
use Rattle.packet.specs.declared.kinds.Reply.{Reply}
use Rattle.script_lines.specs.declared.line.Line.{Line}
use Rattle.script_lines.specs.declared.line.Line.TheVariants as line
use Rattle.one_order.specs.Scripts.{reply_number}
use Rattle.one_order.specs.Observed.{Observed, list_at}

-- a step of a program: an operation, by its index; or a fence behind so many operations
pub data ProgramStep : Type 0 where
  Made : (index : ℕ) → ProgramStep
  Fenced : (before : ℕ) → ProgramStep

-- the reply to processor p's operation of an index, if it is answered
abbrev pub reply_shown : Observed → ℕ → ℕ → Option Reply
reply_shown s p i = option_map (λ a. a.reply) (find (λ a. a.index == i) (list_at s.answers p))

-- the replies to all operations that p has issued
abbrev pub replies_shown : Observed → ℕ → List (Option Reply)
replies_shown s p = map (reply_shown s p) (range_with_len 0 (length (list_at s.issued p)))

-- whether a reply brings the number sought
abbrev pub brings : ℕ → Option Reply → Bool
brings sought None = false
brings sought (Some reply) = reply_number reply == sought

-- an operation, if it is issued, and what comes after it: i is its index, and the replies are those
-- to the operations from there on
abbrev pub one_step : (ℕ → List (Option Reply) → List ProgramStep) → ℕ → List (Option Reply)
    → List ProgramStep
one_step over i [] = []
one_step over i (r ∷ replies) = Made i ∷ over (i + 1) replies

-- the loads of a spin that are issued, so many at most, and what comes after the spin
abbrev pub spin_steps : ℕ → ℕ → (ℕ → List (Option Reply) → List ProgramStep) → ℕ
    → List (Option Reply) → List ProgramStep
spin_steps sought zero over i replies = over i replies
spin_steps sought (suc most) over i [] = []
spin_steps sought (suc most) over i (r ∷ replies) =
    Made i ∷ (if brings sought r then over (i + 1) replies
    else spin_steps sought most over (i + 1) replies)

-- the steps of lines: their first operation has this index, and the issued ones have these replies
abbrev pub steps_of_lines : List Line → ℕ → List (Option Reply) → List ProgramStep
steps_of_lines [] i replies = []
steps_of_lines (line.Fence ∷ lines) i replies = Fenced i ∷ steps_of_lines lines i replies
steps_of_lines (line.Spin a v m ∷ lines) i replies = spin_steps v m (steps_of_lines lines) i replies
steps_of_lines (first ∷ lines) i replies = one_step (steps_of_lines lines) i replies

-- the program of processor p, which has these lines, as far as it has come
abbrev pub program_shown : Observed → ℕ → List Line → List ProgramStep
program_shown s p lines = steps_of_lines lines 0 (replies_shown s p)
