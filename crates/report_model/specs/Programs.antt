-- The programs of a report's processors by their scripts: each one's operations in the order of
-- issue, with a fence wherever its script has some (this project's own format).
use Rattle.std.specs.Prelude.{◌≡◌, ◌≢◌, ℕ, ◌-◌, ◌<◌, ◌≤◌, ◌==◌, ◌||◌, Bool, true, false, List, [], ◌∷◌, ◌++◌}
use Rattle.std.specs.Prelude.{length, filter, fold, take, Some, slice_get, if◌then◌else◌}
use Rattle.std.specs.List.{flat_map, range_with_len}
use Rattle.packet.specs.declared.kinds.Reply.{Reply}
use Rattle.script_lines.specs.declared.line.Line.{Line}
use Rattle.script_lines.specs.declared.line.Line.TheVariants.{Fence, Spin}
use Rattle.script_lines.specs.Lines.{script_of}
use Rattle.one_order.specs.Following.{Following, after_answer, after_issue, first_of}
use Rattle.one_order.specs.Following.{follower_with, is_finished, next_operation_of}
use Rattle.report_model.specs.declared.answer.NoTextsAnswer.{NoTextsAnswer}
use Rattle.report_model.specs.declared.answer.NoTextsAnswer.TheVariants.{OtherOperation}
use Rattle.report_model.specs.declared.row.ProgramStep.{ProgramStep}
use Rattle.report_model.specs.declared.row.ReportRow.{ReportRow}
use Rattle.report_model.specs.Indexes.{fence_before, operation_step}

-- whether a line of a script is a fence
abbrev pub is_fence : Line → Bool
is_fence Fence = true
is_fence _ = false

-- where a processor stands in its script: the follower of the lines that it was handed, those that
-- it wasn't, and whether it was handed a fence behind its last operation
pub record Standing : Type 0 where
  pub following : Following
  pub ahead : List Line
  pub fence : Bool

-- a follower that has finished is handed the next line, until it hasn't or there is none
abbrev pub handed : Bool → Following → List Line → Standing
handed fence f [] = record { following = f; ahead = []; fence = fence }
handed fence f (line ∷ lines) =
    if is_finished f then handed (fence || is_fence line) (follower_with line f) lines
    else record { following = f; ahead = line ∷ lines; fence = fence }

-- the beginning of a script
abbrev pub standing_first : List Line → Standing
standing_first lines = handed false (first_of []) lines

-- behind an operation: it is issued, and replied at once
abbrev pub standing_behind : Standing → Reply → Standing
standing_behind s reply =
    handed false (after_answer (after_issue s.following) s.following.issued reply) s.ahead

-- the steps so far, and where their processor stands
pub record Walk : Type 0 where
  pub steps : List ProgramStep
  pub standing : Standing

-- one operation more, and the fence before it
abbrev pub walked : Walk → ReportRow → Walk
walked w row = record {
  steps = (w.steps ++ (if w.standing.fence then fence_before row ∷ [] else []))
      ++ operation_step row ∷ [];
  standing = standing_behind w.standing row.reply;
}

-- a processor's operations through its script
abbrev pub walk_over : List Line → List ReportRow → Walk
walk_over lines rows =
    fold walked (record { steps = []; standing = standing_first lines }) rows

-- where a processor stands behind its first operations, so many
abbrev pub standing_at : List Line → List ReportRow → ℕ → Standing
standing_at lines rows k = (walk_over lines (take k rows)).standing

-- each of its first operations, so many, is the one that its script issues next, given the replies
-- before
abbrev pub AreScripted : List Line → List ReportRow → ℕ → Type 0
AreScripted lines rows count = (k : ℕ) (row : ReportRow) → k < count → slice_get rows k ≡ Some row
    → next_operation_of (standing_at lines rows k).following ≡ Some row.operation

-- how many lines of a script stand before the one whose operation comes next: all of them where
-- none is left
abbrev pub lines_passed : List Line → Standing → ℕ
lines_passed lines s = (length lines - length s.ahead) - (if is_finished s.following then 0 else 1)

-- the first operation of processor p that isn't the one that its script issues next: the line of
-- its entry, and which line of the script comes next
pub record IsUnscripted (p : ℕ) (lines : List Line) (rows : List ReportRow) (why : NoTextsAnswer) :
    Type 0
  where
    pub k : ℕ
    pub row : ReportRow
    pub there : slice_get rows k ≡ Some row
    pub before : AreScripted lines rows k
    pub other : next_operation_of (standing_at lines rows k).following ≢ Some row.operation
    pub is : why ≡ OtherOperation row.line p (lines_passed lines (standing_at lines rows k))

-- processor p's operations
abbrev pub operations_by : ℕ → List ReportRow → List ReportRow
operations_by p made = filter (λ row. row.source == p) made

-- the operations of the processors below a number, given all in the order of issue, are those that
-- their scripts issue
abbrev pub AreAllScripted : List (List Line) → List ReportRow → ℕ → Type 0
AreAllScripted lists made processors = (p : ℕ) → p < processors
    → AreScripted (script_of lists p) (operations_by p made) (length (operations_by p made))

-- the first processor that has another operation
pub record IsUnscriptedAmong (lists : List (List Line)) (made : List ReportRow) (processors : ℕ)
    (why : NoTextsAnswer) : Type 0
  where
    pub p : ℕ
    pub below : p < processors
    pub before : AreAllScripted lists made p
    pub other : IsUnscripted p (script_of lists p) (operations_by p made) why

-- the program of a processor
abbrev pub program_of : List (List Line) → List ReportRow → ℕ → List ProgramStep
program_of lists made p = (walk_over (script_of lists p) (operations_by p made)).steps

-- the programs of all processors below a number
abbrev pub programs_of : List (List Line) → List ReportRow → ℕ → List ProgramStep
programs_of lists made processors =
    flat_map (program_of lists made) (range_with_len 0 processors)

-- each spin of a script makes a load, and no more than scripts may
abbrev pub AreSpinsShort : List Line → Type 0
AreSpinsShort lines = (k a v m : ℕ) → slice_get lines k ≡ Some (Spin a v m)
    → (1 ≤ m) × (m ≤ 4096)
