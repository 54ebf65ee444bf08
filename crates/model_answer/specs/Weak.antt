-- RISC-V's memory model in the answer on a log, and what the other models leave out of it.
use Rattle.std.specs.Prelude.{◌≡◌, ℕ, ◌&&◌, ◌||◌, Bool, true, false, not, List, Option, Some, None}
use Rattle.std.specs.Prelude.{option_map}
use Rattle.std.specs.List.{list_any}
use Rattle.memory_models.specs.declared.kinds.Operation.{Operation}
use Rattle.weak_models.specs.declared.notes.Accesses.{Accesses}
use Rattle.weak_models.specs.declared.notes.Dependency.{Dependency}
use Rattle.weak_models.specs.declared.notes.FenceOrder.{FenceOrder}
use Rattle.weak_models.specs.declared.notes.FenceOrder.TheVariants.{Sets, Tso}
use Rattle.weak_models.specs.declared.notes.Note.{Note}
use Rattle.weak_models.specs.declared.verdict.RvwmoVerdict.{RvwmoVerdict}
use Rattle.weak_models.specs.declared.verdict.RvwmoVerdict.TheVariants.{Ordered, Cycle}
use Rattle.weak_models.specs.Notes.{is_conditional}
use Rattle.weak_models.specs.Order.{IsRvwmo}
use Rattle.weak_models.specs.Verdict.{IsRvwmoVerdict}
use Rattle.model_text.specs.declared.trace.LogTrace.{LogTrace}
use Rattle.model_text.specs.Made.{LogLines}
use Rattle.model_text.specs.Noted.{dependencies_of_log, is_annotated, notes_of_log}
use Rattle.model_answer.specs.declared.answer.Options.{Options}
use Rattle.model_answer.specs.declared.weak.Doubts.{Doubts}
use Rattle.model_answer.specs.declared.weak.Weak.{Weak}
use Rattle.model_answer.specs.declared.weak.WeakAnswer.{WeakAnswer}

-- an operation with an annotation, or with a pair, forbids what the models by rules allow
abbrev pub forbids : Note → Bool
forbids note = (note.acquire || note.release) || is_conditional note.pair

-- a fence keeps less in order than a full one, as which the models by rules count it
abbrev pub is_full : Accesses → Bool
is_full accesses = accesses.reads && accesses.writes

abbrev pub is_weaker : FenceOrder → Bool
is_weaker (Sets before behind) = not (is_full before && is_full behind)
is_weaker Tso = true

abbrev pub is_weak : Note → Bool
is_weak note = is_weaker note.fence

-- whether RISC-V's model is asked: where it is wanted, and where a log has annotations
abbrev pub is_judged : LogLines → Options → Bool
is_judged log options = options.rvwmo || is_annotated log

-- what the models by rules leave out of a log, or count as too strong
abbrev pub doubts_of : Bool → Bool → List Note → Doubts
doubts_of fences judged notes = record {
  more = not fences || (judged && list_any forbids notes);
  less = judged && list_any is_weak notes;
}

-- those of a log that says where its fences stand, by its annotations
abbrev pub doubts_on : LogLines → Doubts
doubts_on log = doubts_of true (is_annotated log) (notes_of_log log)

-- there is a verdict exactly where one is asked for
abbrev pub IsWeakVerdict : {A : Type 0} → Bool → List Note → List Dependency → List Operation → List ℕ
    → Option (RvwmoVerdict A) → Type 0
IsWeakVerdict true notes dependencies ops writes None = ⊥
IsWeakVerdict true notes dependencies ops writes (Some verdict) =
    IsRvwmoVerdict notes dependencies ops writes verdict
IsWeakVerdict false notes dependencies ops writes None = Unit {0}
IsWeakVerdict false notes dependencies ops writes (Some verdict) = ⊥

-- what is found of a log by RISC-V's model: its verdict by the notes of the log's own lines
pub record IsWeakOn {A : Type 0} (log : LogLines) (t : LogTrace A) (options : Options) (w : Weak A) :
    Type 0
  where
    pub verdict : IsWeakVerdict (is_judged log options) (notes_of_log log) (dependencies_of_log log)
        t.operations.items t.writes.items w.verdict
    pub doubts : w.doubts
        ≡ doubts_of options.fences (is_judged log options) (notes_of_log log)

-- whether a verdict is an order
abbrev pub is_explained : {A : Type 0} → RvwmoVerdict A → Bool
is_explained (Ordered turns) = true
is_explained (Cycle steps) = false

-- what an answer says of it
abbrev pub weak_answer_of : {A : Type 0} → Weak A → WeakAnswer
weak_answer_of w =
    record { obeyed = option_map is_explained w.verdict; doubts = w.doubts }

-- an answer says whether there is an order of RISC-V's model that explains the trace
pub record TellsRvwmo (notes : List Note) (dependencies : List Dependency) (ops : List Operation)
    (writes : List ℕ) (b : Bool) : Type 0
  where
    pub yes : b ≡ true → (turn : ℕ → ℕ) × IsRvwmo notes dependencies ops writes turn
    pub no : b ≡ false → (turn : ℕ → ℕ) → IsRvwmo notes dependencies ops writes turn → ⊥

-- where it says anything
abbrev pub TellsWeak : List Note → List Dependency → List Operation → List ℕ → WeakAnswer → Type 0
TellsWeak notes dependencies ops writes w =
    (b : Bool) → w.obeyed ≡ Some b → TellsRvwmo notes dependencies ops writes b
