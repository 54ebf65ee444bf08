-- What the verdict of RISC-V's model tells.
use Rattle.std.proofs.Common.{◌≡◌, ℕ, Bool, true, false, List}
use Rattle.std.specs.Prelude.{Option, Some, None, slice_index, option_map}
use Rattle.memory_models.specs.declared.kinds.Operation.{Operation}
use Rattle.weak_models.specs.declared.notes.Dependency.{Dependency}
use Rattle.weak_models.specs.declared.notes.Note.{Note}
use Rattle.weak_models.specs.declared.verdict.RvwmoVerdict.{RvwmoVerdict}
use Rattle.weak_models.specs.declared.verdict.RvwmoVerdict.TheVariants.{Ordered, Cycle}
use Rattle.weak_models.specs.Verdict.{IsRvwmoVerdict}
use Rattle.model_text.specs.declared.trace.LogTrace.{LogTrace}
use Rattle.model_text.specs.Made.{LogLines}
use Rattle.model_text.specs.Noted.{dependencies_of_log, notes_of_log}
use Rattle.model_answer.specs.declared.answer.Options.{Options}
use Rattle.model_answer.specs.declared.weak.Weak.{Weak}
use Rattle.model_answer.specs.Weak.{IsWeakOn, IsWeakVerdict, TellsRvwmo, TellsWeak, is_explained, is_judged, weak_answer_of}

some_is : (a b : Bool) → Some a ≡ Some b → a ≡ b
some_is a b e = cc

pub rvwmo_told : {A : Type 0} (notes : List Note) (dependencies : List Dependency) (ops : List Operation) (writes : List ℕ) (v : RvwmoVerdict A) (b : Bool)
    → IsRvwmoVerdict notes dependencies ops writes v → is_explained v ≡ b → TellsRvwmo notes dependencies ops writes b
rvwmo_told notes dependencies ops writes (Ordered turns) b is e = record { yes = λ h. (slice_index turns.items, is.1); no = λ h. cc }
rvwmo_told notes dependencies ops writes (Cycle steps) b is e = record { yes = λ h. cc; no = λ h. is.1 }

verdict_told : {A : Type 0} (judged : Bool) (notes : List Note) (dependencies : List Dependency) (ops : List Operation) (writes : List ℕ)
    (v : Option (RvwmoVerdict A)) → IsWeakVerdict judged notes dependencies ops writes v → (b : Bool) → option_map is_explained v ≡ Some b
    → TellsRvwmo notes dependencies ops writes b
verdict_told true notes dependencies ops writes None is b e = absurd is
verdict_told true notes dependencies ops writes (Some v) is b e =
    rvwmo_told notes dependencies ops writes v b is (some_is (is_explained v) b e)
verdict_told false notes dependencies ops writes None is b e = cc
verdict_told false notes dependencies ops writes (Some v) is b e = absurd is

pub weak_told : {A : Type 0} (log : LogLines) (t : LogTrace A) (options : Options) (w : Weak A) → IsWeakOn log t options w
    → TellsWeak (notes_of_log log) (dependencies_of_log log) t.operations.items t.writes.items (weak_answer_of w)
weak_told log t options w is b e =
    verdict_told (is_judged log options) (notes_of_log log) (dependencies_of_log log) t.operations.items t.writes.items w.verdict is.verdict b e
