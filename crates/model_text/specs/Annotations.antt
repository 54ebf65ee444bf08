-- What stands behind the operands of a `made` line: what the RISC-V Instruction Set Manual says of an
-- operation beside its kind (this project's own format).
use Rattle.std.specs.Prelude.{ℕ, ◌+◌, ◌==◌, ◌&&◌, ◌||◌, not, Bool, true, false, List, [], ◌∷◌, length}
use Rattle.std.specs.Prelude.{nat_lt, slice_index_or, Option, Some, None, ok_or, Result, Ok, Err}
use Rattle.std.specs.Prelude.{if◌then◌else◌, codes}
use Rattle.std.specs.Str.{bytes_eq}
use Rattle.lexer.specs.Outcome.{◌>>=◌}
use Rattle.packet.specs.declared.kinds.Code.{Code}
use Rattle.packet.specs.declared.kinds.Code.TheVariants as code
use Rattle.packet.specs.Names.{code_named, arity}
use Rattle.trace_lines.specs.declared.form.Form.{Form}
use Rattle.weak_models.specs.declared.notes.Accesses.{Accesses}
use Rattle.weak_models.specs.declared.notes.FenceOrder.{FenceOrder}
use Rattle.weak_models.specs.declared.notes.FenceOrder.TheVariants.{Sets, Tso}
use Rattle.weak_models.specs.Notes.{all_accesses}
use Rattle.model_text.specs.declared.annotation.Annotation.{Annotation}
use Rattle.model_text.specs.declared.annotation.PairPart.{PairPart}
use Rattle.model_text.specs.declared.annotation.PairPart.TheVariants.{Neither, Reserved, Conditional}
use Rattle.model_text.specs.declared.reason.LogReason.{LogReason}
use Rattle.model_text.specs.declared.reason.LogReason.TheVariants as reason

-- the words that say something of an operation on a word of memory, and of a fence
abbrev pub is_annotation : List ℕ → Bool
is_annotation word =
    (((bytes_eq word (codes "reserved") || bytes_eq word (codes "conditional"))
    || bytes_eq word (codes "acquire")) || bytes_eq word (codes "release"))
    || bytes_eq word (codes "rcpc")

abbrev pub is_of_fence : List ℕ → Bool
is_of_fence word =
    ((bytes_eq word (codes "tso") || bytes_eq word (codes "r")) || bytes_eq word (codes "w"))
    || bytes_eq word (codes "rw")

abbrev pub is_behind : List ℕ → List ℕ → Bool
is_behind word next =
    if bytes_eq word (codes "fence") then is_of_fence next else is_annotation next

-- how many operands belong to an operation: an address and its values; none to a fence
abbrev pub operands_of_code : Option Code → ℕ
operands_of_code None = 0
operands_of_code (Some code) = arity code + 1

abbrev pub operands_of : List ℕ → ℕ
operands_of word = operands_of_code (code_named word)

-- how many of the words behind an operation are its operands: all, but where one behind them says
-- something of it
abbrev pub operand_count : List ℕ → List (List ℕ) → ℕ
operand_count word words =
    if nat_lt (operands_of word) (length words)
    && is_behind word (slice_index_or words (operands_of word) [])
    then operands_of word else length words

-- whether the first of some words is this one, and what stands behind it then; all of them else
abbrev pub begins : List ℕ → List (List ℕ) → Bool
begins name [] = false
begins name (word ∷ words) = bytes_eq word name

abbrev pub behind : List ℕ → List (List ℕ) → List (List ℕ)
behind name [] = []
behind name (word ∷ words) = if bytes_eq word name then words else word ∷ words

-- `reserved` stands behind a load, and `conditional` behind a store
abbrev pub part_of : Code → List (List ℕ) → PairPart
part_of code.Load words = if begins (codes "reserved") words then Reserved else Neither
part_of code.Store words = if begins (codes "conditional") words then Conditional else Neither
part_of _ words = Neither

abbrev pub behind_part : Code → List (List ℕ) → List (List ℕ)
behind_part code.Load words = behind (codes "reserved") words
behind_part code.Store words = behind (codes "conditional") words
behind_part _ words = words

-- annotations with nothing behind them; `rcpc` says of which kind those before it are
abbrev pub annotated_so : PairPart → Bool → Bool → Bool → List (List ℕ) → Result Annotation LogReason
annotated_so part acquire release rcpc rest =
    if not (length rest == 0) || (rcpc && not (acquire || release)) then Err reason.NotAnnotation
    else Ok (record {
      part = part;
      acquire = acquire;
      release = release;
      rcpc = rcpc;
      fence = Sets all_accesses all_accesses;
    })

-- what words say of an operation: `acquire`, `release` and `rcpc`, in this order, each or not
abbrev pub annotation_from : PairPart → List (List ℕ) → Result Annotation LogReason
annotation_from part words = annotated_so part (begins (codes "acquire") words)
    (begins (codes "release") (behind (codes "acquire") words))
    (begins (codes "rcpc") (behind (codes "release") (behind (codes "acquire") words)))
    (behind (codes "rcpc") (behind (codes "release") (behind (codes "acquire") words)))

-- the accesses that a word names
abbrev pub accesses_named : List ℕ → Option Accesses
accesses_named word =
    if bytes_eq word (codes "r") then Some (record { reads = true; writes = false })
    else (if bytes_eq word (codes "w") then Some (record { reads = false; writes = true })
    else (if bytes_eq word (codes "rw") then Some all_accesses
    else None))

-- what a fence keeps in order: `tso`, or its predecessors and its successors
abbrev pub fence_order : List (List ℕ) → Result FenceOrder LogReason
fence_order [] = Err reason.NotFenceOrder
fence_order (word ∷ []) =
    if bytes_eq word (codes "tso") then Ok Tso else Err reason.NotFenceOrder
fence_order (before ∷ behind ∷ []) =
    ok_or (accesses_named before) reason.NotFenceOrder >>= λ first.
    ok_or (accesses_named behind) reason.NotFenceOrder >>= λ second. Ok (Sets first second)
fence_order (before ∷ behind ∷ other ∷ more) = Err reason.NotFenceOrder

-- a fence has no annotation
abbrev pub fence_annotation : FenceOrder → Annotation
fence_annotation order = record {
  part = Neither;
  acquire = false;
  release = false;
  rcpc = false;
  fence = order;
}

-- what the words behind the operands say of an operation, or of a fence
abbrev pub words_annotation : Option Form → List (List ℕ) → Result (Option Annotation) LogReason
words_annotation None words = fence_order words >>= λ order. Ok (Some (fence_annotation order))
words_annotation (Some form) words =
    annotation_from (part_of form.code words) (behind_part form.code words) >>= λ a. Ok (Some a)

abbrev pub step_annotation : Option Form → List (List ℕ) → Result (Option Annotation) LogReason
step_annotation step words = if length words == 0 then Ok None else words_annotation step words
