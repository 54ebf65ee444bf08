-- Parts of a log: some of its operations, with what its lines say of them, in their order.
use Rattle.std.specs.Prelude.{◌≡◌, ◌&&◌, not, ℕ, Bool, false, List, [], Option, Some, None, filter, map}
use Rattle.std.specs.Prelude.{length, slice_index_or}
use Rattle.std.specs.List.{range_with_len}
use Rattle.memory_models.specs.Order.{IsMemoryOrder}
use Rattle.state_search.specs.declared.smallest.Ending.{Ending}
use Rattle.state_search.specs.declared.smallest.Ending.TheVariants.{Minimal, Spent}
use Rattle.state_search.specs.Parts.{AreClosed, AreWithin, IsMinimal}
use Rattle.trace_lines.specs.Head.{no_head}
use Rattle.weak_models.specs.declared.notes.Dependency.{Dependency}
use Rattle.weak_models.specs.Order.{IsRvwmo}
use Rattle.model_text.specs.declared.logged.Logged.{Logged}
use Rattle.model_text.specs.declared.logged.Source.{Source}
use Rattle.model_text.specs.declared.logged.Source.TheVariants.{Untold, Own, Opening, Write, Last}
use Rattle.model_text.specs.Depends.{note_by}
use Rattle.model_text.specs.Finals.{is_final}
use Rattle.model_text.specs.Made.{LogLines}
use Rattle.model_text.specs.Noted.{dependencies_of_log, notes_of_log}
use Rattle.model_text.specs.Traces.{logged_at, operations_of_log, writes_of_log}
use Rattle.model_answer.specs.declared.model.AskedModel.{AskedModel}
use Rattle.model_answer.specs.declared.model.AskedModel.TheVariants.{Rules, Rvwmo}
use Rattle.model_answer.specs.declared.smallest.SmallLog.{SmallLog}
use Rattle.model_answer.specs.Model.{rules_of_model}

-- whether the operation of a number is kept
abbrev pub is_kept_number : List Bool → ℕ → Bool
is_kept_number kept n = slice_index_or kept n false

-- whether both operations of a dependency are
abbrev pub is_of_kept : List Bool → Dependency → Bool
is_of_kept kept d = is_kept_number kept d.on && is_kept_number kept d.operation

-- the log of the operations that are kept: in each program, in each word's order and among the
-- dependencies they alone stand, and their numbers stay
abbrev pub part_of : LogLines → List Bool → LogLines
part_of log kept = record log {
  rows = map (filter (is_kept_number kept)) log.rows;
  orders = map (filter (is_kept_number kept)) log.orders;
  dependencies = filter (is_of_kept kept) log.dependencies;
}

-- what models see of a log: not what only the readers of lines look at
abbrev pub seen_by_models : LogLines → LogLines
seen_by_models log = record log { head = no_head; places = []; reserved = []; finals = [] }

-- some order of a model explains a log
abbrev pub IsExplainedBy : LogLines → AskedModel → Type 0
IsExplainedBy log (Rules model) = (turn : ℕ → ℕ)
    × IsMemoryOrder (rules_of_model model) (operations_of_log log) (writes_of_log log) turn
IsExplainedBy log Rvwmo = (turn : ℕ → ℕ) × IsRvwmo (notes_of_log log) (dependencies_of_log log)
    (operations_of_log log) (writes_of_log log) turn

-- the write that an operation read, if a line names it
abbrev pub write_read : Source → Option ℕ
write_read Untold = None
write_read Own = None
write_read Opening = None
write_read (Write n) = Some n
write_read Last = None

-- what an operation is never without: a load without the write that it read, and a store conditional
-- without its load reserved
abbrev pub needed_by : Option ℕ → Option ℕ → Option ℕ
needed_by (Some write) pair = Some write
needed_by None pair = pair

abbrev pub needed_in : LogLines → ℕ → Option ℕ
needed_in log n = needed_by (write_read (logged_at log.made n).source) (note_by log n).pair

-- this of each operation
abbrev pub needs_of : LogLines → List (Option ℕ)
needs_of log = map (needed_in log) (range_with_len 0 (length log.made))

-- all operations of processors: all but the final words, of which no model says anything
abbrev pub is_of_processor : Logged → Bool
is_of_processor logged = not (is_final logged)

abbrev pub all_of_processors : LogLines → List Bool
all_of_processors log = map is_of_processor log.made

-- why a part is no smaller: no single operation can be left out (Zeller and Hildebrandt, IEEE TSE
-- 28(2), 2002: 1-minimal), or as many parts were judged as may be
abbrev pub EndsSo : LogLines → AskedModel → List Bool → ℕ → Ending → Type 0
EndsSo log model kept judged Minimal =
    IsMinimal (needs_of log) (λ part. IsExplainedBy (part_of log part) model) kept
EndsSo log model kept judged Spent = judged ≡ 1000

-- a small part of a log that no order of a model explains: some operations of its processors, none
-- without what it needs
pub record IsSmallLog {A : Type 0} (log : LogLines) (model : AskedModel) (p : SmallLog A) : Type 0 where
  pub within : AreWithin p.kept.items (all_of_processors log)
  pub closed : AreClosed (needs_of log) p.kept.items
  pub none : IsExplainedBy (part_of log p.kept.items) model → ⊥
  pub ended : EndsSo log model p.kept.items p.judged p.ending
