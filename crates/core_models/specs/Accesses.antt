-- The accesses to memory of a run: an opening store of each word, and of each processor the
-- operations that took effect, in program order, with its fences.
use Rattle.std.specs.Prelude.{ℕ, ◌+◌, ◌==◌, ◌&&◌, List, ◌++◌, length, map, Option, Some, option_map}
use Rattle.std.specs.Prelude.{find, slice_index_or, filter_map, flat_map}
use Rattle.std.specs.List.{range_with_len}
use Rattle.packet.specs.declared.kinds.Op.TheVariants as op
use Rattle.packet.specs.declared.kinds.Operation.{Operation}
use Rattle.script_lines.specs.declared.line.Line.{Line}
use Rattle.memory_models.specs.declared.kinds.Kind.{Kind}
use Rattle.memory_models.specs.declared.kinds.Kind.TheVariants.{Store, Fence}
use Rattle.model_text.specs.Kinds.{kind_of_op}
use Rattle.one_order.specs.declared.ordered.Ordered.{Ordered}
use Rattle.one_order.specs.Observed.{Observed, list_at}
use Rattle.core_models.specs.Programs.{ProgramStep, Made, Fenced, program_shown}

-- an access, or a fence: whose it is, its index, what it does on which word, and the number of its
-- service. A fence has the number of operations before it as its index, and is not served, nor is
-- an opening store
pub record Access : Type 0 where
  pub processor : ℕ
  pub index : ℕ
  pub kind : Kind
  pub word : ℕ
  pub served : ℕ

-- the store of an opening word, by a processor of its own
abbrev pub opening_store : ℕ → Access
opening_store w = record { processor = w; index = 0; kind = Store; word = w; served = 0 }

-- the operation that a row is of
abbrev pub operation_of_row : Observed → Ordered → Operation
operation_of_row s row = slice_index_or (list_at s.issued row.source) row.index
    (record { address = 0; op = op.Load })

-- of a memory of so many words, what is shown, and the rows of the order
module _ (words : ℕ) (s : Observed) (rows : List Ordered) where
  -- a fence of processor p; the machine's processors come behind those of the opening stores
  abbrev pub fence_by : ℕ → ℕ → Access
  fence_by p before =
      record { processor = words + p; index = before; kind = Fence; word = 0; served = 0 }

  -- the operation of a row
  abbrev pub access_by : Ordered → Access
  access_by row = record {
    processor = words + row.source;
    index = row.index;
    kind = kind_of_op (operation_of_row s row).op;
    word = (operation_of_row s row).address;
    served = row.served;
  }

  -- the row of processor p's operation of an index, if it took effect
  abbrev pub row_named : ℕ → ℕ → Option Ordered
  row_named p i = find (λ row. (row.source == p) && (row.index == i)) rows

  -- a step of p's program; an operation that has not taken effect is none
  abbrev pub access_of_step : ℕ → ProgramStep → Option Access
  access_of_step p (Made i) = option_map access_by (row_named p i)
  access_of_step p (Fenced before) = Some (fence_by p before)

  -- those of p, which has these lines, in program order
  abbrev pub accesses_of : ℕ → List Line → List Access
  accesses_of p lines = filter_map (access_of_step p) (program_shown s p lines)

  -- those of a run of these scripts
  abbrev pub accesses_shown : List (List Line) → List Access
  accesses_shown scripts =
      map opening_store (range_with_len 0 words)
      ++ flat_map (λ p. accesses_of p (list_at scripts p)) (range_with_len 0 (length scripts))
