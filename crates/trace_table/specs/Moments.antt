-- When the operations of a table are issued and answered, in the order of time (this project's own
-- format).
use Rattle.std.specs.Prelude.{ℕ, ◌+◌, true, false, List, [], ◌∷◌, ◌++◌}
use Rattle.std.specs.Prelude.{option_map, option_to_list, slice_get}
use Rattle.std.specs.List.{flat_map}
use Rattle.std.specs.List.Sorted.{IsPermutation, IsSorted}
use Rattle.std.specs.Ordering.{bool_cmp, nat_cmp, ordering_then}
use Rattle.std.specs.declared.cmp.Ordering.{Ordering}
use Rattle.trace_table.specs.declared.moment.Moment.{Moment}
use Rattle.trace_table.specs.declared.row.TableRow.{TableRow}
use Rattle.trace_table.specs.declared.row.TimedReply.{TimedReply}

-- the issues of rows, of which the first has this number
abbrev pub issues_from : ℕ → List TableRow → List Moment
issues_from number [] = []
issues_from number (row ∷ rows) =
    record { time = row.issued; is_answer = false; line = row.line; row = number }
    ∷ issues_from (number + 1) rows

-- the answer to the row of a number, which stands at a line
abbrev pub answer_moment : ℕ → ℕ → TimedReply → Moment
answer_moment line number answer =
    record { time = answer.time; is_answer = true; line = line; row = number }

-- the answers to rows, of which the first has this number
abbrev pub answers_from : ℕ → List TableRow → List Moment
answers_from number [] = []
answers_from number (row ∷ rows) =
    option_to_list (option_map (answer_moment row.line number) row.answer)
    ++ answers_from (number + 1) rows

-- all of them
abbrev pub moments_of : List TableRow → List Moment
moments_of rows = issues_from 0 rows ++ answers_from 0 rows

-- by time; at one time issues come before answers, and of these that of the earlier line
abbrev pub moment_cmp : Moment → Moment → Ordering
moment_cmp x y = ordering_then (nat_cmp x.time y.time)
    (ordering_then (bool_cmp x.is_answer y.is_answer)
    (ordering_then (nat_cmp x.line y.line) (nat_cmp x.row y.row)))

-- a list has these moments, each as often, and in turn
pub record AreInTurn (moments order : List Moment) : Type 0 where
  pub same : IsPermutation moments order
  pub sorted : IsSorted moment_cmp order

-- the rows of some moments
abbrev pub rows_of_moments : List TableRow → List Moment → List TableRow
rows_of_moments rows moments = flat_map (λ m. option_to_list (slice_get rows m.row)) moments

-- the lines of the rows of some moments
abbrev pub lines_of_moments : List TableRow → List Moment → List ℕ
lines_of_moments rows moments =
    flat_map (λ m. option_to_list (option_map (λ row. row.line) (slice_get rows m.row))) moments
