use Rattle.std.proofs.Common.{◌≡◌, ◌≤◌, ℕ, List, [], ◌∷◌, length, map, take, sym, ap, arith}
use Rattle.std.specs.Prelude.{Err}
use Rattle.trace_table.specs.declared.column.Column.{Column}
use Rattle.trace_table.specs.declared.reason.TableReason.TheVariants as reason
use Rattle.trace_table.specs.Row.{time_in}
use Rattle.trace_table.proofs.row.time_in_cell.Goals as goal

many_times : {X : Type 0} (f : X → List ℕ) (xs : List X) (ws : List (List ℕ)) (c : Column)
    → 2 ≤ length xs → map f xs ≡ ws → time_in c ws ≡ Err (reason.Cell c)
many_times f [] ws c least e = absurd (omega (arith, least))
many_times f (x ∷ []) ws c least e = absurd (omega (arith, least))
many_times f (x ∷ y ∷ xs) ws c least e = sym (ap (time_in c) e)

pub returns-in_default : goal.returns-in_default
returns-in_default c =
    sym (many_times (λ word. word.now) (take c.first_words-count.result.1 c.first_words-count.result.0) _ c.args.column
    (omega (arith, c.in_default.len_at_least)) c.first_words-count.ensures.words)
