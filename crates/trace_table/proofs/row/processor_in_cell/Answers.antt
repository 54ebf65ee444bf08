use Rattle.std.proofs.Common.{◌≡◌, ◌≤◌, ℕ, List, [], ◌∷◌, length, map, take, sym, ap, arith}
use Rattle.std.specs.Prelude.{Err}
use Rattle.lexer.specs.Outcome.{◌>>=◌}
use Rattle.trace_table.specs.declared.column.Column.TheVariants as column
use Rattle.trace_table.specs.declared.reason.TableReason.TheVariants as reason
use Rattle.trace_table.specs.Literals.{literal}
use Rattle.trace_table.specs.Row.{limited_cell, one_word}
use Rattle.trace_table.proofs.row.processor_in_cell.Goals as goal

many_processors : {X : Type 0} (f : X → List ℕ) (xs : List X) (ws : List (List ℕ))
    → 2 ≤ length xs → map f xs ≡ ws
    → (one_word column.Processor ws >>= λ word. limited_cell column.Processor 4096 (literal word))
    ≡ Err (reason.Cell column.Processor)
many_processors f [] ws least e = absurd (omega (arith, least))
many_processors f (x ∷ []) ws least e = absurd (omega (arith, least))
many_processors f (x ∷ y ∷ xs) ws least e =
    sym (ap (λ (vs : List (List ℕ)). one_word column.Processor vs >>= λ word. limited_cell column.Processor 4096 (literal word)) e)

pub returns-in_default-2 : goal.returns-in_default-2
returns-in_default-2 c =
    sym (many_processors (λ word. word.now) (take c.first_words-count.result.1 c.first_words-count.result.0) _
    (omega (arith, c.in_default.len_at_least)) c.first_words-count.ensures.words)
