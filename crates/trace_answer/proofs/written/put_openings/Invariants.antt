use Rattle.std.proofs.Common.{◌≡◌, ◌++◌, length}
use Rattle.std.specs.List.{flat_map}
use Rattle.lexer.specs.Joined.{line_of_words}
use Rattle.trace_answer.specs.Written.{init_words}
use Rattle.trace_answer.proofs.written.put_openings.Given as goal

abbrev pub invariant-loop-left : goal.invariant-loop-left
invariant-loop-left g l =
    l.text.items ++ flat_map (λ o. line_of_words (init_words o.0 o.1)) l.left ≡ l.fn.text.items ++ flat_map (λ o. line_of_words (init_words o.0 o.1)) l.openings

abbrev pub decreases-loop-left : goal.decreases-loop-left
decreases-loop-left g l = length l.left
