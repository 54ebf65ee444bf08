use Rattle.std.proofs.Common.{◌≡◌, ◌++◌}
use Rattle.std.specs.List.{flat_map, range_with_len}
use Rattle.model_answer.specs.Texts.{weak_arc_text}
use Rattle.model_answer.proofs.weak_cycle.put_weak_steps.Given as goal

-- the lines so far
abbrev pub invariant-loop-k : goal.invariant-loop-k
invariant-loop-k g l = l.text.items
    ≡ l.fn.text.items ++ flat_map (weak_arc_text l.trace.steps.items l.trace.operations.items l.steps) (range_with_len 0 l.k)
