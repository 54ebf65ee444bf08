use Rattle.std.proofs.Common.{◌≡◌, ◌++◌}
use Rattle.std.specs.List.{flat_map, range_with_len}
use Rattle.model_text.specs.Traces.{place_in}
use Rattle.model_answer.specs.Texts.{turn_line}
use Rattle.model_answer.proofs.order.put_order.Given as goal

-- the lines so far
abbrev pub invariant-loop-k : goal.invariant-loop-k
invariant-loop-k g l = l.text.items
    ≡ l.fn.text.items ++ flat_map (λ k. turn_line l.openings l.steps (place_in l.turns k)) (range_with_len 0 l.k)
