use Rattle.std.proofs.Common.{◌≡◌, ◌++◌, map}
use Rattle.std.specs.List.{range_with_len}
use Rattle.model_text.specs.Traces.{opening_step}
use Rattle.model_text.specs.Views.{log_so_far}
use Rattle.model_replies.specs.Steps.{opening_unplaced}
use Rattle.model_replies.proofs.steps.push_openings.Given as goal

-- the opening stores so far
abbrev pub invariant-loop-w : goal.invariant-loop-w
invariant-loop-w g l = record {
  steps : l.steps.items ≡ l.fn.steps.items ++ map (opening_step (log_so_far l.log)) (range_with_len 0 l.w);
  operations : l.operations.items ≡ l.fn.operations.items ++ map (opening_unplaced (log_so_far l.log)) (range_with_len 0 l.w);
}
