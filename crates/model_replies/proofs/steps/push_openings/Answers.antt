use Rattle.std.proofs.Common.{◌∙◌, ap, ℕ}
use Rattle.model_text.specs.declared.logged.Logged.{Logged}
use Rattle.model_text.specs.Made.{LogLines}
use Rattle.model_text.specs.Traces.{opening_step}
use Rattle.model_text.specs.Views.{log_so_far}
use Rattle.model_text.proofs.Growing.{ranged_more}
use Rattle.model_replies.specs.Steps.{opening_unplaced, unplaced}
use Rattle.model_replies.proofs.steps.push_openings.Goals as goal

pub loop-w-preserved : goal.loop-w-preserved
loop-w-preserved g c =
    let log : LogLines = log_so_far c.args.log.now in
    let w : ℕ = c.loop-w.w in
    record {
      steps = ranged_more (opening_step log) w c.args.steps.now.items c.loop-w.steps.items c.push.new.self.items c.opening_step-step.result
          c.opening_step-step.ensures c.in_ok-push.ensures.items c.loop-w.invariant.steps;
      operations = ranged_more (opening_unplaced log) w c.args.operations.now.items c.loop-w.operations.items c.push-in-loop-w.new.self.items
          c.unplaced.result (c.unplaced.ensures ∙ ap (λ (s : Logged). unplaced w s) c.opening_step-step.ensures) c.in_ok-push-2.ensures.items
          c.loop-w.invariant.operations;
    }
