use Rattle.std.proofs.Common.{◌≡◌, ◌∙◌, ap, length, List, ℕ}
use Rattle.memory_models.specs.declared.kinds.Kind.TheVariants.{Store}
use Rattle.memory_models.specs.declared.kinds.Operation.{Operation}
use Rattle.model_text.specs.Made.{LogLines}
use Rattle.model_text.specs.Traces.{opening_step, opening_operation, place_below, write_place, writes_of_log}
use Rattle.model_text.specs.Views.{log_so_far}
use Rattle.model_text.proofs.Growing.{ranged_more}
use Rattle.model_text.proofs.trace.push_openings.Goals as goal

abbrev store_at : ℕ → ℕ → Operation
store_at w p = record { processor = w; kind = Store; word = w; place = p }

pub loop-w-preserved : goal.loop-w-preserved
loop-w-preserved g c =
    let log : LogLines = log_so_far c.args.log.now in
    let w : ℕ = c.loop-w.w in
    let place : c.place_of-place.result ≡ write_place log w =
    c.place_of-place.ensures
    ∙ (ap (λ (ws : List ℕ). place_below ws (length c.args.orders.now) w) c.requires.writes
    ∙ ap (λ (n : ℕ). place_below (writes_of_log log) n w) c.requires.orders.sized) in
    record {
      steps = ranged_more (opening_step log) w c.args.steps.now.items c.loop-w.steps.items c.push.new.self.items c.opening_step.result
          c.opening_step.ensures c.in_ok-push.ensures.items c.loop-w.invariant.steps;
      operations = ranged_more (opening_operation log) w c.args.operations.now.items c.loop-w.operations.items c.push-in-loop-w.new.self.items
          (store_at w c.place_of-place.result) (ap (store_at w) place) c.in_ok-push-2.ensures.items
          c.loop-w.invariant.operations;
    }
