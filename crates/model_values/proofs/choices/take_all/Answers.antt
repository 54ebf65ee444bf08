use Rattle.std.proofs.Common.{ℕ, false, List, sym, subst}
use Rattle.model_values.specs.Choices.{Chooses, Begins}
use Rattle.model_values.proofs.choices.take_all.Goals as goal

pub loop-x-init : goal.loop-x-init
loop-x-init g c = record {
  search = λ rules. subst (λ (z : List (ℕ × ℕ)). Chooses rules c.args.valued.now z false 0) (sym c.new-path.ensures.items) Begins;
}
