use Rattle.std.proofs.Common.{ℕ, true, List, vec_len}
use Rattle.memory_models.specs.declared.kinds.Rule.{Rule}
use Rattle.model_values.specs.Choices.{Chooses}
use Rattle.model_values.proofs.choices.turn_back.Given as goal

-- the choices behind those that are left have no others
abbrev pub invariant-loop-x : goal.invariant-loop-x
invariant-loop-x g l = record {
  closes : (rules : List Rule) (n : ℕ) → Chooses rules l.valued l.fn.path.items true n → Chooses rules l.valued l.path.items true n;
}

abbrev pub decreases-loop-x : goal.decreases-loop-x
decreases-loop-x g l = vec_len l.path
