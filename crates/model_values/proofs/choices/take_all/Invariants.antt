use Rattle.std.proofs.Common.{false, List}
use Rattle.memory_models.specs.declared.kinds.Rule.{Rule}
use Rattle.model_values.specs.Choices.{Chooses}
use Rattle.model_values.proofs.choices.take_all.Given as goal

-- the search stands at the choices so far
abbrev pub invariant-loop-x : goal.invariant-loop-x
invariant-loop-x g l = record {
  search : (rules : List Rule) → Chooses rules l.valued l.path.items false 0;
}
