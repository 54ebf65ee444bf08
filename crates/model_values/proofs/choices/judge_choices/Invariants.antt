use Rattle.std.proofs.Common.{false}
use Rattle.model_values.specs.Choices.{Chooses}
use Rattle.model_values.proofs.choices.judge_choices.Given as goal

-- the search stands at a path, and has looked at so many choices
abbrev pub invariant-loop-looked : goal.invariant-loop-looked
invariant-loop-looked g l = record {
  search : Chooses l.rules l.valued l.path.items false l.looked;
}
