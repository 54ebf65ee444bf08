use Rattle.std.proofs.Common.{◌≡◌, drop}
use Rattle.std.specs.List.{position_from}
use Rattle.std.specs.Prelude.{is_none}
use Rattle.torusmem_c.specs.Choices.{step_named}
use Rattle.torusmem_c.specs.Steps.{first_unnamed}
use Rattle.torusmem_c.proofs.stepping.first_unnamed.Given as goal

-- the attempts so far name steps
abbrev pub invariant-loop-it : goal.invariant-loop-it
invariant-loop-it l = record {
  at : l.at ≡ l.it-index;
  rest : position_from (λ it. is_none (step_named l.torus it.agent it.choice it.number)) l.it-index (drop l.it-index l.attempts)
      ≡ first_unnamed l.torus l.attempts;
}
