use Rattle.std.proofs.Common.{List}
use Rattle.trace_laws.specs.declared.event.Event.{Event}
use Rattle.trace_judge.specs.Guesses.{IsLikely}
use Rattle.trace_judge.proofs.likely.answer_rest.Given as goal

abbrev pub invariant-loop-k : goal.invariant-loop-k
invariant-loop-k g l = (whole events : List Event) → IsLikely whole events l.initial.likely.items
    → IsLikely whole events l.likely.items
