use Rattle.std.proofs.Common.{◌≡◌, []}
use Rattle.one_order.specs.Load.{Load}
use Rattle.core_laws.specs.Machine.{IsAfter}
use Rattle.fair_rounds.specs.Paces.{guard_behind}
use Rattle.fair_rounds.proofs.Paced.{HasMade}
use Rattle.command_texts.specs.Telling.{AreCallsOfCommand, HearsSome}
use Rattle.command_texts.proofs.in_rounds.make_rounds.Given as goal

-- the rounds so far are made, and before each not every script was finished; who watches was told of them; and the guard is behind them
abbrev pub invariant-loop-before : goal.invariant-loop-before
invariant-loop-before g l = record {
  made : (load : Load) → IsAfter load l.fn.machine [] → HasMade l.fn.pace load l.before l.machine;
  told : (load : Load) → IsAfter load l.fn.machine [] → HearsSome (AreCallsOfCommand l.fn.pace load l.before) (g.P.Progress.heard l.fn.progress) (g.P.Progress.heard l.progress);
  pacer : (load : Load) → IsAfter load l.fn.machine [] → l.pacer ≡ record { pace = l.fn.pace; guard = guard_behind l.fn.pace load l.before };
}
