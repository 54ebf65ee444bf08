use Rattle.std.proofs.Common.{◌≡◌, drop, ℕ, List, Option}
use Rattle.trace_laws.specs.declared.opened.Open.{Open}
use Rattle.trace_judge.specs.Idles.{AreListed, settled}
use Rattle.trace_judge.specs.Sets.{Replaces}
use Rattle.trace_judge.proofs.idles.follow.Given as goal

abbrev pub invariant-loop-i : goal.invariant-loop-i
invariant-loop-i g l = record {
  config : settled (drop l.i l.idles) l.to.config ≡ settled l.idles l.fn.from.config;
  ways : (table : List (Option Open)) (w : ℕ) → AreListed table w l.idles
      → Replaces table w l.fn.from l.initial.nodes.items l.to l.nodes.items;
}
