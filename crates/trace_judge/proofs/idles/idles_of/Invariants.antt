use Rattle.trace_judge.specs.Idles.{AreListed, AreLow}
use Rattle.trace_judge.proofs.idles.idles_of.Given as goal

abbrev pub invariant-loop-slot : goal.invariant-loop-slot
invariant-loop-slot g l = record {
  low : AreLow l.idles.items;
  listed : AreListed l.table l.address l.idles.items;
}
