use Rattle.std.proofs.Common.{List, sym, subst}
use Rattle.trace_judge.specs.declared.idles.Idle.{Idle}
use Rattle.trace_judge.specs.Idles.{AreListed, AreLow}
use Rattle.trace_judge.proofs.closing.close.Goals as goal

pub go_on-requires-clause-low : goal.go_on-requires-clause-low
go_on-requires-clause-low g c = subst (λ (qs : List Idle). AreLow qs) (sym c.deref.ensures.value) c.in_ok-idles.ensures.low

pub go_on-requires-clause-listed : goal.go_on-requires-clause-listed
go_on-requires-clause-listed g c =
    subst (λ (qs : List Idle). AreListed c.args.table.now c.args.address qs) (sym c.deref.ensures.value) c.in_ok-idles.ensures.listed
