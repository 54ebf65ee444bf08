-- A load of which nothing is kept.
use Rattle.std.proofs.Common.{◌≡◌}
use Rattle.std.specs.Prelude.{Option, None, Result}
use Rattle.lexer.specs.declared.fault.LineFault.{LineFault}
use Rattle.one_order.specs.Load.{Load}
use Rattle.machine_asked.specs.Asked.{Asked}
use Rattle.machine_core.specs.Loading.{IsLoadFault}
use Rattle.torusmem_c.specs.declared.outcome.Outcome.{Outcome}
use Rattle.torusmem_c.specs.Outcome.{fault_outcome}
use Rattle.torusmem_c.specs.Texts.{Loads}

-- nothing is held before and after, and the fault is told
pub nothing_kept : (asked : Result Load LineFault) (old new : Option Asked) (r : Outcome) (f : LineFault)
    → old ≡ None → new ≡ None → IsLoadFault asked f → r ≡ fault_outcome f → Loads asked old new r
nothing_kept asked old new r f before after is told = rw (before, after) (f, is, told)
