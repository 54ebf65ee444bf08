-- What is named is an operation.
use Rattle.std.proofs.Common.{◌≡◌, true, sym, subst}
use Rattle.std.specs.Prelude.{IfSome}
use Rattle.machine_asked.specs.Asked.{is_operation}
use Rattle.torusmem_c.proofs.Asking.{named_operation}
use Rattle.torusmem_c.proofs.appending.torusmem_ask.Goals as goal

pub asked-requires : goal.asked-requires
asked-requires c = subst (λ o. IfSome o (λ line. is_operation line ≡ true)) (sym c.operation_named.ensures)
    (named_operation c.args.operation c.args.address c.args.first c.args.second c.args.lasts)
