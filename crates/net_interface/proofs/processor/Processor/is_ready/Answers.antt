use Rattle.std.proofs.Common.{◌≡◌, ℕ, Option, Some, None, refl, ◌∙◌, ap}
use Rattle.std.specs.Prelude.{is_some}
use Rattle.packet.specs.declared.kinds.Operation.{Operation}
use Rattle.one_order.specs.ProcessorRecord.{ready}
use Rattle.net_interface.specs.Inside.{with_tag}
use Rattle.net_interface.proofs.processor.Processor.is_ready.Goals as goal

-- there is one, whatever names its tag
kept : (o : Option (ℕ × Operation)) → is_some (with_tag o) ≡ is_some o
kept None = refl
kept (Some f) = refl

pub returns : goal.returns
returns g c =
    rw (← c.self.view_is) (c.is_some.ensures ∙ (ap is_some c.ready.ensures.value ∙ kept (ready c.self.inside.operations)))
