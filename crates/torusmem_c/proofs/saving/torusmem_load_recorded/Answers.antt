-- Where no memory was left to hold the machine, nothing is held.
use Rattle.std.proofs.Common.{refl, inr, ap, ◌∙◌}
use Rattle.std.specs.Str.Lines.{lines}
use Rattle.torus.specs.declared.fault.Fault.TheVariants as fault
use Rattle.machine_core.specs.Loading.{load_by}
use Rattle.c_handles.specs.HeldMachine.{held}
use Rattle.torusmem_c.proofs.Loads.{nothing_kept}
use Rattle.torusmem_c.proofs.saving.torusmem_load_recorded.Goals as goal

pub returns-in-Err-hold-clause-loads : goal.returns-in-Err-hold-clause-loads
returns-in-Err-hold-clause-loads c =
    nothing_kept (load_by (lines c.args.machine.now) (lines c.args.scripts.now)) (held c.args.handle.now) (held c.hold.new.self) c.no_memory.result
    (record { fault = fault.Memory; line = 0 }) c.in_default.ensures.value (ap held c.in-Err-hold.ensures.unchanged ∙ c.in_default.ensures.value) (inr refl)
    c.no_memory.ensures
