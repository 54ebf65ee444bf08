use Rattle.std.proofs.Common.{◌≡◌, ◌≤◌, ◌∙◌, ap, subst}
use Rattle.std.specs.Prelude.{option_map}
use Rattle.torus.specs.Shape.{Shape, dims_of}
use Rattle.machine_parts.specs.Machine.{Core}
use Rattle.machine_record.specs.Recorded.{recording_of, room_of}
use Rattle.machine_record.proofs.Keeps.{keeps_clocked}
use Rattle.machine_record.proofs.recorded.RecordedMachine.clocked_round.Goals as goal

pub invariant_of-self : goal.invariant_of-self
invariant_of-self g c =
    let shape = c.torus.ensures ∙ ap (λ (x : Core). x.shape) c.machine.ensures in
    keeps_clocked (option_map recording_of c.self.inside.kept) (option_map recording_of c.keep_clocked.new.kept) (room_of c.self.inside.kept) (room_of c.keep_clocked.new.kept)
    c.self.inside.machine c.clocked_round.new.self c.args.turn
    (subst (λ (s : Shape). 1 ≤ dims_of s) shape c.dims-dims.ensures.accepted.dims_low)
    (subst (λ (s : Shape). dims_of s ≤ 3) shape c.dims-dims.ensures.accepted.dims_high)
    c.self.invariant c.clocked_round.ensures.state c.clocked_round.ensures.spins c.clocked_round.ensures.guard c.keep_clocked.ensures
