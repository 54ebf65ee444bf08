use Rattle.std.proofs.Common.{ap}
use Rattle.std.specs.Prelude.{option_map}
use Rattle.machine_asked.specs.Asked.{Asked}
use Rattle.machine_record.specs.Recorded.{recording_of, room_of}
use Rattle.machine_record.proofs.Keeps.{keeps_rounds, rounds_on}
use Rattle.machine_record.proofs.recorded.RecordedMachine.rounds.Goals as goal

pub invariant_of-self : goal.invariant_of-self
invariant_of-self g c =
    keeps_rounds (option_map recording_of c.self.inside.kept) (option_map recording_of c.keep.new.kept) (room_of c.self.inside.kept) (room_of c.keep.new.kept)
    c.self.inside.machine c.make_rounds.new.machine c.args.count c.self.invariant (ap (λ (x : Asked). x.core) c.make_rounds.ensures)
    (ap (λ (x : Asked). x.spins) c.make_rounds.ensures) (ap (λ (x : Asked). x.guard) c.make_rounds.ensures) c.keep.ensures

pub returns-clause-runs_on : goal.returns-clause-runs_on
returns-clause-runs_on g c =
    rw (← c.self.view_is) (rounds_on c.self.inside.machine c.make_rounds.new.machine c.args.count c.make_rounds.ensures)
