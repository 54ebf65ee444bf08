-- Two numbers are one pair.
use Rattle.std.proofs.Common.{sym}
use Rattle.network_text.specs.Reading.{reading_of}
use Rattle.network_text.proofs.Joined.{numbers_joined}
use Rattle.network_text.proofs.reading.Reading.join_line.Goals as goal

pub returns-in-Some-Some-clause-value : goal.returns-in-Some-Some-clause-value
returns-in-Some-Some-clause-value g c =
    numbers_joined (reading_of c.args.self.now) (reading_of c.take_join.new.self) c.args.from.now c.args.to.now c.in-Some-Some.from c.in-Some-Some.to
    c.take_join.result (sym c.in-Some-Some.ensures) (sym c.in-Some-Some.ensures') c.take_join.ensures.value
