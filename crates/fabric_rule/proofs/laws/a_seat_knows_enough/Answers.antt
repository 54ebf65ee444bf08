use Rattle.fabric_rule.proofs.Runs as runs
use Rattle.fabric_rule.proofs.laws.a_seat_knows_enough.Goals as goal

pub returns : goal.returns
returns c = record { tile = runs.known_away; word = runs.tells_later }
