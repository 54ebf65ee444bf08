use Rattle.std.proofs.Common.{arith, ap, ◌∙◌}
use Rattle.fabric.proofs.Sharing.{joins, learns}
use Rattle.fabric.proofs.Learning.{learned_at}
use Rattle.fabric.proofs.plays.take_in.Goals as goal

pub join_seat-requires : goal.join_seat-requires
join_seat-requires c = (c.requires.tables.0, c.requires.tables.1, c.requires.none_held, omega arith, joins c.args.row.now.key.load _ _ _ _)

pub load-requires : goal.load-requires
load-requires c = (c.join_seat.ensures.0 ∙ c.requires.tables.0, c.requires.word, learns c.args.row.now.key.load _ _ _ c.join_seat.new.seat.me)

pub returns-clause-seat : goal.returns-clause-seat
returns-clause-seat c = (c.load.ensures.0 ∙ c.join_seat.ensures.0, c.load.ensures.2.1 ∙ ap (λ m. m.1) c.join_seat.ensures.2)

pub returns-clause-learned : goal.returns-clause-learned
returns-clause-learned c = learned_at _ _ _ (ap (λ m. m.0) c.join_seat.ensures.2) c.load.ensures.2.0
