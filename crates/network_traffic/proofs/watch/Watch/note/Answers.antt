use Rattle.std.proofs.Common.{ℕ, List, length, ap, sym, subst, ◌∙◌}
use Rattle.std.specs.Prelude.{Vec}
use Rattle.network_judge.specs.Table.{Table}
use Rattle.network_rounds.specs.declared.senders.Timed.{Timed}
use Rattle.network_traffic.specs.Plans.{plan_table}
use Rattle.network_traffic.specs.Fates.{stamped, log_of}
use Rattle.network_traffic.specs.Watches.{ShowsLog}
use Rattle.network_traffic.proofs.Watching.{counted_more}
use Rattle.network_traffic.proofs.watch.Watch.note.Goals as goal

pub returns-clause-rounds : goal.returns-clause-rounds
returns-clause-rounds g c = λ rounds is low shows.
    (let t : Table = plan_table c.args.plan.now in
    let packets : List Timed = c.args.plan.now.packets.now in
    let w = c.note_moves.new.self in
    let made = c.note_moves.ensures.log (log_of rounds) (record { labels = shows.log.labels; fates = shows.log.fates }) in
    let later = subst (λ (round : ℕ). ShowsLog t packets (stamped round c.args.moves.now (log_of rounds)) w) (sym is) made in
    record {
      log = record { labels = later.labels; fates = later.fates };
      many = c.note_moves.ensures.many ∙ shows.many;
      waited = ap (λ (v : Vec ℕ _). length v.items) c.note_moves.ensures.waited ∙ shows.waited;
      waits = counted_more t packets rounds c.args.moves.now c.args.round c.args.self.now w is low c.note_moves.ensures.waits shows later.labels;
    })
