use Rattle.std.proofs.Common.{List, take, ap, sym, subst, ◌∙◌}
use Rattle.std.proofs.lemmas.List.{take_more}
use Rattle.network_machine.specs.declared.moves.Move.{Move}
use Rattle.network_traffic.specs.Plans.{plan_table}
use Rattle.network_traffic.specs.Fates.{Stamped, stamped}
use Rattle.network_traffic.specs.Watches.{ShowsLog}
use Rattle.network_traffic.proofs.Watching.{stamped_more}
use Rattle.network_traffic.proofs.watch.Watch.note_moves.Goals as goal

pub loop-k-preserved : goal.loop-k-preserved
loop-k-preserved g c =
    let l = c.loop-k in
    record {
      channels = c.note_move.ensures.channels;
      many = c.note_move.ensures.many ∙ l.invariant.many;
      waited = c.note_move.ensures.waited ∙ l.invariant.waited;
      waits = λ waited stood few counts. c.note_move.ensures.waits waited stood few (l.invariant.waits waited stood few counts);
      log = λ log shows.
          subst (λ (entries : List Stamped). ShowsLog (plan_table c.args.plan.now) c.args.plan.now.packets.now entries c.note_move.new.self)
          (sym (ap (λ (moves : List Move). stamped c.args.round moves log) (take_more c.args.moves.now l.k _ c.loop-k-test.true)
          ∙ stamped_more c.args.round (take l.k c.args.moves.now) _ log))
          (c.note_move.ensures.log (stamped c.args.round (take l.k c.args.moves.now) log) (l.invariant.log log shows));
    }
