use Rattle.std.proofs.Common.{◌∙◌}
use Rattle.report_model.specs.Run.{run_seen}
use Rattle.report_model.proofs.Entered.{all_entered}
use Rattle.report_model.proofs.entries.entries_with.Goals as goal

pub returns : goal.returns
returns g c =
    all_entered (run_seen c.args.run.now) c.args.rows.now c.args.steps.now c.in_ok-entries.entries.items c.put_made.new.entries.items
    c.put_services.new.entries.items c.requires.rows (c.in_ok-entries.ensures.items ∙ c.deref.ensures.value)
    c.in_ok-put_made.ensures c.in_ok-put_services.ensures
