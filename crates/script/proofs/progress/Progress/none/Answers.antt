use Rattle.script_lines.specs.Views.{lists_of}
use Rattle.script.proofs.Counted.{counted_at_first}
use Rattle.script.proofs.progress.Progress.none.Goals as goal

pub returns-clause-counted : goal.returns-clause-counted
returns-clause-counted g c =
    counted_at_first c.args.words c.args.tiles (lists_of c.in_ok-lists.lists.items) c.in_ok-counts.counts.items c.requires c.in_ok-lists.ensures.lists
    c.in_ok-counts.ensures
