use Rattle.std.proofs.Common.{◌∙◌}
use Rattle.machine_core.proofs.LatchAges.{issue_told}
use Rattle.machine_core.proofs.machine.Machine.issue_under.Goals as goal

pub returns : goal.returns
returns g c =
    c.unwrap_or.ensures
    ∙ issue_told c.self.inside c.args.self.now c.self.view_is c.args.processor c.args.tag.0 c.index_under-index.result c.index_under-index.ensures
    c.issue.result c.issue.ensures
