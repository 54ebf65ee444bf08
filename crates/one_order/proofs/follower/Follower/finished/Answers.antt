use Rattle.std.proofs.Common.{◌∙◌, ◌==◌, ◌&&◌, List, ap, drop}
use Rattle.std.specs.Prelude.{is_none}
use Rattle.script_lines.specs.declared.line.Line.{Line}
use Rattle.one_order.specs.Following.{Following, is_empty, is_finished}
use Rattle.one_order.proofs.follower.Follower.finished.Goals as goal

pub returns : goal.returns
unfolding is_finished
returns g c =
    c.is_finished.ensures
    ∙ (ap (λ (ls : List Line). is_empty (drop c.self.inside.at ls) && is_none c.self.inside.spin && (c.self.inside.waiting == 0)) c.as_slice.ensures.value
    ∙ ap (λ (f : Following). is_finished f) c.self.view_is)
