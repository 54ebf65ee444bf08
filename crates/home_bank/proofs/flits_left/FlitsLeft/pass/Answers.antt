use Rattle.std.proofs.Common.{ap, sym, ◌∙◌}
use Rattle.flit_buffer.specs.Channel.{rest}
use Rattle.home_bank.proofs.FlitsToPut.{rest-drop}
use Rattle.home_bank.proofs.flits_left.FlitsLeft.pass.Goals as goal

pub returns-then-self-len : goal.returns-then-self-len
returns-then-self-len c = sym (rest-drop c.self.inside.next c.self.inside.flits.items) ∙ ap rest c.self.view_is
