use Rattle.std.proofs.Common.{inr, sym, ◌∙◌, ap}
use Rattle.std.specs.Prelude.{◌==◌}
use Rattle.std.specs.List.{list_any}
use Rattle.network_text.specs.ChoosingRead.{choosing_text_of}
use Rattle.network_text.proofs.Layers.{escape_twice}
use Rattle.network_text.proofs.choosing.Choosing.take_escape.Goals as goal

pub returns-then-is_escape-clause-value : goal.returns-then-is_escape-clause-value
returns-then-is_escape-clause-value g c =
    inr (escape_twice (choosing_text_of c.args.self.now) c.args.channel (sym c.lacks.ensures.value ∙ c.in_default.is)
    (ap (list_any (λ e. e == c.args.channel)) (sym c.deref.ensures.value) ∙ (sym c.is_escape.ensures ∙ c.if-is_escape.true)))
