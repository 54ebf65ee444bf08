use Rattle.std.proofs.Common.{[], ◌∙◌, ap, arith, replicate}
use Rattle.model_text.proofs.rows.Rows.empty.Goals as goal

pub returns : goal.returns
returns g c = c.loop.invariant ∙ ap (λ n. replicate n []) (omega arith)
