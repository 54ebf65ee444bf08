use Rattle.std.proofs.Common.{◌≡◌, ◌∙◌, None, ap, arith, replicate}
use Rattle.sentences.proofs.replies.no_replies.Goals as goal

pub returns : goal.returns
returns g c =
    let whole : c.loop.counter ≡ c.args.count = omega arith in
    c.loop.invariant ∙ ap (λ n. replicate n None) whole
