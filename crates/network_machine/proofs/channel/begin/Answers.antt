use Rattle.std.proofs.Common.{◌∙◌, ◌≡◌, ap, arith, refl, sym, ◌∷◌, ◌++◌, []}
use Rattle.network_machine.specs.Packets.{rest_words}
use Rattle.network_machine.proofs.channel.begin.Goals as goal

pub returns-clause-line : goal.returns-clause-line
returns-clause-line c = λ l shows.
    (let credit = (c.if-not-put.ensures.line l shows).0 in
    let after = (c.if-not-put.ensures.line l shows).1 in
    let none : c.args.channel.now.left ≡ 0 = omega arith in (
      shows.rest ∙ ap rest_words none,
      credit,
      omega arith,
      record { flits = ap (λ f. l.flits ++ f ∷ []) (sym c.head_flit.ensures) ∙ after.flits; held = after.held; returning = after.returning; latch = after.latch; owner = after.owner; rest = refl },
    ))
