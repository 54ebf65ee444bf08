use Rattle.std.proofs.Common.{◌∙◌, ◌≡◌, ap, arith, sym, ◌-◌, ◌∷◌, ◌++◌, []}
use Rattle.network_machine.specs.Packets.{rest_words, rest_word}
use Rattle.network_machine.proofs.Packets.{rest_some}
use Rattle.network_machine.proofs.channel.send_more.Goals as goal

pub overflow_sub-channel : goal.overflow_sub-channel
overflow_sub-channel c = let same = c.if-not-put.ensures.left in omega arith

pub returns-clause-line : goal.returns-clause-line
returns-clause-line c = λ l shows.
    (let left = c.args.channel.now.left in
    let credit = (c.if-not-put.ensures.line l shows).0 in
    let after = (c.if-not-put.ensures.line l shows).1 in
    let flit = c.rest_flit.result in
    let is : flit ≡ rest_word left = c.rest_flit.ensures in (
      rest_word left,
      rest_words (left - 1),
      shows.rest ∙ rest_some left (omega arith),
      credit,
      record {
        flits = ap (λ f. l.flits ++ f ∷ []) (sym is) ∙ after.flits;
        held = after.held;
        returning = after.returning;
        latch = after.latch;
        owner = after.owner;
        rest = ap (λ k. rest_words (k - 1)) (sym c.if-not-put.ensures.left);
      },
    ))
