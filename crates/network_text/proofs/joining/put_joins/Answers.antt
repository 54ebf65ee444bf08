-- Without senders there are no pairs.
use Rattle.std.proofs.Common.{◌≡◌, length, arith}
use Rattle.std.proofs.lemmas.Bool.Decides.{nat_tests}
use Rattle.network_text.proofs.ListedRanges.{no_senders}
use Rattle.network_text.proofs.joining.put_joins.Goals as goal

pub returns-then-is_empty : goal.returns-then-is_empty
returns-then-is_empty g c =
    let none : length c.args.senders.now ≡ 0 = grind (arith, nat_tests, c.if-is_empty.ensures) in
    no_senders c.args.senders.now c.args.receivers.now c.args.joins.now.items none
