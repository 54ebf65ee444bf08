-- The numbers are cut off above the limit, which changes no verdict on room.
use Rattle.std.proofs.Common.{length, arith}
use Rattle.network_text.specs.Ranges.{channels_of}
use Rattle.network_text.proofs.ListedRanges.{room_same, product_fits}
use Rattle.network_text.proofs.joining.pairs_between.Goals as goal

pub overflow_mul-result : goal.overflow_mul-result
overflow_mul-result c =
    omega (arith, product_fits c.size_of-first.result c.size_of-second.result c.size_of-first.ensures.few c.size_of-second.ensures.few)

pub returns-clause-room : goal.returns-clause-room
returns-clause-room c = λ n.
    room_same n (length (channels_of c.args.senders.now)) (length (channels_of c.args.receivers.now)) c.size_of-first.result c.size_of-second.result
    c.size_of-first.ensures.size c.size_of-second.ensures.size

pub returns-clause-few : goal.returns-clause-few
returns-clause-few c =
    product_fits c.size_of-first.result c.size_of-second.result c.size_of-first.ensures.few c.size_of-second.ensures.few
