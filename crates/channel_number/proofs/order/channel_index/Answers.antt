use Rattle.std.proofs.Common.{arith}
use Rattle.std.proofs.lemmas.Nat.{mul-le}
use Rattle.channel_number.proofs.Orders.{index_from}
use Rattle.channel_number.proofs.order.channel_index.Goals as goal

pub overflow_mul-result : goal.overflow_mul-result
overflow_mul-result c =
    omega (
      arith,
      c.requires.tile,
      c.channels_at_tile.ensures.accepted.tiles,
      mul-le c.args.channel.tile c.channels_at_tile.result 64 28 (omega arith)
          (omega arith),
    )

pub overflow_add-result : goal.overflow_add-result
overflow_add-result c =
    omega (
      arith,
      c.requires.tile,
      c.channels_at_tile.ensures.accepted.tiles,
      mul-le c.args.channel.tile c.channels_at_tile.result 64 28 (omega arith)
          (omega arith),
    )

pub returns-clause-below : goal.returns-clause-below
returns-clause-below c =
    index_from c.args.torus.now c.args.channel c.channels_at_tile.result c.place_of.result c.requires c.channels_at_tile.ensures.value c.place_of.ensures.value
