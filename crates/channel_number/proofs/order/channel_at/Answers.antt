use Rattle.std.proofs.Common.{◌/◌, ◌%◌, ◌∙◌, ap}
use Rattle.torus.specs.Shape.{dims_of}
use Rattle.dateline_route.proofs.Walks.{same_channel}
use Rattle.channel_number.specs.Order.{class_of_place, kind_of_place, channel_index, channel_at}
use Rattle.channel_number.proofs.Decoding.{decoded}
use Rattle.channel_number.proofs.order.channel_at.Goals as goal

pub returns-clause-index : goal.returns-clause-index
returns-clause-index c =
    let per = c.channels_at_tile-at_tile.ensures.value in
    ap (channel_index c.args.torus.now)
    (same_channel (record {
      tile = c.args.index / c.channels_at_tile-at_tile.result;
      class = c.class_and_kind-class.result.0;
      kind = c.class_and_kind-class.result.1;
    }) (channel_at c.args.torus.now c.args.index)
    (ap (λ m. c.args.index / m) per)
    (c.class_and_kind-class.ensures.class ∙ ap (λ m. class_of_place (dims_of c.args.torus.now) (c.args.index % m)) per)
    (c.class_and_kind-class.ensures.kind ∙ ap (λ m. kind_of_place (dims_of c.args.torus.now) (c.args.index % m)) per))
    ∙ (decoded c.args.torus.now c.args.index c.requires).1
