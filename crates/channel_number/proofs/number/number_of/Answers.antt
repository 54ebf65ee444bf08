use Rattle.std.proofs.Common.{take, ◌∙◌, ap}
use Rattle.std.specs.Prelude.{sum}
use Rattle.channel_number.proofs.Orders.{hop_inside}
use Rattle.channel_number.proofs.Most.{hop_most, ejection_most}
use Rattle.channel_number.proofs.number.number_of.Goals as goal

pub returns-in-Hop-clause-small : goal.returns-in-Hop-clause-small
returns-in-Hop-clause-small c =
    hop_most c.args.torus.now c.radix_of.ensures.accepted c.args.channel.tile c.args.channel.class c.in-Hop.dim c.in-Hop.dir c.in-Hop.bit
    c.first_number-first.result c.radices_below.result c.radix_of.result c.dateline_of.result c.digit-digit.result c.rank_of-rank.result
    (hop_inside c.args.torus.now c.args.channel.kind c.in-Hop.dim c.in-Hop.dir c.in-Hop.bit c.in-Hop.is c.requires.kind)
    c.first_number-first.ensures.value c.radices_below.ensures.value c.radix_of.ensures.value c.dateline_of.ensures.value c.digit-digit.ensures.value
    c.rank_of-rank.ensures.value

pub returns-in-Ejection-clause-small : goal.returns-in-Ejection-clause-small
returns-in-Ejection-clause-small c =
    ejection_most c.args.torus.now c.dims.ensures.accepted c.args.channel.class c.first_number-first.result c.radices_below-in-Ejection.result
    c.first_number-first.ensures.value (c.radices_below-in-Ejection.ensures.value ∙ ap (λ n. sum (take n c.args.torus.now.radices)) c.dims.ensures.value)
