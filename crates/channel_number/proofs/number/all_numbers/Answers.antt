use Rattle.std.proofs.Common.{◌≡◌, ◌∙◌, arith}
use Rattle.channel_number.specs.Number.{IsNumbering}
use Rattle.channel_number.proofs.Climb.{numbering_rises}
use Rattle.channel_number.proofs.Numberings.{begun_more, begun_all}
use Rattle.channel_number.proofs.number.all_numbers.Goals as goal

pub loop-index-preserved : goal.loop-index-preserved
loop-index-preserved g c =
    begun_more c.args.torus.now c.loop-index.numbers.items c.push.new.self.items c.loop-index.index c.number_of.result c.channel_at.result
    c.loop-index.invariant c.channel_at.ensures.channel c.channel_at.ensures.index c.number_of.ensures.value c.in_ok-push.ensures.items

pub returns : goal.returns
returns g c =
    let last : c.loop-index.index ≡ c.channel_count-count.result = omega arith in
    let all : IsNumbering c.args.torus.now c.loop-index.numbers.items =
    begun_all c.args.torus.now c.loop-index.numbers.items c.loop-index.index c.loop-index.invariant (last ∙ c.channel_count-count.ensures.value) in
    record { numbers = all; rise = numbering_rises c.args.torus.now c.channel_count-count.ensures.accepted c.loop-index.numbers.items all }
