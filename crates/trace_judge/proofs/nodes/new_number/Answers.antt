use Rattle.std.proofs.Common.{◌<◌, length}
use Rattle.std.proofs.lemmas.Option.{slice_get-get_or}
use Rattle.trace_judge.proofs.Ranks.{number_of, number_none}
use Rattle.trace_judge.proofs.nodes.new_number.Goals as goal

pub returns : goal.returns
returns c = λ marks are.
    let l : c.in-Some.i < length c.args.ranks.now = c.requires c.in-Some.i c.in-Some.is in
    number_of c.args.ranks.now marks c.args.last c.in-Some.i _ c.in-Some.is
    (slice_get-get_or c.args.ranks.now c.in-Some.i 0 l) are

pub returns-in_default : goal.returns-in_default
returns-in_default c = λ marks are. number_none marks c.args.last c.in_default.is
