use Rattle.std.proofs.Common.{◌+◌, refl, arith}
use Rattle.network_judge.specs.Table.{Table, table_of}
use Rattle.network_judge.specs.Verdicts.{join_at}
use Rattle.network_judge.proofs.Parts.{part}
use Rattle.network_judge.proofs.spans.sooner_part.Goals as goal

pub returns-after-best-clause-some : goal.returns-after-best-clause-some
returns-after-best-clause-some c =
    let t : Table = table_of c.args.kinds.now c.args.joins.now c.args.choices.now in
    part t c.requires.arrive c.args.place (join_at t c.args.place).from c.args.to c.args.x c.in-Some.step (c.in-Some.step + 1) c.requires.place refl
    c.if-pair-to.false c.in-Some.ensures.some (omega arith)
