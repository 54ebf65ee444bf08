use Rattle.std.proofs.Common.{ap, ◌%◌, ◌/◌, ◌^◌}
use Rattle.std.proofs.lemmas.Nat.{one_shl}
use Rattle.packet.specs.Flit.{field}
use Rattle.packet.proofs.flit.field.Goals as goal

pub returns-clause-value : goal.returns-clause-value
unfolding field
returns-clause-value c =
    ap (λ n. c.args.flit / 2 ^ c.args.low % n) (one_shl c.args.width 64 c.requires.width)
