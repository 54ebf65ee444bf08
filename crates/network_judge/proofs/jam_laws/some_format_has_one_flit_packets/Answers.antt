use Rattle.std.proofs.Common.{◌+◌, ◌*◌, ◌/◌, ◌%◌, arith, eq-eqb}
use Rattle.network_judge.proofs.jam_laws.some_format_has_one_flit_packets.Goals as goal

pub returns : goal.returns
returns c = λ t. record {
  word = λ j. 4 * j + 3;
  head = λ j kind. eq-eqb ((4 * j + 3) / 2 % 2) 1 (omega arith);
  tail = λ j kind. eq-eqb ((4 * j + 3) % 2) 1 (omega arith);
  told = λ j kind. omega arith;
}
