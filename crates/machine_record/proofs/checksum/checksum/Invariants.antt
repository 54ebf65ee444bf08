use Rattle.std.proofs.Common.{◌≡◌, ◌%◌, ◌<◌, take}
use Rattle.machine_record.specs.Checksum.{sum_of, sum_of_sums}
use Rattle.machine_record.proofs.checksum.checksum.Given as goal

-- the two sums of the bytes so far
abbrev pub invariant-loop-byte : goal.invariant-loop-byte
invariant-loop-byte l = record {
  sum : l.sum ≡ sum_of (take l.byte-index l.bytes) % 4294967296;
  sums : l.sums ≡ sum_of_sums (take l.byte-index l.bytes) % 4294967296;
  low : l.sum < 4294967296;
  few : l.sums < 4294967296;
}
