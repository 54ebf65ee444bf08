use Rattle.std.proofs.Common.{◌≡◌, ℕ, [], vec_len}
use Rattle.report_check.specs.Shows.{bank_of}
use Rattle.report_check.proofs.making.empty_banks.Given as goal

abbrev pub invariant-loop : goal.invariant-loop
invariant-loop g l = record {
  sized : vec_len l.banks ≡ l.counter;
  empty : (bank : ℕ) → bank_of l.banks.items bank ≡ [];
}
