use Rattle.std.proofs.Common.{◌≡◌, ◌+◌, ◌++◌, ◌∷◌, ◌%◌, ℕ, List, [], take, refl, sym, ◌∙◌, ap, arith}
use Rattle.std.proofs.lemmas.List.{take_more}
use Rattle.machine_record.proofs.Checksums.{sum_goes_on, sums_go_on}
use Rattle.machine_record.proofs.checksum.checksum.Goals as goal

pub loop-byte-preserved : goal.loop-byte-preserved
loop-byte-preserved c =
    let bytes : List ℕ = c.args.bytes.now in
    let at : ℕ = c.loop-byte.byte-index in
    let byte : ℕ = c.from.result in
    let m : ℕ = 4294967296 in
    let more : take (at + 1) bytes ≡ take at bytes ++ byte ∷ [] =
    take_more bytes at 0 c.loop-byte-test.true ∙ ap (λ (b : ℕ). take at bytes ++ b ∷ []) (sym c.from.ensures) in
    let sum = sum_goes_on (take at bytes) (take (at + 1) bytes) byte c.loop-byte.sum ((c.loop-byte.sum + byte) % m) m more c.loop-byte.invariant.sum refl in
    record {
      sum = sum;
      sums = sums_go_on (take at bytes) (take (at + 1) bytes) byte ((c.loop-byte.sum + byte) % m) c.loop-byte.sums
          ((c.loop-byte.sums + (c.loop-byte.sum + byte) % m) % m) m more sum c.loop-byte.invariant.sums refl;
      low = omega arith;
      few = omega arith;
    }
