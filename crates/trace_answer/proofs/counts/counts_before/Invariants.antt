use Rattle.std.proofs.Common.{◌≡◌, ◌<◌, ℕ, length}
use Rattle.std.specs.Prelude.{Some, slice_get}
use Rattle.trace_text.specs.declared.issued.Issued.{Issued}
use Rattle.trace_table.specs.Counts.{count_in}
use Rattle.trace_answer.specs.Written.{count_before, key_of}
use Rattle.trace_answer.proofs.counts.counts_before.Given as goal

abbrev pub invariant-loop-k : goal.invariant-loop-k
invariant-loop-k g l = record {
  long : length l.counts.items ≡ l.k;
  seen : (v : ℕ) → count_in l.seen.entries v ≡ count_before l.issued l.kept l.key v l.k;
  each : (n : ℕ) (i : Issued) → n < l.k → slice_get l.issued n ≡ Some i
      → slice_get l.counts.items n ≡ Some (count_before l.issued l.kept l.key (key_of l.key i) n);
}
