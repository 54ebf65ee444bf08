use Rattle.std.proofs.Common.{◌≡◌, ℕ, ◌<◌, length, slice_index_or}
use Rattle.flit_buffer.specs.Wants.{no_output}
use Rattle.router.specs.Beginning.{new_output}
use Rattle.router.proofs.start.new_outputs.Given as goal

abbrev pub invariant-loop-output : goal.invariant-loop-output
invariant-loop-output l = record {
  counted : length l.ends.items ≡ l.output;
  are_new : (i : ℕ) → i < l.output → slice_index_or l.ends.items i no_output ≡ new_output l.torus l.tile l.depth i;
}
