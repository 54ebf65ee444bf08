use Rattle.std.proofs.Common.{◌≡◌, ℕ, ◌<◌, length, slice_index_or}
use Rattle.flit_buffer.specs.Wants.{no_input}
use Rattle.router.specs.Beginning.{new_input}
use Rattle.router.proofs.start.new_inputs.Given as goal

abbrev pub invariant-loop-input : goal.invariant-loop-input
invariant-loop-input l = record {
  counted : length l.ends.items ≡ l.input;
  are_new : (i : ℕ) → i < l.input → slice_index_or l.ends.items i no_input ≡ new_input l.torus l.tile l.depth i;
}
