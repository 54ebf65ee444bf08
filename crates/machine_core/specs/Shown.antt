-- What the row of a machine shows: the flits of each channel, the memory, and the done word.
use Rattle.std.specs.Prelude.{◌≡◌, ◌≢◌, ℕ, ◌+◌, ◌*◌, ◌%◌, ◌<◌, List, length, slice_index, count_by}
use Rattle.torus.specs.declared.step.Step.{Step}
use Rattle.channel_number.specs.Order.{channel_count}
use Rattle.flit_buffer.specs.Surroundings.{ring}
use Rattle.machine_parts.specs.Core.{Load}
use Rattle.machine_parts.specs.Row.{row_of}
use Rattle.machine_parts.specs.Taken.{words_taken}
use Rattle.machine_parts.specs.Machine.{Core, built_to, shown}

-- the row of a machine's words (this project's own format)
abbrev pub row_in : Core → List ℕ
row_in c = row_of (built_to c) c.state

-- the flits that channel x of a machine holds, the oldest first (Dally and Towles, chapter 13)
abbrev pub flits_in : Core → ℕ → List ℕ
flits_in c x = (ring c.state.around.rings x).channel.flits

-- The row of a machine that stands after these steps from a load: flit i of a channel stands as
-- many places after the channel's first as flits were words_taken from it so far and i together, modulo
-- the depth, and 0 at every other place of the channel; behind the channels stand the words of the
-- memory by address, and behind those the done word, which is the number of the processors that
-- have reported that their script is finished (this project's own format).
pub record ShowsRow (l : Load) (steps : List Step) (c : Core) : Type 0 where
  pub size : length (row_in c) ≡ channel_count c.shape * c.depth + length c.opening + 1
  pub flits : (x i : ℕ) → x < channel_count c.shape → i < length (flits_in c x)
      → slice_index (row_in c) (x * c.depth + (words_taken l steps x + i) % c.depth)
      ≡ slice_index (flits_in c x) i
  pub empty : (x q : ℕ) → x < channel_count c.shape → q < c.depth
      → ((i : ℕ) → i < length (flits_in c x) → (words_taken l steps x + i) % c.depth ≢ q)
      → slice_index (row_in c) (x * c.depth + q) ≡ 0
  pub words : (a : ℕ) → a < length c.opening
      → slice_index (row_in c) (channel_count c.shape * c.depth + a)
      ≡ slice_index (shown c).memory a
  pub done : slice_index (row_in c) (channel_count c.shape * c.depth + length c.opening)
      ≡ count_by (λ t. t.processor.reported) c.state.tiles
