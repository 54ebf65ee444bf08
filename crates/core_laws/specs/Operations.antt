-- Whom an attempt wakes, by its operation on one word of the row.
use Rattle.std.specs.Prelude.{ℕ, ◌+◌, ◌*◌, ◌/◌, ◌==◌, nat_lt, if◌then◌else◌, List, [], ◌∷◌}
use Rattle.torus.specs.Shape.{tiles_of}
use Rattle.channel_number.specs.Order.{channel_count}
use Rattle.flit_buffer.specs.declared.word_op.WordOp.{WordOp}
use Rattle.flit_buffer.specs.declared.word_op.WordOp.TheVariants.{Store, Swap, Add}
use Rattle.core_laws.specs.Tile.{Design}
use Rattle.core_laws.specs.Waking.{receiver_of, sender_of, processors}

-- how many words of the row are places of channels
abbrev pub wake_places : Design → ℕ
wake_places d = channel_count d.shape * d.depth

-- the other agents that an enabled attempt wakes, by its operation: a swap at a place the sender of
-- the channel, a store at a place its receiver, an addition to the done word the processors, and
-- any other none (this project's own format)
abbrev pub woken_by_operation : Design → WordOp → List ℕ
woken_by_operation d (Swap word v) =
    if nat_lt word (wake_places d) then sender_of d.shape (word / d.depth) ∷ [] else []
woken_by_operation d (Store word v) =
    if nat_lt word (wake_places d) then receiver_of d.shape (word / d.depth) ∷ [] else []
woken_by_operation d (Add word v) =
    if word == wake_places d + d.words then processors (tiles_of d.shape) else []
woken_by_operation d _ = []
