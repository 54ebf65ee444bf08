-- What a router keeps beside its latches.
use Rattle.std.specs.Prelude.{◌≡◌, ◌≢◌, ℕ, ◌<◌, List, Option, Some, None, IfSome, slice_index_or}
use Rattle.torus.specs.Shape.{Shape, dims_of}
use Rattle.torus.specs.declared.step.Choice.{Choice}
use Rattle.torus.specs.declared.step.Choice.TheVariants as choice
use Rattle.packet.specs.Flits.{head_of}
use Rattle.channel_number.specs.Ports.{port_count}
use Rattle.flit_buffer.specs.declared.want.Want.{Want}
use Rattle.flit_buffer.specs.declared.want.Want.TheVariants.{Take}
use Rattle.router.specs.Table.{way_of}

-- beside each input stands an output that is there: where a head is latched, that for its packet
-- (this project's own format)
pub record AreTargets (s : Shape) (tile : ℕ) (latches : List (Option ℕ)) (targets : List ℕ) : Type 0
  where
    pub within : (i : ℕ) → i < port_count (dims_of s)
        → slice_index_or targets i 0 < port_count (dims_of s)
    pub ways : (i flit : ℕ) → slice_index_or latches i None ≡ Some flit
        → IfSome (head_of flit) (λ head. slice_index_or targets i 0 ≡ way_of s tile i head)

-- a choice to take wants a take of its input (this project's own format)
abbrev pub IsOfChoice : Choice → Want → Type 0
IsOfChoice (choice.TakeFrom i) want = want ≡ Take i
IsOfChoice _ want = Unit {0}

-- what a choice to take learns isn't 0, the word of an empty place (this project's own format)
abbrev pub IsFlitOf : Choice → ℕ → Type 0
IsFlitOf (choice.TakeFrom i) learned = learned ≢ 0
IsFlitOf _ learned = Unit {0}
