-- What is known of the channels that inputs own.
use Rattle.std.specs.Prelude.{◌≡◌, ◌≢◌, ℕ, ◌<◌, if◌then◌else◌, Bool, cond, List, length}
use Rattle.std.specs.Prelude.{Some, None, slice_index_or}
use Rattle.network_machine.specs.declared.channel.Channel.{Channel}
use Rattle.network_machine.specs.declared.owned.Owned.{Owned}
use Rattle.network_machine.specs.declared.owned.Owned.TheVariants as owned

-- an input may own a channel, as far as is known
abbrev pub MayOwn : Owned → ℕ → Type 0
MayOwn owned.Nothing y = ⊥
MayOwn (owned.Only z) y = y ≡ z
MayOwn owned.Any y = Unit {0}

-- the channels that an input owns are such
abbrev pub OwnsWithin : Owned → List Channel → ℕ → Type 0
OwnsWithin known cs x = (y : ℕ) (d : Channel) → y < length cs
    → (slice_index_or cs y d).owner ≡ Some x → MayOwn known y

-- those of each input are
abbrev pub AreOwned : List Owned → List Channel → Type 0
AreOwned known cs = (x : ℕ) (o : Owned) → x < length known
    → OwnsWithin (slice_index_or known x o) cs x

-- each channel keeps its owner
abbrev pub SameOwners : List Channel → List Channel → Type 0
SameOwners old new = (y : ℕ) (d : Channel) → y < length old
    → (slice_index_or new y d).owner ≡ (slice_index_or old y d).owner

-- but for channel y, if input x puts a flit into it
pub record OwnersAfter (old new : List Channel) (x y : ℕ) (is_tail made : Bool) : Type 0 where
  pub others : (z : ℕ) (d : Channel) → z ≢ y → z < length old
      → (slice_index_or new z d).owner ≡ (slice_index_or old z d).owner
  pub here : (d : Channel) → (slice_index_or new y d).owner
      ≡ (if made then cond is_tail None (Some x) else (slice_index_or old y d).owner)
