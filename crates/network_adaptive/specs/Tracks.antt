-- What holds of the packets under way: they came by choices, and a packet is alone in a channel
-- that it took as no escape.
use Rattle.std.specs.Prelude.{◌≡◌, ◌≢◌, ◌⊎◌, ℕ, ◌<◌, ◌≤◌, true, false, [], ◌∷◌, Some, All}
use Rattle.wormhole.specs.Net.{Parcel}
use Rattle.wormhole.specs.State.{Note, NetState}
use Rattle.network_adaptive.specs.Choices.{AdaptiveNet, Comes, IsChoice}

-- one packet alone is in a channel, on its way to j: its head flit still, or the rest of it
abbrev pub IsAlone : Note → ℕ → ℕ → Type 0
IsAlone h course j =
    ((h.parcels ≡ []) × (course ≡ j))
    ⊎ ((k : Parcel) × (h.awaited ≡ []) × (h.parcels ≡ k ∷ []) × (k.destination ≡ j))

-- course tells the destination of the packet that is coming out of a channel, and stamp when a
-- head flit last went into it: where an owner holds no further head flit, the stamp rises from
-- owner to owned, so that no chain of owners closes (this project's own invariant)
pub record AreTracks (n : AdaptiveNet) (s : NetState) (course stamp : ℕ → ℕ) (now : ℕ)
    : Type 0 where
  pub comes : (x : ℕ) → All (λ k. Comes n k.destination x) (s.notes x).parcels
  pub coming : (x : ℕ) → n.frame.ejects x ≡ false → (s.notes x).awaited ≢ [] → Comes n (course x) x
  pub owned : (x y : ℕ) → (s.lines y).owner ≡ Some x → IsChoice n (course x) x y
  pub alone : (x y : ℕ) → (s.lines y).owner ≡ Some x
      → (n.escapes x (course x) y ≡ true) ⊎ IsAlone (s.notes y) (course y) (course x)
  pub order : (x y : ℕ) → (s.lines y).owner ≡ Some x → (s.notes x).parcels ≡ []
      → stamp x < stamp y
  pub past : (x : ℕ) → stamp x ≤ now

-- there are such courses and stamps
pub record HasTracks (n : AdaptiveNet) (s : NetState) : Type 0 where
  pub course : ℕ → ℕ
  pub stamp : ℕ → ℕ
  pub now : ℕ
  pub are : AreTracks n s course stamp now
