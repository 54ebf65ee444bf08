-- Dead sets of networks whose routers choose, and their opposite: choices that rise.
-- Duato, A new theory of deadlock-free adaptive routing in wormhole networks, IEEE TPDS 4(12), 1993,
-- and A necessary and sufficient condition for deadlock-free adaptive routing in wormhole networks,
-- IEEE TPDS 6(10), 1995.
use Rattle.std.specs.Prelude.{◌≡◌, ℕ, ◌<◌, Bool, true, false}
use Rattle.network_adaptive.specs.Choices.{AdaptiveNet, IsChoice, Comes}

-- packets to ejection channel j come to channel x, and wait there for channels of a set alone:
-- whatever they could choose is one, and at their end a channel on which they are answered
pub record WaitsInside (n : AdaptiveNet) (answers : ℕ → ℕ → Bool) (set : ℕ → Bool) (j x : ℕ)
    : Type 0 where
  pub comes : Comes n j x
  pub choices : (y : ℕ) → IsChoice n j x y → set y ≡ true
  pub at_end : n.frame.ejects x ≡ true → (y : ℕ) × (answers x y ≡ true) × (set y ≡ true)

-- a dead set: packets of some destination wait in each of its channels for others of them alone
-- (Duato 1993: the channels of a deadlocked configuration)
abbrev pub IsDeadSet : AdaptiveNet → (ℕ → ℕ → Bool) → (ℕ → Bool) → Type 0
IsDeadSet n answers set = (x : ℕ) → set x ≡ true → (j : ℕ) × WaitsInside n answers set j x

-- the dead set that has the channels of every dead set
pub record IsGreatestDeadSet (n : AdaptiveNet) (answers : ℕ → ℕ → Bool) (set : ℕ → Bool) : Type 0
  where
    pub dead : IsDeadSet n answers set
    pub greatest : (other : ℕ → Bool) → IsDeadSet n answers other
        → (x : ℕ) → other x ≡ true → set x ≡ true

-- wherever packets come, one of their choices has a greater number, and at their end each channel on
-- which they are answered (Duato 1993, for packets of one flit: these have direct dependencies alone,
-- and the choice that rises may be another one for each channel and destination)
pub record HasRisingChoices (n : AdaptiveNet) (answers : ℕ → ℕ → Bool) (number : ℕ → ℕ) : Type 0
  where
    pub rises : (j x : ℕ) → Comes n j x → n.frame.ejects x ≡ false
        → (y : ℕ) × IsChoice n j x y × (number x < number y)
    pub answered : (x y : ℕ) → Comes n x x → answers x y ≡ true → number x < number y
    pub bounded : (x : ℕ) → x < n.frame.channels → number x < n.frame.channels
