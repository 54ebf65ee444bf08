-- What is judged of a network whose routers choose: numbers that rise, a channel without an
-- escape, or a cycle of extended dependencies.
use Rattle.std.specs.Prelude.{◌≡◌, ◌⊎◌, ℕ, ◌+◌, ◌-◌, ◌<◌, Bool, true, false}
use Rattle.network_adaptive.specs.Choices.{AdaptiveNet, Comes, ExtendedDependency, HasEscapes, AreRising}

-- how channel x leads on to channel y: a packet that holds the one may wait for the other, or
-- packets from the one are answered on the other
abbrev pub IsEdge : AdaptiveNet → (ℕ → ℕ → Bool) → ℕ → ℕ → Type 0
IsEdge n answers x y = ((j : ℕ) × ExtendedDependency n x j y) ⊎ (answers x y ≡ true)

-- so many channels, each leads on to the next and the last one to the first (Duato: a cycle of
-- the extended dependency graph)
pub record IsDependencyCycle (n : AdaptiveNet) (answers : ℕ → ℕ → Bool) (size : ℕ)
    (at : ℕ → ℕ) : Type 0 where
  pub some : 0 < size
  pub each : (k : ℕ) → k + 1 < size → IsEdge n answers (at k) (at (k + 1))
  pub last : IsEdge n answers (at (size - 1)) (at 0)

-- packets to ejection channel j come to channel x, and have no escape there
pub record LacksEscape (n : AdaptiveNet) (j x : ℕ) : Type 0 where
  pub comes : Comes n j x
  pub input : n.frame.ejects x ≡ false
  pub none : (y : ℕ) → n.escapes x j y ≡ false

-- the first such, by destination and then by channel
pub record LacksEscapeFirst (n : AdaptiveNet) (j x : ℕ) : Type 0 where
  pub stuck : LacksEscape n j x
  pub before : (i z : ℕ) → i < j → LacksEscape n i z → ⊥
  pub beside : (z : ℕ) → z < x → LacksEscape n j z → ⊥

-- the network has escapes, and numbers that rise
abbrev pub HasNumbers : AdaptiveNet → (ℕ → ℕ → Bool) → Type 0
HasNumbers n answers = HasEscapes n × ((number : ℕ → ℕ) × AreRising n answers number)

-- it has escapes, and a cycle
abbrev pub HasCycle : AdaptiveNet → (ℕ → ℕ → Bool) → Type 0
HasCycle n answers =
    HasEscapes n × ((size : ℕ) × ((at : ℕ → ℕ) × IsDependencyCycle n answers size at))

-- somewhere it has no escape
abbrev pub HasNoEscape : AdaptiveNet → Type 0
HasNoEscape n = (j : ℕ) × ((x : ℕ) × LacksEscapeFirst n j x)
