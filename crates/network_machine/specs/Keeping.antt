-- Flits that keep to the routes of a table, as in each run from the empty network.
use Rattle.std.specs.Prelude.{◌≡◌, ◌≢◌, ℕ, ◌<◌, ◌≤◌, true, false, Some, All}
use Rattle.wormhole.specs.State.{NetLine}
use Rattle.network_judge.specs.Table.{Table, channels_of, joins_of}
use Rattle.network_judge.specs.Ways.{place, IsWay}
use Rattle.network_judge.specs.LockUps.{plain_format}

-- packets to ejection channel j come to channel x
pub record PacketsComeTo (t : Table) (x j : ℕ) : Type 0 where
  pub from : ℕ
  pub joined : joins_of t from j ≡ true
  pub steps : ℕ
  pub way : IsWay t from j steps
  pub step : ℕ
  pub within : step ≤ steps
  pub here : place t j from step ≡ x

-- a flit at channel x: a head flit names an ejection channel whose packets come there
abbrev pub HeadComesTo : Table → ℕ → ℕ → Type 0
HeadComesTo t x flit = plain_format.is_head flit ≡ true → PacketsComeTo t x (plain_format.told flit)

-- the flits of a channel keep to routes; what owns it is another channel
pub record KeepsToRoutes (t : Table) (x : ℕ) (l : NetLine) : Type 0 where
  pub latched : (flit : ℕ) → l.latch ≡ Some flit → HeadComesTo t x flit
  pub flits : All (HeadComesTo t x) l.flits
  pub rest : All (λ flit. plain_format.is_head flit ≡ false) l.rest
  pub owned : (z : ℕ) → l.owner ≡ Some z → x < channels_of t
  pub apart : (z : ℕ) → l.owner ≡ Some z → z ≢ x

-- those of all channels do
abbrev pub AllKeepToRoutes : Table → (ℕ → NetLine) → Type 0
AllKeepToRoutes t ls = (x : ℕ) → KeepsToRoutes t x (ls x)
