-- Walks by the routers' choices: those that are routes, and why others are none.
use Rattle.std.specs.Prelude.{◌≡◌, ◌≢◌, ℕ, zero, suc, ◌<◌, ◌≤◌, ◌==◌, cond, Some, None, List, []}
use Rattle.std.specs.Prelude.{◌∷◌}
use Rattle.network_judge.specs.declared.table.Kind.TheVariants.{Injection, Hop, Ejection}
use Rattle.network_judge.specs.declared.table.Why.{Why}
use Rattle.network_judge.specs.declared.table.Why.TheVariants.{NoSender, NoReceiver, Leaves, Ejects}
use Rattle.network_judge.specs.declared.table.Why.TheVariants.{Injects, Round}
use Rattle.network_judge.specs.Table.{Table, channels_of, kind_of, table_next}

-- where the walk from channel x to ejection channel j is after so many steps
abbrev pub place : Table → ℕ → ℕ → ℕ → ℕ
place t j x zero = x
place t j x (suc n) = place t j (table_next t x j) n

-- so far the walk goes from an injection channel over hops: at each step below n but the first it
-- is at a hop
pub record IsUnderWay (t : Table) (i j n : ℕ) : Type 0 where
  pub sender : kind_of t i ≡ Some Injection
  pub receiver : kind_of t j ≡ Some Ejection
  pub hops : (k : ℕ) → 0 < k → k < n → kind_of t (place t j i k) ≡ Some Hop

-- the walk is a route of n steps: from an injection channel over hops to its ejection channel
pub record IsWay (t : Table) (i j n : ℕ) : Type 0 where
  pub under_way : IsUnderWay t i j n
  pub arrives : place t j i n ≡ j
  pub short : n ≤ channels_of t

-- the first steps of the walk from channel x, up to ejection channel j or n channels
abbrev pub walk : Table → ℕ → ℕ → ℕ → List ℕ
walk t j x zero = []
walk t j x (suc n) = x ∷ cond (x == j) [] (walk t j (table_next t x j) n)

-- the route from channel i to ejection channel j: the walk, of one more channels at most than there
-- are
abbrev pub table_route : Table → ℕ → ℕ → List ℕ
table_route t i j = walk t j i (suc (channels_of t))

-- why the walk from i to j is no route, and where it fails first
abbrev pub FailsBy : Table → ℕ → ℕ → Why → Type 0
FailsBy t i j NoSender = kind_of t i ≢ Some Injection
FailsBy t i j NoReceiver = kind_of t j ≢ Some Ejection
FailsBy t i j (Leaves n) = IsUnderWay t i j n × (0 < n) × (kind_of t (place t j i n) ≡ None)
FailsBy t i j (Ejects n) =
    IsUnderWay t i j n × (0 < n) × (kind_of t (place t j i n) ≡ Some Ejection) × (place t j i n ≢ j)
FailsBy t i j (Injects n) =
    IsUnderWay t i j n × (0 < n) × (kind_of t (place t j i n) ≡ Some Injection)
FailsBy t i j Round = (n : ℕ) → IsUnderWay t i j n
