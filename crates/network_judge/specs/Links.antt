-- The links of a path of channels and columns.
use Rattle.std.specs.Prelude.{◌≡◌, ℕ, ◌<◌, List, length}
use Rattle.rising.specs.declared.search.Look.{Look}
use Rattle.rising.specs.Search.{path_look}
use Rattle.network_judge.specs.declared.table.Link.{Link}
use Rattle.network_judge.specs.declared.table.By.{By}
use Rattle.network_judge.specs.declared.table.By.TheVariants.{To, Replied}
use Rattle.network_judge.specs.Cycles.{link_at}
use Rattle.network_judge.specs.Graph.{either}

-- how a channel leads on in a column: to its ejection channel, or behind these columns by a reply
abbrev pub by_of : ℕ → (ℕ → ℕ) → ℕ → By
by_of columns end = either columns (λ c. To (end c)) (λ p. Replied)

-- a channel, and how it leads on
abbrev pub link_of : ℕ → (ℕ → ℕ) → Look → Link
link_of columns end look = record { channel = look.node; by = by_of columns end look.column }

-- that of each place of the path
pub record AreLinks (columns : ℕ) (end : ℕ → ℕ) (looks : List Look) (links : List Link) : Type 0
  where
    pub size : length links ≡ length looks
    pub each : (k : ℕ) → k < length looks → link_at links k ≡ link_of columns end (path_look looks k)
