-- The calls of whoever watches workers (this project's own format).
use Rattle.std.specs.Prelude.{ℕ, List, ◌++◌}

-- one call of a worker: a pass over its tiles is over, with so many turns made in all; or it has
-- ended, with so many turns made in all
pub data Call : Type 0 where
  Passed : (turns : ℕ) → Call
  Ended : (turns : ℕ) → Call

-- these calls come behind those that a watcher has heard, by what it has heard before and after
abbrev pub HearsOfWorkers : (List Call → Type 0) → (List Call → Type 0) → List Call → Type 0
HearsOfWorkers old new more = (calls : List Call) → old calls → new (calls ++ more)
