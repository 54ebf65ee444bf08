-- The calls of whoever watches a run by steps or in rounds (this project's own format).
use Rattle.std.specs.Prelude.{ℕ, List, ◌++◌, Bool}

-- one call: the question whether it wants to be told, with its answer; or so many rounds are made,
-- and so many operations are answered; or the run has ended, of so many moves, and a guard held operations
-- back in so many rounds
pub data Call : Type 0 where
  Wants : (answer : Bool) → Call
  Made : (rounds answered : ℕ) → Call
  Ended : (moves held : ℕ) → Call

-- these calls come behind those that a watcher has heard, by what it has heard before and after
abbrev pub Hears : (List Call → Type 0) → (List Call → Type 0) → List Call → Type 0
Hears old new more = (calls : List Call) → old calls → new (calls ++ more)
