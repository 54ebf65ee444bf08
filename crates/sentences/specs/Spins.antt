-- Which spins of a script ran out of loads, by what its operations were replied.
use Rattle.std.specs.Prelude.{ℕ, zero, suc, ◌+◌, ◌==◌, List, [], ◌∷◌, Option, Some, None}
use Rattle.std.specs.Prelude.{if◌then◌else◌}
use Rattle.script_lines.specs.declared.line.Line.{Line}
use Rattle.script_lines.specs.declared.line.Line.TheVariants.{Fence, Spin}
use Rattle.sentences.specs.declared.spins.SpentSpin.{SpentSpin}

-- what comes behind an operation that is answered; nothing comes behind one that isn't
abbrev pub replied : (List (Option ℕ) → List SpentSpin) → List (Option ℕ) → List SpentSpin
replied over [] = []
replied over (None ∷ replies) = []
replied over (Some reply ∷ replies) = over replies

-- A spin with so many loads left: it is over where a load is replied the number sought, and has run
-- out of loads where none is left (this project's own format).
abbrev pub spun : ℕ → SpentSpin → (List (Option ℕ) → List SpentSpin) → List (Option ℕ)
    → List SpentSpin
spun zero spin over replies = spin ∷ over replies
spun (suc left) spin over [] = []
spun (suc left) spin over (None ∷ replies) = []
spun (suc left) spin over (Some reply ∷ replies) =
    if reply == spin.sought then over replies else spun left spin over replies

-- the spins among these lines that ran out of loads, where the first line has this place in the
-- script and the operations from there on are replied so; as far as they are answered in turn
abbrev pub spent_from : ℕ → List Line → List (Option ℕ) → List SpentSpin
spent_from place [] replies = []
spent_from place (Fence ∷ lines) replies = spent_from (place + 1) lines replies
spent_from place (Spin a v m ∷ lines) replies =
    spun m (record { place = place; address = a; sought = v; loads = m })
    (spent_from (place + 1) lines) replies
spent_from place (first ∷ lines) replies =
    replied (spent_from (place + 1) lines) replies

-- the spins of a script that ran out of loads, in its order
abbrev pub spent_spins : List Line → List (Option ℕ) → List SpentSpin
spent_spins script replies = spent_from 0 script replies

-- what the next operation is replied, if it is answered
abbrev pub reply_of_next : List (Option ℕ) → Option ℕ
reply_of_next [] = None
reply_of_next (reply ∷ replies) = reply
