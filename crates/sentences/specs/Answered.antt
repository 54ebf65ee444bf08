-- Whether all operations of a script are answered, by what they were replied.
use Rattle.std.specs.Prelude.{ℕ, zero, suc, ◌==◌, Bool, true, false, List, [], ◌∷◌, Option, Some}
use Rattle.std.specs.Prelude.{None, if◌then◌else◌}
use Rattle.script_lines.specs.declared.line.Line.{Line}
use Rattle.script_lines.specs.declared.line.Line.TheVariants.{Fence, Spin}

-- the replies behind those to a spin with so many loads left: behind that of the load that found the
-- number sought, or of the last; `None` where one before isn't answered
abbrev pub behind_spin : ℕ → ℕ → List (Option ℕ) → Option (List (Option ℕ))
behind_spin zero sought replies = Some replies
behind_spin (suc left) sought [] = None
behind_spin (suc left) sought (None ∷ replies) = None
behind_spin (suc left) sought (Some reply ∷ replies) =
    if reply == sought then Some replies else behind_spin left sought replies

-- the replies behind that to an operation; `None` where it isn't answered
abbrev pub behind_reply : List (Option ℕ) → Option (List (Option ℕ))
behind_reply [] = None
behind_reply (None ∷ replies) = None
behind_reply (Some reply ∷ replies) = Some replies

-- the replies behind those to all operations of a line; `None` where one isn't answered
abbrev pub behind_line : Line → List (Option ℕ) → Option (List (Option ℕ))
behind_line Fence replies = Some replies
behind_line (Spin a v m) replies = behind_spin m v replies
behind_line first replies = behind_reply replies

-- what is true of the replies behind a line; nothing is where one isn't answered
abbrev pub true_behind : (List (Option ℕ) → Bool) → Option (List (Option ℕ)) → Bool
true_behind over None = false
true_behind over (Some replies) = over replies

-- whether all operations of these lines are answered, where they are replied so, one after the other
abbrev pub are_answered : List Line → List (Option ℕ) → Bool
are_answered [] replies = true
are_answered (line ∷ lines) replies = true_behind (are_answered lines) (behind_line line replies)
