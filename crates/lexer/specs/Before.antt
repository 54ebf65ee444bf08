-- The lines of a text before one of them, and what they give: words are looked for that pass a test.
use Rattle.std.specs.Prelude.{ℕ, ◌+◌, ◌-◌, ◌==◌, Bool, not, nat_lt, List, [], ◌∷◌, Option, Some}
use Rattle.std.specs.Prelude.{None}
use Rattle.std.specs.Prelude.{option_map, if◌then◌else◌}
use Rattle.lexer.specs.Words.{first_words}

-- the first line before the line `stop` and behind so many others whose words pass, and its number,
-- where these lines count from `at`
abbrev pub given : (List (List ℕ) → Bool) → ℕ → ℕ → ℕ → List (List ℕ) → Option (ℕ × List ℕ)
given gives stop behind at [] = None
given gives stop behind at (line ∷ lines) =
    if not (nat_lt at stop) then None
    else (if gives (first_words line)
    then (if behind == 0 then Some (at, line) else given gives stop (behind - 1) (at + 1) lines)
    else given gives stop behind (at + 1) lines)

-- the number of the first line before the line `stop` whose words pass
abbrev pub line_that_gives : (List (List ℕ) → Bool) → ℕ → List (List ℕ) → Option ℕ
line_that_gives gives stop lines = option_map (λ p. p.0) (given gives stop 0 1 lines)
