-- When a spin has run out of loads, said of what its script's operations were replied.
use Rattle.std.specs.Prelude.{◌≡◌, ◌⊎◌, ℕ, ◌≤◌, ◌==◌, false, List, [], ◌∷◌, ◌++◌, Option, Some}
use Rattle.std.specs.Prelude.{length}
use Rattle.script_lines.specs.declared.line.Line.{Line}
use Rattle.script_lines.specs.declared.line.Line.TheVariants.{Fence, Spin}
use Rattle.sentences.specs.declared.spins.SpentSpin.{SpentSpin}

-- loads that are answered with other numbers than the one sought
abbrev pub AreOthers : ℕ → List (Option ℕ) → Type 0
AreOthers sought [] = Unit {0}
AreOthers sought (reply ∷ replies) =
    (n : ℕ) × (reply ≡ Some n) × ((n == sought) ≡ false) × AreOthers sought replies

-- all loads that a spin may make, of which none found the number sought
abbrev pub AreSpent : ℕ → ℕ → List (Option ℕ) → Type 0
AreSpent sought most loads = (length loads ≡ most) × AreOthers sought loads

-- loads of a spin of which the last one found the number sought, and no other one
abbrev pub HaveFound : ℕ → ℕ → List (Option ℕ) → Type 0
HaveFound sought most loads = (others : List (Option ℕ)) × (loads ≡ others ++ Some sought ∷ [])
    × (length loads ≤ most) × AreOthers sought others

-- these are the replies to all operations of the lines, one after the other: none to a fence, those
-- to its loads to a spin, and one to each other line (this project's own format)
abbrev pub AreRepliesTo : List Line → List (Option ℕ) → Type 0
AreRepliesTo [] replies = replies ≡ []
AreRepliesTo (Fence ∷ lines) replies = AreRepliesTo lines replies
AreRepliesTo (Spin a v m ∷ lines) replies =
    (loads rest : List (Option ℕ)) × (replies ≡ loads ++ rest)
    × (AreSpent v m loads ⊎ HaveFound v m loads) × AreRepliesTo lines rest
AreRepliesTo (first ∷ lines) replies =
    (n : ℕ) × (rest : List (Option ℕ)) × (replies ≡ Some n ∷ rest) × AreRepliesTo lines rest

-- A spin of a script ran out of loads: behind the replies to all operations of the lines before it
-- stand those to all its loads, and none found the number sought.
pub record RanOut (script : List Line) (replies : List (Option ℕ)) (spin : SpentSpin) : Type 0 where
  pub front : List Line
  pub behind : List Line
  pub line : script ≡ front ++ Spin spin.address spin.sought spin.loads ∷ behind
  pub place : spin.place ≡ length front
  pub before : List (Option ℕ)
  pub loads : List (Option ℕ)
  pub after : List (Option ℕ)
  pub replied : replies ≡ before ++ (loads ++ after)
  pub reached : AreRepliesTo front before
  pub spent : AreSpent spin.sought spin.loads loads

-- the replies to all operations of a script stand in front of these
abbrev pub HasAllReplies : List Line → List (Option ℕ) → Type 0
HasAllReplies script replies =
    (before after : List (Option ℕ)) × (replies ≡ before ++ after) × AreRepliesTo script before
