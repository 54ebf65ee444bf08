-- What each verdict says of a network of choices.
use Rattle.std.specs.Prelude.{◌≡◌, ℕ, ◌<◌, ◌==◌, ◌&&◌, Bool, List, length, slice_index}
use Rattle.std.specs.List.{list_any}
use Rattle.network_judge.specs.declared.table.Reply.{Reply}
use Rattle.network_judge.specs.TableNet.{Flits}
use Rattle.wormhole.specs.State.{NetState}
use Rattle.wormhole.specs.Ends.{IsQuiet}
use Rattle.network_adaptive.specs.Choices.{HasEscapes, AreRising}
use Rattle.network_adaptive.specs.Verdicts.{LacksEscapeFirst}
use Rattle.network_adaptive.specs.Flow.{IsReachable}
use Rattle.network_adaptive.specs.Progress.{MoveByEscapes}
use Rattle.network_adaptive.specs.declared.verdict.Verdict.{Verdict}
use Rattle.network_adaptive.specs.declared.verdict.Verdict.TheVariants.{Rising, NoEscape, Cycle}
use Rattle.network_adaptive.specs.Choosing.{ChoiceTable, network}
use Rattle.network_adaptive.specs.Travel.{IsTravel}
use Rattle.network_adaptive.specs.Between.{IsCycleBy}

-- on which channels packets from a channel are answered
abbrev pub answers_of : List Reply → ℕ → ℕ → Bool
answers_of replies x y = list_any (λ (r : Reply). r.from == x && r.to == y) replies

-- exactly what the verdict says, whatever the depth and the flits
abbrev pub IsAdaptiveVerdict : {A : Type 0} → ChoiceTable → List Reply → Verdict A → Type 0
IsAdaptiveVerdict t replies (Rising numbers travel) = (depth : ℕ) (flits : Flits)
    → HasEscapes (network t depth flits) × (length numbers.items ≡ length t.kinds)
    × AreRising (network t depth flits) (answers_of replies) (slice_index numbers.items)
    × IsTravel (network t depth flits) travel
IsAdaptiveVerdict t replies (NoEscape f) = (depth : ℕ) (flits : Flits)
    → LacksEscapeFirst (network t depth flits) f.to f.at
IsAdaptiveVerdict t replies (Cycle edges) = (depth : ℕ) (flits : Flits)
    → HasEscapes (network t depth flits)
    × IsCycleBy (network t depth flits) (answers_of replies) edges.items

-- the network never deadlocks, whatever the depth and the flits: in every state that events lead to, a
-- channel that isn't quiet gives a move (Dally and Towles, chapter 14)
abbrev pub NeverDeadlocks : ChoiceTable → List Reply → Type 0
NeverDeadlocks t replies = (depth : ℕ) (flits : Flits) → 0 < depth
    → (s : NetState) → IsReachable (network t depth flits) s
    → (x : ℕ) → x < length t.kinds → (IsQuiet (network t depth flits).frame s x → ⊥)
    → MoveByEscapes (network t depth flits) s (answers_of replies)

-- what a verdict promises: with numbers that rise the network never deadlocks
abbrev pub Promises : {A : Type 0} → ChoiceTable → List Reply → Verdict A → Type 0
Promises t replies (Rising numbers travel) = NeverDeadlocks t replies
Promises t replies (NoEscape f) = Unit {0}
Promises t replies (Cycle edges) = Unit {0}
