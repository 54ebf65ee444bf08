-- Zones of a word: sets of words that it enters at most once, so that it is in them during one
-- stretch of any order (Gibbons and Korach, Testing shared memories, SIAM J. Comput. 26(4), 1997: the
-- zone of a value, where all writes write different values).
use Rattle.std.specs.Prelude.{◌≡◌, ◌⊎◌, ◌<◌, ◌==◌, ℕ, Bool, true, false, List}
use Rattle.std.specs.List.{list_any}
use Rattle.packet.specs.declared.kinds.Reply.{Reply}
use Rattle.packet.specs.Memory.{new_word, reply_to}
use Rattle.trace_laws.specs.declared.event.Call.{Call}
use Rattle.trace_laws.specs.declared.event.Event.{Event}
use Rattle.trace_laws.specs.Traces.{TraceIssuesAt, TraceAnswersAt, IsAnswered}

-- as far as its answer tells, the operation may have found word u
abbrev pub MayHaveFound : List Event → Call → ℕ → Type 0
MayHaveFound trace c u = (i : ℕ) (reply : Reply) → TraceAnswersAt trace i c.id reply
    → reply ≡ reply_to c.operation.op u

-- it may have found a word outside the set, and left one of the set, on word w
abbrev pub MayEnter : List Event → ℕ → (ℕ → Bool) → Call → Type 0
MayEnter trace w set c = (c.operation.address ≡ w) × ((u : ℕ) × MayHaveFound trace c u × (set u ≡ false)
    × (set (new_word c.operation.op u) ≡ true))

-- A zone: at most one operation may enter it, and none if the word is in it at first.
pub record IsZone (initial : ℕ) (trace : List Event) (w : ℕ) (set : ℕ → Bool) : Type 0 where
  pub one : (i j : ℕ) (c d : Call) → TraceIssuesAt trace i c → TraceIssuesAt trace j d
      → MayEnter trace w set c → MayEnter trace w set d → c.id ≡ d.id
  pub none : set initial ≡ true → (i : ℕ) (c : Call) → TraceIssuesAt trace i c
      → MayEnter trace w set c → ⊥

-- no word is in both
abbrev pub AreApartSets : (ℕ → Bool) → (ℕ → Bool) → Type 0
AreApartSets one other = (u : ℕ) → one u ≡ true → other u ≡ false

-- the operation is on word w, and whatever it may have found is in the set
abbrev pub FindsSet : List Event → ℕ → (ℕ → Bool) → Call → Type 0
FindsSet trace w set c =
    (c.operation.address ≡ w) × ((u : ℕ) → MayHaveFound trace c u → set u ≡ true)

-- and whatever it may have left
abbrev pub LeavesSet : List Event → ℕ → (ℕ → Bool) → Call → Type 0
LeavesSet trace w set c = (c.operation.address ≡ w)
    × ((u : ℕ) → MayHaveFound trace c u → set (new_word c.operation.op u) ≡ true)

-- an answered operation found it
abbrev pub IsSetFound : List Event → ℕ → (ℕ → Bool) → Type 0
IsSetFound trace w set = (d : Call) × (i : ℕ) × TraceIssuesAt trace i d × IsAnswered trace d.id
    × FindsSet trace w set d

-- it was found, and this operation alone may have entered it, perhaps without an answer
pub record IsSource (initial : ℕ) (trace : List Event) (w : ℕ) (set : ℕ → Bool) (c : Call)
    : Type 0 where
  pub outside : set initial ≡ false
  pub alone : (i : ℕ) (d : Call) → TraceIssuesAt trace i d → MayEnter trace w set d → d.id ≡ c.id
  pub found : IsSetFound trace w set

-- an operation of the trace took effect: it was answered, or what it alone may have written was
-- found
abbrev pub WasTaken : ℕ → List Event → ℕ → Call → Type 0
WasTaken initial trace w c = ((i : ℕ) × TraceIssuesAt trace i c)
    × (IsAnswered trace c.id ⊎ ((set : ℕ → Bool) × IsSource initial trace w set c))

-- it took effect, and the word was in the set when it did, before or behind it; or the set was found,
-- and it alone may have entered it
abbrev pub SeesSet : ℕ → List Event → ℕ → (ℕ → Bool) → Call → Type 0
SeesSet initial trace w set c =
    (WasTaken initial trace w c × (FindsSet trace w set c ⊎ LeavesSet trace w set c))
    ⊎ ((i : ℕ) × TraceIssuesAt trace i c × IsSource initial trace w set c)

-- The first set is seen by an operation that was answered before another was issued, which sees the
-- second; or one operation finds the first and leaves the second; or the opening word is in the first
-- and some operation sees the second.
abbrev pub IsSeenBefore : ℕ → List Event → ℕ → (ℕ → Bool) → (ℕ → Bool) → Type 0
IsSeenBefore initial trace w one other =
    ((c : Call) × (d : Call) × (i : ℕ) × (j : ℕ) × (reply : Reply) × (i < j)
    × TraceAnswersAt trace i c.id reply × TraceIssuesAt trace j d
    × SeesSet initial trace w one c × SeesSet initial trace w other d)
    ⊎ (((c : Call) × WasTaken initial trace w c × FindsSet trace w one c × LeavesSet trace w other c)
    ⊎ ((one initial ≡ true) × ((c : Call) × SeesSet initial trace w other c)))

-- an operation found it, and was answered before the only one was issued that may enter it
abbrev pub IsFoundEarly : ℕ → List Event → ℕ → (ℕ → Bool) → Type 0
IsFoundEarly initial trace w set = (c : Call) × (d : Call) × (i : ℕ) × (j : ℕ) × (reply : Reply)
    × (i < j) × TraceAnswersAt trace i c.id reply × TraceIssuesAt trace j d × FindsSet trace w set c
    × WasTaken initial trace w c × IsSource initial trace w set d

-- an operation found it, and none may enter it, and it wasn't there at first
abbrev pub IsFoundUnwritten : ℕ → List Event → ℕ → (ℕ → Bool) → Type 0
IsFoundUnwritten initial trace w set = IsSetFound trace w set
    × (set initial ≡ false)
    × ((i : ℕ) (d : Call) → TraceIssuesAt trace i d → MayEnter trace w set d → ⊥)

-- the operation found the set and left another word
abbrev pub IsSetLeft : List Event → ℕ → (ℕ → Bool) → Call → Type 0
IsSetLeft trace w set c = FindsSet trace w set c
    × ((u : ℕ) → MayHaveFound trace c u → set (new_word c.operation.op u) ≡ false)

-- the set of the words that are listed
abbrev pub is_listed : List ℕ → ℕ → Bool
is_listed values u = list_any (λ v. v == u) values

-- the set of one word
abbrev pub is_value : ℕ → ℕ → Bool
is_value v u = u == v

-- this operation may have changed word w to v
abbrev pub MayWrite : List Event → ℕ → Call → ℕ → Type 0
MayWrite trace w c v = (c.operation.address ≡ w)
    × ((u : ℕ) × MayHaveFound trace c u × (u == v ≡ false) × (new_word c.operation.op u ≡ v))

-- all operations on word w that may change it write different words, and none the opening word
pub record AreDifferent (initial : ℕ) (trace : List Event) (w : ℕ) : Type 0 where
  pub one : (i j v : ℕ) (c d : Call) → TraceIssuesAt trace i c → TraceIssuesAt trace j d
      → MayWrite trace w c v → MayWrite trace w d v → c.id ≡ d.id
  pub none : (i : ℕ) (c : Call) → TraceIssuesAt trace i c
      → MayWrite trace w c initial → ⊥
