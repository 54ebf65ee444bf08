-- Values that a word may have where an operation takes effect.
use Rattle.std.specs.Prelude.{◌≡◌, ◌<◌, ◌≤◌, ◌⊎◌, ℕ, zero, suc, List, [], ◌∷◌, Some, Contains}
use Rattle.std.specs.Prelude.{length, slice_get, slice_index}
use Rattle.packet.specs.declared.kinds.Op.{Op}
use Rattle.packet.specs.declared.kinds.Reply.{Reply}
use Rattle.packet.specs.declared.kinds.Reply.TheVariants.{Old, Ok as Stored}
use Rattle.packet.specs.Memory.{new_word}
use Rattle.trace_laws.specs.declared.event.Event.{Event}
use Rattle.trace_why.specs.declared.calls.CallAt.{CallAt}
use Rattle.trace_why.specs.declared.untold.Untold.{Untold}
use Rattle.trace_why.specs.declared.untold.Untold.TheVariants.{Memory, Values, Undecided}
use Rattle.trace_why.specs.Calls.{AreOpenOn, IsAnsweredOn, IsOver}

-- the word that an operation left which was answered so; a store leaves the same whatever it found
abbrev pub left_word : Op → Reply → ℕ
left_word op (Old word) = new_word op word
left_word op Stored = new_word op 0

-- what each operation on word w left that an event from `from` up to event k answers is among these
abbrev pub AreLeftBetween : List Event → ℕ → ℕ → ℕ → List ℕ → Type 0
AreLeftBetween trace from k w values = (i : ℕ) (c : CallAt) (reply : Reply) → from ≤ i → i < k
    → IsAnsweredOn trace i w c reply → Contains values (left_word c.call.operation.op reply)

-- of what an operation on word w that is issued at event n finds, answers before event `from` don't
-- tell: there is none, and the opening word is among these values; or some operation was answered
-- before n that was issued at `from`
abbrev pub IsStart : List ℕ → List Event → ℕ → ℕ → List ℕ → ℕ → Type 0
IsStart opening trace w n values from =
    ((from ≡ 0) × Contains values (slice_index opening w))
    ⊎ ((c : CallAt) × IsOver trace n w c × (c.event ≡ from))

-- a value is left by n of these operations at most, one after the other, where the first finds one
-- of some values
abbrev pub IsReachedIn : List ℕ → List CallAt → ℕ → ℕ → Type 0
IsReachedIn values calls zero v = Contains values v
IsReachedIn values calls (suc n) v = IsReachedIn values calls n v
    ⊎ ((u : ℕ) × (c : CallAt) × IsReachedIn values calls n u × Contains calls c
    × (v ≡ new_word c.call.operation.op u))

-- what one of these operations leaves that finds one of some values is among them
abbrev pub AreClosed : List ℕ → List CallAt → Type 0
AreClosed values calls = (x j u : ℕ) (c : CallAt) → slice_get values x ≡ Some u
    → slice_get calls j ≡ Some c → Contains values (new_word c.call.operation.op u)

-- an operation on word w left a value, and was answered before event k
abbrev pub IsLeftBefore : List Event → ℕ → ℕ → ℕ → Type 0
IsLeftBefore trace k w v = (i : ℕ) × (c : CallAt) × (reply : Reply) × (i < k)
    × IsAnsweredOn trace i w c reply × (v ≡ left_word c.call.operation.op reply)

-- a value of word w is tried for an answer at event k: operations that are open on the word leave
-- it, one after the other, where the first finds the opening word, or what an operation left that
-- was answered before
pub record IsTried (opening : List ℕ) (trace : List Event) (k w v : ℕ) : Type 0 where
  pub first : ℕ
  pub found : (first ≡ slice_index opening w) ⊎ IsLeftBefore trace k w first
  pub pending : List CallAt
  pub opens : AreOpenOn trace k w pending
  pub reached : IsReachedIn (first ∷ []) pending (length pending) v

-- a value is one of some, or one of these operations leaves it that finds u
abbrev pub IsLeftOf : List ℕ → List CallAt → ℕ → ℕ → Type 0
IsLeftOf values calls u v = Contains values v
    ⊎ ((c : CallAt) × Contains calls c × (v ≡ new_word c.call.operation.op u))

-- no value is there twice
abbrev pub AreApart : List ℕ → Type 0
AreApart values = (x y v : ℕ) → slice_get values x ≡ Some v → slice_get values y ≡ Some v → x ≡ y

-- no value is there twice, and this holds of each
pub record AreApartAnd (P : ℕ → Type 0) (values : List ℕ) : Type 0 where
  pub apart : AreApart values
  pub each : (v : ℕ) → Contains values v → P v

-- this holds of more than so many values
abbrev pub HoldsOfMany : (ℕ → Type 0) → ℕ → Type 0
HoldsOfMany P bound = (values : List ℕ) × (bound < length values) × AreApartAnd P values

-- why values are not all found of which this holds: of no memory nothing is said
abbrev pub IsOverfullWord : (ℕ → Type 0) → ℕ → Untold → Type 0
IsOverfullWord P bound Memory = Unit {0}
IsOverfullWord P bound Values = HoldsOfMany P bound
IsOverfullWord P bound (Undecided why) = ⊥
