-- Configurations of one word: which of the open operations on it have taken effect, and what they
-- left.
use Rattle.std.specs.Prelude.{◌≡◌, ◌*◌, ◌%◌, ◌^◌, ◌-◌, ◌<◌, ◌⊎◌, ℕ, List, ◌++◌, Option, Some, None}
use Rattle.std.specs.Prelude.{bit_and, bit_or, slice_get, IfSome}
use Rattle.std.specs.Int.{bit_at}
use Rattle.packet.specs.Memory.{new_word, reply_to}
use Rattle.trace_laws.specs.declared.opened.Open.{Open}
use Rattle.trace_laws.specs.declared.opened.Config.{Config}

-- a number of 128 bits with bit k set
abbrev pub with_bit : ℕ → ℕ → ℕ
with_bit n k = bit_or n (1 * 2 ^ k % 2 ^ 128)

-- and with bit k cleared
abbrev pub without_bit : ℕ → ℕ → ℕ
without_bit n k = bit_and n (2 ^ 128 - 1 - 1 * 2 ^ k % 2 ^ 128)

-- slot s has an open operation on this word
pub record IsOpen (table : List (Option Open)) (word s : ℕ) (o : Open) : Type 0 where
  pub there : slice_get table s ≡ Some (Some o)
  pub here : o.call.operation.address ≡ word

-- the operation in slot s has not taken effect
abbrev pub IsLeft : Config → ℕ → Type 0
IsLeft c s = bit_at c.taken s ≡ 0

-- it has
abbrev pub HasTakenEffect : Config → ℕ → Type 0
HasTakenEffect c s = bit_at c.taken s ≡ 1

-- the reply that the word gives is the one that the trace will tell, if it tells one
abbrev pub AgreesWithValue : Open → ℕ → Type 0
AgreesWithValue o word = IfSome o.promise (λ reply. reply_to o.call.operation.op word ≡ reply)

-- the operation in slot s may take effect (Lowe, Testing for linearizability, Concurrency and
-- Computation 29(4), 2017: just-in-time linearization)
pub record MayTake (table : List (Option Open)) (word : ℕ) (c : Config) (s : ℕ) (o : Open) : Type 0
  where
    pub pending : IsOpen table word s o
    pub left : IsLeft c s
    pub agrees : AgreesWithValue o c.word

-- it takes effect
abbrev pub effect : Config → ℕ → Open → Config
effect c s o = record { word = new_word o.call.operation.op c.word; taken = with_bit c.taken s }

-- the answered operation's slot is free again
abbrev pub release : Config → ℕ → Config
release c s = record { word = c.word; taken = without_bit c.taken s }

-- an element of a list
abbrev pub IsIn : {A : Type 0} → List A → A → Type 0
IsIn xs x = (k : ℕ) × (slice_get xs k ≡ Some x)

-- a list goes on with more
abbrev pub GoesOn : {A : Type 0} → List A → List A → Type 0
GoesOn {A} old new = (more : List A) × (new ≡ old ++ more)

-- an idle operation: wherever it may take effect it leaves the word as it is, as a load does
abbrev pub IsIdle : Open → Type 0
IsIdle o = (word : ℕ) → AgreesWithValue o word → new_word o.call.operation.op word ≡ word

-- Configuration c dominates d: the word is the same; what has taken effect in d has so in c, or is
-- never answered; and what has in c alone is idle. So whatever may still come after d may after c.
pub record IsAsGood (table : List (Option Open)) (word : ℕ) (c d : Config) : Type 0 where
  pub same : c.word ≡ d.word
  pub taken : (s : ℕ) → s < 128 → HasTakenEffect d s
      → HasTakenEffect c s ⊎ ((o : Open) × IsOpen table word s o × (o.promise ≡ None))
  pub more : (s : ℕ) → s < 128 → HasTakenEffect c s
      → HasTakenEffect d s ⊎ ((o : Open) × IsOpen table word s o × IsIdle o)

-- a configuration that is as good is among these
abbrev pub HasAsGood : List (Option Open) → ℕ → List Config → Config → Type 0
HasAsGood table word configs d =
    (c : Config) × IsIn configs c × IsAsGood table word c d

-- whatever may take effect in c, one that is as good as the result is among these
abbrev pub IsExpanded : List (Option Open) → ℕ → List Config → Config → Type 0
IsExpanded table word configs c =
    (s : ℕ) (o : Open) → MayTake table word c s o → HasAsGood table word configs (effect c s o)
