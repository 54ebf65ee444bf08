-- Configurations that name the open operations which took effect.
use Rattle.std.specs.Prelude.{◌≡◌, ◌↔◌, ℕ, List, [], ◌∷◌, ◌++◌}
use Rattle.packet.specs.declared.kinds.Reply.{Reply}
use Rattle.packet.specs.Memory.{new_word, reply_to}
use Rattle.trace_laws.specs.declared.event.Call.{Call}
use Rattle.trace_laws.specs.Configs.{IsIn}
use Rattle.trace_watch.specs.declared.state.Effect.{Effect}
use Rattle.trace_watch.specs.States.{Config}

-- the operation of this number took effect, and replied so
pub record NamedEffect : Type 0 where
  pub id : ℕ
  pub reply : Reply

-- a word, and which of the open operations have taken effect (Lowe, Testing for linearizability,
-- Concurrency and Computation 29(4), 2017: a configuration)
pub record NamedConfig : Type 0 where
  pub word : ℕ
  pub effects : List NamedEffect

-- effects with the numbers of the operations at their places
abbrev pub named : List Effect → List Call → List NamedEffect
named [] calls = []
named (e ∷ es) [] = []
named (e ∷ es) (call ∷ calls) = record { id = call.id; reply = e.reply } ∷ named es calls

-- a configuration whose effects are of these operations
abbrev pub named_config : Config → List Call → NamedConfig
named_config c calls = record { word = c.word; effects = named c.effects calls }

-- an operation of this number has taken effect
abbrev pub HasEffect : NamedConfig → ℕ → Type 0
HasEffect c id = (e : NamedEffect) × IsIn c.effects e × (e.id ≡ id)

-- two configurations say the same: of the word, and of what has taken effect
pub record IsLike (c d : NamedConfig) : Type 0 where
  pub word : c.word ≡ d.word
  pub effects : (e : NamedEffect) → IsIn c.effects e ↔ IsIn d.effects e

-- an operation takes effect by its name
abbrev pub named_after : NamedConfig → Call → NamedConfig
named_after c call = record {
  word = new_word call.operation.op c.word;
  effects = c.effects
      ++ record { id = call.id; reply = reply_to call.operation.op c.word } ∷ [];
}

-- the second says the same as the first, but for the operation of this number
pub record IsWithoutCall (id : ℕ) (c d : NamedConfig) : Type 0 where
  pub word : d.word ≡ c.word
  pub effects : (e : NamedEffect) → IsIn d.effects e ↔ (IsIn c.effects e × (e.id ≡ id → ⊥))
