-- The replies of a log as those of one memory, and of machines with buffers of stores.
use Rattle.std.specs.Prelude.{◌≡◌, ℕ, ◌<◌, true, List, length, Some, slice_index}
use Rattle.packet.specs.declared.kinds.Op.TheVariants.{Store}
use Rattle.packet.specs.declared.kinds.Operation.{Operation as Asked}
use Rattle.packet.specs.declared.kinds.Reply.{Reply}
use Rattle.packet.specs.declared.kinds.Reply.TheVariants.{Old}
use Rattle.packet.specs.Memory.{new_word, reply_to}
use Rattle.memory_models.specs.declared.kinds.Operation.{Operation}
use Rattle.memory_models.specs.Machines.{IsBuffered, effect_at}
use Rattle.memory_models.specs.Trace.{is_load, operation_at}
use Rattle.memory_models.specs.Values.{AreInTurns, word_in_turn}
use Rattle.model_text.specs.declared.logged.Logged.{Logged}
use Rattle.model_text.specs.declared.logged.Told.{Told}
use Rattle.model_text.specs.Traces.{logged_at}
use Rattle.model_text.specs.Values.{op_logged}

-- what an operation of a log makes of the word that it finds
abbrev pub word_made : List Logged → ℕ → ℕ → ℕ
word_made steps x w = new_word (op_logged steps x) w

-- an operation of a log has a reply; a fence has none
pub record IsToldAtLine (steps : List Logged) (x : ℕ) (reply : Reply) : Type 0 where
  pub operation : Asked
  pub told : Told
  pub asked : (logged_at steps x).operation ≡ Some operation
  pub replied : (logged_at steps x).told ≡ Some told
  pub is : reply ≡ told.reply

-- the reply of one memory to an operation in its turn, after those before it in the order
abbrev pub reply_in_turn : List Logged → List Operation → (ℕ → ℕ) → List ℕ → ℕ → Reply
reply_in_turn steps ops opening order k = reply_to (op_logged steps (slice_index order k))
    (word_in_turn ops (word_made steps) opening order k)

-- each reply of a log is that of one memory, whatever it held before the first operation
pub record AreRepliesInTurn (steps : List Logged) (ops : List Operation) (order : List ℕ) :
    Type 0
  where
    pub each : (opening : ℕ → ℕ) (k : ℕ) (reply : Reply) → k < length order
        → IsToldAtLine steps (slice_index order k) reply
        → reply ≡ reply_in_turn steps ops opening order k

-- each reply of a log is that of a machine with buffers of stores: of a load that finds its word in
-- a buffer the last store's value there, and else that of the memory when it takes effect
pub record AreRepliesOfBuffers (steps : List Logged) (ops : List Operation) (made left : ℕ → ℕ) :
    Type 0
  where
    pub order : List ℕ
    pub turns : AreInTurns ops (effect_at ops made left) order
    pub buffered : (x s v : ℕ) (reply : Reply) → x < length ops
        → is_load (operation_at ops x).kind ≡ true → IsBuffered ops made left s x
        → op_logged steps s ≡ Store v → IsToldAtLine steps x reply → reply ≡ Old v
    pub memory : (opening : ℕ → ℕ) (k : ℕ) (reply : Reply) → k < length order
        → ((s : ℕ) → is_load (operation_at ops (slice_index order k)).kind ≡ true
        → IsBuffered ops made left s (slice_index order k) → ⊥)
        → IsToldAtLine steps (slice_index order k) reply
        → reply ≡ reply_in_turn steps ops opening order k
