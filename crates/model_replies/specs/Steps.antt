-- The operations of a log, with the words that they left and found by their replies. No order of
-- writes is known, so no operation has a place.
use Rattle.std.specs.Prelude.{◌≡◌, ℕ, ◌+◌, ◌<◌, nat_le, List, ◌++◌, length, map, Option, Some, None}
use Rattle.std.specs.List.{range_with_len}
use Rattle.packet.specs.declared.kinds.Reply.{Reply}
use Rattle.packet.specs.declared.kinds.Reply.TheVariants.{Old, Ok as Stored}
use Rattle.packet.specs.Memory.{new_word}
use Rattle.memory_models.specs.declared.kinds.Operation.{Operation}
use Rattle.model_values.specs.declared.valued.Valued.{Valued}
use Rattle.model_values.specs.Replies.{AreGrouped}
use Rattle.model_text.specs.declared.logged.Logged.{Logged}
use Rattle.model_text.specs.declared.logged.Told.{Told}
use Rattle.model_text.specs.Finals.{is_final}
use Rattle.model_text.specs.Made.{LogLines}
use Rattle.model_text.specs.Traces.{kind_of_step, logged_at, numbers_of_log, opening_step}
use Rattle.model_text.specs.Traces.{steps_of_log}
use Rattle.model_text.specs.Values.{op_of_step}
use Rattle.model_replies.specs.declared.steps.ValuedLog.{ValuedLog}

-- the word of a reply; 0 where it has none
abbrev pub old_word : Reply → ℕ
old_word (Old w) = w
old_word Stored = 0

-- the word that an operation found, by its reply
abbrev pub word_told : Option Told → ℕ
word_told None = 0
word_told (Some told) = old_word told.reply

abbrev pub found_word : Logged → ℕ
found_word step = word_told step.told

-- the word that it left: a store its value, an atomic what it makes of the word that it found
abbrev pub left_word : Logged → ℕ
left_word step = new_word (op_of_step step.operation) (found_word step)

-- an operation of a processor, to a model, without a place
abbrev pub unplaced : ℕ → Logged → Operation
unplaced processor step = record {
  processor = processor;
  kind = kind_of_step step.operation;
  word = step.word;
  place = 0;
}

-- the opening store of a word, by a processor of its own
abbrev pub opening_unplaced : LogLines → ℕ → Operation
opening_unplaced log w = unplaced w (opening_step log w)

-- the operation of a number: the processors of the log have the numbers behind those of the opening
-- stores
abbrev pub made_unplaced : LogLines → ℕ → Operation
made_unplaced log n =
    unplaced (length log.addresses + (logged_at log.made n).processor) (logged_at log.made n)

-- the operations, in the order of `steps_of_log`
abbrev pub unplaced_operations : LogLines → List Operation
unplaced_operations log =
    map (opening_unplaced log) (range_with_len 0 (length log.addresses))
    ++ map (made_unplaced log) (numbers_of_log log)

-- the final words are the steps from a number on
abbrev pub AreFinalsFrom : List Logged → ℕ → Type 0
AreFinalsFrom steps closing = (x : ℕ) → x < length steps
    → is_final (logged_at steps x) ≡ nat_le closing x

-- exactly what the lines of a log say by their replies
pub record TellsValues {A : Type 0} (log : LogLines) (t : ValuedLog A) : Type 0 where
  pub openings : t.openings ≡ length log.addresses
  pub steps : t.steps.items ≡ steps_of_log log
  pub operations : t.operations.items ≡ unplaced_operations log
  pub left : t.left.items ≡ map left_word (steps_of_log log)
  pub found : t.found.items ≡ map found_word (steps_of_log log)
  pub closing : AreFinalsFrom (steps_of_log log) t.closing

-- the trace of which a log tells the words alone: one word more than occur, since fences have one.
-- The operations of each processor stand together, so where no order of the writes gives the words, the
-- replies follow along no order of all operations (`replies_follow` of model_values)
pub record IsValuedOf (log : LogLines) (v : Valued) : Type 0 where
  pub operations : v.operations.now ≡ unplaced_operations log
  pub left : v.left.now ≡ map left_word (steps_of_log log)
  pub found : v.found.now ≡ map found_word (steps_of_log log)
  pub words : v.words ≡ length log.addresses + 1
  pub openings : v.openings ≡ length log.addresses
  pub closing : AreFinalsFrom (steps_of_log log) v.closing
  pub grouped : AreGrouped v
