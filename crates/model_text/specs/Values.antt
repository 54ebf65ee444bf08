-- The words that a log's writes leave, and the replies that are due.
use Rattle.std.specs.Prelude.{◌≡◌, ◌≢◌, ℕ, ◌+◌, ◌<◌, if◌then◌else◌, List, length, fold, take}
use Rattle.std.specs.Prelude.{Option, Some, None}
use Rattle.packet.specs.declared.kinds.Op.{Op}
use Rattle.packet.specs.declared.kinds.Op.TheVariants.{Load}
use Rattle.packet.specs.declared.kinds.Operation.{Operation as Asked}
use Rattle.packet.specs.declared.kinds.Reply.{Reply}
use Rattle.packet.specs.Memory.{new_word, reply_to}
use Rattle.memory_models.specs.declared.kinds.Operation.{Operation}
use Rattle.memory_models.specs.Trace.{is_load, operation_at}
use Rattle.model_text.specs.declared.logged.Logged.{Logged}
use Rattle.model_text.specs.declared.logged.Told.{Told}
use Rattle.model_text.specs.declared.values.WrongReply.{WrongReply}
use Rattle.model_text.specs.Finals.{is_final}
use Rattle.model_text.specs.Traces.{logged_at}

-- what an operation does to its word; a fence leaves it
abbrev pub op_of_step : Option Asked → Op
op_of_step None = Load
op_of_step (Some o) = o.op

abbrev pub op_logged : List Logged → ℕ → Op
op_logged steps x = op_of_step (logged_at steps x).operation

-- the word that the first writes leave, one after the other: each word's opening store begins it
-- anew
abbrev pub word_of_writes : List Logged → List ℕ → ℕ → ℕ
word_of_writes steps writes count =
    fold (λ w x. new_word (op_logged steps x) w) 0 (take count writes)

-- how many writes stand before what an operation finds: a load finds what its source left, and a
-- write what the one before it in its word's order left
abbrev pub writes_before_one : Operation → ℕ
writes_before_one o = o.place + (if is_load o.kind then 1 else 0)

abbrev pub writes_before : List Operation → ℕ → ℕ
writes_before ops x = writes_before_one (operation_at ops x)

-- the word that an operation finds
abbrev pub word_met : List Logged → List Operation → List ℕ → ℕ → ℕ
word_met steps ops writes x = word_of_writes steps writes (writes_before ops x)

-- the reply that is due to an operation
abbrev pub reply_due : List Logged → List Operation → List ℕ → ℕ → Reply
reply_due steps ops writes x = reply_to (op_logged steps x) (word_met steps ops writes x)

-- each reply to the first operations of the trace, so many, is the one that is due
abbrev pub AreDueBefore : List Logged → List Operation → List ℕ → ℕ → Type 0
AreDueBefore steps ops writes count = (x : ℕ) (told : Told) → x < count
    → (logged_at steps x).told ≡ Some told → told.reply ≡ reply_due steps ops writes x

-- each reply of the log is
abbrev pub AreDueReplies : List Logged → List Operation → List ℕ → Type 0
AreDueReplies steps ops writes = AreDueBefore steps ops writes (length steps)

-- the line of the last of the first writes; 0 where there is none, and where it is an opening store
abbrev pub line_left : List Logged → List ℕ → ℕ → ℕ
line_left steps writes count =
    fold (λ l x. (logged_at steps x).line) 0 (take count writes)

-- a reply of the log isn't the one that is due
pub record IsUndueReply (steps : List Logged) (ops : List Operation) (writes : List ℕ)
    (wrong : WrongReply) : Type 0
  where
    pub operation : wrong.operation < length steps
    pub closing : wrong.closing ≡ is_final (logged_at steps wrong.operation)
    pub told : (logged_at steps wrong.operation).told ≡ Some wrong.told
    pub word : wrong.word ≡ word_met steps ops writes wrong.operation
    pub line : wrong.line ≡ line_left steps writes (writes_before ops wrong.operation)
    pub differs : wrong.told.reply ≢ reply_due steps ops writes wrong.operation

-- the first that isn't, by the processors of the trace and by the program of each
pub record IsWrongReply (steps : List Logged) (ops : List Operation) (writes : List ℕ)
    (wrong : WrongReply) : Type 0
  where
    pub undue : IsUndueReply steps ops writes wrong
    pub first : AreDueBefore steps ops writes wrong.operation

-- no reply is wrong, or this is the first that is
abbrev pub AreRepliesOr : List Logged → List Operation → List ℕ → Option WrongReply → Type 0
AreRepliesOr steps ops writes None = AreDueReplies steps ops writes
AreRepliesOr steps ops writes (Some wrong) = IsWrongReply steps ops writes wrong
