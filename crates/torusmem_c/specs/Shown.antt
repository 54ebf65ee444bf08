-- What C is told of a machine (this project's own format).
use Rattle.std.specs.Prelude.{◌≡◌, ℕ, List, length, Option, Some, None, nat_lt, option_and_then}
use Rattle.std.specs.Prelude.{slice_get, if◌then◌else◌}
use Rattle.torus.specs.Shape.{tiles_of}
use Rattle.core_laws.specs.Machine.{Core, built_to, shown}
use Rattle.core_laws.specs.Row.{row_of}
use Rattle.torusmem_c.specs.declared.outcome.Outcome.{Outcome}
use Rattle.torusmem_c.specs.declared.outcome.Code.TheVariants as code
use Rattle.torusmem_c.specs.declared.records.AnswerRecord.{AnswerRecord}
use Rattle.torusmem_c.specs.declared.records.EntryRecord.{EntryRecord}
use Rattle.torusmem_c.specs.Outcome.{c_outcome}
use Rattle.machine_asked.specs.Asked.{answer_to}
use Rattle.one_order.specs.declared.answer.Answer.{Answer}
use Rattle.torusmem_c.specs.Records.{answer_or_none, entry_or_none, no_answer}
use Rattle.torusmem_c.specs.Room.{put_over, put_outcome}
use Rattle.torusmem_c.specs.Routes.{next_number}

-- a number, or that there is none such
abbrev pub number_outcome : Option ℕ → Outcome
number_outcome None = c_outcome code.NoSuch 0
number_outcome (Some n) = c_outcome code.Done n

-- how many there are in a list, or that there is none such
abbrev pub count_outcome : {A : Type 0} → Option (List A) → Outcome
count_outcome None = c_outcome code.NoSuch 0
count_outcome (Some list) = c_outcome code.Done (length list)

-- how many tiles and words there are
abbrev pub tiles_told : Core → Outcome
tiles_told c = c_outcome code.Done (tiles_of c.shape)

abbrev pub words_told : Core → Outcome
words_told c = c_outcome code.Done (length c.opening)

-- the word of an address
abbrev pub memory_word_told : ℕ → Core → Outcome
memory_word_told address c = number_outcome (slice_get (shown c).memory address)

-- the word at a place of the row
abbrev pub row_told : ℕ → Core → Outcome
row_told at c = number_outcome (slice_get (row_of (built_to c) c.state) at)

-- the words of the whole row, put into a buffer, and nothing of the machine changes
pub record PutsRow (before after : List ℕ) (old new : Core) (r : Outcome) : Type 0 where
  pub same : new ≡ old
  pub buffer : after ≡ put_over (row_of (built_to old) old.state) before
  pub answer : r ≡ put_outcome (row_of (built_to old) old.state) before

-- how many answers a processor has, and answer i of them
abbrev pub answers_told : ℕ → Core → Outcome
answers_told processor c = count_outcome (slice_get (shown c).answers processor)

abbrev pub answer_told : ℕ → ℕ → Core → AnswerRecord
answer_told processor i c =
    answer_or_none (option_and_then (λ answers. slice_get answers i)
    (slice_get (shown c).answers processor))

-- the answer of a processor to its operation of this index; or that it isn't answered yet, of one
-- that its script can make; or that there is none such
abbrev pub answer_or_wait : ℕ → Option ℕ → Option Answer → AnswerRecord
answer_or_wait index most (Some answer) = answer_or_none (Some answer)
answer_or_wait index None None = no_answer code.NoSuch
answer_or_wait index (Some most) None =
    if nat_lt index most then no_answer code.NotYet else no_answer code.NoSuch

abbrev pub answer_of_told : ℕ → ℕ → Core → AnswerRecord
answer_of_told processor index c =
    answer_or_wait index (slice_get c.allowed processor) (answer_to c processor index)

-- how many entries a bank has, and entry i of them
abbrev pub entries_told : ℕ → Core → Outcome
entries_told bank c = count_outcome (slice_get (shown c).entries bank)

abbrev pub entry_told : ℕ → ℕ → Core → EntryRecord
entry_told bank i c =
    entry_or_none (option_and_then (λ entries. slice_get entries i)
    (slice_get (shown c).entries bank))

-- the number of the output by which a packet goes on
abbrev pub next_told : ℕ → ℕ → ℕ → Core → Outcome
next_told at input dst c = number_outcome (next_number c.shape at input dst)
