-- The replies of a log are those of the machines that explain its trace.
use Rattle.std.proofs.Common.{◌≡◌, inl, inr, ℕ, ◌-◌, ◌<◌, ◌≤◌, true, Bool, List, length, refl, sym, ◌∙◌, ap, arith}
use Rattle.std.specs.Prelude.{slice_index}
use Rattle.packet.specs.declared.kinds.Op.{Op}
use Rattle.packet.specs.declared.kinds.Op.TheVariants as op
use Rattle.packet.specs.declared.kinds.Reply.{Reply}
use Rattle.packet.specs.declared.kinds.Reply.TheVariants.{Old}
use Rattle.packet.specs.Memory.{new_word, reply_to}
use Rattle.memory_models.specs.Machines.{IsBuffered, IsBufferRun, IsSequential, effect_at}
use Rattle.memory_models.specs.Trace.{is_load, is_write, operation_at, source_at, IsMemoryTrace}
use Rattle.memory_models.specs.Values.{AreInTurns, FindsWrite, word_in_turn}
use Rattle.memory_models.specs.WordBuffers.{IsWordBufferRun}
use Rattle.memory_models.proofs.Buffers.{OnWordOrFence, partial_run, run_is_order, total_run, word_run_is_order}
use Rattle.memory_models.proofs.InTurns.{list_in_turns}
use Rattle.memory_models.proofs.Replayed.{sequential_finds, buffers_find}
use Rattle.memory_models.proofs.RunBy.{IsRunBy}
use Rattle.memory_models.proofs.Runs.{both_on}
use Rattle.model_text.specs.Kinds.{kind_of_op}
use Rattle.model_text.specs.Made.{LogLines}
use Rattle.model_text.specs.OneMemory.{AreRepliesInTurn, AreRepliesOfBuffers, IsToldAtLine, word_made}
use Rattle.model_text.specs.Traces.{AreOpened, kind_of_step, logged_at, numbers_of_log, opening_step, opening_operation, operation_of_log, operations_of_log, steps_of_log}
use Rattle.model_text.specs.Values.{AreDueReplies, op_logged, op_of_step, word_met}
use Rattle.model_text.proofs.Valued.{IsAt, opens, goes, at_place, two_parts, valued}

-- what an operation of a log is: a load, or a write
data IsOne (k : Bool) (l : Bool) : Type 0 where
  loads : l ≡ true → IsOne k l
  writes_one : k ≡ true → IsOne k l

one_of : (o : Op) → IsOne (is_write (kind_of_op o)) (is_load (kind_of_op o))
one_of op.Load = loads refl
one_of (op.Store v) = writes_one refl
one_of (op.Swap v) = writes_one refl
one_of (op.Cas a n) = writes_one refl
one_of (op.Add v) = writes_one refl
one_of (op.And v) = writes_one refl
one_of (op.Or v) = writes_one refl
one_of (op.Xor v) = writes_one refl
one_of (op.Max v) = writes_one refl
one_of (op.Min v) = writes_one refl

-- an operation finds what a write left, or replies the same whatever it finds
data Replies (log : LogLines) (writes : List ℕ) (x : ℕ) : Type 0 where
  finds : FindsWrite (operations_of_log log) writes x → Replies log writes x
  blind : ((v w : ℕ) → reply_to (op_logged (steps_of_log log) x) v ≡ reply_to (op_logged (steps_of_log log) x) w) → Replies log writes x

same_kind : (log : LogLines) (x : ℕ) → x < length (operations_of_log log)
    → (operation_at (operations_of_log log) x).kind ≡ kind_of_step (logged_at (steps_of_log log) x).operation
same_kind log x low = elim (at_place log x low) [
  | opens less v store same ↦ same
  | goes more same ↦ same
]

replies : (log : LogLines) (words : ℕ) (writes : List ℕ) → IsMemoryTrace words (operations_of_log log) writes
    → AreOpened (length log.addresses) (operations_of_log log) writes → (x : ℕ) (reply : Reply) → x < length (operations_of_log log)
    → IsToldAtLine (steps_of_log log) x reply → Replies log writes x
replies log words writes t opened x reply low told =
    let kind : (operation_at (operations_of_log log) x).kind ≡ kind_of_op told.operation.op = same_kind log x low ∙ ap kind_of_step told.asked in
    elim (one_of told.operation.op) [
      | loads load ↦ finds (inl (ap is_load kind ∙ load))
      | writes_one write ↦ by_write (ap is_write kind ∙ write) (at_place log x low)
    ]
  where
    by_write : is_write (operation_at (operations_of_log log) x).kind ≡ true
        → IsAt (length log.addresses) x (operation_at (operations_of_log log) x) (logged_at (steps_of_log log) x) → Replies log writes x
    by_write write (opens less v store same) = blind (λ a b. ap (λ o. reply_to o a) store ∙ sym (ap (λ o. reply_to o b) store))
    by_write write (goes more same) =
        let place : ℕ = (operation_at (operations_of_log log) x).place in
        let inside = t.place x low (both_on (operations_of_log log) x x write write refl).first in
        let at : slice_index writes place ≡ x = t.written x low write in
        let spot = opened place inside in
        let above : length log.addresses ≤ slice_index writes place = omega (arith, more, at) in
        let some : 0 < place = spot.behind above in
        finds (inr (
          place - 1,
          record {
            write = write;
            next = omega (arith, some);
            word = spot.word above (place - 1) (omega (arith, some)) ∙ ap (λ z. (operation_at (operations_of_log log) z).word) at;
          },
        ))

due : (log : LogLines) (writes : List ℕ) → AreDueReplies (steps_of_log log) (operations_of_log log) writes → (x : ℕ) (reply : Reply)
    → x < length (steps_of_log log) → IsToldAtLine (steps_of_log log) x reply
    → reply ≡ reply_to (op_logged (steps_of_log log) x) (word_met (steps_of_log log) (operations_of_log log) writes x)
due log writes all x reply low told = told.is ∙ all x told.told low told.replied

same_length : (log : LogLines) → length (steps_of_log log) ≡ length (operations_of_log log)
same_length log =
    two_parts (opening_step log) (logged_at log.made) (length log.addresses) (numbers_of_log log)
    ∙ sym (two_parts (opening_operation log) (operation_of_log log) (length log.addresses) (numbers_of_log log))

-- the reply to what an operation finds in its turn
reply_there : (log : LogLines) (words : ℕ) (writes : List ℕ) → IsMemoryTrace words (operations_of_log log) writes
    → AreOpened (length log.addresses) (operations_of_log log) writes → AreDueReplies (steps_of_log log) (operations_of_log log) writes
    → (x : ℕ) (reply : Reply) (word : ℕ) → x < length (operations_of_log log) → IsToldAtLine (steps_of_log log) x reply
    → (FindsWrite (operations_of_log log) writes x → word ≡ word_met (steps_of_log log) (operations_of_log log) writes x)
    → reply ≡ reply_to (op_logged (steps_of_log log) x) word
reply_there log words writes t opened all x reply word low told there =
    due log writes all x reply (let long = same_length log in omega (arith, low, long)) told
    ∙ elim (replies log words writes t opened x reply low told) [
      | finds f ↦ ap (reply_to (op_logged (steps_of_log log) x)) (sym (there f))
      | blind b ↦ b (word_met (steps_of_log log) (operations_of_log log) writes x) word
    ]

pub one_memory : (log : LogLines) (words : ℕ) (writes : List ℕ) → IsMemoryTrace words (operations_of_log log) writes
    → AreOpened (length log.addresses) (operations_of_log log) writes → AreDueReplies (steps_of_log log) (operations_of_log log) writes
    → (turn : ℕ → ℕ) → IsSequential (operations_of_log log) writes turn → (order : List ℕ) → AreInTurns (operations_of_log log) turn order
    → AreRepliesInTurn (steps_of_log log) (operations_of_log log) order
one_memory log words writes t opened all turn q order turns = record {
  each = λ opening k reply low told. reply_there log words writes t opened all (slice_index order k) reply
      (word_in_turn (operations_of_log log) (word_made (steps_of_log log)) opening order k) (turns.low k low) told
      (λ f. sequential_finds words (operations_of_log log) writes turn order (word_made (steps_of_log log))
      (word_met (steps_of_log log) (operations_of_log log) writes) opening t q turns (valued log words writes t opened) k low f);
}

stored : (o : Op) (v w : ℕ) → o ≡ op.Store v → new_word o w ≡ v
stored o v w e = ap (λ p. new_word p w) e

load_replies : (o : Op) (w : ℕ) → is_load (kind_of_op o) ≡ true → reply_to o w ≡ Old w
load_replies op.Load w h = refl
load_replies (op.Store v) w h = cc
load_replies (op.Swap v) w h = cc
load_replies (op.Cas e n) w h = cc
load_replies (op.Add v) w h = cc
load_replies (op.And v) w h = cc
load_replies (op.Or v) w h = cc
load_replies (op.Xor v) w h = cc
load_replies (op.Max v) w h = cc
load_replies (op.Min v) w h = cc

pub of_buffers : (Keeps : ℕ → ℕ → Type 0) (log : LogLines) (words : ℕ) (writes : List ℕ) → IsMemoryTrace words (operations_of_log log) writes
    → AreOpened (length log.addresses) (operations_of_log log) writes → AreDueReplies (steps_of_log log) (operations_of_log log) writes
    → (made left : ℕ → ℕ) → IsRunBy Keeps (operations_of_log log) writes made left
    → (order : List ℕ) → AreInTurns (operations_of_log log) (effect_at (operations_of_log log) made left) order
    → AreRepliesOfBuffers (steps_of_log log) (operations_of_log log) made left
of_buffers Keeps log words writes t opened all made left run order turns = record {
  order = order;
  turns = turns;
  buffered = buffered;
  memory = λ opening k reply low none told. reply_there log words writes t opened all (slice_index order k) reply
      (word_in_turn (operations_of_log log) (word_made (steps_of_log log)) opening order k) (turns.low k low) told
      (λ f. buffers_find Keeps words (operations_of_log log) writes made left order (word_made (steps_of_log log))
      (word_met (steps_of_log log) (operations_of_log log) writes) opening t run turns (valued log words writes t opened) k low f none);
}
  where
    buffered : (x s v : ℕ) (reply : Reply) → x < length (operations_of_log log)
        → is_load (operation_at (operations_of_log log) x).kind ≡ true → IsBuffered (operations_of_log log) made left s x
        → op_logged (steps_of_log log) s ≡ op.Store v → IsToldAtLine (steps_of_log log) x reply → reply ≡ Old v
    buffered x s v reply low load is store told =
        let kind : (operation_at (operations_of_log log) x).kind ≡ kind_of_op told.operation.op = same_kind log x low ∙ ap kind_of_step told.asked in
        let source : source_at (operations_of_log log) writes x ≡ s = run.forwarded x s low load is in
        let found = (valued log words writes t opened).reads x low load in
        let word : word_met (steps_of_log log) (operations_of_log log) writes x ≡ v =
        found ∙ (ap (λ z. word_made (steps_of_log log) z (word_met (steps_of_log log) (operations_of_log log) writes z)) source
        ∙ stored (op_logged (steps_of_log log) s) v (word_met (steps_of_log log) (operations_of_log log) writes s) store) in
        let asked : op_logged (steps_of_log log) x ≡ told.operation.op = ap op_of_step told.asked in
        due log writes all x reply (let long = same_length log in omega (arith, low, long)) told
        ∙ (ap (λ o. reply_to o (word_met (steps_of_log log) (operations_of_log log) writes x)) asked
        ∙ (load_replies told.operation.op (word_met (steps_of_log log) (operations_of_log log) writes x) (ap is_load (sym kind) ∙ load)
        ∙ ap Old word))

pub by_buffers : (log : LogLines) (words : ℕ) (writes : List ℕ) → IsMemoryTrace words (operations_of_log log) writes
    → AreOpened (length log.addresses) (operations_of_log log) writes → AreDueReplies (steps_of_log log) (operations_of_log log) writes
    → (made left : ℕ → ℕ) → IsBufferRun (operations_of_log log) writes made left
    → AreRepliesOfBuffers (steps_of_log log) (operations_of_log log) made left
by_buffers log words writes t opened all made left run =
    let is = run_is_order words (operations_of_log log) writes made left t run in
    let listed = list_in_turns (operations_of_log log) (effect_at (operations_of_log log) made left) is.apart in
    of_buffers (λ x y. Unit {0}) log words writes t opened all made left (total_run (operations_of_log log) writes made left run) listed.0 listed.1

pub by_word_buffers : (log : LogLines) (words : ℕ) (writes : List ℕ) → IsMemoryTrace words (operations_of_log log) writes
    → AreOpened (length log.addresses) (operations_of_log log) writes → AreDueReplies (steps_of_log log) (operations_of_log log) writes
    → (made left : ℕ → ℕ) → IsWordBufferRun (operations_of_log log) writes made left
    → AreRepliesOfBuffers (steps_of_log log) (operations_of_log log) made left
by_word_buffers log words writes t opened all made left run =
    let is = word_run_is_order words (operations_of_log log) writes made left t run in
    let listed = list_in_turns (operations_of_log log) (effect_at (operations_of_log log) made left) is.apart in
    of_buffers (OnWordOrFence (operations_of_log log)) log words writes t opened all made left
    (partial_run (operations_of_log log) writes made left run) listed.0 listed.1
