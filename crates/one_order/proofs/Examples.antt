-- Worked issues, services and answers, against the definitions.
use Rattle.std.proofs.Common.{◌≡◌, ℕ, List, [], ◌∷◌, refl, arith}
use Rattle.packet.specs.declared.kinds.Op.{Op}
use Rattle.packet.specs.declared.kinds.Op.TheVariants.{Load, Add}
use Rattle.packet.specs.declared.kinds.Operation.{Operation}
use Rattle.packet.specs.declared.kinds.Reply.TheVariants.{Old}
use Rattle.home_bank.specs.declared.entry.Entry.{Entry}
use Rattle.one_order.specs.declared.answer.Answer.{Answer}
use Rattle.one_order.specs.Observed.{Observed}
use Rattle.one_order.specs.Order.{LinearizationPoint}
use Rattle.one_order.specs.Events.{event_entry, MayServe, MayAnswer}

-- two processors and two words; operations are on word 0, whose home is bank 0
abbrev on_word_0 : Op → Operation
on_word_0 op = record { address = 0; op = op }

-- a service of an addition replies the word that it found
reply_is_the_old_word : (event_entry 1 (record { 0 = 0 }) (on_word_0 (Add 2)) (5 ∷ 0 ∷ [])).reply ≡ Old 5
reply_is_the_old_word = refl

-- processor 1 has issued two loads
abbrev two_issued : Observed
two_issued = record {
  issued = [] ∷ (on_word_0 Load ∷ on_word_0 Load ∷ []) ∷ [];
  answers = [] ∷ [] ∷ [];
  entries = [] ∷ [] ∷ [];
  memory = 0 ∷ 0 ∷ [];
}

-- the second isn't served before the first
no_service_overtakes : MayServe 2 4 two_issued [] 1 1 (record { 0 = 1 }) (on_word_0 Load) → ⊥
no_service_overtakes may = let first = may.in_turn 0 (on_word_0 Load) (omega arith) refl refl in cc (first.2)

-- both are served, and none is answered
abbrev entry_under : ℕ → Entry
entry_under tag = event_entry 1 (record { 0 = tag }) (on_word_0 Load) (0 ∷ 0 ∷ [])

abbrev two_served : Observed
two_served = record two_issued { entries = (entry_under 0 ∷ entry_under 1 ∷ []) ∷ [] ∷ [] }

abbrev second_answer : Answer
second_answer = record { index = 1; op = Load; reply = Old 0; bank = 0; place = 1 }

-- the second isn't answered before the first
no_answer_overtakes : (order : List LinearizationPoint) → MayAnswer 2 (0 ∷ 0 ∷ []) two_served order 1 second_answer → ⊥
no_answer_overtakes order may = let first = may.in_turn 0 (entry_under 0) (omega arith) refl refl in cc (first.2)
