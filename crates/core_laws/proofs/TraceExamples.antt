-- Worked events of a run, and what its trace tells of them.
use Rattle.std.proofs.Common.{◌≡◌, [], ◌∷◌, refl}
use Rattle.packet.specs.declared.kinds.Op.TheVariants.{Load}
use Rattle.packet.specs.declared.kinds.Operation.{Operation}
use Rattle.packet.specs.declared.kinds.Reply.TheVariants.{Old}
use Rattle.one_order.specs.declared.answer.Answer.{Answer}
use Rattle.one_order.specs.Events.{Issued, Answered}
use Rattle.trace_laws.specs.declared.event.Event.TheVariants as event
use Rattle.core_laws.specs.TraceOfRun.{told_in_trace}

abbrev load : Operation
load = record { address = 0; op = Load }

-- an issue by processor 3 at step 12 has the number 12
issue_has_its_step : told_in_trace ([] ∷ []) 12 (Issued 3 load)
    ≡ event.Issue (record { id = 12; operation = load }) ∷ []
issue_has_its_step = refl

-- processor 0 has issued operations at the steps 4 and 9: the answer to the second one names 9
abbrev second_answer : Answer
second_answer = record { index = 1; op = Load; reply = Old 5; bank = 0; place = 1 }

answer_names_its_issue : told_in_trace ((4 ∷ 9 ∷ []) ∷ []) 20 (Answered 0 second_answer)
    ≡ event.Answer 9 (Old 5) ∷ []
answer_names_its_issue = refl
