-- What the command that judges a network prints (this project's own format).
use Rattle.std.specs.Prelude.{◌≡◌, List, ◌∷◌, ℕ, Bool, true, false, Result, Ok, Err}
use Rattle.network_answer.specs.declared.answer.Answer.{Answer}
use Rattle.network_answer.specs.declared.causes.Cause.{Cause}
use Rattle.network_answer.specs.declared.causes.Cause.TheVariants.{Chooses}
use Rattle.network_names.specs.Named.{named_verdict}
use Rattle.network_text.specs.Network.{network_of}
use Rattle.network_text.specs.Routing.{Routing, routing_of}
use Rattle.network_answer.specs.Routing.{TellsRouting}
use Rattle.program_fault.specs.declared.fault.ProgramFault.{ProgramFault}
use Rattle.program_fault.specs.declared.fault.ProgramFault.TheVariants as program
use Rattle.program_fault.specs.Done.{Does, Output}
use Rattle.torus.specs.declared.fault.Fault.TheVariants as fault

-- a text is that of an answer, what is judged of the network that the lines of a text give, of fixed
-- routes or of routers that choose, and why it is so
pub record IsAnsweredText {A : Type 0} (lines : List (List ℕ)) (answer : Answer A) (text : List ℕ)
    : Type 0 where
  pub network : Routing
  pub read : routing_of lines ≡ Ok network
  pub tells : TellsRouting network answer
  pub is : text ≡ answer.text.items

-- whether routers choose, by why a verdict is so
abbrev pub is_chosen : List Cause → Bool
is_chosen (Chooses ∷ causes) = true
is_chosen _ = false

-- the text of an answer, with what a text of these lines calls channels, of which all have numbers
-- below 2 ^ 16, and so have routers
abbrev pub named_text : {A : Type 0} → List (List ℕ) → Answer A → List ℕ
named_text lines answer =
    named_verdict 65536 lines answer.kinds.items (is_chosen answer.causes.items) answer.text.items

-- a text is that of an answer, what is judged of the network that the lines of a text give, and behind
-- each number of a channel stands what they call it
pub record IsNamedText {A : Type 0} (lines : List (List ℕ)) (answer : Answer A) (text : List ℕ)
    : Type 0 where
  pub network : Routing
  pub read : routing_of lines ≡ Ok network
  pub tells : TellsRouting network answer
  pub is : text ≡ named_text lines answer

-- a text is what is judged of the network that the lines of a text give, of fixed routes or of
-- routers that choose; and whether its numbers rise
pub record IsNetworkText (A : Type 0) (lines : List (List ℕ)) (rising : Bool) (text : List ℕ) : Type
    0 where
  pub network : Routing
  pub read : routing_of lines ≡ Ok network
  pub answer : Answer A
  pub tells : TellsRouting network answer
  pub is : text ≡ answer.text.items
  pub rises : rising ≡ answer.rising

-- the network text has this as its first fault
abbrev pub IsRoutingFault : List (List ℕ) → ProgramFault → Type 0
IsRoutingFault lines (program.Line found) = routing_of lines ≡ Err found
IsRoutingFault lines _ = ⊥

-- the network text, which must be one of fixed routes, has this as its first fault
abbrev pub IsNetworkFault : List (List ℕ) → ProgramFault → Type 0
IsNetworkFault lines (program.Line found) = network_of lines ≡ Err found
IsNetworkFault lines _ = ⊥

-- the network of a text of these lines, of fixed routes or of routers that choose, was judged; or the
-- text has a fault, or memory was refused
abbrev pub AnswersRead : {A : Type 0} → List (List ℕ) → Result (Answer A) ProgramFault → Type 0
AnswersRead lines (Ok answer) =
    (n : Routing) × (routing_of lines ≡ Ok n) × TellsRouting n answer
AnswersRead lines (Err (program.Fault which)) = which ≡ fault.Memory
AnswersRead lines (Err e) = IsRoutingFault lines e

-- the verdict on a network was printed, with which it is answered why it is so
abbrev pub AnswersNetwork : (A : Type 0) → List (List ℕ) → Output → Output
    → Result (Answer A) ProgramFault → Type 0
AnswersNetwork A lines = Does (IsAnsweredText lines) (IsRoutingFault lines)

-- it was printed with what the text calls channels
abbrev pub AnswersNamed : (A : Type 0) → List (List ℕ) → Output → Output
    → Result (Answer A) ProgramFault → Type 0
AnswersNamed A lines = Does (IsNamedText lines) (IsRoutingFault lines)

-- the verdict on a network was printed
abbrev pub PrintsNetwork : (A : Type 0) → List (List ℕ) → Output → Output → Result Bool ProgramFault
    → Type 0
PrintsNetwork A lines = Does (IsNetworkText A lines) (IsRoutingFault lines)
