-- What is said of a trace text, as C sees it (this project's own format).
use Rattle.std.specs.Prelude.{◌≡◌, ◌⊎◌, ◌++◌, ◌∷◌, ℕ, List, [], Option, Some, Ok, Err, codes}
use Rattle.std.specs.Prelude.{decimal, length}
use Rattle.torus.specs.declared.fault.Fault.TheVariants as fault
use Rattle.lexer.specs.declared.fault.LineFault.{LineFault}
use Rattle.trace_laws.specs.declared.event.Call.{Call}
use Rattle.trace_text.specs.declared.issued.Issued.{Issued}
use Rattle.trace_text.specs.declared.linearize.Finding.{Finding}
use Rattle.trace_text.specs.declared.linearize.Finding.TheVariants.{Linearizable, No, NoBy}
use Rattle.trace_text.specs.declared.linearize.Unfound.{Unfound}
use Rattle.trace_text.specs.declared.linearize.Unfound.TheVariants.{Memory, Configurations}
use Rattle.trace_text.specs.declared.linearize.Unfound.TheVariants.{Operations}
use Rattle.trace_text.specs.Findings.{IsUnfound, TellsFinding}
use Rattle.trace_text.specs.Traced.{TraceSpec, trace_of}
use Rattle.trace_answer.specs.Texts.{bad_by_text, order_text, undecided_text}
use Rattle.torusmem_c.specs.declared.trace_answers.SaidRecord.{SaidRecord}
use Rattle.torusmem_c.specs.declared.trace_answers.TraceSaid.{TraceSaid}
use Rattle.torusmem_c.specs.declared.outcome.Code.{Code}
use Rattle.torusmem_c.specs.declared.outcome.Code.TheVariants as code
use Rattle.torusmem_c.specs.declared.outcome.Outcome.{Outcome}
use Rattle.torusmem_c.specs.Outcome.{c_code, fault_outcome}
use Rattle.torusmem_c.specs.Room.{put_code, put_over}

-- a text begins with a line
pub record BeginsWithLine (line text : List ℕ) : Type 0 where
  pub rest : List ℕ
  pub is : text ≡ (line ++ 10 ∷ []) ++ rest

-- a code is told of a line, and the text begins with this one: sentences on the reason are behind it
pub record SaysFirst (c : Code) (line : ℕ) (first : List ℕ) (s : TraceSaid) : Type 0 where
  pub told : s.code ≡ c
  pub named : s.line ≡ line
  pub text : BeginsWithLine first s.text.items

-- there is a first line, and a code is told of a line with a text that begins with it
abbrev pub SaysSome : Code → ℕ → Option (List ℕ) → TraceSaid → Type 0
SaysSome c line words s = (first : List ℕ) × (words ≡ Some first) × SaysFirst c line first s

-- an order that explains a trace is told by its text, at no line
pub record SaysOrder (issued : List Issued) (order : List Call) (s : TraceSaid) : Type 0 where
  pub told : s.code ≡ code.Done
  pub named : s.line ≡ 0
  pub text : s.text.items ≡ order_text issued order

-- what is said of a trace that is found so: its order, or from which line on there is none, and why
abbrev pub SaysFinding : {A : Type 0} → List Issued → ℕ → Finding A → TraceSaid → Type 0
SaysFinding issued bound (Linearizable order) s = SaysOrder issued order.items s
SaysFinding issued bound (No line) s =
    SaysFirst code.NotLinearizable line (codes "not linearizable at line" ++ 32 ∷ decimal line) s
SaysFinding issued bound (NoBy line why) s =
    SaysSome code.NotLinearizable line (bad_by_text line why bound) s

-- a code is told of a line, and why a trace is not judged
pub record SaysUndecided (why : Unfound) (c : Code) (line bound : ℕ) (s : TraceSaid) : Type 0 where
  pub told : s.code ≡ c
  pub named : s.line ≡ line
  pub first : List ℕ
  pub words : undecided_text why bound ≡ Some first
  pub text : s.text.items ≡ first ++ 10 ∷ []

-- what is said of a trace that is not judged, by the reason
abbrev pub SaysWhy : Unfound → ℕ → TraceSaid → Type 0
SaysWhy Memory bound s = ⊥
SaysWhy (Configurations line) bound s = SaysUndecided (Configurations line) code.TooMany line bound s
SaysWhy (Operations line) bound s = SaysUndecided (Operations line) code.TooOpen line bound s

-- what is said of a trace: what is found of it, or why nothing is
abbrev pub SaysTrace : Type 0 → TraceSpec → ℕ → TraceSaid → Type 0
SaysTrace A t bound s =
    ((found : Finding A) × TellsFinding t bound found × SaysFinding t.issued bound found s)
    ⊎ ((why : Unfound) × IsUnfound t bound why × SaysWhy why bound s)

-- what is said of a text of these lines, with at most so many configurations of a word at once
pub record IsSaidOf (A : Type 0) (text : List (List ℕ)) (bound : ℕ) (s : TraceSaid) : Type 0 where
  pub trace : TraceSpec
  pub read : trace_of text ≡ Ok trace
  pub said : SaysTrace A trace bound s

-- why nothing is said of a text: its first fault, or memory was refused
abbrev pub IsUnsaid : List (List ℕ) → LineFault → Type 0
IsUnsaid text found =
    (trace_of text ≡ Err found) ⊎ (found ≡ record { fault = fault.Memory; line = 0 })

-- what C sees of it: what became of the text, and how long that is
abbrev pub said_record : Code → ℕ → ℕ → SaidRecord
said_record c line length = record { code = c_code c; line = line; length = length }

-- what C sees where nothing is said
abbrev pub unsaid_record : Outcome → SaidRecord
unsaid_record o = record { code = o.code; line = o.value; length = 0 }

-- what is said of a text of these lines is put into a buffer
pub record PutsSaid (A : Type 0) (text : List (List ℕ)) (bound : ℕ) (before after : List ℕ)
    (r : SaidRecord) : Type 0
  where
    pub said : TraceSaid
    pub is : IsSaidOf A text bound said
    pub buffer : after ≡ put_over said.text.items before
    pub answer : r ≡ said_record (put_code said.code said.text.items before) said.line
        (length said.text.items)

-- or why nothing is
pub record RefusesTrace (text : List (List ℕ)) (before after : List ℕ) (r : SaidRecord) : Type 0
  where
    pub found : LineFault
    pub is : IsUnsaid text found
    pub buffer : after ≡ before
    pub answer : r ≡ unsaid_record (fault_outcome found)
