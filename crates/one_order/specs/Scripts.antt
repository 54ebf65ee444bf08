-- What a processor's script allows it to issue, said of the operations that it issued, when, and
-- when they were answered.
use Rattle.std.specs.Prelude.{◌≡◌, ℕ, zero, suc, ◌+◌, ◌-◌, ◌<◌, ◌==◌, true, List, [], ◌∷◌, ◌++◌, Option, Some, None}
use Rattle.std.specs.Prelude.{option_map, option_and_then, length, take, slice_get}
use Rattle.std.specs.Bool.{MatchBool}
use Rattle.packet.specs.declared.kinds.Op.{Op}
use Rattle.packet.specs.declared.kinds.Op.TheVariants as op
use Rattle.packet.specs.declared.kinds.Reply.{Reply}
use Rattle.packet.specs.declared.kinds.Reply.TheVariants.{Old, Ok as Stored}
use Rattle.packet.specs.declared.kinds.Operation.{Operation}
use Rattle.script_lines.specs.declared.line.Line.{Line}
use Rattle.script_lines.specs.declared.line.Line.TheVariants as line
use Rattle.script_lines.specs.declared.line.Value.{Value}
use Rattle.script_lines.specs.declared.line.Value.TheVariants.{Number, Last}
use Rattle.script_lines.specs.Lines.{operation_count, mentions_last}

-- an operation that a processor issued: what it asks, the step of its issue, and, if it is
-- answered, the step of that and the reply (Herlihy and Wing, TOPLAS 12(3), 1990: an invocation and
-- its response)
pub record Invocation : Type 0 where
  pub operation : Operation
  pub issue : ℕ
  pub answer : Option (ℕ × Reply)

-- the number that a reply brings; `ok` counts as 0 (this project's own format)
abbrev pub reply_number : Reply → ℕ
reply_number Stored = 0
reply_number (Old w) = w

-- it was answered before step t, with this reply
abbrev pub IsAnsweredBefore : Invocation → ℕ → Reply → Type 0
IsAnsweredBefore o t reply = (a : ℕ) × (o.answer ≡ Some (a, reply)) × (a < t)

-- the last of these was answered before step t, with this reply
abbrev pub IsLastReply : List Invocation → ℕ → Reply → Type 0
IsLastReply past t reply =
    (o : Invocation) × (slice_get past (length past - 1) ≡ Some o) × IsAnsweredBefore o t reply

-- x is what an operand stands for in an operation issued at step t after these: a number, or the
-- number replied to the operation just before (this project's own format)
abbrev pub IsOperand : Value → List Invocation → ℕ → ℕ → Type 0
IsOperand (Number n) past t x = x ≡ n
IsOperand Last past t x = (reply : Reply) × IsLastReply past t reply × (x ≡ reply_number reply)

-- it is an operation of this kind and address, with what the operand stands for
abbrev pub Asks : (ℕ → Op) → ℕ → Value → List Invocation → Invocation → Type 0
Asks kind a v past o = (x : ℕ) × IsOperand v past o.issue x
    × (o.operation ≡ record { address = a; op = kind x })

-- it is the operation of an operation line, issued after these (this project's own format)
abbrev pub IsOf : Line → List Invocation → Invocation → Type 0
IsOf (line.Load a) past o = o.operation ≡ record { address = a; op = op.Load }
IsOf (line.Store a v) past o = Asks op.Store a v past o
IsOf (line.Swap a v) past o = Asks op.Swap a v past o
IsOf (line.Cas a e n) past o =
    (x y : ℕ) × IsOperand e past o.issue x × IsOperand n past o.issue y
    × (o.operation ≡ record { address = a; op = op.Cas x y })
IsOf (line.Add a v) past o = Asks op.Add a v past o
IsOf (line.And a v) past o = Asks op.And a v past o
IsOf (line.Or a v) past o = Asks op.Or a v past o
IsOf (line.Xor a v) past o = Asks op.Xor a v past o
IsOf (line.Max a v) past o = Asks op.Max a v past o
IsOf (line.Min a v) past o = Asks op.Min a v past o
IsOf line.Fence past o = ⊥
IsOf (line.Spin a v m) past o = ⊥

-- what may follow a load of a spin, the last of `past`: nothing yet; or, issued after its answer,
-- what comes after the spin where the answer is the number sought, and the spin again where it is
-- another
abbrev pub AfterLoad : ℕ → (List Invocation → List Invocation → Type 0)
    → (List Invocation → List Invocation → Type 0)
    → List Invocation → List Invocation → Type 0
AfterLoad sought over again past [] = Unit {0}
AfterLoad sought over again past (o ∷ ops) =
    (reply : Reply) × IsLastReply past o.issue reply
    × MatchBool (reply_number reply == sought) (over past (o ∷ ops)) (again past (o ∷ ops))

-- all of these were answered before step t
abbrev pub AreAnsweredBefore : List Invocation → ℕ → Type 0
AreAnsweredBefore past t =
    (i : ℕ) (o : Invocation) → slice_get past i ≡ Some o
    → (reply : Reply) × IsAnsweredBefore o t reply

-- a spin: at most so many loads of the address, one at a time, and then what comes after the spin
-- (this project's own format)
abbrev pub Spins : ℕ → ℕ → ℕ → (List Invocation → List Invocation → Type 0) → List Invocation
    → List Invocation → Type 0
Spins a sought zero over past ops = over past ops
Spins a sought (suc most) over past [] = Unit {0}
Spins a sought (suc most) over past (o ∷ ops) =
    (o.operation ≡ record { address = a; op = op.Load })
    × AfterLoad sought over (Spins a sought most over) (past ++ o ∷ []) ops

-- after the operations `past` the lines allow the operations `ops`, as far as these go: each line's
-- operation in turn; past a fence only when every earlier one is answered (this project's own
-- format)
abbrev pub Allows : List Line → List Invocation → List Invocation → Type 0
Allows [] past [] = Unit {0}
Allows [] past (o ∷ ops) = ⊥
Allows (line.Fence ∷ lines) past [] = Unit {0}
Allows (line.Fence ∷ lines) past (o ∷ ops) =
    AreAnsweredBefore past o.issue × Allows lines past (o ∷ ops)
Allows (line.Spin a v m ∷ lines) past ops = Spins a v m (Allows lines) past ops
Allows (first ∷ lines) past [] = Unit {0}
Allows (first ∷ lines) past (o ∷ ops) = IsOf first past o × Allows lines (past ++ o ∷ []) ops

-- the operations are a beginning of what the script allows (this project's own format)
abbrev pub FollowsScript : List Line → List Invocation → Type 0
FollowsScript lines ops = Allows lines [] ops

-- all of these are answered
abbrev pub AreAnswered : List Invocation → Type 0
AreAnswered ops =
    (i : ℕ) (o : Invocation) → slice_get ops i ≡ Some o
    → (a : ℕ) × (reply : Reply) × (o.answer ≡ Some (a, reply))

-- all is answered, and nothing more is allowed
pub record IsFinished (lines : List Line) (ops : List Invocation) : Type 0 where
  pub answered : AreAnswered ops
  pub complete : (o : Invocation) → FollowsScript lines (ops ++ o ∷ []) → ⊥

-- the operations are all of a script, answered (this project's own format)
pub record HasFinished (lines : List Line) (ops : List Invocation) : Type 0 where
  pub follows : FollowsScript lines ops
  pub finished : IsFinished lines ops

-- whatever of these is answered was answered before step t
abbrev pub AreAnswersBefore : List Invocation → ℕ → Type 0
AreAnswersBefore past t =
    (i : ℕ) (o : Invocation) (a : ℕ) (reply : Reply) → slice_get past i ≡ Some o
    → o.answer ≡ Some (a, reply) → a < t

-- the reply to an operation, if it is answered
abbrev pub reply_of : Invocation → Option Reply
reply_of o = option_map (λ a. a.1) o.answer

-- the reply to the last of these, if it is answered
abbrev pub last_reply : List Invocation → Option Reply
last_reply past = option_and_then reply_of (slice_get past (length past - 1))

-- 1 for what awaits an answer
abbrev pub awaited : Option (ℕ × Reply) → ℕ
awaited None = 1
awaited (Some a) = 0

-- how many of these await an answer
abbrev pub unanswered : List Invocation → ℕ
unanswered [] = 0
unanswered (o ∷ ops) = awaited o.answer + unanswered ops

-- the address of a line; a fence has none
abbrev pub address_of : Line → Option ℕ
address_of (line.Load a) = Some a
address_of (line.Store a v) = Some a
address_of (line.Swap a v) = Some a
address_of (line.Cas a e n) = Some a
address_of (line.Add a v) = Some a
address_of (line.And a v) = Some a
address_of (line.Or a v) = Some a
address_of (line.Xor a v) = Some a
address_of (line.Max a v) = Some a
address_of (line.Min a v) = Some a
address_of line.Fence = None
address_of (line.Spin a v m) = Some a

-- an address that one of the lines names
abbrev pub IsAddressIn : List Line → ℕ → Type 0
IsAddressIn lines a = (k : ℕ) × (first : Line) × (slice_get lines k ≡ Some first)
    × (address_of first ≡ Some a)

-- what a follower asks of lines: each spin makes at least one load, and before a line that names
-- the number replied before there stands an operation. Accepted scripts are such, for any number of
-- words (this project's own format)
pub record IsFollowable (lines : List Line) : Type 0 where
  pub loads : (k a v m : ℕ) → slice_get lines k ≡ Some (line.Spin a v m) → 0 < m
  pub lasts : (k : ℕ) (first : Line) → slice_get lines k ≡ Some first → mentions_last first ≡ true
      → 0 < operation_count (take k lines)
