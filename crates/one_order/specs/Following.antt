-- What a follower of a script keeps, and what its calls make of it.
use Rattle.std.specs.Prelude.{◌≡◌, ℕ, ◌+◌, ◌-◌, ◌<◌, ◌==◌, ◌&&◌, ◌||◌, Bool, true, false, List, [], ◌∷◌, ◌++◌, Option}
use Rattle.std.specs.Prelude.{Some, None, is_none, option_map, option_and_then, slice_get, slice_set, if◌then◌else◌}
use Rattle.packet.specs.declared.kinds.Op.{Op}
use Rattle.packet.specs.declared.kinds.Op.TheVariants as op
use Rattle.packet.specs.declared.kinds.Reply.{Reply}
use Rattle.packet.specs.declared.kinds.Operation.{Operation}
use Rattle.script_lines.specs.declared.line.Line.{Line}
use Rattle.script_lines.specs.declared.line.Line.TheVariants as line
use Rattle.script_lines.specs.declared.line.Value.{Value}
use Rattle.script_lines.specs.declared.line.Value.TheVariants.{Number, Last}
use Rattle.script_lines.specs.Lines.{operation_count}
use Rattle.one_order.specs.declared.spin.OpenSpin.{OpenSpin}
use Rattle.one_order.specs.Scripts.{Invocation, reply_number, AreAnswersBefore}

-- what a follower keeps of a script: the lines of which nothing is issued, with no fence in front
-- that holds nothing back; the spin that isn't over; how many operations are issued, and how many
-- of these await an answer; and the reply to the last one, if it is answered
pub record Following : Type 0 where
  pub ahead : List Line
  pub spin : Option OpenSpin
  pub issued : ℕ
  pub waiting : ℕ
  pub last : Option Reply

-- the lines from the first one on that is no fence
abbrev pub past_fences : List Line → List Line
past_fences [] = []
past_fences (line.Fence ∷ lines) = past_fences lines
past_fences (first ∷ lines) = first ∷ lines

-- what an operand stands for where the operation before has this reply
abbrev pub operand_of : Value → Option Reply → Option ℕ
operand_of (Number n) last = Some n
operand_of Last last = option_map reply_number last

-- an operation with what the operand stands for, if that is known
abbrev pub asked : (ℕ → Op) → ℕ → Value → Option Reply → Option Operation
asked kind a v last = option_map (λ x. record { address = a; op = kind x }) (operand_of v last)

-- the operation of a line where the operation before has this reply; a spin's is its first load
abbrev pub operation_asked : Line → Option Reply → Option Operation
operation_asked (line.Load a) last = Some (record { address = a; op = op.Load })
operation_asked (line.Store a v) last = asked op.Store a v last
operation_asked (line.Swap a v) last = asked op.Swap a v last
operation_asked (line.Cas a e n) last =
    option_and_then (λ x. asked (op.Cas x) a n last) (operand_of e last)
operation_asked (line.Add a v) last = asked op.Add a v last
operation_asked (line.And a v) last = asked op.And a v last
operation_asked (line.Or a v) last = asked op.Or a v last
operation_asked (line.Xor a v) last = asked op.Xor a v last
operation_asked (line.Max a v) last = asked op.Max a v last
operation_asked (line.Min a v) last = asked op.Min a v last
operation_asked line.Fence last = None
operation_asked (line.Spin a v m) last = Some (record { address = a; op = op.Load })

-- the operation of the first line
abbrev pub first_operation : List Line → Option Reply → Option Operation
first_operation [] last = None
first_operation (first ∷ lines) last = operation_asked first last

-- the next operation of the first line, or of the spin that isn't over: its next load when the one
-- before is answered
abbrev pub ready_operation : Option OpenSpin → List Line → Option Reply → Option Operation
ready_operation None ahead last = first_operation ahead last
ready_operation (Some s) ahead last = option_map (λ reply. record { address = s.address; op = op.Load }) last

-- the operation that is ready_operation to be issued, if there is one
unfoldable pub next_operation_of : Following → Option Operation
next_operation_of f = ready_operation f.spin f.ahead f.last

-- the spin that the issue of a line's operation opens
abbrev pub opened : Line → Option OpenSpin
opened (line.Spin a v m) = Some (record { address = a; sought = v; left = m - 1 })
opened first = None

-- the spin after an issue
abbrev pub spin_issued : Option OpenSpin → List Line → Option OpenSpin
spin_issued (Some s) ahead = Some (record s { left = s.left - 1 })
spin_issued None [] = None
spin_issued None (first ∷ lines) = opened first

-- the lines ahead after an issue
abbrev pub ahead_issued : Option OpenSpin → List Line → List Line
ahead_issued (Some s) ahead = ahead
ahead_issued None [] = []
ahead_issued None (first ∷ lines) = lines

-- the follower of these lines, at the start
unfoldable pub first_of : List Line → Following
first_of lines = record {
  ahead = past_fences lines;
  spin = None;
  issued = 0;
  waiting = 0;
  last = None;
}

-- the follower after the issue of the operation that is ready_operation
unfoldable pub after_issue : Following → Following
after_issue f = record {
  ahead = ahead_issued f.spin f.ahead;
  spin = spin_issued f.spin f.ahead;
  issued = f.issued + 1;
  waiting = f.waiting + 1;
  last = None;
}

-- a spin is over when its load is answered with the number sought, or no load is left
abbrev pub spin_answered : Option OpenSpin → Reply → Option OpenSpin
spin_answered None reply = None
spin_answered (Some s) reply =
    if (reply_number reply == s.sought) || (s.left == 0) then None else Some s

-- nothing waits for an answer, and no spin wants another load: past every fence that comes next
abbrev pub unfenced : Option OpenSpin → ℕ → List Line → List Line
unfenced spin waiting ahead = if (waiting == 0) && is_none spin then past_fences ahead else ahead

-- the follower after the answer of an operation that is not the last
abbrev pub other_answered : Following → Following
other_answered f = record f
    { ahead = unfenced f.spin (f.waiting - 1) f.ahead; waiting = f.waiting - 1 }

-- the follower after the answer of the last operation
abbrev pub last_answered : Following → Reply → Following
last_answered f reply = record f {
  ahead = unfenced (spin_answered f.spin reply) (f.waiting - 1) f.ahead;
  spin = spin_answered f.spin reply;
  waiting = f.waiting - 1;
  last = Some reply;
}

-- the follower after the answer of the operation of an index
unfoldable pub after_answer : Following → ℕ → Reply → Following
after_answer f index reply =
    if index + 1 == f.issued then last_answered f reply else other_answered f

-- the follower with a line at the end of its lines ahead; where nothing is held back, a fence there
-- comes to nothing
abbrev pub follower_with : Line → Following → Following
follower_with line f = record {
  ahead = unfenced f.spin f.waiting (f.ahead ++ line ∷ []);
  spin = f.spin;
  issued = f.issued;
  waiting = f.waiting;
  last = f.last;
}

-- no line is ahead
abbrev pub is_empty : List Line → Bool
is_empty [] = true
is_empty (first ∷ lines) = false

-- whether the script is finished: no line is ahead, no spin wants another load, and nothing waits
-- for an answer
unfoldable pub is_finished : Following → Bool
is_finished f = is_empty f.ahead && is_none f.spin && (f.waiting == 0)

-- how many loads an open spin may still make
abbrev pub loads_left : Option OpenSpin → ℕ
loads_left None = 0
loads_left (Some s) = s.left

-- an open spin whose last load is answered has another one left
abbrev pub HasLoad : Option OpenSpin → Option Reply → Type 0
HasLoad None last = Unit {0}
HasLoad (Some s) None = Unit {0}
HasLoad (Some s) (Some reply) = 0 < s.left

-- how many operations the script still allows at most
unfoldable pub left_of : Following → ℕ
left_of f = loads_left f.spin + operation_count f.ahead

-- a follower of these lines shows these operations: its calls led there, each operation issued when
-- it was ready_operation and later than every answer before, and each answered at most once, with any reply,
-- at any step (a reachable state and its history)
pub data ShowsPast (lines : List Line) : List Invocation → Following → Type 0 where
  starts : ShowsPast lines [] (first_of lines)
  issues : (past : List Invocation) (f : Following) (o : Operation) (t : ℕ) →
      ShowsPast lines past f → next_operation_of f ≡ Some o → AreAnswersBefore past t →
      ShowsPast lines (past ++ record { operation = o; issue = t; answer = None } ∷ [])
      (after_issue f)
  answers : (past : List Invocation) (f : Following) (i : ℕ) (o : Invocation) (t : ℕ)
      (reply : Reply) →
      ShowsPast lines past f → slice_get past i ≡ Some o → o.answer ≡ None →
      ShowsPast lines (slice_set past i (record o { answer = Some (t, reply) }))
      (after_answer f i reply)
