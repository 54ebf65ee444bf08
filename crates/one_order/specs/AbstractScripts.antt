-- Scripts followed in a run.
use Rattle.std.specs.Prelude.{◌≡◌, ℕ, ◌<◌, List, Some, None, length, slice_get}
use Rattle.packet.specs.declared.kinds.Reply.{Reply}
use Rattle.script_lines.specs.declared.line.Line.{Line}
use Rattle.one_order.specs.Scripts.{Invocation, FollowsScript, HasFinished}
use Rattle.one_order.specs.declared.answer.Answer.{Answer}
use Rattle.one_order.specs.Observed.{Run, list_at, HasAnswered, IsIssuedAt, IsAnsweredAt}

-- the operations that p issued in the first n steps of a run: what each asks, when it was issued,
-- and when and with what reply it was answered (Herlihy and Wing, TOPLAS 12(3), 1990: a process
-- subhistory)
pub record AreInvocationsOf (run : Run) (n p : ℕ) (ops : List Invocation) : Type 0 where
  pub count : length ops ≡ length (list_at (run n).issued p)
  pub each : (i : ℕ) (o : Invocation) → slice_get ops i ≡ Some o →
      (slice_get (list_at (run n).issued p) i ≡ Some o.operation) × IsIssuedAt run p i o.issue
  pub unanswered : (i : ℕ) (o : Invocation) → slice_get ops i ≡ Some o → o.answer ≡ None
      → HasAnswered (run n) p i → ⊥
  pub answered : (i : ℕ) (o : Invocation) (t : ℕ) (reply : Reply) → slice_get ops i ≡ Some o
      → o.answer ≡ Some (t, reply) →
      IsAnsweredAt run p i t × ((k : ℕ) × (a : Answer)
      × (slice_get (list_at (run n).answers p) k ≡ Some a) × (a.index ≡ i)
      × (a.reply ≡ reply))

-- the processor p has followed these lines in the first n steps of a run
pub record HasFollowed (run : Run) (n p : ℕ) (lines : List Line) : Type 0 where
  pub ops : List Invocation
  pub are : AreInvocationsOf run n p ops
  pub follows : FollowsScript lines ops

-- the processor p has finished these lines in the first n steps of a run
pub record HasFinishedIn (run : Run) (n p : ℕ) (lines : List Line) : Type 0 where
  pub ops : List Invocation
  pub are : AreInvocationsOf run n p ops
  pub finished : HasFinished lines ops

-- every processor has followed its script
pub record FollowScripts (run : Run) (n : ℕ) (scripts : List (List Line)) : Type 0 where
  pub each : (p : ℕ) → p < length scripts → HasFollowed run n p (list_at scripts p)

-- every processor has finished its script
pub record AreFinished (run : Run) (n : ℕ) (scripts : List (List Line)) : Type 0 where
  pub each : (p : ℕ) → p < length scripts → HasFinishedIn run n p (list_at scripts p)
