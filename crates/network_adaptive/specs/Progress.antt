-- Receivers that answer on injection channels, and when somebody goes.
use Rattle.std.specs.Prelude.{◌≡◌, ℕ, ◌<◌, Bool, true, List, ◌∷◌}
use Rattle.wormhole.specs.State.{NetState}
use Rattle.wormhole.specs.Events.{NetEvent, InjectHead, InjectRest, Latch, ForwardHead, ForwardRest}
use Rattle.wormhole.specs.Events.{AcceptHead, AcceptRest, Return}
use Rattle.wormhole.specs.Ends.{IsOwed}
use Rattle.network_adaptive.specs.Choices.{AdaptiveNet}
use Rattle.network_adaptive.specs.Flow.{CanOccur}

-- a receiver may take a flit: it stands first in an ejection channel, and each channel on which
-- its receiver answers holds a credit (Duato 1993: messages that arrive are consumed)
pub record CanConsume (n : AdaptiveNet) (s : NetState) (answers : ℕ → ℕ → Bool) (x flit : ℕ)
    (more : List ℕ) : Type 0 where
  pub here : x < n.frame.channels
  pub ejects : n.frame.ejects x ≡ true
  pub first : (s.lines x).flits ≡ flit ∷ more
  pub credits : (y : ℕ) → answers x y ≡ true → 0 < (s.lines y).held

-- every event, but of those that put a head flit into a choice only those into an escape
abbrev pub IsSure : AdaptiveNet → NetEvent → Type 0
IsSure n (ForwardHead x y flit) = n.escapes x (n.frame.told flit) y ≡ true
IsSure n (InjectHead x k) = Unit {0}
IsSure n (InjectRest x flit more) = Unit {0}
IsSure n (Latch x flit more) = Unit {0}
IsSure n (ForwardRest x y flit) = Unit {0}
IsSure n (AcceptHead x flit more) = Unit {0}
IsSure n (AcceptRest x flit more) = Unit {0}
IsSure n (Return x) = Unit {0}

-- Go follows from each of these: an event of a router, of a sender with a packet in course or of
-- a credit that may happen, and a receiver with a flit and its credits. Of the choices that are
-- no escapes nothing is asked: routers take them, or leave them, as they like.
pub record GoesByEscapes (n : AdaptiveNet) (s : NetState) (answers : ℕ → ℕ → Bool)
    (Go : Type 0) : Type 0 where
  pub moves : (e : NetEvent) → IsOwed e → IsSure n e → CanOccur n s.lines e → Go
  pub takes : (x flit : ℕ) (more : List ℕ) → CanConsume n s answers x flit more → Go

-- something that can move: one of the two above
pub data MoveByEscapes (n : AdaptiveNet) (s : NetState) (answers : ℕ → ℕ → Bool) : Type 0 where
  Moves : (e : NetEvent) → IsOwed e → IsSure n e → CanOccur n s.lines e → MoveByEscapes n s answers
  Takes : (x flit : ℕ) (more : List ℕ) → CanConsume n s answers x flit more
      → MoveByEscapes n s answers
