-- The flow control of a network whose routers choose: when each event may happen.
use Rattle.std.specs.Prelude.{◌≡◌, ◌⊎◌, ℕ, ◌<◌, true, false, List, [], ◌∷◌, Some, None}
use Rattle.wormhole.specs.State.{NetLine, NetState, in_line, empty}
use Rattle.wormhole.specs.Events.{NetEvent, InjectHead, InjectRest, Latch, ForwardHead, ForwardRest}
use Rattle.wormhole.specs.Events.{AcceptHead, AcceptRest, Return, CanInjectHead, CanInjectRest}
use Rattle.wormhole.specs.Events.{CanLatch, CanForwardRest, CanAccept, CanReturn, after, after_all}
use Rattle.network_adaptive.specs.Choices.{AdaptiveNet}

-- a head flit may go into a choice that no input owns, if a credit is held: into an escape behind
-- other packets, and into any other one only where no flit is left in it and in the latch behind
-- it (Duato 1993: a queue holds flits of one packet; Dally and Towles, chapter 16: allocation)
pub record CanAllocate (n : AdaptiveNet) (l m : NetLine) (x y flit : ℕ) : Type 0 where
  pub here : x < n.frame.channels
  pub input : n.frame.ejects x ≡ false
  pub full : l.latch ≡ Some flit
  pub head : n.frame.is_head flit ≡ true
  pub chosen : n.chooses x (n.frame.told flit) y ≡ true
  pub free : m.owner ≡ None
  pub credit : 0 < m.held
  pub room : (n.escapes x (n.frame.told flit) y ≡ true) ⊎ (in_line m ≡ [])

-- when an event may happen: a head goes into a channel by that rule, and all others are as in any
-- wormhole network
abbrev pub CanOccur : AdaptiveNet → (ℕ → NetLine) → NetEvent → Type 0
CanOccur n ls (InjectHead x k) = CanInjectHead n.frame (ls x) x k
CanOccur n ls (InjectRest x flit more) = CanInjectRest n.frame (ls x) x flit more
CanOccur n ls (Latch x flit more) = CanLatch n.frame (ls x) x flit more
CanOccur n ls (ForwardHead x y flit) = CanAllocate n (ls x) (ls y) x y flit
CanOccur n ls (ForwardRest x y flit) = CanForwardRest n.frame (ls x) (ls y) x y flit
CanOccur n ls (AcceptHead x flit more) = CanAccept n.frame (ls x) x flit more true
CanOccur n ls (AcceptRest x flit more) = CanAccept n.frame (ls x) x flit more false
CanOccur n ls (Return x) = CanReturn n.frame (ls x) x

-- each of some events may happen where it does
abbrev pub CanAllOccur : AdaptiveNet → NetState → List NetEvent → Type 0
CanAllOccur n s [] = Unit {0}
CanAllOccur n s (e ∷ es) = CanOccur n s.lines e × CanAllOccur n (after n.frame s e) es

-- a state that events lead to from the empty network
pub record IsReachable (n : AdaptiveNet) (s : NetState) : Type 0 where
  pub events : List NetEvent
  pub may : CanAllOccur n (empty n.frame) events
  pub stands : s ≡ after_all n.frame (empty n.frame) events
