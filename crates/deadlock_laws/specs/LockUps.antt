-- Networks whose routers choose, and that can deadlock: a run after which packets are under way, and
-- nothing can go.
-- Dally and Towles, Principles and Practices of Interconnection Networks, 2004, chapter 14.
use Rattle.std.specs.Prelude.{◌≡◌, ◌≢◌, ℕ, ◌<◌, Bool, true, List, []}
use Rattle.wormhole.specs.State.{NetState, empty, in_line}
use Rattle.wormhole.specs.Events.{NetEvent, after_all}
use Rattle.wormhole.specs.Ends.{IsOwed}
use Rattle.network_adaptive.specs.Choices.{AdaptiveNet}
use Rattle.network_adaptive.specs.Flow.{CanOccur, CanAllOccur}
use Rattle.network_adaptive.specs.Progress.{CanConsume}

-- Go follows from each of these: an event of a router, by whatever choice, of a sender with a packet
-- in course or of a credit that may happen, and a receiver with a flit and its credits
pub record GoesByChoices (n : AdaptiveNet) (s : NetState) (answers : ℕ → ℕ → Bool) (Go : Type 0)
    : Type 0 where
  pub moves : (e : NetEvent) → IsOwed e → CanOccur n s.lines e → Go
  pub takes : (x flit : ℕ) (more : List ℕ) → CanConsume n s answers x flit more → Go

-- a run from the empty network after which a flit stands in a channel or in the latch behind it, and
-- nothing can go, whatever routers choose (Dally and Towles, chapter 14: a deadlock)
pub record IsAdaptiveLockUp (n : AdaptiveNet) (answers : ℕ → ℕ → Bool) (events : List NetEvent)
    : Type 0 where
  pub may : CanAllOccur n (empty n.frame) events
  pub still : GoesByChoices n (after_all n.frame (empty n.frame) events) answers ⊥
  pub stuck : ℕ
  pub here : stuck < n.frame.channels
  pub stands : in_line ((after_all n.frame (empty n.frame) events).lines stuck) ≢ []

-- the format has packets of one flit to each ejection channel (Dally and Towles, chapter 12)
pub record HasSingleFlitPackets (n : AdaptiveNet) : Type 0 where
  pub word : ℕ → ℕ
  pub head : (j : ℕ) → n.frame.ejects j ≡ true → n.frame.is_head (word j) ≡ true
  pub tail : (j : ℕ) → n.frame.ejects j ≡ true → n.frame.is_tail (word j) ≡ true
  pub told : (j : ℕ) → n.frame.ejects j ≡ true → n.frame.told (word j) ≡ j
