-- Transactions as packets of one network: an endpoint that answers is a router between the ejection
-- channel from which it takes a packet and the injection channel on which it answers.
-- Dally and Towles, Principles and Practices of Interconnection Networks, 2004, chapter 14 (protocol
-- deadlock); Hansson, Goossens and Radulescu, Avoiding message-dependent deadlock in network-based
-- systems on chip, 2007.
use Rattle.std.specs.Prelude.{◌≡◌, ◌≢◌, ℕ, ◌<◌, ◌≤◌, true, false, Some, List, []}
use Rattle.wormhole.specs.Net.{Net}
use Rattle.wormhole.specs.State.{in_line}
use Rattle.network_judge.specs.declared.table.Kind.TheVariants.{Injection, Ejection}
use Rattle.network_judge.specs.Table.{Table, channels_of, kind_of, table_next, joins_of, is_receiver}
use Rattle.network_judge.specs.TableNet.{Flits, table_network}
use Rattle.network_judge.specs.Replies.{IsReply}
use Rattle.network_judge.specs.Marks.{Passes}
use Rattle.network_judge.specs.Cycles.{Depends}
use Rattle.deadlock_laws.specs.Endpoints.{Endpoints, EndEvent, EndsCanAllHappen, EndMove}
use Rattle.deadlock_laws.specs.Endpoints.{at_first, end_after_all}

-- Table c has transactions over the channels of table t, in legs of one packet each: a pair of c is a
-- sender that sends unasked, and a channel at which a transaction ends. leg x j is the ejection
-- channel to which the packet of a transaction to j goes from channel x.
pub record IsComposed (t : Table) (p : Endpoints) (c : Table) (leg : ℕ → ℕ → ℕ) : Type 0 where
  -- c's senders are those of t that send unasked
  pub senders : (i : ℕ) → kind_of c i ≡ Some Injection
      → (kind_of t i ≡ Some Injection) × (p.free i ≡ true)
  -- a transaction begins with a packet that goes in t, too
  pub begins : (i j : ℕ) → joins_of c i j ≡ true → joins_of t i (leg i j) ≡ true
  -- until its end it is at channels of t, and each leg goes to an ejection channel of t
  pub inside : (x j : ℕ) → Passes c x j → x < channels_of t
  pub legs : (x j : ℕ) → Passes c x j → kind_of t (leg x j) ≡ Some Ejection
  -- on a leg it goes as t's routers choose; of the step to its end nothing is asked
  pub goes : (x j : ℕ) → Passes c x j → is_receiver (kind_of t x) ≡ false → table_next c x j ≢ j
      → (table_next c x j ≡ table_next t x (leg x j)) × (leg (table_next c x j) j ≡ leg x j)
  -- at the end of each leg but the last the endpoint answers by a packet that goes in t
  pub answers : (x j : ℕ) → Passes c x j → is_receiver (kind_of t x) ≡ true → table_next c x j ≢ j
      → IsReply p.replies x (table_next c x j)
      × (joins_of t (table_next c x j) (leg (table_next c x j) j) ≡ true)

-- a run with endpoints after which a flit stands and nothing must go: no router, no sender with a
-- packet in course, no credit, no receiver with room in its queue, and no endpoint that owes an
-- answer (Dally and Towles, chapter 14: a protocol deadlock)
pub record IsEndLockUp (n : Net) (p : Endpoints) (events : List EndEvent) : Type 0 where
  pub may : EndsCanAllHappen n p (at_first n) events
  pub still : EndMove n p (end_after_all n (at_first n) events) → ⊥
  pub stuck : ℕ
  pub here : stuck < n.channels
  pub stands : in_line ((end_after_all n (at_first n) events).net.lines stuck) ≢ []

-- a network with these endpoints can deadlock, whatever numbers its channels are given: each packet
-- on a channel without a free sender is an answer that an endpoint owed
abbrev pub EndsLockUp : Table → Endpoints → ℕ → Flits → Type 0
EndsLockUp t p depth flits = (number : ℕ → ℕ) (top : ℕ)
    → (events : List EndEvent) × IsEndLockUp (table_network t number top depth flits) p events

-- the transactions of c have each dependency of t and each reply of its endpoints
pub record HasAllDependencies (t : Table) (p : Endpoints) (c : Table) : Type 0 where
  pub within : channels_of t ≤ channels_of c
  pub routes : (x j y : ℕ) → Depends t x j y → (k : ℕ) × Depends c x k y
  pub replies : (x y : ℕ) → IsReply p.replies x y → (k : ℕ) × Depends c x k y
