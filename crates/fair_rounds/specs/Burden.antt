-- What the flits of a wormhole network have still to do, and the packets under way.
use Rattle.std.specs.Prelude.{◌≡◌, ℕ, ◌+◌, ◌*◌, ◌≤◌, true, length, sum_by}
use Rattle.wormhole.specs.Net.{Net, Parcel, net_flits}
use Rattle.wormhole.specs.State.{NetLine, Note, NetState}
use Rattle.wormhole.specs.Delivery.{whole}
use Rattle.wormhole.specs.Weight.{sum_below, weight_onward}
use Rattle.wormhole.specs.Events.{NetEvent, InjectHead, InjectRest, ForwardHead, ForwardRest, Return}

-- no route has more than 10 channels
abbrev pub HasShortRoutes : Net → Type 0
HasShortRoutes n = (i j : ℕ) → n.joins i j ≡ true → length (n.route i j) ≤ 10

-- what the flits of a channel have still to do: put and take of each flit that is owed to it, a put
-- counted twice (once for the credit that it waits for), take of each flit in it, and put and take of
-- each flit of its packets in each channel after it (credits: Dally and Towles, chapter 13)
abbrev pub burden_at : Net → ℕ → NetLine → Note → ℕ
burden_at n x l k = 3 * length k.owed + length l.flits + 3 * sum_by (weight_onward n x) k.parcels

-- what the flits of the network have still to do
abbrev pub burden : Net → NetState → ℕ
burden n s = sum_below n.channels (λ x. burden_at n x (s.lines x) (s.notes x))

-- what an event does of it: a put counts twice, a take once, and a credit not at all
abbrev pub toll : NetEvent → ℕ
toll (InjectHead x k) = 2
toll (InjectRest x flit more) = 2
toll (ForwardHead x y flit) = 2
toll (ForwardRest x y flit) = 2
toll (Return x) = 0
toll e = 1

-- packets of a channel have at most so many flits
abbrev pub AreShort : (ℕ → ℕ) → Parcel → Type 0
AreShort cap k = length (net_flits k) ≤ cap k.source

-- the flits that the packets sent may have together, and those that are whole
abbrev pub caps_sent : Net → (ℕ → ℕ) → NetState → ℕ
caps_sent n cap s = sum_below n.channels (λ x. sum_by (λ k. cap k.source) (s.notes x).sent)

abbrev pub caps_whole : Net → (ℕ → ℕ) → NetState → ℕ
caps_whole n cap s = sum_below n.channels (λ x. sum_by (λ k. cap k.source) (whole s x))
