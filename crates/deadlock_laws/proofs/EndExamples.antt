-- Endpoints against the definitions: queues, what may happen, and when all is done.
use Rattle.std.proofs.Common.{◌≡◌, ◌==◌, if◌then◌else◌, ℕ, ◌<◌, true, false, List, [], ◌∷◌, refl, arith}
use Rattle.std.proofs.lemmas.List.Elements.{All-nil}
use Rattle.wormhole.specs.Net.{Net, Parcel}
use Rattle.wormhole.specs.Events.{InjectHead, AcceptHead, Latch}
use Rattle.wormhole.specs.State.{empty}
use Rattle.network_judge.specs.Replies.{IsReply}
use Rattle.deadlock_laws.specs.Endpoints.{Endpoints, Owing, EndState, TakeHead, TakeRest, Answer, owing_of, answered, taken_in, queue_after}
use Rattle.deadlock_laws.specs.Endpoints.{IsUnasked, EndsMay, AllIsDone, at_first}

-- three channels: a receiver takes from 0, with room for one packet, and answers on 1; 2 is free
abbrev ends : Endpoints
ends = record { replies = record { from = 0; to = 1 } ∷ []; room = λ x. 1; free = λ y. y == 2 }

abbrev answer : ℕ → Owing
answer y = record { first = y; others = [] }

-- the queue of 0 once a packet was taken
abbrev taken : Net → EndState
taken n = record { net = empty n; queue = λ x. if x == 0 then answer 1 ∷ [] else [] }

-- a packet that begets nothing isn't owed an answer; one that begets two is owed them in order
none_owed : owing_of [] ≡ []
none_owed = refl

two_owed : answered (owing_of (1 ∷ 2 ∷ [])) ≡ answer 2 ∷ []
two_owed = refl

-- only a tail flit brings what its packet begets into the queue
tail_joins : (n : Net) (flit : ℕ) → n.is_tail flit ≡ true → taken_in n flit (1 ∷ []) (answer 2 ∷ []) ≡ answer 2 ∷ answer 1 ∷ []
tail_joins n flit tail = rw tail refl

body_waits : (n : Net) (flit : ℕ) → n.is_tail flit ≡ false → taken_in n flit (1 ∷ []) (answer 2 ∷ []) ≡ answer 2 ∷ []
body_waits n flit body = rw body refl

-- an answer that is sent leaves the queue
answer_leaves : (n : Net) (k : Parcel) → queue_after n (taken n).queue (Answer 0 k) 0 ≡ []
answer_leaves n k = refl

-- where the queue is full a head flit isn't taken, but a body flit is
full_queue : (n : Net) (flit : ℕ) (more begets : List ℕ) → EndsMay n ends (taken n) (TakeHead 0 flit more begets) → ⊥
full_queue n flit more begets may = (let room = may.0 in absurd (omega arith))

body_is_taken : (n : Net) (flit : ℕ) (more : List ℕ) → EndsMay n ends (taken n) (TakeRest 0 flit more [])
body_is_taken n flit more = All-nil (λ y. IsReply ends.replies 0 y)

-- nobody owes an answer before a packet was taken
not_owed : (n : Net) (x : ℕ) (k : Parcel) → EndsMay n ends (at_first n) (Answer x k) → ⊥
not_owed n x k owes = (let next = owes.next in absurd (cc))

-- packets are begun unasked on 2 alone, and no receiver takes unasked
free : (k : Parcel) → IsUnasked ends (InjectHead 2 k)
free k = refl

not_free : (k : Parcel) → IsUnasked ends (InjectHead 1 k) → ⊥
not_free k is = cc

not_taken : (flit : ℕ) (more : List ℕ) → IsUnasked ends (AcceptHead 0 flit more) → ⊥
not_taken flit more is = is

latched : (x flit : ℕ) (more : List ℕ) → IsUnasked ends (Latch x flit more)
latched x flit more = tt

-- before any packet all is done; once one was taken, it isn't
done_at_first : (n : Net) → AllIsDone n (at_first n)
done_at_first n = record {
  quiet = λ x low. record { line = refl; owed = refl; awaited = refl; parcels = refl; credits = refl };
  none = λ x low. refl;
}

not_done : (n : Net) → 0 < n.channels → AllIsDone n (taken n) → ⊥
not_done n some done = (let none = done.none 0 some in absurd (cc))
