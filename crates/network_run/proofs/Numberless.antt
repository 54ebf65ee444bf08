-- Events of a network look at no numbers of its channels.
use Rattle.std.proofs.Common.{◌≡◌, ◌≢◌, ℕ, ◌<◌, List, [], ◌∷◌, refl, subst}
use Rattle.wormhole.specs.Net.{Net, Parcel, IsParcel, EndsWithTail}
use Rattle.wormhole.specs.State.{NetLine, NetState, empty, in_line}
use Rattle.wormhole.specs.Events.{NetEvent, InjectHead, InjectRest, Latch, ForwardHead, ForwardRest, AcceptHead, AcceptRest, Return}
use Rattle.wormhole.specs.Events.{CanHappen, after, after_all, CanAllHappen}
use Rattle.network_judge.specs.declared.table.Reply.{Reply}
use Rattle.network_judge.specs.Table.{Table}
use Rattle.network_judge.specs.TableNet.{Flits, table_network}
use Rattle.network_judge.specs.Receivers.{GoesWhere, CanBeTaken}
use Rattle.network_judge.specs.LockUps.{IsLockUp}
use Rattle.network_text.specs.Network.{NetworkSpec}
use Rattle.network_answer.specs.Answer.{NeverLocksUp}

module _ (t : Table) (depth : ℕ) (flits : Flits) (number other : ℕ → ℕ) (top bound : ℕ) where
  -- the network with the one numbering, and with the other
  abbrev n : Net
  n = table_network t number top depth flits

  abbrev m : Net
  m = table_network t other bound depth flits

  ends : (fs : List ℕ) → EndsWithTail n fs → EndsWithTail m fs
  ends [] e = e
  ends (f ∷ fs) e = (e.0, e.1, ends fs e.2)

  parcel : (k : Parcel) → IsParcel n k → IsParcel m k
  parcel k p = record { joined = p.joined; head = p.head; told = p.told; alone = p.alone; tail = ends k.tail p.tail }

  may : (ls : ℕ → NetLine) (e : NetEvent) → CanHappen n ls e → CanHappen m ls e
  may ls (InjectHead x k) c = record { here = c.here; injects = c.injects; idle = c.idle; credit = c.credit; parcel = parcel k c.parcel; source = c.source }
  may ls (InjectRest x flit more) c = record { here = c.here; injects = c.injects; course = c.course; credit = c.credit }
  may ls (Latch x flit more) c = record { here = c.here; input = c.input; free = c.free; first = c.first }
  may ls (ForwardHead x y flit) c =
      record { here = c.here; input = c.input; full = c.full; head = c.head; output = c.output; free = c.free; credit = c.credit }
  may ls (ForwardRest x y flit) c = record { here = c.here; input = c.input; full = c.full; rest = c.rest; owned = c.owned; credit = c.credit }
  may ls (AcceptHead x flit more) c = record { here = c.here; ejects = c.ejects; first = c.first; head = c.head }
  may ls (AcceptRest x flit more) c = record { here = c.here; ejects = c.ejects; first = c.first; head = c.head }
  may ls (Return x) c = record { here = c.here; returns = c.returns }

  same : (s : NetState) (e : NetEvent) → after n s e ≡ after m s e
  same s (InjectHead x k) = refl
  same s (InjectRest x flit more) = refl
  same s (Latch x flit more) = refl
  same s (ForwardHead x y flit) = refl
  same s (ForwardRest x y flit) = refl
  same s (AcceptHead x flit more) = refl
  same s (AcceptRest x flit more) = refl
  same s (Return x) = refl

  all_may : (s : NetState) (es : List NetEvent) → CanAllHappen n s es → CanAllHappen m s es
  all_may s [] c = c
  all_may s (e ∷ es) c = (may s.lines e c.0, subst (λ (z : NetState). CanAllHappen m z es) (same s e) (all_may (after n s e) es c.1))

  all_same : (s : NetState) (es : List NetEvent) → after_all n s es ≡ after_all m s es
  all_same s [] = refl
  all_same s (e ∷ es) = subst (λ (z : NetState). after_all n (after n s e) es ≡ after_all m z es) (same s e) (all_same (after n s e) es)

  taken : (s : NetState) (rs : List Reply) (x flit : ℕ) (more : List ℕ) → CanBeTaken m s rs x flit more → CanBeTaken n s rs x flit more
  taken s rs x flit more c = record { here = c.here; ejects = c.ejects; first = c.first; credits = c.credits }

-- nothing goes under another numbering either
goes : (t : Table) (depth : ℕ) (flits : Flits) (number other : ℕ → ℕ) (top bound : ℕ) (s : NetState) (rs : List Reply) (Go : Type 0)
    → GoesWhere (table_network t number top depth flits) s rs Go → GoesWhere (table_network t other bound depth flits) s rs Go
goes t depth flits number other top bound s rs Go g = record {
  moves = λ e owed c. g.moves e owed (may t depth flits other number bound top s.lines e c);
  takes = λ x flit more c. g.takes x flit more (taken t depth flits number other top bound s rs x flit more c);
}

-- a deadlock of a network under one numbering is one under every other
pub lock_up_of : (t : Table) (rs : List Reply) (depth : ℕ) (flits : Flits) (number other : ℕ → ℕ) (top bound : ℕ) (es : List NetEvent)
    → IsLockUp (table_network t number top depth flits) rs es → IsLockUp (table_network t other bound depth flits) rs es
lock_up_of t rs depth flits number other top bound es l =
    (let n : Net = table_network t number top depth flits in
    let m : Net = table_network t other bound depth flits in
    let e : after_all n (empty n) es ≡ after_all m (empty n) es = all_same t depth flits number other top bound (empty n) es in
    record {
      may = all_may t depth flits number other top bound (empty n) es l.may;
      still = subst (λ (z : NetState). GoesWhere m z rs ⊥) e (goes t depth flits number other top bound (after_all n (empty n) es) rs ⊥ l.still);
      stuck = l.stuck;
      here = l.here;
      stands = subst (λ (z : NetState). in_line (z.lines l.stuck) ≢ []) e l.stands;
    })

-- so a network that is free of deadlock is so under every numbering
pub never_under : (n : NetworkSpec) → NeverLocksUp n → (number : ℕ → ℕ) (top depth : ℕ) (flits : Flits) (es : List NetEvent) → 0 < depth
    → IsLockUp (table_network n.table number top depth flits) n.replies es → ⊥
never_under n never number top depth flits es deep l =
    never depth flits deep (λ other bound. (es, lock_up_of n.table n.replies depth flits number other top bound es l))
