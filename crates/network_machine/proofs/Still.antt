-- Where every move is prevented, nothing goes.
use Rattle.std.proofs.Common.{◌≡◌, ℕ, ◌<◌, Bool, true, false, List, length, refl, sym, subst}
use Rattle.wormhole.specs.Net.{Net}
use Rattle.wormhole.specs.State.{NetState}
use Rattle.wormhole.specs.Events.{NetEvent, InjectHead, InjectRest, Latch, ForwardHead, ForwardRest, AcceptHead, AcceptRest, Return, CanHappen}
use Rattle.wormhole.specs.Ends.{IsOwed}
use Rattle.network_judge.specs.Table.{channels_of}
use Rattle.network_judge.specs.Receivers.{GoesWhere, CanBeTaken}
use Rattle.network_judge.specs.LockUps.{plain_format}
use Rattle.network_machine.specs.declared.channel.Channel.{Channel}
use Rattle.network_machine.specs.Machine.{NetworkMachineSpec, ShowsNetwork, plain_network}
use Rattle.network_machine.specs.Endings.{PreventsAllAt, HoldsFlit, HoldsNoFlit, IsLocked, IsAllEmpty}
use Rattle.network_machine.proofs.Puts.{some_channel}

module _ (m : NetworkMachineSpec) (size : length m.channels ≡ channels_of m.table) (all : (x : ℕ) → x < length m.channels → PreventsAllAt m x)
    (number : ℕ → ℕ) (top depth : ℕ) (s : NetState) (shows : ShowsNetwork m s) where
  abbrev net : Net
  net = plain_network m.table number top depth

  at : (x : ℕ) → x < channels_of m.table → PreventsAllAt m x
  at x here = all x (subst (λ n. x < n) (sym size) here)

  no_moves : (e : NetEvent) → IsOwed e → CanHappen net s.lines e → ⊥
  no_moves (InjectHead x k) owed can = owed
  no_moves (InjectRest x flit more) owed can =
      (at x can.here).more number top depth s shows (InjectRest x flit more) (record { is = refl; may = can; answers = tt })
  no_moves (Latch x flit more) owed can =
      (at x can.here).take number top depth s shows (Latch x flit more) (record { is = refl; may = can; answers = tt })
  no_moves (ForwardHead x y flit) owed can =
      (at x can.here).put number top depth s shows (ForwardHead x y flit) (record { is = refl; may = can; answers = tt })
  no_moves (ForwardRest x y flit) owed can =
      (at x can.here).put number top depth s shows (ForwardRest x y flit) (record { is = refl; may = can; answers = tt })
  no_moves (AcceptHead x flit more) owed can = owed
  no_moves (AcceptRest x flit more) owed can = owed
  no_moves (Return x) owed can =
      (at x can.here).credit number top depth s shows (Return x) (record { is = refl; may = can; answers = tt })

  no_takes_by : (x flit : ℕ) (more : List ℕ) → CanBeTaken net s m.replies x flit more → (bit : Bool) → plain_format.is_head flit ≡ bit → ⊥
  no_takes_by x flit more can true head =
      (at x can.here).accept number top depth s shows (AcceptHead x flit more)
      (record { is = refl; may = record { here = can.here; ejects = can.ejects; first = can.first; head = head }; answers = can.credits })
  no_takes_by x flit more can false head =
      (at x can.here).accept number top depth s shows (AcceptRest x flit more)
      (record { is = refl; may = record { here = can.here; ejects = can.ejects; first = can.first; head = head }; answers = can.credits })

  still : GoesWhere net s m.replies ⊥
  still = record { moves = no_moves; takes = λ x flit more can. no_takes_by x flit more can (plain_format.is_head flit) refl }

  pub locked : (x : ℕ) → HoldsFlit m.channels x → IsLocked m net s
  locked x holds = record {
    still = still;
    stuck = x;
    here = subst (λ n. x < n) size holds.here;
    stands = (let c : Channel = some_channel m.channels x holds.here in holds.some c (s.lines x) (shows.lines x c holds.here));
  }

  pub all_empty : ((x : ℕ) → x < length m.channels → HoldsNoFlit m.channels x) → IsAllEmpty m net s
  all_empty none = record {
    still = still;
    none = λ x here. (let there : x < length m.channels = subst (λ n. x < n) (sym size) here in
        let c : Channel = some_channel m.channels x there in none x there c (s.lines x) (shows.lines x c there));
  }
