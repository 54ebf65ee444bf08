-- What the line of a channel alone keeps from a move.
use Rattle.std.proofs.Common.{◌≡◌, ◌≢◌, ℕ, ◌<◌, length, None, sym, subst}
use Rattle.std.proofs.lemmas.List.{get_or_default}
use Rattle.std.specs.Prelude.{slice_index_or}
use Rattle.wormhole.specs.State.{NetLine}
use Rattle.wormhole.specs.Events.{CanHappen}
use Rattle.network_machine.specs.declared.channel.Channel.{Channel}
use Rattle.network_machine.specs.declared.moves.Move.{Move}
use Rattle.network_machine.specs.declared.moves.Move.TheVariants.{Send, More, Take, Put, Accept, Credit}
use Rattle.network_machine.specs.Lines.{ShowsLine}
use Rattle.network_machine.specs.Lets.{KeepsFrom}
use Rattle.network_machine.specs.Moves.{move_channel}
use Rattle.network_machine.specs.Machine.{NetworkMachineSpec, plain_network, Prevents, IsKept, KeepsOtherChannels}
use Rattle.network_machine.proofs.Which.{only_send, only_more, only_take, only_put, only_accept, only_credit}
use Rattle.network_machine.proofs.Puts.{line_at, some_channel}

-- no event makes such a move
pub kept : (m : NetworkMachineSpec) (of : Move) (c : Channel) → move_channel of < length m.channels → c ≡ slice_index_or m.channels (move_channel of) c
    → ((l : NetLine) → ShowsLine l c → KeepsFrom l of) → Prevents m of
kept m (Send p) c here at keeps number top depth s shows e can =
    only_send (λ e. CanHappen (plain_network m.table number top depth) s.lines e → ⊥) p
    (λ k to count may. keeps (s.lines p.from) (line_at m s shows p.from here c at) may.idle may.credit) e can.is can.may
kept m (More x) c here at keeps number top depth s shows e can =
    only_more (λ e. CanHappen (plain_network m.table number top depth) s.lines e → ⊥) x
    (λ flit more may. keeps (s.lines x) (line_at m s shows x here c at) flit more may.course may.credit) e can.is can.may
kept m (Take x) c here at keeps number top depth s shows e can =
    only_take (λ e. CanHappen (plain_network m.table number top depth) s.lines e → ⊥) x
    (λ flit more may. keeps (s.lines x) (line_at m s shows x here c at) flit more may.free may.first) e can.is can.may
kept m (Put x) c here at keeps number top depth s shows e can =
    (let free : (s.lines x).latch ≡ None = keeps (s.lines x) (line_at m s shows x here c at) in
    only_put (λ e. CanHappen (plain_network m.table number top depth) s.lines e → ⊥) x
    (λ y flit may. (let full = may.full in absurd (cc))) (λ y flit may. (let full = may.full in absurd (cc))) e can.is can.may)
kept m (Accept x) c here at keeps number top depth s shows e can =
    only_accept (λ e. CanHappen (plain_network m.table number top depth) s.lines e → ⊥) x
    (λ flit more may. keeps (s.lines x) (line_at m s shows x here c at) flit more may.first)
    (λ flit more may. keeps (s.lines x) (line_at m s shows x here c at) flit more may.first) e can.is can.may
kept m (Credit x) c here at keeps number top depth s shows e can =
    only_credit (λ e. CanHappen (plain_network m.table number top depth) s.lines e → ⊥) x
    (λ may. keeps (s.lines x) (line_at m s shows x here c at) may.returns) e can.is can.may

-- a move that its channel keeps from being made is one
pub kept_prevents : (m : NetworkMachineSpec) (of : Move) → IsKept m of → Prevents m of
kept_prevents m of is =
    (let d = some_channel m.channels (move_channel of) is.here in
    let c = slice_index_or m.channels (move_channel of) d in
    kept m of c is.here (get_or_default m.channels (move_channel of) d c is.here) (is.keeps d))

-- and stays so, while something changes at other channels
pub kept_elsewhere : (old new : NetworkMachineSpec) (x y : ℕ) (of : Move) → KeepsOtherChannels old new x y → move_channel of ≢ x → move_channel of ≢ y
    → IsKept old of → IsKept new of
kept_elsewhere old new x y of keeps other other_2 is = record {
  here = subst (λ n. move_channel of < n) (sym keeps.size) is.here;
  keeps = λ d l shows. is.keeps d l (subst (ShowsLine l) (keeps.others (move_channel of) d other other_2) shows);
}
