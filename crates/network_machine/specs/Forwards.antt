-- A flit that a router puts from one channel into another.
use Rattle.std.specs.Prelude.{◌≡◌, ℕ, ◌<◌, Bool, true, false, cond, List, Some, None}
use Rattle.wormhole.specs.Net.{Net}
use Rattle.wormhole.specs.State.{NetLine, update}
use Rattle.wormhole.specs.Events.{NetEvent, put, ForwardHead, ForwardRest, CanHappen, lines_after}
use Rattle.network_machine.specs.declared.channel.Channel.{Channel}
use Rattle.network_machine.specs.Moves.{ShowAll}

-- a flit is put into channel y from input x, or no credit is held
abbrev pub PutsAt : (ℕ → NetLine) → List Channel → ℕ → ℕ → ℕ → Bool → Bool → Type 0
PutsAt ls cs y flit x is_tail true =
    (0 < (ls y).held)
    × ShowAll (update ls y (record (put flit (ls y)) { owner = cond is_tail None (Some x) })) cs
PutsAt ls cs y flit x is_tail false = 0 < (ls y).held → ⊥

-- where the flit in the latch behind channel x goes, with its bits
pub record IsLatchOutput (n : Net) (ls : ℕ → NetLine) (x y flit : ℕ) (is_head is_tail : Bool) : Type 0
  where
    pub here : x < n.channels
    pub input : n.ejects x ≡ false
    pub full : (ls x).latch ≡ Some flit
    pub head : n.is_head flit ≡ is_head
    pub tail : n.is_tail flit ≡ is_tail
    pub output : is_head ≡ true → y ≡ n.next x (n.told flit)

-- the event by which it goes
abbrev pub forward : Bool → ℕ → ℕ → ℕ → NetEvent
forward true x y flit = ForwardHead x y flit
forward false x y flit = ForwardRest x y flit

-- it goes, or that can't happen
abbrev pub Forwards : Net → (ℕ → NetLine) → List Channel → ℕ → ℕ → ℕ → Bool → Bool → Type 0
Forwards n ls cs x y flit is_head true =
    CanHappen n ls (forward is_head x y flit)
    × ShowAll (lines_after n ls (forward is_head x y flit)) cs
Forwards n ls cs x y flit is_head false = CanHappen n ls (forward is_head x y flit) → ⊥
