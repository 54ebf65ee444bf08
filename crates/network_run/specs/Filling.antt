-- The moves that fill the channels of a jam (this project's own).
use Rattle.std.specs.Prelude.{◌≡◌, ℕ, zero, suc, ◌==◌, if◌then◌else◌, List, [], ◌∷◌, ◌++◌}
use Rattle.std.specs.List.{flat_map}
use Rattle.network_judge.specs.declared.fill.Fill.{Fill}
use Rattle.network_judge.specs.Table.{Table}
use Rattle.network_judge.specs.Ways.{place}
use Rattle.network_judge.specs.Jams.{fill_channel}
use Rattle.network_machine.specs.declared.moves.Move.{Move}
use Rattle.network_machine.specs.declared.moves.Packet.{Packet}
use Rattle.network_machine.specs.declared.moves.Move.TheVariants.{Send, Take, Put, Credit}

-- the channels of a walk from channel x to ejection channel j before so many steps
abbrev pub channels_before : Table → ℕ → ℕ → ℕ → List ℕ
channels_before t j x zero = []
channels_before t j x (suc n) = channels_before t j x n ++ place t j x n ∷ []

-- these are the channels of an item's route before the one that is filled, and that one
pub record IsWayOf (t : Table) (f : Fill) (before : List ℕ) (last : ℕ) : Type 0 where
  pub channels : before ≡ channels_before t f.to f.from f.step
  pub end : last ≡ fill_channel t f

-- the moves of a packet of one flit through a channel
abbrev pub through : ℕ → List Move
through x = Take x ∷ Credit x ∷ Put x ∷ []

-- and from its sender through these channels
abbrev pub packet_moves : Packet → List ℕ → List Move
packet_moves p before = Send p ∷ flat_map through before

-- of so many
abbrev pub packets_moves : Packet → List ℕ → ℕ → List Move
packets_moves p before zero = []
packets_moves p before (suc n) = packets_moves p before n ++ packet_moves p before

-- of one that goes on into the latch behind a channel
abbrev pub latch_moves : Packet → List ℕ → ℕ → List Move
latch_moves p before last = packet_moves p before ++ Take last ∷ Credit last ∷ []

-- the moves that fill a channel: as many packets as it holds, behind one in the latch, where it is
-- no ejection channel
abbrev pub fill_moves : Packet → List ℕ → ℕ → ℕ → List Move
fill_moves p before last depth =
    (if last == p.to then [] else latch_moves p before last) ++ packets_moves p before depth

-- those of an item
abbrev pub item_moves : Table → ℕ → Fill → List Move
item_moves t depth f =
    fill_moves (record { from = f.from; to = f.to; length = 1 })
    (channels_before t f.to f.from f.step) (fill_channel t f) depth

-- and those of all, the last of the list first
abbrev pub jam_moves : Table → ℕ → List Fill → List Move
jam_moves t depth [] = []
jam_moves t depth (f ∷ fs) = jam_moves t depth fs ++ item_moves t depth f
