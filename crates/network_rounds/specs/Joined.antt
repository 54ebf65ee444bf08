-- Packets between channels that no packets go between.
use Rattle.std.specs.Prelude.{◌≡◌, ◌⊎◌, ℕ, ◌<◌, ◌==◌, ◌&&◌, Bool, true, false, List, slice_get, Some}
use Rattle.std.specs.List.{list_any}
use Rattle.lexer.specs.declared.refusal.Refusal.{Refusal}
use Rattle.lexer.specs.Outcome.{refusal_at}
use Rattle.network_judge.specs.declared.table.Join.{Join}
use Rattle.network_rounds.specs.declared.senders.Timed.{Timed}
use Rattle.network_rounds.specs.declared.reason.TrafficReason.{TrafficReason}
use Rattle.network_rounds.specs.declared.reason.TrafficReason.TheVariants as reason
use Rattle.network_rounds.specs.Traffic.{TrafficSpec}

-- whether packets go between the channels of a packet
abbrev pub is_joined : List Join → Timed → Bool
is_joined joins timed =
    list_any (λ pair. pair.from == timed.packet.from && pair.to == timed.packet.to) joins

-- the first so many packets are such
abbrev pub AreJoined : List Join → List Timed → ℕ → Type 0
AreJoined joins packets count = (k : ℕ) (timed : Timed) → k < count
    → slice_get packets k ≡ Some timed → is_joined joins timed ≡ true

-- a refusal of the line of the first packet that isn't
pub record IsFirstApart (joins : List Join) (t : TrafficSpec) (e : Refusal TrafficReason) : Type 0
  where
    pub place : ℕ
    pub timed : Timed
    pub here : slice_get t.packets place ≡ Some timed
    pub apart : is_joined joins timed ≡ false
    pub before : AreJoined joins t.packets place
    pub line : slice_get t.lines place ≡ Some e.line
    pub reason : e.reason ≡ reason.NotJoined

-- a refusal of the line of the first packet that isn't, or of memory, which is at no line
abbrev pub RefusesApart : List Join → TrafficSpec → Refusal TrafficReason → Type 0
RefusesApart joins t e = (e ≡ refusal_at 0 reason.Memory) ⊎ IsFirstApart joins t e
