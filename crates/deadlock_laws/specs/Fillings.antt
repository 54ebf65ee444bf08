-- Fillings of networks whose routers choose: channels that can be filled one after the other, so that
-- whatever a packet in them could choose is filled.
-- Duato, A new theory of deadlock-free adaptive routing in wormhole networks, IEEE TPDS 4(12), 1993:
-- deadlocked configurations.
use Rattle.std.specs.Prelude.{◌≡◌, ◌≢◌, ℕ, ◌<◌, ◌==◌, if◌then◌else◌, Bool, true, false}
use Rattle.std.specs.Prelude.{List, [], ◌∷◌, length, All}
use Rattle.network_adaptive.specs.Choices.{AdaptiveNet, IsChoice}

-- a channel that is filled with packets of one flit to an ejection channel, and the channels over
-- which they come to it: the last of them first, and the injection channel last
pub record Filling : Type 0 where
  pub at : ℕ
  pub to : ℕ
  pub before : List ℕ

-- packets to ejection channel j can come to channel y over these channels
abbrev pub IsWayTo : AdaptiveNet → ℕ → ℕ → List ℕ → Type 0
IsWayTo n j y [] = n.frame.joins y j ≡ true
IsWayTo n j y (x ∷ xs) = IsChoice n j x y × IsWayTo n j x xs

-- whether they may enter it behind other packets: from their sender, or by an escape
abbrev pub enters_behind : AdaptiveNet → ℕ → ℕ → List ℕ → Bool
enters_behind n j y [] = true
enters_behind n j y (x ∷ xs) = n.escapes x j y

-- whether one of the filled channels is this one
abbrev pub is_occupied : List Filling → ℕ → Bool
is_occupied [] x = false
is_occupied (f ∷ fs) x = if f.at == x then true else is_occupied fs x

-- whether it is filled up: a channel that packets enter by a choice that is no escape gets one alone
abbrev pub is_full : AdaptiveNet → List Filling → ℕ → Bool
is_full n [] x = false
is_full n (f ∷ fs) x =
    if f.at == x then enters_behind n f.to f.at f.before else is_full n fs x

-- these channels are not filled so far, and none of them is channel y
abbrev pub AreFree : List Filling → ℕ → List ℕ → Type 0
AreFree fs y [] = Unit {0}
AreFree fs y (x ∷ xs) = (is_occupied fs x ≡ false) × (x ≢ y) × AreFree fs y xs

-- packets come to their channel over channels that are free so far, as it is itself
pub record ComesFreely (n : AdaptiveNet) (f : Filling) (filled : List Filling) : Type 0 where
  pub way : IsWayTo n f.to f.at f.before
  pub here : is_occupied filled f.at ≡ false
  pub free : AreFree filled f.at f.before

-- the last of the list is filled first, and each once those behind it are filled
abbrev pub FillInTurn : AdaptiveNet → List Filling → Type 0
FillInTurn n [] = Unit {0}
FillInTurn n (f ∷ fs) = ComesFreely n f fs × FillInTurn n fs

-- whatever the packets of a channel could choose is filled, and filled up where they could enter it
-- behind others; and at their end so is a channel on which they are answered
pub record WaitsForAll (n : AdaptiveNet) (answers : ℕ → ℕ → Bool) (fs : List Filling) (f : Filling)
    : Type 0 where
  pub occupied : (y : ℕ) → IsChoice n f.to f.at y → is_occupied fs y ≡ true
  pub full : (y : ℕ) → IsChoice n f.to f.at y → n.escapes f.at f.to y ≡ true
      → is_full n fs y ≡ true
  pub at_end : n.frame.ejects f.at ≡ true
      → (y : ℕ) × (answers f.at y ≡ true) × (is_full n fs y ≡ true)

-- a deadlocked configuration that can be filled: some channels, the last of the list to be filled
-- first, whose packets wait for one another wherever they could go
pub record IsDeadFilling (n : AdaptiveNet) (answers : ℕ → ℕ → Bool) (fs : List Filling) : Type 0
  where
    pub some : 0 < length fs
    pub in_turn : FillInTurn n fs
    pub waits : All (WaitsForAll n answers fs) fs
