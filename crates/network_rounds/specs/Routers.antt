-- The routers of a network, found where its channels meet.
use Rattle.std.specs.Prelude.{◌≡◌, ◌⊎◌, ℕ, ◌<◌, ◌≤◌, ◌==◌, if◌then◌else◌, false, List, [], ◌∷◌, length}
use Rattle.std.specs.Prelude.{Option, Some, None, slice_index, slice_index_or, slice_set}
use Rattle.network_judge.specs.Table.{Table, channels_of, columns_of, kind_of, choice_of, is_receiver}

-- the router behind channel x may choose channel y
pub record MayChoose (t : Table) (x y : ℕ) : Type 0 where
  pub here : x < channels_of t
  pub input : is_receiver (kind_of t x) ≡ false
  pub column : ℕ
  pub within : column < columns_of t
  pub is : choice_of t x column ≡ y
  pub there : y < channels_of t

-- two channels meet: behind both the same channel may be chosen
abbrev pub Meet : Table → ℕ → ℕ → Type 0
Meet t x z = (y : ℕ) × MayChoose t x y × MayChoose t z y

-- channels that meet, each with the next, from one to another
abbrev pub MeetAlong : Table → ℕ → List ℕ → ℕ → Type 0
MeetAlong t x [] z = x ≡ z
MeetAlong t x (y ∷ way) z = Meet t x y × MeetAlong t y way z

-- two channels lead to one router: they meet over some channels
abbrev pub HaveOneRouter : Table → ℕ → ℕ → Type 0
HaveOneRouter t x z = (way : List ℕ) × MeetAlong t x way z

-- a number for each channel, the same for two channels exactly if they lead to one router
pub record AreRouters (t : Table) (routers : List ℕ) : Type 0 where
  pub size : length routers ≡ channels_of t
  pub low : (x : ℕ) → x < channels_of t → slice_index routers x < channels_of t
  pub one : (x z : ℕ) → HaveOneRouter t x z → slice_index routers x ≡ slice_index routers z
  pub apart : (x z : ℕ) → x < channels_of t → z < channels_of t
      → slice_index routers x ≡ slice_index routers z → HaveOneRouter t x z

-- the first channel behind which a channel may be chosen, of those that are noted
abbrev pub first_choosing : List (Option ℕ) → ℕ → Option ℕ
first_choosing firsts y = slice_index_or firsts y None

-- a number that stands for two
abbrev pub router_renumbered : ℕ → ℕ → ℕ → ℕ
router_renumbered from to number = if number == from then to else number

-- another number for all channels of one number
pub record AreRenumbered (routers later : List ℕ) (from to : ℕ) : Type 0 where
  pub size : length later ≡ length routers
  pub each : (z : ℕ) → z < length routers
      → slice_index later z ≡ router_renumbered from to (slice_index routers z)

-- what is noted where channel y may be chosen behind channel x: nothing, where there is no such
-- channel; that x is the first; or that x has one router with the first
abbrev pub NotesChoice : List ℕ → List (Option ℕ) → ℕ → ℕ → List ℕ → List (Option ℕ) → Type 0
NotesChoice routers firsts x y later noted =
    ((length firsts ≤ y) × (later ≡ routers) × (noted ≡ firsts))
    ⊎ (((y < length firsts) × (first_choosing firsts y ≡ None)
    × (later ≡ routers) × (noted ≡ slice_set firsts y (Some x)))
    ⊎ ((first : ℕ) × (first_choosing firsts y ≡ Some first) × (noted ≡ firsts)
    × AreRenumbered routers later (slice_index routers x) (slice_index routers first)))

-- a cell of the choices that comes before that of a row and a column, row by row
abbrev pub IsCellBefore : ℕ → ℕ → ℕ → ℕ → Type 0
IsCellBefore row column a c = (a < row) ⊎ ((a ≡ row) × (c < column))

-- what holds once the choices of all cells before this one are noted
pub record AreNoted (t : Table) (row column : ℕ) (routers : List ℕ) (firsts : List (Option ℕ)) : Type 0
  where
    pub size : length routers ≡ channels_of t
    pub many : length firsts ≡ channels_of t
    pub low : (x : ℕ) → x < channels_of t → slice_index routers x < channels_of t
    pub first : (y v : ℕ) → first_choosing firsts y ≡ Some v → MayChoose t v y
    pub apart : (x z : ℕ) → x < channels_of t → z < channels_of t
        → slice_index routers x ≡ slice_index routers z → HaveOneRouter t x z
    pub one : (a c : ℕ) → IsCellBefore row column a c → a < channels_of t
        → is_receiver (kind_of t a) ≡ false → c < columns_of t → choice_of t a c < channels_of t
        → (v : ℕ) × (first_choosing firsts (choice_of t a c) ≡ Some v)
        × (slice_index routers a ≡ slice_index routers v)
