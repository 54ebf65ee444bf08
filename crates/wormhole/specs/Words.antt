-- What holds of the flits of each channel: none is lost, and no two packets mix.
use Rattle.std.specs.Prelude.{◌≡◌, ◌≢◌, ◌⊎◌, ℕ, ◌+◌, ◌<◌, true, false, List, [], ◌∷◌, ◌++◌, Some, None, length, All}
use Rattle.wormhole.specs.Net.{Net, IsParcel, EndsWithTail, net_flits, flits_of_all, Parcel}
use Rattle.wormhole.specs.State.{NetLine, Note, NetState, in_line}

-- a channel's flits: the rest of a packet, then whole packets, and of the last of them what isn't
-- owed
abbrev pub IsContiguous : NetLine → Note → Type 0
IsContiguous l k = k.awaited ++ flits_of_all k.parcels ≡ in_line l ++ k.owed

-- an input of a router owns an output: the packet that is coming out of the one is going into the
-- other
pub record IsHeld (n : Net) (s : NetState) (x y : ℕ) : Type 0 where
  pub input : n.ejects x ≡ false
  pub output : n.injects y ≡ false
  pub same : (s.notes y).owed ≡ (s.notes x).awaited
  pub more : (s.notes x).awaited ≢ []

-- owners, and what they own, are channels of the network
pub record IsInside (n : Net) (s : NetState) : Type 0 where
  pub owner : (x y : ℕ) → (s.lines y).owner ≡ Some x → x < n.channels
  pub owned : (x y : ℕ) → (s.lines y).owner ≡ Some x → y < n.channels

-- a receiver has a beginning of the last packet begun, and awaits the rest of it
abbrev pub HasBeginning : NetLine → Note → Type 0
HasBeginning l k =
    (before : List Parcel) × (last : Parcel) × (k.begun ≡ before ++ last ∷ [])
    × (l.so_far ++ k.awaited ≡ net_flits last) × (l.so_far ≢ []) × (k.awaited ≢ [])

-- what a receiver has of a packet that isn't whole: nothing, or a beginning
abbrev pub IsAssembling : NetLine → Note → Type 0
IsAssembling l k = ((k.awaited ≡ []) × (l.so_far ≡ [])) ⊎ HasBeginning l k

-- no credit is lost, flits keep their order, and no two packets mix (Dally and Towles, chapters 13
-- and 16)
pub record Words (n : Net) (s : NetState) : Type 0 where
  -- credits and flits are together as many as the channel holds
  pub credits : (x : ℕ) → (s.lines x).held + length (s.lines x).flits + (s.lines x).returning
      ≡ n.depth
  pub contiguous : (x : ℕ) → IsContiguous (s.lines x) (s.notes x)
  pub parcels : (x : ℕ) → All (IsParcel n) (s.notes x).parcels
  pub awaited : (x : ℕ) → EndsWithTail n (s.notes x).awaited
  pub owed : (x : ℕ) → EndsWithTail n (s.notes x).owed
  -- an output is owned while a packet is going into it, by the input that this packet comes out of
  pub held : (x y : ℕ) → (s.lines y).owner ≡ Some x → IsHeld n s x y
  pub free : (y : ℕ) → n.injects y ≡ false → (s.lines y).owner ≡ None → (s.notes y).owed ≡ []
  -- an input owns one output at most, and one while a packet is coming out of it
  pub single : (x y z : ℕ) → (s.lines y).owner ≡ Some x → (s.lines z).owner ≡ Some x → y ≡ z
  pub owning : (x : ℕ) → n.ejects x ≡ false
      → ((s.notes x).awaited ≡ []) ⊎ ((y : ℕ) × ((s.lines y).owner ≡ Some x))
  pub inside : IsInside n s
  -- the ends: what senders have yet to put, and what receivers have so far
  pub senders : (x : ℕ) → n.injects x ≡ true → (s.notes x).owed ≡ (s.lines x).rest
  pub unlatched : (x : ℕ) → n.ejects x ≡ true → (s.lines x).latch ≡ None
  pub assembling : (x : ℕ) → n.ejects x ≡ true → IsAssembling (s.lines x) (s.notes x)
