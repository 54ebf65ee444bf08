-- A wormhole network whose routers choose among several channels, some of them escapes.
-- Duato, A new theory of deadlock-free adaptive routing in wormhole networks, IEEE TPDS 4(12),
-- 1993, and A necessary and sufficient condition for deadlock-free adaptive routing in wormhole
-- networks, IEEE TPDS 6(10), 1995; Dally and Towles, chapter 14.
use Rattle.std.specs.Prelude.{◌≡◌, ◌≢◌, ℕ, ◌<◌, Bool, true, false}
use Rattle.wormhole.specs.Net.{Net}

-- a wormhole network with a relation for its routers' choices (Duato 1993: a routing function and
-- a routing subfunction)
pub record AdaptiveNet : Type 0 where
  -- its channels, its ends, the pairs that packets go between and the format of flits; no law
  -- looks at the route, the choice and the number that this record has for each channel
  pub frame : Net
  -- whether the router behind channel x may send packets to ejection channel j on to channel y:
  -- the routing function
  pub chooses : ℕ → ℕ → ℕ → Bool
  -- whether channel y is an escape for them, one that they may wait for: the routing subfunction
  pub escapes : ℕ → ℕ → ℕ → Bool
  -- the channels whose numbers count: escapes, and injection channels on which receivers answer
  pub marked : ℕ → Bool

-- channel y is a choice behind channel x for packets to ejection channel j
pub record IsChoice (n : AdaptiveNet) (j x y : ℕ) : Type 0 where
  pub input : n.frame.ejects x ≡ false
  pub chosen : n.chooses x j y ≡ true

-- packets to ejection channel j come to a channel: they begin in it, or it is a choice behind a
-- channel that they come to (Duato 1995: the channels that messages to a node can use)
pub data Comes (n : AdaptiveNet) (j : ℕ) : ℕ → Type 0 where
  BeginsIn : (i : ℕ) → n.frame.joins i j ≡ true → Comes n j i
  ByChoice : (x y : ℕ) → Comes n j x → IsChoice n j x y → Comes n j y

-- a packet to ejection channel j that holds channel x goes on from it over channels that are no
-- escapes, so many as it likes (Duato 1993: what lies between the ends of an indirect dependency)
pub data Roams (n : AdaptiveNet) (j x : ℕ) : ℕ → Type 0 where
  FromHere : Roams n j x x
  ByNoEscape : (y z : ℕ) → Roams n j x y → IsChoice n j y z → n.escapes y j z ≡ false
      → Roams n j x z

-- a packet to ejection channel j that holds channel x may wait for channel y (Duato 1993: an edge
-- of the extended dependency graph; direct where `head` is x, indirect otherwise, and cross where
-- x isn't an escape for j)
pub record ExtendedDependency (n : AdaptiveNet) (x j y : ℕ) : Type 0 where
  pub held : n.marked x ≡ true
  pub comes : Comes n j x
  pub head : ℕ
  pub roams : Roams n j x head
  pub input : n.frame.ejects head ≡ false
  pub escape : n.escapes head j y ≡ true

-- the shape of such a network: packets go over its channels from injection channels to ejection
-- channels
pub record IsAdaptiveNet (n : AdaptiveNet) : Type 0 where
  pub senders : (i j : ℕ) → n.frame.joins i j ≡ true → n.frame.injects i ≡ true
  pub receivers : (i j : ℕ) → n.frame.joins i j ≡ true → n.frame.ejects j ≡ true
  pub ends : (i j : ℕ) → n.frame.joins i j ≡ true → j < n.frame.channels
  pub within : (j x : ℕ) → Comes n j x → x < n.frame.channels
  -- they go on to other channels, to no injection channel and to no other ejection channel
  pub apart : (j x y : ℕ) → Comes n j x → IsChoice n j x y → x ≢ y
  pub outputs : (j x y : ℕ) → Comes n j x → IsChoice n j x y → n.frame.injects y ≡ false
  pub arrives : (j x : ℕ) → Comes n j x → n.frame.ejects x ≡ true → x ≡ j
  -- escapes are choices, and a packet's ejection channel is one; they are marked
  pub chosen : (j x y : ℕ) → Comes n j x → n.escapes x j y ≡ true → n.chooses x j y ≡ true
  pub last : (j x y : ℕ) → Comes n j x → IsChoice n j x y → n.frame.ejects y ≡ true
      → n.escapes x j y ≡ true
  pub marks : (j x y : ℕ) → Comes n j x → n.escapes x j y ≡ true → n.marked y ≡ true

-- behind each channel that packets come to there is an escape for them (Duato 1993: the routing
-- subfunction is connected)
abbrev pub HasEscapes : AdaptiveNet → Type 0
HasEscapes n = (j x : ℕ) → Comes n j x → n.frame.ejects x ≡ false
    → (y : ℕ) × (n.escapes x j y ≡ true)

-- who takes packets from ejection channel x answers them on injection channel y (Dally and
-- Towles, chapter 14)
pub record AreReplyEnds (n : AdaptiveNet) (answers : ℕ → ℕ → Bool) : Type 0 where
  pub from : (x y : ℕ) → answers x y ≡ true → x < n.frame.channels
  pub to : (x y : ℕ) → answers x y ≡ true → y < n.frame.channels
  pub marks : (x y : ℕ) → answers x y ≡ true → n.marked y ≡ true

-- numbers rise over each extended dependency (Duato 1993: the extended dependency graph has no
-- cycle) and over each answer (Dally and Towles, chapter 14)
pub record AreRising (n : AdaptiveNet) (answers : ℕ → ℕ → Bool) (number : ℕ → ℕ) : Type 0
  where
    pub awaits : (x j y : ℕ) → ExtendedDependency n x j y → number x < number y
    pub answered : (x y : ℕ) → answers x y ≡ true → number x < number y
    pub bounded : (x : ℕ) → x < n.frame.channels → number x < n.frame.channels
