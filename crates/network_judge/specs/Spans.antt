-- What the search for a jam finds of the parts of routes.
use Rattle.std.specs.Prelude.{◌≡◌, ◌≢◌, ◌⊎◌, ℕ, zero, suc, ◌-◌, ◌+◌, ◌<◌, ◌≤◌, nat_lt}
use Rattle.std.specs.Prelude.{if◌then◌else◌, List, [], ◌∷◌, ◌++◌, length, map, slice_index}
use Rattle.std.specs.Prelude.{slice_index_or}
use Rattle.network_judge.specs.declared.table.Reply.{Reply}
use Rattle.network_judge.specs.declared.table.Link.{Link}
use Rattle.network_judge.specs.declared.table.By.{By}
use Rattle.network_judge.specs.declared.table.By.TheVariants.{To, Replied}
use Rattle.network_judge.specs.declared.fill.Fill.{Fill}
use Rattle.network_judge.specs.declared.spans.Span.{Span}
use Rattle.network_judge.specs.declared.tangles.Met.{Met}
use Rattle.network_judge.specs.declared.tangles.Tangle.{Tangle}
use Rattle.network_judge.specs.Table.{Table, channels_of}
use Rattle.network_judge.specs.Ways.{place, IsWay}
use Rattle.network_judge.specs.Cycles.{link_at}
use Rattle.network_judge.specs.Verdicts.{join_at}
use Rattle.network_judge.specs.Arcs.{Arc, begin, AreClear, Circle}

-- no two links are of one channel
abbrev pub AreOfDistinctChannels : List Link → Type 0
AreOfDistinctChannels links = (j k : ℕ) → j < k → k < length links
    → (link_at links j).channel ≢ (link_at links k).channel

-- where the packets of a link go: to its ejection channel, or they are answered at their end
abbrev pub end_by : ℕ → By → ℕ
end_by x (To j) = j
end_by x Replied = x

abbrev pub end_of : Link → ℕ
end_of link = end_by link.channel link.by

-- the span at a place
abbrev pub span_at : List Span → ℕ → Span
span_at spans k = slice_index_or spans k (record { from = 0; to = 0; start = 0; end = 0 })

-- the steps of an arc
abbrev pub span_of : (t : Table) → Arc t → Span
span_of t a = record { from = a.from; to = a.to; start = a.start; end = suc a.end }

-- a channel is at one of the steps
pub record IsOnSpan (t : Table) (s : Span) (x : ℕ) : Type 0 where
  pub step : ℕ
  pub low : s.start ≤ step
  pub high : step < s.end
  pub here : place t s.to s.from step ≡ x

-- a part of a route
pub record IsSpanOfArc (t : Table) (s : Span) : Type 0 where
  pub arc : Arc t
  pub is : span_of t arc ≡ s

abbrev pub AreSpansOfArcs : Table → List Span → Type 0
AreSpansOfArcs t spans = (b : ℕ) → b < length spans → IsSpanOfArc t (span_at spans b)

-- channel x of a route to an ejection channel, alone
pub record IsPoint (t : Table) (to x : ℕ) (s : Span) : Type 0 where
  pub arc : Arc t
  pub is : span_of t arc ≡ s
  pub ends : arc.to ≡ to
  pub single : arc.start ≡ arc.end
  pub here : begin t arc ≡ x

-- a walk comes to channel x at this step, and not behind its end
pub record ComesAt (t : Table) (i j x step : ℕ) : Type 0 where
  pub here : place t j i step ≡ x
  pub on : (len : ℕ) → IsWay t i j len → step ≤ len

-- it doesn't come there
abbrev pub ComesNever : Table → ℕ → ℕ → ℕ → Type 0
ComesNever t i j x = (len k : ℕ) → IsWay t i j len → k ≤ len → place t j i k ≢ x

-- a circle: parts of routes that have no channel in common, each of which leads on to the next
pub record IsCircle (t : Table) (replies : List Reply) (spans : List Span) : Type 0 where
  pub head : Arc t
  pub rest : List (Arc t)
  pub are : map (span_of t) (head ∷ rest) ≡ spans
  pub circle : Circle t replies (head ∷ rest)

-- a circle none of whose packets pass it before they come to their part
pub record IsClearCircle (t : Table) (replies : List Reply) (spans : List Span) : Type 0 where
  pub head : Arc t
  pub rest : List (Arc t)
  pub are : map (span_of t) (head ∷ rest) ≡ spans
  pub circle : Circle t replies (head ∷ rest)
  pub clear : AreClear t (head ∷ rest) (head ∷ rest)

-- the channels of a span have this number, and the others keep theirs
pub record IsSpanNoted (t : Table) (s : Span) (number : ℕ) (old new : List ℕ) : Type 0 where
  pub size : length new ≡ length old
  pub each : (x : ℕ) → (slice_index new x ≡ slice_index old x)
      ⊎ ((slice_index new x ≡ number) × IsOnSpan t s x)
  pub on : length old ≡ channels_of t → IsSpanOfArc t s → (x : ℕ) → IsOnSpan t s x
      → slice_index new x ≡ number

-- the number of a span at each of its channels, counted from 1, and 0 where the first spans are not
pub record AreOwners (t : Table) (spans : List Span) (n : ℕ) (owners : List ℕ) : Type 0 where
  pub size : length owners ≡ channels_of t
  pub some : (x b : ℕ) → slice_index owners x ≡ suc b → (b < n) × IsOnSpan t (span_at spans b) x
  pub none : (b x : ℕ) → b < n → IsSpanOfArc t (span_at spans b) → IsOnSpan t (span_at spans b) x
      → slice_index owners x ≢ 0

-- the last channel on the way to a span that has an owner
pub record IsLastMet (t : Table) (owners : List ℕ) (s : Span) (m : Met) : Type 0 where
  pub low : m.step < s.start
  pub here : place t s.to s.from m.step ≡ m.channel
  pub owned : slice_index owners m.channel ≢ 0
  pub last : IsSpanOfArc t s → (k : ℕ) → m.step < k → k < s.start
      → slice_index owners (place t s.to s.from k) ≡ 0

-- none has
abbrev pub MeetsNone : Table → List ℕ → Span → Type 0
MeetsNone t owners s = IsSpanOfArc t s → (k : ℕ) → k < s.start
    → slice_index owners (place t s.to s.from k) ≡ 0

-- packets on the way to a span pass another, and behind that step none
pub record IsTangle (t : Table) (spans : List Span) (g : Tangle) : Type 0 where
  pub place_low : g.place < length spans
  pub owner_low : g.owner < length spans
  pub low : g.step < (span_at spans g.place).start
  pub here : place t (span_at spans g.place).to (span_at spans g.place).from g.step ≡ g.channel
  pub on : IsOnSpan t (span_at spans g.owner) g.channel
  pub last : AreSpansOfArcs t spans → (k b : ℕ) → g.step < k → k < (span_at spans g.place).start
      → b < length spans
      → IsOnSpan t (span_at spans b)
      (place t (span_at spans g.place).to (span_at spans g.place).from k) → ⊥

-- no packets do
abbrev pub IsUntangled : Table → List Span → Type 0
IsUntangled t spans = AreSpansOfArcs t spans → (a b k : ℕ) → a < length spans → b < length spans
    → k < (span_at spans a).start
    → IsOnSpan t (span_at spans b) (place t (span_at spans a).to (span_at spans a).from k) → ⊥

-- the steps before the spans, together
abbrev pub starts : List Span → ℕ
starts [] = 0
starts (s ∷ ss) = s.start + starts ss

-- what is left of a span before a step
abbrev pub before_step : Span → ℕ → List Span
before_step s end =
    if nat_lt s.start end
    then record { from = s.from; to = s.to; start = s.start; end = end } ∷ []
    else []

-- the channels of a span from a step on, so many of them, each filled with the packets of its route
abbrev pub fills_on : Span → ℕ → ℕ → List Fill
fills_on s k zero = []
fills_on s k (suc n) = record { from = s.from; to = s.to; step = k } ∷ fills_on s (suc k) n

-- the channels of spans, the last to be filled first
abbrev pub span_fills : List Span → List Fill
span_fills [] = []
span_fills (s ∷ ss) = fills_on s s.start (s.end - s.start) ++ span_fills ss

-- the pair at a place is to another ejection channel, or its walk doesn't come to channel x
abbrev pub IsMissed : Table → ℕ → ℕ → ℕ → Type 0
IsMissed t place to x = (join_at t place).to ≡ to → ComesNever t (join_at t place).from to x

-- the place in a circle of so many, counted from the first on, of a place counted from 0
pub record IsAround (count first place behind : ℕ) : Type 0 where
  pub above : first ≤ place → first + behind ≡ place
  pub below : place < first → behind ≡ count - first + place
