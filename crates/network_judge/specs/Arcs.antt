-- Parts of routes, one after the other in a circle: a cycle, with the routes that its packets take.
-- Dally and Seitz, Deadlock-free message routing in multiprocessor interconnection networks, 1987.
use Rattle.std.specs.Prelude.{◌≡◌, ◌⊎◌, ℕ, suc, ◌<◌, ◌≤◌, true, List, [], ◌∷◌}
use Rattle.network_judge.specs.declared.table.Reply.{Reply}
use Rattle.network_judge.specs.Table.{Table, joins_of}
use Rattle.network_judge.specs.Ways.{place, IsWay}
use Rattle.network_judge.specs.Replies.{IsReply}

-- a part of a route, from one of its steps to another
pub record Arc (t : Table) : Type 0 where
  pub from : ℕ
  pub to : ℕ
  pub len : ℕ
  pub start : ℕ
  pub end : ℕ
  pub joined : joins_of t from to ≡ true
  pub way : IsWay t from to len
  pub order : start ≤ end
  pub within : end ≤ len

module _ (t : Table) where
  -- its channel at a step of the route
  abbrev pub at : Arc t → ℕ → ℕ
  at a k = place t a.to a.from k

  abbrev pub begin : Arc t → ℕ
  begin a = at a a.start

  -- a channel is on it
  pub record On (a : Arc t) (x : ℕ) : Type 0 where
    pub step : ℕ
    pub low : a.start ≤ step
    pub high : step ≤ a.end
    pub here : at a step ≡ x

  -- a channel is on one of some
  abbrev pub AnyOn : List (Arc t) → ℕ → Type 0
  AnyOn [] x = ⊥
  AnyOn (a ∷ ps) x = On a x ⊎ AnyOn ps x

  -- they have no channel in common
  abbrev pub AreArcsApart : List (Arc t) → Type 0
  AreArcsApart [] = Unit {0}
  AreArcsApart (a ∷ ps) = ((x : ℕ) → On a x → AnyOn ps x → ⊥) × AreArcsApart ps

  -- packets pass none of some arcs before they come to their own
  abbrev pub IsClearArc : List (Arc t) → Arc t → Type 0
  IsClearArc ps a = (k : ℕ) → k < a.start → AnyOn ps (at a k) → ⊥

  abbrev pub AreClear : List (Arc t) → List (Arc t) → Type 0
  AreClear all [] = Unit {0}
  AreClear all (a ∷ ps) = IsClearArc all a × AreClear all ps

  module _ (replies : List Reply) where
    -- how an arc leads on to a channel: the next one of its route, or at its end one on which its
    -- packets are answered
    abbrev pub ArcLeadsTo : Arc t → ℕ → Type 0
    ArcLeadsTo a y =
        ((a.end < a.len) × (at a (suc a.end) ≡ y)) ⊎ ((a.end ≡ a.len) × IsReply replies a.to y)

    abbrev pub first_of : List (Arc t) → ℕ → ℕ
    first_of [] e = e
    first_of (a ∷ ps) e = begin a

    -- each leads on to the next one's first channel, and the last to channel e
    abbrev pub Chain : List (Arc t) → ℕ → Type 0
    Chain [] e = Unit {0}
    Chain (a ∷ ps) e = ArcLeadsTo a (first_of ps e) × Chain ps e

    -- around
    pub record Circle (ps : List (Arc t)) : Type 0 where
      pub chain : Chain ps (first_of ps 0)
      pub apart : AreArcsApart ps
