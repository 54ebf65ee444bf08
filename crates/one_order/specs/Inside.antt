-- What a `Follower`'s fields stand for, and what is true of each.
use Rattle.std.specs.Prelude.{◌≡◌, ℕ, ◌+◌, ◌<◌, ◌≤◌, ◌^◌, Some, length, drop, slice_get}
use Rattle.script_lines.specs.declared.line.Line.TheVariants.{Spin}
use Rattle.script_lines.specs.Lines.{operation_count}
use Rattle.one_order.specs.declared.follower.Follower.TheInside.{Inside}
use Rattle.one_order.specs.Following.{Following, loads_left, HasLoad}

abbrev pub following_of : {A : Type 0} → Inside A → Following
following_of a = record {
  ahead = drop a.at a.lines.items;
  spin = a.spin;
  issued = a.issued;
  waiting = a.waiting;
  last = a.last;
}

pub record IsFollower {A : Type 0} (a : Inside A) : Type 0 where
  pub within : a.at ≤ length a.lines.items
  pub few : a.issued + (loads_left a.spin + operation_count (drop a.at a.lines.items)) < 2 ^ 32
  pub loads : (k b v m : ℕ) → slice_get a.lines.items k ≡ Some (Spin b v m) → 0 < m
  pub more : HasLoad a.spin a.last
  pub waiting : a.waiting ≤ a.issued
