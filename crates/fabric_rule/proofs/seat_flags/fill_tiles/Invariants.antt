use Rattle.std.proofs.Common.{◌≡◌, ℕ, ◌<◌, ◌≤◌, true}
use Rattle.machine_parts.specs.Ports.{flags_of}
use Rattle.fabric_rule.proofs.seat_flags.fill_tiles.Given as goal

-- the latches of the tiles so far count as full, and what counted as awake or full does
abbrev pub invariant-loop-tile : goal.invariant-loop-tile
invariant-loop-tile g l = record {
  design : l.ports.design ≡ l.fn.ports.design;
  takes : (u i : ℕ) → (flags_of l.fn.ports).takes u i ≡ true → (flags_of l.ports).takes u i ≡ true;
  puts : (u i : ℕ) → (flags_of l.fn.ports).puts u i ≡ true → (flags_of l.ports).puts u i ≡ true;
  credits : (u o : ℕ) → (flags_of l.fn.ports).credits u o ≡ true → (flags_of l.ports).credits u o ≡ true;
  full : (u i : ℕ) → (flags_of l.fn.ports).full u i ≡ true → (flags_of l.ports).full u i ≡ true;
  filled : (u i : ℕ) → l.from ≤ u → u < l.tile → (flags_of l.ports).full u i ≡ true;
}
