use Rattle.std.proofs.Common.{◌≡◌, ℕ, ◌<◌, true}
use Rattle.machine_parts.specs.Ports.{flags_of}
use Rattle.fabric_rule.proofs.seat_flags.fill.Given as goal

-- the latches of the inputs so far count as full, and what counted as awake or full does
abbrev pub invariant-loop-input : goal.invariant-loop-input
invariant-loop-input g l = record {
  design : l.ports.design ≡ l.fn.ports.design;
  takes : (u i : ℕ) → (flags_of l.fn.ports).takes u i ≡ true → (flags_of l.ports).takes u i ≡ true;
  puts : (u i : ℕ) → (flags_of l.fn.ports).puts u i ≡ true → (flags_of l.ports).puts u i ≡ true;
  credits : (u o : ℕ) → (flags_of l.fn.ports).credits u o ≡ true → (flags_of l.ports).credits u o ≡ true;
  full : (u i : ℕ) → (flags_of l.fn.ports).full u i ≡ true → (flags_of l.ports).full u i ≡ true;
  filled : (i : ℕ) → i < l.input → (flags_of l.ports).full l.tile i ≡ true;
}
