use Rattle.std.proofs.Common.{◌≡◌, take}
use Rattle.machine_asked.proofs.opening.are_alike.Given as goal

-- the radices and the datelines so far are the same
abbrev pub invariant-loop-dim : goal.invariant-loop-dim
invariant-loop-dim l = record {
  radices : take l.dim l.one.radices ≡ take l.dim l.other.radices;
  datelines : take l.dim l.one.datelines ≡ take l.dim l.other.datelines;
}
