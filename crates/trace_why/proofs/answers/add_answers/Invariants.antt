use Rattle.std.proofs.Common.{◌⊎◌}
use Rattle.std.specs.Prelude.{Contains}
use Rattle.trace_why.specs.Values.{AreApartAnd, IsLeftBefore}
use Rattle.trace_why.proofs.Listing.{Adding}
use Rattle.trace_why.proofs.answers.add_answers.Given as goal

abbrev pub invariant-loop-i : goal.invariant-loop-i
invariant-loop-i g l = record {
  adding : Adding l.events l.from l.address l.i l.initial.values.items l.values.items;
  only : AreApartAnd (λ v. Contains l.initial.values.items v ⊎ IsLeftBefore l.events l.k l.address v) l.values.items;
}
