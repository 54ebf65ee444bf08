-- That a table has no verdicts of two kinds.
use Rattle.std.specs.Prelude.{◌≡◌, ℕ, true}
use Rattle.network_judge.specs.declared.table.Verdict.{Verdict}
use Rattle.network_judge.specs.declared.table.Verdict.TheVariants.{Rising, NoRoute, Cycle}
use Rattle.network_judge.specs.declared.table.Why.{Why}
use Rattle.network_judge.specs.Table.{Table, joins_of}
use Rattle.network_judge.specs.Ways.{FailsBy}

-- whether a verdict is rising numbers
abbrev pub HasRisingNumbers : {A : Type 0} → Verdict A → Type 0
HasRisingNumbers (Rising numbers) = Unit {0}
HasRisingNumbers (NoRoute r) = ⊥
HasRisingNumbers (Cycle links) = ⊥

-- two verdicts of one kind
abbrev pub AreAlike : {A B : Type 0} → Verdict A → Verdict B → Type 0
AreAlike (Rising m) (Rising n) = Unit {0}
AreAlike (Rising m) (NoRoute s) = ⊥
AreAlike (Rising m) (Cycle l) = ⊥
AreAlike (NoRoute r) (Rising n) = ⊥
AreAlike (NoRoute r) (NoRoute s) = Unit {0}
AreAlike (NoRoute r) (Cycle l) = ⊥
AreAlike (Cycle k) (Rising n) = ⊥
AreAlike (Cycle k) (NoRoute s) = ⊥
AreAlike (Cycle k) (Cycle l) = Unit {0}

-- some pair has no route
pub record HasFailure (t : Table) : Type 0 where
  pub from : ℕ
  pub to : ℕ
  pub why : Why
  pub joined : joins_of t from to ≡ true
  pub fails : FailsBy t from to why
