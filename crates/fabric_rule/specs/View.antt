-- What a seat knows, as the rule of the shared row has it.
use Rattle.std.specs.Prelude.{ℕ, Bool, false, List, []}
use Rattle.torus.specs.declared.step.Step.{Step}
use Rattle.core_laws.specs.Core.{Load}

-- what a seat knows: whether it is still there, false once another took it in; what was loaded; a
-- run of it; the seat's tiles, in groups; and the runs that it was told of last, each with the
-- groups that came with it (this project's own format)
pub record View : Type 0 where
  pub live : Bool
  pub load : Load
  pub run : List Step
  pub groups : List (List ℕ)
  pub told : List (List Step × List (List ℕ))

-- nothing loaded
abbrev pub no_load : Load
no_load = record {
  shape = record { radices = []; datelines = [] };
  depth = 0;
  tags = 0;
  opening = [];
  scripts = [];
}

-- what is left of a seat that was taken in
abbrev pub blank : View
blank = record { live = false; load = no_load; run = []; groups = []; told = [] }
