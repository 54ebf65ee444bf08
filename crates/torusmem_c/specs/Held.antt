-- What a call does to what a handle holds, and what it answers (this project's own format).
use Rattle.std.specs.Prelude.{◌≡◌, Option, Some, None}
use Rattle.core_laws.specs.Machine.{Core}
use Rattle.machine_asked.specs.Asked.{Asked}
use Rattle.torusmem_c.specs.declared.outcome.Outcome.{Outcome}
use Rattle.torusmem_c.specs.declared.outcome.Code.TheVariants as code
use Rattle.torusmem_c.specs.Outcome.{c_outcome}

-- A call works on what a handle holds, a machine and which of its scripts have spins, and leaves it
-- there. Where none is held it answers so, and still none is held.
abbrev pub OfAsked : {R : Type 0} → R → (Asked → Asked → R → Type 0) → Option Asked → Option Asked
    → R → Type 0
OfAsked empty does None new r = (new ≡ None) × (r ≡ empty)
OfAsked empty does (Some v) new r = (w : Asked) × (new ≡ Some w) × does v w r

-- it works on the machine alone: its scripts and the guard of its fair rounds stay as they are
pub record OnCore {R : Type 0} (does : Core → Core → R → Type 0) (old new : Asked) (r : R) : Type 0
  where
    pub spins : new.spins ≡ old.spins
    pub guard : new.guard ≡ old.guard
    pub core : does old.core new.core r

abbrev pub OfHeld : {R : Type 0} → R → (Core → Core → R → Type 0) → Option Asked → Option Asked → R
    → Type 0
OfHeld empty does = OfAsked empty (OnCore does)

-- a call works on the machine that a handle holds, and answers by a c_outcome: `Empty` where it
-- holds none
abbrev pub OnHeld : (Core → Core → Outcome → Type 0) → Option Asked → Option Asked → Outcome
    → Type 0
OnHeld does = OfHeld (c_outcome code.Empty 0) does

-- a call works on the machine that a handle holds, and on the guard of its fair rounds
abbrev pub OnGuarded : (Asked → Asked → Outcome → Type 0) → Option Asked → Option Asked → Outcome
    → Type 0
OnGuarded does = OfAsked (c_outcome code.Empty 0) does

-- a call changes nothing of the machine, and answers what there is to tell of it
abbrev pub HandleTells : {R : Type 0} → (Core → R) → Core → Core → R → Type 0
HandleTells told c d r = (d ≡ c) × (r ≡ told c)
