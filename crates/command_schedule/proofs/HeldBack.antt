-- Attempts of which those are left out that begin an operation, where these are held back.
use Rattle.std.proofs.Common.{◌≡◌, ℕ, Bool, true, false, List, [], ◌∷◌, Result, Ok, refl, sym, ap, ◌∙◌}
use Rattle.std.specs.Prelude.{◌↔◌, IsTrue, if◌then◌else◌}
use Rattle.lexer.specs.declared.fault.LineFault.{LineFault}
use Rattle.one_order.specs.Load.{Load}
use Rattle.torus.specs.declared.step.Step.{Step}
use Rattle.torus.specs.declared.step.Choice.TheVariants as choice
use Rattle.tile.specs.declared.agent.Agent.TheVariants.{Processor}
use Rattle.core_laws.specs.Machine.{Core, core_next}
use Rattle.machine_core.specs.Guarded.{begins_operation, held_back, is_begin, without_begins}
use Rattle.command_schedule.specs.Fair.{is_held_back}

-- one that is left out
pub one_skipped : (held : Bool) (c : Core) (x : Step) (rest : List Step) → is_held_back held c x ≡ true
    → held_back held c (x ∷ rest) ≡ held_back held c rest
one_skipped true c x rest is =
    ap (λ (b : Bool). if b then without_begins c rest else (x ∷ without_begins (core_next c x) rest)) is
one_skipped false c x rest is = absurd (let e : false ≡ true = is in cc)

-- one that is made
pub one_made : (held : Bool) (c : Core) (x : Step) (rest : List Step) → is_held_back held c x ≡ false
    → held_back held c (x ∷ rest) ≡ x ∷ held_back held (core_next c x) rest
one_made true c x rest is =
    ap (λ (b : Bool). if b then without_begins c rest else (x ∷ without_begins (core_next c x) rest)) is
one_made false c x rest is = refl

-- none
pub none_left : (held : Bool) (c : Core) → held_back held c [] ≡ []
none_left true c = refl
none_left false c = refl

-- a processor's send begins an operation where no flit of a request is left
pub send_begins : (xs : List ℕ) (b : Bool) → (IsTrue b ↔ (xs ≡ [])) → b ≡ is_begin Processor choice.Send xs
send_begins [] true so = refl
send_begins [] false so = absurd (let e : false ≡ true = so.1 refl in cc)
send_begins (x ∷ xs) true so = absurd (let e : x ∷ xs ≡ [] = so.0 refl in cc)
send_begins (x ∷ xs) false so = refl

-- a text has one load
pub same_load : (asked : Result Load LineFault) (a b : Load) → asked ≡ Ok a → asked ≡ Ok b → a ≡ b
same_load asked a b is also = let e : Ok a ≡ Ok b = sym is ∙ also in cc
