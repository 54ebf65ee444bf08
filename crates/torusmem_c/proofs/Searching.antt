-- What a command has put into a text that was empty, and why it hasn't.
use Rattle.std.proofs.Common.{◌≡◌, ◌⊎◌, inl, inr, refl, sym, subst, ap, ◌∙◌, ◌++◌, ℕ, List, [], Some, Result, Err}
use Rattle.lexer.specs.declared.fault.LineFault.{LineFault}
use Rattle.one_order.specs.Load.{Load}
use Rattle.program_fault.specs.declared.fault.ProgramFault.{ProgramFault}
use Rattle.program_fault.specs.declared.fault.ProgramFault.TheVariants as program
use Rattle.program_fault.specs.Done.{Output, Refused, TookAll, Wrote, output}
use Rattle.program_fault.specs.Outcome.{IsTextsFault}
use Rattle.torusmem_c.specs.Searches.{IsUnmade, unmade}

-- what it has put is a right text
pub whole_text : {A : Type 0} (gives : A → List ℕ → Type 0) (before items : List ℕ) (a b : ℕ) (x : A)
    → before ≡ [] → Wrote gives TookAll (output (Some before) a) (output (Some items) b) x → gives x items
whole_text gives before items a b x e w =
    subst (λ (t : List ℕ). gives x t) (sym (w.2.bytes ∙ ap (λ (bs : List ℕ). bs ++ w.0) e)) w.1

-- what stops it is the first fault of its texts, or memory is refused
pub refused_text : {A : Type 0} (gives : A → List ℕ → Type 0) (asked : Result Load LineFault) (old new : Output)
    (why : ProgramFault) → Refused gives (IsTextsFault asked) old new why → IsUnmade asked (unmade why)
refused_text gives asked old new (program.Line found) r = inl r.0
refused_text gives asked old new (program.Fault which) r = inr refl
refused_text gives asked old new program.Output r = inr refl
refused_text gives asked old new program.Tile r = absurd r.0
refused_text gives asked old new (program.Bad line) r = absurd r.0
