-- A machine that goes on where another stands, and the words of one that is opened.
use Rattle.std.proofs.Common.{◌≡◌, ℕ, ◌+◌, List, [], ◌∷◌, ◌++◌, replicate, Option, Some, None, sym, ◌∙◌, ap, subst}
use Rattle.std.proofs.lemmas.List.{append_assoc, replicate_more}
use Rattle.core_laws.specs.Machine.{shown}
use Rattle.machine_asked.specs.Asked.{Asked}
use Rattle.machine_asked.specs.Opened.{IsOpened}
use Rattle.std.specs.Prelude.{IfSome}
use Rattle.machine_record.specs.Calls.{RecordsAnew}
use Rattle.machine_record.specs.Machine.{Recorded}
use Rattle.machine_record.specs.Recording.{Recording}
use Rattle.torusmem_c.specs.declared.outcome.Outcome.{Outcome}
use Rattle.torusmem_c.specs.declared.outcome.Code.TheVariants as code
use Rattle.torusmem_c.specs.Outcome.{c_outcome, no_memory}
use Rattle.torusmem_c.specs.Opening.{HandsOn, KeepsHandle}

-- one word more, which is 0
pub zero_more : (given items new : List ℕ) (n : ℕ) → items ≡ given ++ replicate n 0 → new ≡ items ++ 0 ∷ [] → new ≡ given ++ replicate (n + 1) 0
zero_more given items new n so_far grown =
    grown
    ∙ (ap (λ (ws : List ℕ). ws ++ 0 ∷ []) so_far
    ∙ (append_assoc given (replicate n 0) (0 ∷ []) ∙ ap (λ (ws : List ℕ). given ++ ws) (replicate_more n 0)))

-- what is kept of a machine that opens with the words of another
pub handed_on : (v made : Asked) (rounds : ℕ) (after : Option Asked) (r : Outcome)
    → IsOpened v.core.shape v.core.depth v.core.tags (shown v.core).memory made → KeepsHandle made rounds after r
    → HandsOn v (c_outcome code.Done rounds) after r
handed_on v made rounds None r opened kept = kept
handed_on v made rounds (Some u) r opened kept =
    (subst (IsOpened v.core.shape v.core.depth v.core.tags (shown v.core).memory) (sym kept.0) opened, kept.1)

pub nothing_handed : (v : Asked) (rounds : Outcome) (after : Option Asked) (r : Outcome) → after ≡ None → r ≡ no_memory → HandsOn v rounds after r
nothing_handed v rounds after r none told = rw (none) told

-- the record of a machine that is opened so
pub keeps_anew : (after : Option Recorded) (made : Recorded) (kept : Option Recording) → IfSome after (λ v. v ≡ made) → RecordsAnew kept made
    → IfSome after (RecordsAnew kept)
keeps_anew None made kept is anew = tt
keeps_anew (Some v) made kept is anew = subst (RecordsAnew kept) (sym is) anew

pub nothing_kept : (after : Option Recorded) (kept : Option Recording) → after ≡ None → IfSome after (RecordsAnew kept)
nothing_kept None kept none = tt
nothing_kept (Some v) kept none = absurd (cc)
