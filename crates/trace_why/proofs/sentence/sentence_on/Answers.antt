use Rattle.std.proofs.Common.{List, subst}
use Rattle.std.specs.Prelude.{Contains}
use Rattle.trace_why.specs.declared.calls.CallAt.{CallAt}
use Rattle.trace_why.proofs.sentence.sentence_on.Goals as goal

pub lines_of-requires : goal.lines_of-requires
lines_of-requires g c = λ call h.
    let told = rw c.in-Ok-Some.field-0-is at c.in-Ok-Some.ensures.told in
    (told.pending.inside call (subst (λ (xs : List CallAt). Contains xs call) c.deref.ensures.value h)).issue
