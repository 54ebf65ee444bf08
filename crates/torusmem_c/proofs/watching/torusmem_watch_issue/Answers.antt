-- The watch that was held takes the event that is named.
use Rattle.std.proofs.Common.{refl, subst}
use Rattle.std.specs.Prelude.{Option}
use Rattle.trace_laws.specs.declared.event.Event.{Event}
use Rattle.torusmem_c.specs.Watching.{TakesEvent}
use Rattle.torusmem_c.proofs.watching.torusmem_watch_issue.Goals as goal

pub returns-in-Some : goal.returns-in-Some
returns-in-Some c =
    rw (c.in-Some.ensures.value) (
      c.taken.new.watch,
      refl,
      subst (λ (e : Option Event). TakesEvent e 0 c.in-Some.watch.now c.taken.new.watch c.taken.result)
          c.issue_named.ensures c.taken.ensures,
    )
