-- What the event of a watch ensures, in the words of the call.
use Rattle.std.proofs.Common.{ℕ, List, IfOk, IfErr, sym, subst}
use Rattle.std.specs.Prelude.{Option, Result, Ok, Err}
use Rattle.std.specs.Global.{Global}
use Rattle.trace_laws.specs.declared.event.Event.{Event}
use Rattle.trace_watch.specs.declared.watch.Watch.{Watch}
use Rattle.trace_watch.specs.declared.watch.Seen.{Seen}
use Rattle.trace_watch.specs.declared.watch.Full.{Full}
use Rattle.trace_watch.specs.Follows.{AnswersFew, Tracks, TellsFull, TellsSeen}
use Rattle.torusmem_c.specs.Watching.{TakesEvent, Watches}
use Rattle.torusmem_c.proofs.watching.taken.Goals as goal

-- the four clauses of the event of a watch
watched : (event : Event) (bound : ℕ) (old new : Watch Global) (r : Result Seen Full)
    → IfOk r (λ seen. (opening : List ℕ) (trace : List Event) → Tracks opening trace old
    → TellsSeen opening trace event new seen)
    → IfErr r (λ full. (opening : List ℕ) (trace : List Event) → Tracks opening trace old
    → Tracks opening trace new)
    → IfErr r (λ full. (opening : List ℕ) (trace : List Event) → Tracks opening trace old
    → TellsFull opening trace event bound full)
    → IfOk r (λ seen. (opening : List ℕ) (trace : List Event) → Tracks opening trace old
    → AnswersFew trace event bound old)
    → Watches event bound old new r
watched event bound old new (Ok told) seen same full few =
    λ opening trace follows. (seen opening trace follows, few opening trace follows)
watched event bound old new (Err told) seen same full few =
    λ opening trace follows. (same opening trace follows, full opening trace follows)

pub returns-in-Some : goal.returns-in-Some
returns-in-Some c =
    subst (λ (e : Option Event). TakesEvent e c.args.configurations c.args.watch.now c.event.new.self c.told_outcome.result)
    (sym c.in-Some.is) (
      c.event.result,
      watched c.in-Some.event c.args.configurations c.args.watch.now c.event.new.self c.event.result
          c.event.ensures.seen c.event.ensures.same c.event.ensures.full c.event.ensures.few,
      c.told_outcome.ensures,
    )
