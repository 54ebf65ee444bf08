use Rattle.std.proofs.Common.{◌∙◌, arith}
use Rattle.trace_answer.proofs.Judging.{bare_closed, ends_so, whole_stands}
use Rattle.trace_answer.proofs.smallest.smallest_trace.Goals as goal

pub returns-then-not-branch : goal.returns-then-not-branch
returns-then-not-branch g c =
    whole_stands c.args.trace.now c.args.bound c.deref.result.now c.events-events.ensures.trace c.events-events.ensures.known (c.deref.ensures.value ∙ c.in_ok-all.ensures)
    (c.in_ok-is_broken.ensures.no c.if-not-branch.true)

pub smallest_part-requires-clause-closed : goal.smallest_part-requires-clause-closed
smallest_part-requires-clause-closed g c = bare_closed _

pub returns : goal.returns
returns g c = record {
  breaks = c.in_ok-part.ensures.broken;
  ended = ends_so c.args.trace.now c.args.bound _ _ _ _ (omega arith) c.in_ok-part.ensures.ending;
}
