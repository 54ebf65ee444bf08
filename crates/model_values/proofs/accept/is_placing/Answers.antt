use Rattle.model_values.proofs.Accepted.{told_of}
use Rattle.model_values.proofs.accept.is_placing.Goals as goal

pub are_opened-requires : goal.are_opened-requires
are_opened-requires c = record { trace = record { size = c.requires.size; same = c.requires.same; trace = c.is_trace.ensures.yes c.if-not-is_trace.false } }

pub are_closed-requires : goal.are_closed-requires
are_closed-requires c = record { trace = record { size = c.requires.size; same = c.requires.same; trace = c.is_trace.ensures.yes c.if-not-is_trace.false } }

pub returns-clause-yes : goal.returns-clause-yes
returns-clause-yes c e =
    let q = c.args.question.now in
    record {
      size = c.requires.size;
      trace = c.is_trace.ensures.yes c.if-not-is_trace.false;
      told = λ x low. told_of q.operations.now q.sources.now c.args.placed.now c.args.writes.now x (c.requires.same x low)
          (c.keep_sources.ensures.yes c.if-not-keep_sources.false x low);
      opened = c.are_opened.ensures.yes c.if-not-are_opened.false;
      closed = c.are_closed.ensures.yes e;
    }

pub returns-clause-no : goal.returns-clause-no
returns-clause-no c e placing = c.are_closed.ensures.no e placing.closed
