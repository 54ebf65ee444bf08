use Rattle.std.proofs.Common.{◌≡◌, ◌∙◌, ap, map}
use Rattle.trace_text.specs.Findings.{place_of_address, opening_words_at}
use Rattle.trace_text.specs.Renumbered.{moved_event}
use Rattle.trace_text.specs.Views.{trace_so_far}
use Rattle.trace_text.proofs.Found.{moved, others, trace_given, renumbered_given}
use Rattle.trace_text.proofs.reading.Reading.renumbered.Goals as goal

pub returns-clause-trace : goal.returns-clause-trace
returns-clause-trace g c =
    trace_given (trace_so_far c.args.self.now) c.requires _ _
    (c.in_ok-opening.ensures ∙ ap (opening_words_at c.args.self.now.head.inits) c.deref.ensures.value)
    (c.in_ok-events.ensures ∙ ap (map (moved_event (place_of_address c.args.self.now.places.entries))) c.deref-2.ensures.value)

pub returns-clause-same : goal.returns-clause-same
returns-clause-same g c =
    renumbered_given (trace_so_far c.args.self.now) c.requires _ _
    (c.in_ok-opening.ensures ∙ ap (opening_words_at c.args.self.now.head.inits) c.deref.ensures.value)
    (c.in_ok-events.ensures ∙ ap (map (moved_event (place_of_address c.args.self.now.places.entries))) c.deref-2.ensures.value)
