use Rattle.std.proofs.Common.{◌≡◌, ◌∙◌, ap, map, List, ℕ}
use Rattle.std.specs.List.{slice_index_or}
use Rattle.trace_text.specs.Findings.{place_of_address, placed_address, opening_words_at, unfound_at}
use Rattle.trace_text.specs.Renumbered.{moved_call, moved_event}
use Rattle.trace_text.specs.Views.{trace_so_far}
use Rattle.trace_text.proofs.Found.{moved, others, trace_given, yes_given, no_given, bad_given, unfound_given, yes_told, no_told, bad_told}
use Rattle.trace_text.proofs.reading.Reading.linearize.Goals as goal

pub judge-requires : goal.judge-requires
judge-requires g c =
    let words : c.deref-3.result.now ≡ others (trace_so_far c.args.self.now) =
    c.deref-3.ensures.value ∙ (c.in_ok-opening.ensures ∙ ap (opening_words_at c.args.self.now.head.inits) c.deref.ensures.value) in
    let events : c.deref-4.result.now ≡ moved (trace_so_far c.args.self.now) =
    c.deref-4.ensures.value ∙ (c.in_ok-events.ensures ∙ ap (map (moved_event (place_of_address c.args.self.now.places.entries))) c.deref-2.ensures.value) in
    trace_given (trace_so_far c.args.self.now) c.requires _ _ words events

pub returns-in-Ok-Linearizable-clause-found : goal.returns-in-Ok-Linearizable-clause-found
returns-in-Ok-Linearizable-clause-found g c =
    let words : c.deref-3.result.now ≡ others (trace_so_far c.args.self.now) =
    c.deref-3.ensures.value ∙ (c.in_ok-opening.ensures ∙ ap (opening_words_at c.args.self.now.head.inits) c.deref.ensures.value) in
    let events : c.deref-4.result.now ≡ moved (trace_so_far c.args.self.now) =
    c.deref-4.ensures.value ∙ (c.in_ok-events.ensures ∙ ap (map (moved_event (place_of_address c.args.self.now.places.entries))) c.deref-2.ensures.value) in
    yes_given (trace_so_far c.args.self.now) c.requires _ _ words events c.in-Ok-Linearizable.order.items c.in_ok-order-in-Ok-Linearizable.order.items
    (yes_told _ _ _ c.in-Ok-Linearizable.field-0 c.in-Ok-Linearizable.order c.in-Ok-Linearizable.field-0-is c.in-Ok-Linearizable.ensures.judged)
    (c.in_ok-order-in-Ok-Linearizable.ensures
    ∙ (ap (λ (xs : List ℕ). map (moved_call (placed_address xs)) c.deref-in-Ok-Linearizable-2.result.now) c.deref-in-Ok-Linearizable.ensures.value
    ∙ ap (map (moved_call (placed_address c.args.self.now.addresses.items))) c.deref-in-Ok-Linearizable-2.ensures.value))

pub returns-in-Ok-No-clause-found : goal.returns-in-Ok-No-clause-found
returns-in-Ok-No-clause-found g c =
    let words : c.deref-3.result.now ≡ others (trace_so_far c.args.self.now) =
    c.deref-3.ensures.value ∙ (c.in_ok-opening.ensures ∙ ap (opening_words_at c.args.self.now.head.inits) c.deref.ensures.value) in
    let events : c.deref-4.result.now ≡ moved (trace_so_far c.args.self.now) =
    c.deref-4.ensures.value ∙ (c.in_ok-events.ensures ∙ ap (map (moved_event (place_of_address c.args.self.now.places.entries))) c.deref-2.ensures.value) in
    no_given (trace_so_far c.args.self.now) c.requires _ _ words events c.in-Ok-No.event c.line_at.result
    (no_told _ _ _ c.in-Ok-No.field-0 c.in-Ok-No.event c.in-Ok-No.field-0-is c.in-Ok-No.ensures.judged)
    (c.line_at.ensures ∙ ap (λ (ls : List ℕ). slice_index_or ls c.in-Ok-No.event 0) c.deref-in-Ok-No.ensures.value)

pub returns-in-Ok-NoBy-clause-found : goal.returns-in-Ok-NoBy-clause-found
returns-in-Ok-NoBy-clause-found g c =
    let words : c.deref-3.result.now ≡ others (trace_so_far c.args.self.now) =
    c.deref-3.ensures.value ∙ (c.in_ok-opening.ensures ∙ ap (opening_words_at c.args.self.now.head.inits) c.deref.ensures.value) in
    let events : c.deref-4.result.now ≡ moved (trace_so_far c.args.self.now) =
    c.deref-4.ensures.value ∙ (c.in_ok-events.ensures ∙ ap (map (moved_event (place_of_address c.args.self.now.places.entries))) c.deref-2.ensures.value) in
    bad_given (trace_so_far c.args.self.now) c.requires _ _ words events c.args.bound c.in-Ok-NoBy.event c.line_at-in-Ok-NoBy.result c.in-Ok-NoBy.why c.at_line.result
    (bad_told _ _ _ c.in-Ok-NoBy.field-0 c.in-Ok-NoBy.event c.in-Ok-NoBy.why c.in-Ok-NoBy.field-0-is c.in-Ok-NoBy.ensures.judged)
    (c.line_at-in-Ok-NoBy.ensures ∙ ap (λ (ls : List ℕ). slice_index_or ls c.in-Ok-NoBy.event 0) c.deref-in-Ok-NoBy.ensures.value)
    (c.at_line.ensures ∙ ap (λ (ls : List ℕ). unfound_at ls c.in-Ok-NoBy.why) c.deref-in-Ok-NoBy-2.ensures.value)

pub returns-clause-unfound : goal.returns-clause-unfound
returns-clause-unfound g c =
    let words : c.deref-3.result.now ≡ others (trace_so_far c.args.self.now) =
    c.deref-3.ensures.value ∙ (c.in_ok-opening.ensures ∙ ap (opening_words_at c.args.self.now.head.inits) c.deref.ensures.value) in
    let events : c.deref-4.result.now ≡ moved (trace_so_far c.args.self.now) =
    c.deref-4.ensures.value ∙ (c.in_ok-events.ensures ∙ ap (map (moved_event (place_of_address c.args.self.now.places.entries))) c.deref-2.ensures.value) in
    unfound_given (trace_so_far c.args.self.now) c.requires _ _ words events c.args.bound c.in-Err.why c.at_line-in-Err.result c.in-Err.ensures.unjudged
    c.in-Err.ensures.full (c.at_line-in-Err.ensures ∙ ap (λ (ls : List ℕ). unfound_at ls c.in-Err.why) c.deref-in-Err.ensures.value)
