use Rattle.std.proofs.Common.{◌≡◌, ◌∙◌, ap, map, ℕ, List, [], ◌∷◌, ◌++◌, take}
use Rattle.trace_laws.specs.declared.event.Event.{Event}
use Rattle.trace_laws.specs.declared.event.Event.TheVariants.{Answer}
use Rattle.trace_text.specs.Allowed.{answered_so}
use Rattle.trace_text.specs.Findings.{place_of_address, opening_words_at, unfound_at}
use Rattle.trace_text.specs.Renumbered.{moved_event}
use Rattle.trace_text.specs.Views.{trace_so_far}
use Rattle.trace_text.proofs.Found.{others}
use Rattle.trace_text.proofs.Allowing.{given_is, answered_given, allowed_given, given_allowed, undecided_given, pushed, decided_yes, decided_no}
use Rattle.trace_text.proofs.reading.Reading.allows.Goals as goal

pub decide-requires : goal.decide-requires
decide-requires g c =
    let r = trace_so_far c.args.self.now in
    let words : c.deref-3.result.now ≡ others r =
    c.deref-3.ensures.value ∙ (c.in_ok-opening.ensures ∙ ap (opening_words_at r.head.inits) c.deref.ensures.value) in
    let begun : c.in_ok-events.events.items ≡ map (moved_event (place_of_address r.places)) (take c.args.event r.events) =
    c.in_ok-events.ensures ∙ ap (λ (xs : List Event). map (moved_event (place_of_address r.places)) (take c.args.event xs)) c.deref-2.ensures.value in
    let grown : c.push.new.self.items ≡ c.in_ok-events.events.items ++ Answer c.args.id c.args.reply ∷ [] =
    pushed c.push.result c.is_err.result c.push.new.self.items _ c.in_ok-events.events.items c.is_err.ensures.value c.if-is_err.false c.push.ensures.items in
    let events : c.deref-4.result.now ≡ map (moved_event (place_of_address r.places)) (answered_so r.events c.args.event c.args.id c.args.reply) =
    given_is r c.args.event c.args.id c.args.reply c.in_ok-events.events.items c.deref-4.result.now begun (c.deref-4.ensures.value ∙ grown) in
    answered_given r c.requires.kept c.args.event c.args.id c.args.reply c.requires.answered.0 c.requires.answered.1 _ _ words events

pub returns-in-Ok-clause-yes : goal.returns-in-Ok-clause-yes
returns-in-Ok-clause-yes g c = λ b.
    let r = trace_so_far c.args.self.now in
    let words : c.deref-3.result.now ≡ others r =
    c.deref-3.ensures.value ∙ (c.in_ok-opening.ensures ∙ ap (opening_words_at r.head.inits) c.deref.ensures.value) in
    let begun : c.in_ok-events.events.items ≡ map (moved_event (place_of_address r.places)) (take c.args.event r.events) =
    c.in_ok-events.ensures ∙ ap (λ (xs : List Event). map (moved_event (place_of_address r.places)) (take c.args.event xs)) c.deref-2.ensures.value in
    let grown : c.push.new.self.items ≡ c.in_ok-events.events.items ++ Answer c.args.id c.args.reply ∷ [] =
    pushed c.push.result c.is_err.result c.push.new.self.items _ c.in_ok-events.events.items c.is_err.ensures.value c.if-is_err.false c.push.ensures.items in
    let events : c.deref-4.result.now ≡ map (moved_event (place_of_address r.places)) (answered_so r.events c.args.event c.args.id c.args.reply) =
    given_is r c.args.event c.args.id c.args.reply c.in_ok-events.events.items c.deref-4.result.now begun (c.deref-4.ensures.value ∙ grown) in
    allowed_given r c.requires.kept c.args.event c.args.id c.args.reply _ _ words events
    (decided_yes _ _ c.in-Ok.order c.is_some.result c.is_some.ensures c.in-Ok.ensures.decided b)

pub returns-in-Ok-clause-no : goal.returns-in-Ok-clause-no
returns-in-Ok-clause-no g c = λ b is.
    let r = trace_so_far c.args.self.now in
    let words : c.deref-3.result.now ≡ others r =
    c.deref-3.ensures.value ∙ (c.in_ok-opening.ensures ∙ ap (opening_words_at r.head.inits) c.deref.ensures.value) in
    let begun : c.in_ok-events.events.items ≡ map (moved_event (place_of_address r.places)) (take c.args.event r.events) =
    c.in_ok-events.ensures ∙ ap (λ (xs : List Event). map (moved_event (place_of_address r.places)) (take c.args.event xs)) c.deref-2.ensures.value in
    let grown : c.push.new.self.items ≡ c.in_ok-events.events.items ++ Answer c.args.id c.args.reply ∷ [] =
    pushed c.push.result c.is_err.result c.push.new.self.items _ c.in_ok-events.events.items c.is_err.ensures.value c.if-is_err.false c.push.ensures.items in
    let events : c.deref-4.result.now ≡ map (moved_event (place_of_address r.places)) (answered_so r.events c.args.event c.args.id c.args.reply) =
    given_is r c.args.event c.args.id c.args.reply c.in_ok-events.events.items c.deref-4.result.now begun (c.deref-4.ensures.value ∙ grown) in
    decided_no _ _ c.in-Ok.order c.is_some.result c.is_some.ensures c.in-Ok.ensures.decided b
    (given_allowed r c.requires.kept c.args.event c.args.id c.args.reply _ _ words events is)

pub returns-clause-unfound : goal.returns-clause-unfound
returns-clause-unfound g c =
    let r = trace_so_far c.args.self.now in
    let words : c.deref-3.result.now ≡ others r =
    c.deref-3.ensures.value ∙ (c.in_ok-opening.ensures ∙ ap (opening_words_at r.head.inits) c.deref.ensures.value) in
    let begun : c.in_ok-events.events.items ≡ map (moved_event (place_of_address r.places)) (take c.args.event r.events) =
    c.in_ok-events.ensures ∙ ap (λ (xs : List Event). map (moved_event (place_of_address r.places)) (take c.args.event xs)) c.deref-2.ensures.value in
    let grown : c.push.new.self.items ≡ c.in_ok-events.events.items ++ Answer c.args.id c.args.reply ∷ [] =
    pushed c.push.result c.is_err.result c.push.new.self.items _ c.in_ok-events.events.items c.is_err.ensures.value c.if-is_err.false c.push.ensures.items in
    let events : c.deref-4.result.now ≡ map (moved_event (place_of_address r.places)) (answered_so r.events c.args.event c.args.id c.args.reply) =
    given_is r c.args.event c.args.id c.args.reply c.in_ok-events.events.items c.deref-4.result.now begun (c.deref-4.ensures.value ∙ grown) in
    undecided_given r c.requires.kept c.args.event c.args.id c.args.reply c.requires.answered.0 c.requires.answered.1 _ _ words events c.args.bound
    c.in-Err.why c.at_line.result c.in-Err.ensures.undecided c.in-Err.ensures.full (c.at_line.ensures ∙ ap (λ (ls : List ℕ). unfound_at ls c.in-Err.why) c.deref-in-Err.ensures.value)
