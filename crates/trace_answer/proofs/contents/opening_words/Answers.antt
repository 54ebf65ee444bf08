use Rattle.std.proofs.Common.{◌∙◌, ◌<◌, ◌++◌, ◌∷◌, [], ℕ, List, sym, ap, arith, length, take}
use Rattle.std.proofs.lemmas.List.{take_all, take_more}
use Rattle.trace_text.specs.Traced.{opening_of}
use Rattle.trace_text.proofs.Opening.{length-opening}
use Rattle.trace_answer.proofs.contents.opening_words.Goals as goal

pub loop-address-preserved : goal.loop-address-preserved
loop-address-preserved g c =
    let opening = opening_of c.args.trace.now in
    let sized = length-opening c.args.trace.now in
    let low : c.loop-address.address < length opening = omega (arith, sized) in
    c.in_ok-push.ensures.items
    ∙ (ap (λ (ws : List ℕ). ws ++ c.opening.result ∷ []) c.loop-address.invariant
    ∙ (ap (λ (w : ℕ). take c.loop-address.address opening ++ w ∷ []) c.opening.ensures
    ∙ sym (take_more opening c.loop-address.address 0 low)))

pub returns : goal.returns
returns g c =
    let sized = length-opening c.args.trace.now in
    c.loop-address.invariant ∙ take_all c.loop-address.address (opening_of c.args.trace.now) (omega (arith, sized))
