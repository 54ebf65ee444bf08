use Rattle.std.proofs.Common.{ℕ, List, [], ◌∷◌, ◌++◌, sym, ◌∙◌, ap}
use Rattle.machine_parts.specs.Machine.{shown}
use Rattle.machine_asked.proofs.OneMore.{take_read}
use Rattle.machine_asked.proofs.opening.words_of.Goals as goal

pub loop-address-preserved : goal.loop-address-preserved
loop-address-preserved g c =
    c.in_ok-push-in-Some.ensures.items
    ∙ (ap (λ (ws : List ℕ). ws ++ c.in-Some.word ∷ []) c.loop-address.invariant
    ∙ sym (take_read (shown c.args.machine.now).memory c.loop-address.address c.in-Some.word (sym c.in-Some.is ∙ c.word.ensures)))
