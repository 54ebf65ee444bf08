use Rattle.std.proofs.Common.{◌≡◌, ◌∷◌, map}
use Rattle.std.specs.List.{range_with_len}
use Rattle.network_rounds.specs.declared.choices.Part.TheVariants as part
use Rattle.network_rounds.proofs.choices.parts_of.Given as goal

-- the parts so far
abbrev pub invariant-loop-router : goal.invariant-loop-router
invariant-loop-router g l = l.parts.items ≡ part.Senders ∷ part.Takes ∷ map (λ router. part.Puts router) (range_with_len 0 l.router)
