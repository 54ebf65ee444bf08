use Rattle.std.proofs.Common.{◌++◌, ◌∷◌, [], drop, length, ◌∙◌, ap, List, ℕ}
use Rattle.torus.proofs.Refusals.{over_three}
use Rattle.torus.proofs.shape.filled.Goals as goal

pub returns : goal.returns
returns c =
    ap (λ (xs : List ℕ). xs ++ drop (length c.args.list.now) (c.args.rest ∷ c.args.rest ∷ c.args.rest ∷ [])) c.copy_from_slice.ensures.after
    ∙ over_three c.args.rest c.args.list.now c.requires
