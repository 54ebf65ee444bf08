-- Choices at their places in the lists of a text.
use Rattle.std.proofs.Common.{◌≡◌, ℕ, ◌+◌, List, [], ◌∷◌, ◌++◌, ◌∙◌, ap}
use Rattle.network_text.specs.Lines.{first_lines}
use Rattle.network_text.proofs.Pieces.{line_put}
use Rattle.network_text.specs.Choosing.{ChoosingText}
use Rattle.network_text.specs.ChoiceLists.{choice_toward}

-- a choice is put behind those before it
pub choice_put : (start old new : List ℕ) (t : ChoosingText) (j x place y : ℕ) → old ≡ start ++ first_lines (λ k. choice_toward t j x k ∷ []) place
    → new ≡ old ++ y ∷ [] → y ≡ choice_toward t j x place → new ≡ start ++ first_lines (λ k. choice_toward t j x k ∷ []) (place + 1)
choice_put start old new t j x place y before put is =
    line_put start old new (λ k. choice_toward t j x k ∷ []) place before (put ∙ ap (λ z. old ++ z ∷ []) is)
