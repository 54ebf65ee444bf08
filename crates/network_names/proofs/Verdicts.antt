-- A verdict with names, line by line.
use Rattle.std.proofs.Common.{◌≡◌, ℕ, List, ◌∷◌, ◌++◌, sym, ap, ◌∙◌, append_assoc}
use Rattle.std.specs.List.{flat_map}
use Rattle.std.specs.Str.Lines.{lines}

-- one line more
pub line_more : (f : List ℕ → List ℕ) (old new line rest after : List ℕ) → lines rest ≡ line ∷ lines after → new ≡ old ++ f line
    → new ++ flat_map f (lines after) ≡ old ++ flat_map f (lines rest)
line_more f old new line rest after is put =
    ap (λ t. t ++ flat_map f (lines after)) put
    ∙ append_assoc old (f line) (flat_map f (lines after))
    ∙ ap (λ ls. old ++ flat_map f ls) (sym is)
