-- Lines that are put one after another.
use Rattle.std.proofs.Common.{◌≡◌, ℕ, ◌+◌, List, [], ◌∷◌, ◌++◌, map, ap, ◌∙◌, sym, append_assoc, append-nil, zero-add}
use Rattle.std.specs.List.{flat_map, range_with_len}
use Rattle.std.proofs.lemmas.List.Concat.{flat_map-append}
use Rattle.std.proofs.lemmas.List.Folds.{flat_map-map}
use Rattle.std.proofs.lemmas.List.FromFn.{map-range_with_len_more}
use Rattle.network_text.specs.Lines.{first_lines}

-- one line more
pub first_lines-more : (line : ℕ → List ℕ) (n : ℕ) → first_lines line (n + 1) ≡ first_lines line n ++ line n
first_lines-more line n =
    sym (flat_map-map (λ t. t) line (range_with_len 0 (n + 1)))
    ∙ ap (flat_map (λ t. t)) (map-range_with_len_more line 0 n n (zero-add n))
    ∙ flat_map-append (λ t. t) (map line (range_with_len 0 n)) (line n ∷ [])
    ∙ ap (λ t. t ++ (line n ++ [])) (flat_map-map (λ t. t) line (range_with_len 0 n))
    ∙ ap (λ t. first_lines line n ++ t) (append-nil (line n))

-- it is put behind those before it
pub line_put : (start old new : List ℕ) (line : ℕ → List ℕ) (n : ℕ) → old ≡ start ++ first_lines line n → new ≡ old ++ line n
    → new ≡ start ++ first_lines line (n + 1)
line_put start old new line n before here =
    here
    ∙ ap (λ t. t ++ line n) before
    ∙ append_assoc start (first_lines line n) (line n)
    ∙ ap (λ t. start ++ t) (sym (first_lines-more line n))
