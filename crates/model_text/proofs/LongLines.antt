-- The first words of a line of a log.
use Rattle.std.proofs.Common.{◌≡◌, ◌≤◌, ℕ, List, [], ◌++◌, length, take, ap, sym, ◌∙◌, arith, append-nil}
use Rattle.std.specs.Borrow.{Bor}
use Rattle.std.proofs.lemmas.List.{take_all, take_at, length-take, length-map}
use Rattle.lexer.proofs.WordCuts.{texts}

-- ten words are the first ten
pub ten_words : (words : List (Bor (List ℕ))) (count : ℕ) (more all : List (List ℕ)) →
    length words ≡ 10 → count ≡ 10 → texts (take count words) ++ more ≡ all → texts (take count words) ≡ take 10 all
ten_words words count more all ten whole so_far =
    sym (ap (take 10) (sym so_far)
    ∙ take_at (texts (take count words)) more 10 (omega (arith, length-map (take count words) (λ w. w.now), length-take count words)))

-- with nothing more they are all
pub last_words : (words : List (Bor (List ℕ))) (count : ℕ) (more all : List (List ℕ)) →
    length words ≡ 10 → count ≤ 10 → more ≡ [] → texts (take count words) ++ more ≡ all → texts (take count words) ≡ take 10 all
last_words words count more all ten few none so_far =
    sym (ap (take 10) (sym so_far ∙ ap (λ ts. texts (take count words) ++ ts) none ∙ append-nil (texts (take count words)))
    ∙ take_all 10 (texts (take count words)) (omega (arith, length-map (take count words) (λ w. w.now), length-take count words)))
