-- A line's text is read again as the line.
use Rattle.std.proofs.Common.{◌≡◌, ◌<◌, ℕ, ◌^◌, ◌==◌, ◌&&◌, true, false, Bool, List, ◌∷◌, ◌++◌}
use Rattle.std.specs.Option.{option_or}
use Rattle.std.proofs.Common.{Some, None, decimal, codes, refl, ap, ◌∙◌, ⊎_elim}
use Rattle.std.proofs.lemmas.Bool.{and_parts, cases_Bool, eqb-true}
use Rattle.report_lines.specs.declared.line.Radices.{Radices}
use Rattle.report_lines.specs.declared.line.Radices.TheVariants.{One, Two, Three}
use Rattle.report_lines.specs.declared.line.ReportLine.{ReportLine}
use Rattle.report_lines.specs.declared.line.ReportLine.TheVariants.{Header, Shape, Init, Entry, Answer, Word, Order, End}
use Rattle.report_lines.specs.Fits.{FitsLine, FitsRadices}
use Rattle.report_lines.proofs.Spelled.{radices_then, line_then}
use Rattle.report_lines.specs.Reading.{behind, valued_at}
use Rattle.report_lines.specs.Reading.{four_at, entry_at, answer_at, order_at, uniform_at, two_at, three_at, radices_at, shape_at, header_at, end_at, word_at}
use Rattle.report_lines.specs.Reading.{report_line_at}
use Rattle.report_lines.proofs.Again.{index_again, index_stops, pair_again, entry_again, answer_again, order_again}

uniform_one : (k : ℕ) (rest : List ℕ) → k < 2 ^ 32 → uniform_at (decimal k ++ 32 ∷ (codes "1 " ++ rest)) ≡ Some (One k, rest)
unfolding uniform_at behind
uniform_one k rest small = rw (index_again 32 k (codes "1 " ++ rest) refl small)

uniform_two : (k : ℕ) (rest : List ℕ) → k < 2 ^ 32 → uniform_at (decimal k ++ 32 ∷ (codes "2 " ++ rest)) ≡ Some (Two k k, rest)
unfolding uniform_at behind
uniform_two k rest small = rw (index_again 32 k (codes "2 " ++ rest) refl small)

uniform_three : (k : ℕ) (rest : List ℕ) → k < 2 ^ 32 → uniform_at (decimal k ++ 32 ∷ (codes "3 " ++ rest)) ≡ Some (Three k k k, rest)
unfolding uniform_at behind
uniform_three k rest small = rw (index_again 32 k (codes "3 " ++ rest) refl small)

not_uniform : (j : ℕ) (rest : List ℕ) → j < 2 ^ 32 → uniform_at (decimal j ++ 120 ∷ rest) ≡ None
unfolding uniform_at
not_uniform j rest small = rw (index_stops 32 120 j rest refl (λ h. cc) small)

two_again : (j k : ℕ) (rest : List ℕ) → j < 2 ^ 32 → k < 2 ^ 32 → (j == k) ≡ false
    → two_at (decimal j ++ 120 ∷ (decimal k ++ 32 ∷ (codes "2 " ++ rest))) ≡ Some (Two j k, rest)
unfolding two_at behind
two_again j k rest small_j small_k apart =
    rw (index_again 120 j (decimal k ++ 32 ∷ (codes "2 " ++ rest)) refl small_j, index_again 32 k (codes "2 " ++ rest) refl small_k, apart)

not_two : (j k : ℕ) (rest : List ℕ) → j < 2 ^ 32 → k < 2 ^ 32 → two_at (decimal j ++ 120 ∷ (decimal k ++ 120 ∷ rest)) ≡ None
unfolding two_at
not_two j k rest small_j small_k = rw (index_again 120 j (decimal k ++ 120 ∷ rest) refl small_j, index_stops 32 120 k rest refl (λ h. cc) small_k)

three_again : (j k l : ℕ) (rest : List ℕ) → j < 2 ^ 32 → k < 2 ^ 32 → l < 2 ^ 32 → ((j == k) && (k == l)) ≡ false
    → three_at (decimal j ++ 120 ∷ (decimal k ++ 120 ∷ (decimal l ++ 32 ∷ (codes "3 " ++ rest)))) ≡ Some (Three j k l, rest)
unfolding three_at behind
three_again j k l rest small_j small_k small_l apart =
    let last : List ℕ = decimal l ++ 32 ∷ (codes "3 " ++ rest) in
    rw (
      index_again 120 j (decimal k ++ 120 ∷ last) refl small_j,
      index_again 120 k last refl small_k,
      index_again 32 l (codes "3 " ++ rest) refl small_l,
      apart,
    )

radices_again : (r : Radices) (rest : List ℕ) → FitsRadices r → radices_at (radices_then r rest) ≡ Some (r, rest)
unfolding radices_at
radices_again (One k) rest fits = rw (uniform_one k rest fits)
radices_again (Two j k) rest fits =
    ⊎_elim
    (λ (same : (j == k) ≡ true). rw (same, uniform_two j rest fits.0) (ap (λ x. Some (Two j x, rest)) (eqb-true j k same)))
    (λ (apart : (j == k) ≡ false). rw (apart, not_uniform j (decimal k ++ 32 ∷ (codes "2 " ++ rest)) fits.0, two_again j k rest fits.0 fits.1 apart))
    (cases_Bool (j == k))
radices_again (Three j k l) rest fits =
    let last : List ℕ = decimal l ++ 32 ∷ (codes "3 " ++ rest) in
    ⊎_elim
    (λ (same : ((j == k) && (k == l)) ≡ true).
    let parts = and_parts (j == k) (k == l) same in
    let first : j ≡ k = eqb-true j k parts.0 in
    let second : j ≡ l = first ∙ eqb-true k l parts.1 in
    rw (same, uniform_three j rest fits.0) (ap (λ x. Some (Three j x j, rest)) first ∙ ap (λ x. Some (Three j k x, rest)) second))
    (λ (apart : ((j == k) && (k == l)) ≡ false).
    rw (apart, not_uniform j (decimal k ++ 120 ∷ last) fits.0, not_two j k last fits.0 fits.1, three_again j k l rest fits.0 fits.1 fits.2 apart))
    (cases_Bool ((j == k) && (k == l)))

shape_again : (r : Radices) (words : ℕ) (rest : List ℕ) → FitsRadices r → words < 2 ^ 32 → shape_at (line_then (Shape r words) rest) ≡ Some (Shape r words, rest)
unfolding shape_at behind
shape_again r words rest fits small = rw (radices_again r (decimal words ++ 10 ∷ rest) fits, index_again 10 words rest refl small)

header_again : (version : ℕ) (rest : List ℕ) → version < 2 ^ 32 → header_at (line_then (Header version) rest) ≡ Some (Header version, rest)
unfolding header_at behind
header_again version rest small = rw (index_again 10 version rest refl small)

word_again : (a v : ℕ) (rest : List ℕ) → a < 2 ^ 32 → v < 2 ^ 64 → word_at (line_then (Word a v) rest) ≡ Some (Word a v, rest)
unfolding word_at valued_at behind
word_again a v rest small fits = rw (pair_again 10 a v rest refl small fits)

init_again : (a v : ℕ) (rest : List ℕ) → a < 2 ^ 32 → v < 2 ^ 64 → word_at (line_then (Init a v) rest) ≡ Some (Init a v, rest)
unfolding word_at valued_at behind
init_again a v rest small fits = rw (pair_again 10 a v rest refl small fits)

-- a text that doesn't begin with a word has no line of that kind
entry_none : (text : List ℕ) → behind (codes "entry ") text ≡ None → entry_at text ≡ None
unfolding entry_at four_at
entry_none text none = rw none

answer_none : (text : List ℕ) → behind (codes "answer ") text ≡ None → answer_at text ≡ None
unfolding answer_at four_at
answer_none text none = rw none

order_none : (text : List ℕ) → behind (codes "order ") text ≡ None → order_at text ≡ None
unfolding order_at four_at
order_none text none = rw none

word_none : (text : List ℕ) → behind (codes "word ") text ≡ None → behind (codes "init ") text ≡ None → word_at text ≡ None
unfolding word_at valued_at
word_none text none either = rw (none, either)

end_none : (text : List ℕ) → behind (codes "end complete\n") text ≡ None → behind (codes "end incomplete\n") text ≡ None → end_at text ≡ None
unfolding end_at
end_none text none either = rw (none, either)

shape_none : (text : List ℕ) → behind (codes "shape ") text ≡ None → shape_at text ≡ None
unfolding shape_at
shape_none text none = rw none

-- a text that begins with none of the first three words
later : (text : List ℕ) → behind (codes "entry ") text ≡ None → behind (codes "answer ") text ≡ None → behind (codes "order ") text ≡ None
    → report_line_at text ≡ option_or (word_at text) (option_or (end_at text) (option_or (shape_at text) (header_at text)))
unfolding report_line_at
later text none either third = rw (entry_none text none, answer_none text either, order_none text third)

end_again : (complete : Bool) (rest : List ℕ) → report_line_at (line_then (End complete) rest) ≡ Some (End complete, rest)
unfolding behind end_at
end_again true rest =
    let t : List ℕ = line_then (End true) rest in
    later t refl refl refl ∙ rw (word_none t refl refl)
end_again false rest =
    let t : List ℕ = line_then (End false) rest in
    later t refl refl refl ∙ rw (word_none t refl refl)

-- a line and what stands behind it
pub line_again : (line : ReportLine) (rest : List ℕ) → FitsLine line → report_line_at (line_then line rest) ≡ Some (line, rest)
unfolding report_line_at behind
line_again (Header version) rest fits =
    let t : List ℕ = line_then (Header version) rest in
    later t refl refl refl ∙ rw (word_none t refl refl, end_none t refl refl, shape_none t refl, header_again version rest fits)
line_again (Shape radices words) rest fits =
    let t : List ℕ = line_then (Shape radices words) rest in
    later t refl refl refl ∙ rw (word_none t refl refl, end_none t refl refl, shape_again radices words rest fits.0 fits.1)
line_again (Init address value) rest fits =
    later (line_then (Init address value) rest) refl refl refl ∙ rw (init_again address value rest fits.0 fits.1)
line_again (Entry e) rest fits = rw (entry_again e rest fits)
line_again (Answer a) rest fits = rw (entry_none (line_then (Answer a) rest) refl, answer_again a rest fits)
line_again (Word address value) rest fits =
    later (line_then (Word address value) rest) refl refl refl ∙ rw (word_again address value rest fits.0 fits.1)
line_again (Order o) rest fits =
    let t : List ℕ = line_then (Order o) rest in rw (entry_none t refl, answer_none t refl, order_again o rest fits)
line_again (End true) rest fits = end_again true rest
line_again (End false) rest fits = end_again false rest
