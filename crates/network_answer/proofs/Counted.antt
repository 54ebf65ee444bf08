-- How many choices the lists of a text have.
use Rattle.std.proofs.Common.{◌≡◌, inl, inr, ℕ, zero, suc, ◌+◌, ◌*◌, ◌≤◌, not, List, [], ◌∷◌, length, take, refl, sym, ◌∙◌, ap, arith}
use Rattle.std.specs.Prelude.{slice_get, if◌then◌else◌}
use Rattle.std.specs.List.{count_by}
use Rattle.network_judge.specs.declared.table.Kind.{Kind}
use Rattle.network_judge.specs.Table.{is_receiver, ejects}
use Rattle.std.proofs.lemmas.Bool.{cases_Bool}
use Rattle.std.proofs.lemmas.List.{length-append, take_all}
use Rattle.std.proofs.Math.Nat.{suc-mul}
use Rattle.network_adaptive.proofs.Bases.{count_same, count_more}
use Rattle.network_text.specs.Network.{count_of}
use Rattle.network_text.specs.Lines.{first_lines}
use Rattle.network_text.proofs.Pieces.{first_lines-more}
use Rattle.network_text.proofs.Tiles.{lines_length}
use Rattle.network_text.specs.Choosing.{ChoosingText}
use Rattle.network_text.specs.ChoiceLists.{choice_toward, choice_row, block_of, block_toward, choice_list}

block_length : (t : ChoosingText) (j : ℕ) → length (block_of t j) ≡ count_of t.fixed * (t.layers + 1)
block_length t j =
    lines_length (choice_row t j) (t.layers + 1) (count_of t.fixed)
    (λ x. lines_length (λ place. choice_toward t j x place ∷ []) 1 (t.layers + 1) (λ place. refl) ∙ one (t.layers + 1))
  where
    one : (n : ℕ) → n * 1 ≡ n
    one n = omega arith

none_taken : (kinds : List Kind) → count_by ejects (take 0 kinds) ≡ 0
none_taken [] = refl
none_taken (kind ∷ kinds) = refl

-- those to the ejection channels below n
blocks_length : (t : ChoosingText) (n : ℕ) → n ≤ count_of t.fixed
    → length (first_lines (block_toward t) n) ≡ count_by ejects (take n t.fixed.table.kinds) * (count_of t.fixed * (t.layers + 1))
blocks_length t zero low =
    let w : ℕ = count_of t.fixed * (t.layers + 1) in
    let none : length (first_lines (block_toward t) 0) ≡ 0 = refl in
    let counted : count_by ejects (take 0 t.fixed.table.kinds) * w ≡ 0 * w = ap (λ z. z * w) (none_taken t.fixed.table.kinds) in
    omega arith
blocks_length t (suc n) low =
    let kinds = t.fixed.table.kinds in
    let w : ℕ = count_of t.fixed * (t.layers + 1) in
    let e : suc n ≡ n + 1 = omega arith in
    let before = blocks_length t n (omega arith) in
    let both = length-append (first_lines (block_toward t) n) (block_toward t n) in
    let more = ap length (first_lines-more (block_toward t) n) in
    let all = ap (λ m. length (first_lines (block_toward t) m)) e in
    let counted = ap (λ m. count_by ejects (take m kinds) * w) e in
    elim (cases_Bool (is_receiver (slice_get kinds n))) [
      | inl is ↦ (let here : length (block_toward t n) ≡ w = ap (λ b. length (if b then block_of t n else [])) is ∙ block_length t n in
          let one = count_more kinds n (count_by ejects (take n kinds)) (omega arith) (ap not is) refl in
          let c : ℕ = count_by ejects (take n kinds) in
          let next : count_by ejects (take (n + 1) kinds) * w ≡ suc c * w = ap (λ z. z * w) (sym one ∙ (let s : c + 1 ≡ suc c = omega arith in s)) in
          let sum : suc c * w ≡ c * w + w = suc-mul c w in
          omega arith)
      | inr other ↦ (let here : length (block_toward t n) ≡ 0 = ap (λ b. length (if b then block_of t n else [])) other in
          let same = count_same kinds n (count_by ejects (take n kinds)) (omega arith) (ap not other) refl in
          let next : count_by ejects (take (n + 1) kinds) * w ≡ count_by ejects (take n kinds) * w = ap (λ z. z * w) (sym same) in
          omega arith)
    ]

pub choices_length : (t : ChoosingText) → length (choice_list t) ≡ count_by ejects t.fixed.table.kinds * (count_of t.fixed * (t.layers + 1))
choices_length t =
    blocks_length t (count_of t.fixed) (omega arith)
    ∙ ap (λ ks. count_by ejects ks * (count_of t.fixed * (t.layers + 1))) (take_all (count_of t.fixed) t.fixed.table.kinds (omega arith))
