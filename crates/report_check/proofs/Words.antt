-- The `word` lines go on.
use Rattle.std.proofs.Common.{◌≡◌, ℕ, zero, suc, ◌+◌, ◌<◌, ◌≤◌, true, List, [], ◌∷◌, ◌++◌, length, map, filter, get_or, slice_index, refl, sym, ap, subst}
use Rattle.std.proofs.Common.{◌∙◌, arith, append_assoc, ⊎_elim}
use Rattle.std.specs.List.{enumerate_from}
use Rattle.std.proofs.lemmas.Bool.{cases_lt}
use Rattle.std.proofs.lemmas.List.{length_push}
use Rattle.std.proofs.lemmas.List.Sums.{fold_push}
use Rattle.report_lines.specs.declared.line.EntryLine.{EntryLine}
use Rattle.report_lines.specs.declared.line.AnswerLine.{AnswerLine}
use Rattle.report_lines.specs.declared.line.ReportLine.{ReportLine}
use Rattle.report_lines.specs.declared.line.ReportLine.TheVariants.{Word}
use Rattle.report_check.specs.Seen.{above_last, has_newer}
use Rattle.report_check.specs.Good.{ToldBelow}
use Rattle.report_check.proofs.Going.{GoesOn, seen_at}
use Rattle.report_check.proofs.SetWords.{is_set, set_kept}

-- the words from an address on, behind those in front, which are told
pub record Tells (w address : ℕ) (m told front words : List ℕ) : Type 0 where
  pub at : length front ≡ address
  pub size : address + length words ≡ w
  pub are : front ++ words ≡ m
  pub rises : above_last told ≤ address
  pub below : ToldBelow told m address

-- what follows the `word` lines goes on
abbrev pub BehindWords : ℕ → ℕ → ℕ → List ℕ → List ℕ → List EntryLine → List AnswerLine → List ReportLine → Type 0
BehindWords v t w m ins es ans rest = (n : ℕ) (told : List ℕ) → 2 ≤ n → n ≤ 6 → ToldBelow told m w → GoesOn (seen_at n v t w m ins es ans told []) rest

abbrev word_of : ℕ × ℕ → ReportLine
word_of p = Word p.0 p.1

at_front : (front words : List ℕ) (x : ℕ) → get_or (front ++ x ∷ words) (length front) 0 ≡ x
at_front [] words x = refl
at_front (y ∷ front) words x = at_front front words x

word_at : (front words m : List ℕ) (x address : ℕ) → length front ≡ address → front ++ x ∷ words ≡ m → slice_index m address ≡ x
word_at front words m x address at are =
    ap (λ (k : List ℕ). slice_index k address) (sym are) ∙ ap (λ a. get_or (front ++ x ∷ words) a 0) (sym at) ∙ at_front front words x

below_zero : (told m : List ℕ) (address : ℕ) → ToldBelow told m address → slice_index m address ≡ 0 → ToldBelow told m (address + 1)
below_zero told m address below zero_here k low high =
    ⊎_elim
    (λ (less : k < address). below k low less)
    (λ (more : address ≤ k). let here : k ≡ address = omega (arith, more, high) in ap (slice_index m) here ∙ zero_here)
    (cases_lt k address)

tells_zero : (w address : ℕ) (m told front words : List ℕ) → Tells w address m told front (0 ∷ words) → Tells w (address + 1) m told (front ++ 0 ∷ []) words
tells_zero w address m told front words o =
    record {
      at = omega (arith, length_push front 0, o.at);
      size = omega (arith, o.size);
      are = append_assoc front (0 ∷ []) words ∙ o.are;
      rises = omega (arith, o.rises);
      below = below_zero told m address o.below (word_at front words m 0 address o.at o.are);
    }

tells_set : (w address x : ℕ) (m told front words : List ℕ) → Tells w address m told front (x ∷ words)
    → Tells w (address + 1) m (told ++ address ∷ []) (front ++ x ∷ []) words
tells_set w address x m told front words o =
    let last : above_last (told ++ address ∷ []) ≡ address + 1 = fold_push {A = ℕ} {B = ℕ} (λ _ k. k + 1) 0 told address in
    record {
      at = omega (arith, length_push front x, o.at);
      size = omega (arith, o.size);
      are = append_assoc front (x ∷ []) words ∙ o.are;
      rises = omega (arith, last);
      below = λ k low high. absurd (omega (arith, last, low, high));
    }

pub words_on : (v t w n : ℕ) (m ins : List ℕ) (es : List EntryLine) (ans : List AnswerLine) (told : List ℕ) (address : ℕ) (front words : List ℕ)
    (rest : List ReportLine) → 2 ≤ n → n ≤ 6 → (v ≡ 2 → has_newer es ≡ true) → Tells w address m told front words → BehindWords v t w m ins es ans rest
    → GoesOn (seen_at n v t w m ins es ans told []) (map word_of (filter is_set (enumerate_from address words)) ++ rest)
words_on v t w n m ins es ans told address front [] rest low high newer o on =
    on n told low high (λ k least most. o.below k least (omega (arith, most, o.size)))
words_on v t w n m ins es ans told address front (zero ∷ words) rest low high newer o on =
    words_on v t w n m ins es ans told (address + 1) (front ++ 0 ∷ []) words rest low high newer (tells_zero w address m told front words o) on
words_on v t w n m ins es ans told address front (suc x ∷ words) rest low high newer o on =
    subst (λ ps. GoesOn (seen_at n v t w m ins es ans told []) (map word_of ps ++ rest)) (sym (set_kept address x (enumerate_from (address + 1) words))) (
      record {
        section = record { section = record { shaped = low; early = high }; newer = newer };
        rises = o.rises;
        inside = omega (arith, o.size);
        is = word_at front words m (suc x) address o.at o.are;
        not_zero = omega arith;
        none_left = o.below;
      },
      words_on v t w 6 m ins es ans (told ++ address ∷ []) (address + 1) (front ++ suc x ∷ []) words rest (omega arith) (omega arith) newer
          (tells_set w address (suc x) m told front words o) on,
    )
