-- What became of the scripts, with one processor more.
use Rattle.std.proofs.Common.{◌≡◌, ◌⊎◌, inl, inr, ℕ, zero, suc, ◌+◌, ◌<◌, List, [], ◌∷◌, ◌++◌, length, map, drop, get_or, slice_get, Some, None, refl, sym, ◌∙◌, ap, arith, Bor}
use Rattle.std.specs.Prelude.{Bool, if◌then◌else◌}
use Rattle.std.proofs.lemmas.List.{append-nil, append_assoc, drop_more}
use Rattle.std.proofs.lemmas.Option.{get_or_from_slice_get, slice_get_within}
use Rattle.script_lines.specs.declared.line.Line.{Line}
use Rattle.one_order.specs.declared.answer.Answer.{Answer}
use Rattle.sentences.specs.declared.spins.SpentSpin.{SpentSpin}
use Rattle.sentences.specs.declared.scripts.EndedSpin.{EndedSpin}
use Rattle.sentences.specs.Answered.{are_answered}
use Rattle.sentences.specs.Ended.{ended_spin, spins_from, unfinished_in}
use Rattle.sentences.specs.Replies.{replies_in}
use Rattle.sentences.specs.Texts.{spent_lines}

-- the answers of each processor
abbrev pub own_answers : List (Bor (List Answer)) → List (List Answer)
own_answers rows = map (λ own. own.now) rows

-- what is left of a list, from an element on that is there
left_from : {X : Type 0} (xs : List X) (k : ℕ) (x : X) → slice_get xs k ≡ Some x → drop k xs ≡ x ∷ drop (k + 1) xs
left_from {X} xs k x h =
    drop_more xs k x (slice_get_within xs k x h) ∙ ap (λ (y : X). y ∷ drop (k + 1) xs) (get_or_from_slice_get xs k x x h)

-- nothing is left
pub none_left : {X : Type 0} (xs : List X) (k : ℕ) → slice_get xs k ≡ None → drop k xs ≡ []
none_left [] zero h = refl
none_left [] (suc k) h = refl
none_left (x ∷ xs) zero h = absurd (let e : Some x ≡ None = h in cc)
none_left (x ∷ xs) (suc k) h = none_left xs k h

-- processors without scripts
no_spins : (p : ℕ) (text : List (List ℕ)) (answers : List (List Answer)) → spins_from p text answers [] ≡ []
no_spins p text [] = refl
no_spins p text (own ∷ answers) = refl

none_unfinished : (answers : List (List Answer)) → unfinished_in answers [] ≡ 0
none_unfinished [] = refl
none_unfinished (own ∷ answers) = refl

-- no processor is left
pub spins_end : (found whole : List EndedSpin) (p : ℕ) (text : List (List ℕ)) (answers : List (List Answer)) (lists : List (List Line))
    → (answers ≡ []) ⊎ (lists ≡ []) → found ++ spins_from p text answers lists ≡ whole → found ≡ whole
spins_end found whole p text answers lists (inl none) is =
    sym (ap (λ (xs : List (List Answer)). found ++ spins_from p text xs lists) none ∙ append-nil found) ∙ is
spins_end found whole p text answers lists (inr none) is =
    sym (ap (λ (ls : List (List Line)). found ++ spins_from p text answers ls) none
    ∙ (ap (λ (xs : List EndedSpin). found ++ xs) (no_spins p text answers) ∙ append-nil found))
    ∙ is

pub unfinished_end : (count whole : ℕ) (answers : List (List Answer)) (lists : List (List Line)) → (answers ≡ []) ⊎ (lists ≡ [])
    → count + unfinished_in answers lists ≡ whole → count ≡ whole
unfinished_end count whole answers lists (inl none) is =
    let zero_left : unfinished_in answers lists ≡ 0 = ap (λ (xs : List (List Answer)). unfinished_in xs lists) none in
    omega (arith, zero_left, is)
unfinished_end count whole answers lists (inr none) is =
    let zero_left : unfinished_in answers lists ≡ 0 = ap (λ (ls : List (List Line)). unfinished_in answers ls) none ∙ none_unfinished answers in
    omega (arith, zero_left, is)

module _ (p i : ℕ) (text : List (List ℕ)) (rows : List (Bor (List Answer))) (lists : List (List Line)) (d : Bor (List Answer)) (script : List Line)
    (inside : i < length rows) (there : slice_get lists p ≡ Some script) where
  abbrev own : Bor (List Answer)
  own = get_or rows i d

  row_at : drop i rows ≡ own ∷ drop (i + 1) rows
  row_at = drop_more rows i d inside

  list_at : drop p lists ≡ script ∷ drop (p + 1) lists
  list_at = left_from lists p script there

  -- the spins of the processor are added
  pub spins_more : (old new whole : List EndedSpin) (spins : List SpentSpin) → new ≡ old ++ map (ended_spin p) spins → spins ≡ spent_lines p text script own.now
      → old ++ spins_from p text (own_answers (drop i rows)) (drop p lists) ≡ whole
      → new ++ spins_from (p + 1) text (own_answers (drop (i + 1) rows)) (drop (p + 1) lists) ≡ whole
  spins_more old new whole spins grown is so_far =
      let rest : List EndedSpin = spins_from (p + 1) text (own_answers (drop (i + 1) rows)) (drop (p + 1) lists) in
      ap (λ (xs : List EndedSpin). xs ++ rest) grown
      ∙ (append_assoc old (map (ended_spin p) spins) rest
      ∙ (ap (λ (xs : List SpentSpin). old ++ (map (ended_spin p) xs ++ rest)) is
      ∙ (sym (ap (λ (xs : List (Bor (List Answer))). old ++ spins_from p text (own_answers xs) (script ∷ drop (p + 1) lists)) row_at)
      ∙ (sym (ap (λ (ls : List (List Line)). old ++ spins_from p text (own_answers (drop i rows)) ls) list_at)
      ∙ so_far))))

  -- and its script, if that isn't finished
  pub unfinished_more : (old more new whole : ℕ) (b : Bool) → b ≡ are_answered script (replies_in own.now) → more ≡ (if b then 0 else 1) → new ≡ old + more
      → old + unfinished_in (own_answers (drop i rows)) (drop p lists) ≡ whole
      → new + unfinished_in (own_answers (drop (i + 1) rows)) (drop (p + 1) lists) ≡ whole
  unfinished_more old more new whole b is one grown so_far =
      let rest : ℕ = unfinished_in (own_answers (drop (i + 1) rows)) (drop (p + 1) lists) in
      let counted : more ≡ (if are_answered script (replies_in own.now) then 0 else 1) = one ∙ ap (λ (x : Bool). if x then 0 else 1) is in
      let moved : new + rest ≡ old + (more + rest) = omega (arith, grown) in
      moved
      ∙ (ap (λ (n : ℕ). old + (n + rest)) counted
      ∙ (sym (ap (λ (xs : List (Bor (List Answer))). old + unfinished_in (own_answers xs) (script ∷ drop (p + 1) lists)) row_at)
      ∙ (sym (ap (λ (ls : List (List Line)). old + unfinished_in (own_answers (drop i rows)) ls) list_at)
      ∙ so_far)))
