-- The counts of operations, and what is true of accepted scripts, when a line is added.
use Rattle.std.proofs.Common.{◌≡◌, ◌≢◌, ℕ, suc, zero, ◌+◌, ◌<◌, ◌≤◌, true, List, [], ◌∷◌, ◌++◌, length, take, get_or, replicate, sym, ◌∙◌, ap, refl, inl, inr}
use Rattle.std.proofs.Common.{arith, subst, Some, ◌⊎◌}
use Rattle.std.specs.Prelude.{slice_set, slice_get, slice_index}
use Rattle.std.proofs.lemmas.List.{get_or-set_same, get_or-set_other, length-set, take-append-le, take_at, length-append, length-replicate, get_or-replicate}
use Rattle.std.proofs.lemmas.List.Sums.{sum_by_push, sum_by-set}
use Rattle.std.proofs.lemmas.List.Folds.{sum_by-replicate}
use Rattle.std.proofs.lemmas.Option.{slice_get_within, slice_get-get_or, get_or_from_slice_get}
use Rattle.std.proofs.Math.ListN.{get_or-append}
use Rattle.std.proofs.Math.Seq.{get_or-append_seam}
use Rattle.std.proofs.lemmas.Bool.{cases_eq}
use Rattle.script_lines.specs.declared.line.Line.{Line}
use Rattle.script_lines.specs.Lines.{operations_of, operation_count, total_count, script_of, mentions_last, IsAcceptedLine, IsAcceptedScript}
use Rattle.script_lines.specs.Views.{AreCounted}

-- the line at a place of a list with one more
push_cases : (lines : List Line) (x line : Line) (i : ℕ) → slice_get (lines ++ x ∷ []) i ≡ Some line →
    ((i < length lines) × (slice_get lines i ≡ Some line)) ⊎ ((i ≡ length lines) × (line ≡ x))
push_cases lines x line i h =
    let within : i < length (lines ++ x ∷ []) = slice_get_within (lines ++ x ∷ []) i line h in
    let at : get_or (lines ++ x ∷ []) i x ≡ line = get_or_from_slice_get (lines ++ x ∷ []) i line x h in
    elim (cases_eq i (length lines)) [
      | inl last ↦ inr (last, sym at ∙ (rw last (get_or-append_seam lines x [] x)))
      | inr other ↦
          let low : i < length lines = omega (arith, length-append lines (x ∷ [])) in
          inl (low, slice_get-get_or lines i x low ∙ ap Some (sym (get_or-append lines (x ∷ []) x i low) ∙ at))
    ]

-- an accepted script with one more line
script_push : (words : ℕ) (lines : List Line) (x : Line) → IsAcceptedScript words lines → IsAcceptedLine words x →
    (mentions_last x ≡ true → 0 < operation_count lines) → operation_count lines + operations_of x ≤ 4096 → IsAcceptedScript words (lines ++ x ∷ [])
script_push words lines x h good later few = record {
  each = λ i line at. elim (push_cases lines x line i at) [
    | inl old ↦ h.each i line old.1
    | inr new ↦ subst (IsAcceptedLine words) (sym new.1) good
  ];
  lasts = λ i line at last. elim (push_cases lines x line i at) [
    | inl old ↦ let e : take i (lines ++ x ∷ []) ≡ take i lines = take-append-le i lines (x ∷ []) (omega arith) in
        let P : List Line → Type 0 = λ ls. 0 < operation_count ls in
        subst P (sym e) (h.lasts i line old.1 last)
    | inr new ↦ let e : take i (lines ++ x ∷ []) ≡ lines = take_at lines (x ∷ []) i (sym new.0) in
        let P : List Line → Type 0 = λ ls. 0 < operation_count ls in
        subst P (sym e) (later (sym (ap mentions_last new.1) ∙ last))
  ];
  count = omega (arith, sum_by_push operations_of lines x);
}

script_same : (lists : List (List Line)) (p : ℕ) (new : List Line) → p < length lists → script_of (slice_set lists p new) p ≡ new
script_same lists p new low = get_or-set_same lists p new [] low

script_other : (lists : List (List Line)) (p q : ℕ) (new : List Line) → q ≢ p → script_of (slice_set lists p new) q ≡ script_of lists q
script_other lists p q new other = get_or-set_other lists p q new [] other

-- scripts with one more line
pub counted_push : (words : ℕ) (lists : List (List Line)) (counts : List ℕ) (total p : ℕ) (x : Line) (count operations : ℕ) →
    AreCounted words lists counts total → p < length lists → IsAcceptedLine words x → count ≡ slice_index counts p → operations ≡ operations_of x →
    (mentions_last x ≡ true → 0 < count) → count + operations ≤ 4096 → total + operations ≤ 65536 →
    AreCounted words (slice_set lists p (script_of lists p ++ x ∷ [])) (slice_set counts p (count + operations)) (total + operations)
counted_push words lists counts total p x count operations h low good count_is operations_is later few all_few =
    let new : List Line = script_of lists p ++ x ∷ [] in
    let here : count ≡ operation_count (script_of lists p) = count_is ∙ h.each p low in
    let new_count : operation_count new ≡ count + operations = omega (arith, sum_by_push operations_of (script_of lists p) x) in
    let script : IsAcceptedScript words new =
    script_push words (script_of lists p) x (h.accepted.each p) good (λ e. let l = later e in omega arith) (omega arith) in
    let sums : total_count (slice_set lists p new) ≡ total + operations = omega (arith, sum_by-set operation_count lists p new [] low, h.all) in
    let roomy : p < length counts = omega (arith, h.room) in
    let long : length (slice_set lists p new) ≡ length lists = length-set lists p new in
    record {
      accepted = record {
        tiles = omega (arith, h.accepted.tiles);
        each = λ q. elim (cases_eq q p) [
          | inl same ↦ let e : script_of (slice_set lists p new) q ≡ new = ap (script_of (slice_set lists p new)) same ∙ script_same lists p new low in
              subst (IsAcceptedScript words) (sym e) script
          | inr other ↦ subst (IsAcceptedScript words) (sym (script_other lists p q new other)) (h.accepted.each q)
        ];
        total = omega (arith, sums);
      };
      room = length-set counts p (count + operations) ∙ h.room ∙ sym long;
      each = λ q inside. elim (cases_eq q p) [
        | inl same ↦
            ap (slice_index (slice_set counts p (count + operations))) same ∙ get_or-set_same counts p (count + operations) 0 roomy
            ∙ sym (ap (λ k. operation_count (script_of (slice_set lists p new) k)) same ∙ ap operation_count (script_same lists p new low) ∙ new_count)
        | inr other ↦
            get_or-set_other counts p q (count + operations) 0 other ∙ h.each q (omega arith)
            ∙ sym (ap operation_count (script_other lists p q new other))
      ];
      all = sym sums;
    }

-- as many scripts without lines
abbrev pub script_lists : ℕ → List (List Line)
script_lists n = replicate n []

abbrev zeros : ℕ → List ℕ
zeros n = replicate n 0

length-zeros : (n : ℕ) → length (zeros n) ≡ n
length-zeros n = length-replicate n 0

no_script : (n q : ℕ) → script_of (replicate n []) q ≡ []
no_script zero q = refl
no_script (suc n) zero = refl
no_script (suc n) (suc q) = no_script n q

empty_script : (words : ℕ) → IsAcceptedScript words []
empty_script words = record { each = λ i line at. absurd (cc); lasts = λ i line at last. absurd (cc); count = omega arith }

no_total : (n : ℕ) → total_count (replicate n []) ≡ 0
no_total n = sum_by-replicate operation_count n [] ∙ omega arith

length-none : (n : ℕ) → length (script_lists n) ≡ n
length-none n = length-replicate n []

-- at first no script has a line
pub counted_none : (words tiles : ℕ) → tiles ≤ 64 → AreCounted words (replicate tiles []) (replicate tiles 0) 0
counted_none words tiles few =
    let long : length (script_lists tiles) ≡ tiles = length-none tiles in
    record {
      accepted = record {
        tiles = omega arith;
        each = λ p. subst (IsAcceptedScript words) (sym (no_script tiles p)) (empty_script words);
        total = omega (arith, no_total tiles);
      };
      room = length-zeros tiles ∙ sym long;
      each = λ p low. get_or-replicate tiles p 0 0 (omega arith) ∙ sym (ap operation_count (no_script tiles p));
      all = sym (no_total tiles);
    }

pub counted_at_first : (words tiles : ℕ) (lists : List (List Line)) (counts : List ℕ) → tiles ≤ 64 → lists ≡ replicate tiles [] → counts ≡ replicate tiles 0
    → AreCounted words lists counts 0
counted_at_first words tiles lists counts few lists_are counts_are = rw (lists_are, counts_are) (counted_none words tiles few)
