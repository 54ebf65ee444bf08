-- The columns of ejection channels.
use Rattle.std.proofs.Common.{◌≡◌, inl, inr, ℕ, zero, suc, ◌+◌, ◌-◌, ◌<◌, ◌≤◌, true, false, Some, List, [], ◌∷◌, ◌++◌, length, get_or, take, refl, sym, ◌∙◌}
use Rattle.std.proofs.Common.{ap, subst, arith}
use Rattle.std.specs.List.{count_by}
use Rattle.std.proofs.lemmas.Bool.{cases_lt, cases_order, cases_Bool}
use Rattle.std.proofs.lemmas.List.{take_all, length_push, get_or_push, get_or_append_left}
use Rattle.std.proofs.lemmas.List.Sums.{count_by_more_yes, count_by_more_no}
use Rattle.std.proofs.lemmas.Option.{slice_get_within, slice_get-get_or}
use Rattle.std.specs.Prelude.{slice_get, slice_index}
use Rattle.network_judge.specs.declared.table.Kind.{Kind}
use Rattle.network_judge.specs.declared.table.Kind.TheVariants.{Injection, Hop, Ejection}
use Rattle.network_judge.specs.Table.{ejects}
use Rattle.network_judge.specs.Columns.{IsColumnEnd, AreColumnEnds}

-- the ejection channels before the first n channels grow in number
grows : (kinds : List Kind) (m d n : ℕ) → n ≡ m + d → n ≤ length kinds → count_by ejects (take m kinds) ≤ count_by ejects (take n kinds)
grows kinds m zero n e low = let same : n ≡ m = omega arith in
    let z : count_by ejects (take n kinds) ≡ count_by ejects (take m kinds) = ap (λ k. count_by ejects (take k kinds)) same in omega arith
grows kinds m (suc d) zero e low = absurd (omega arith)
grows kinds m (suc d) (suc n) e low =
    let before = grows kinds m d n (omega arith) (omega arith) in
    let one : suc n ≡ n + 1 = omega arith in
    let here : count_by ejects (take (suc n) kinds) ≡ count_by ejects (take (n + 1) kinds) = ap (λ k. count_by ejects (take k kinds)) one in
    elim (cases_Bool (ejects (get_or kinds n Hop))) [
      | inl e ↦ (let more = count_by_more_yes ejects kinds n Hop (omega arith) e in omega arith)
      | inr e ↦ (let more = count_by_more_no ejects kinds n Hop (omega arith) e in omega arith)
    ]

-- at an ejection channel one more
at_end : (kinds : List Kind) (j : ℕ) → slice_get kinds j ≡ Some Ejection
    → count_by ejects (take (j + 1) kinds) ≡ count_by ejects (take j kinds) + 1
at_end kinds j e =
    let low : j < length kinds = slice_get_within kinds j Ejection e in
    let both : Some (get_or kinds j Hop) ≡ Some Ejection = sym (slice_get-get_or kinds j Hop low) ∙ e in
    let kind : get_or kinds j Hop ≡ Ejection = cc in
    count_by_more_yes ejects kinds j Hop low (ap ejects kind)

-- the number of columns, as it is read
pub width_is : (kinds : List Kind) (ends : List ℕ) (n width : ℕ) → AreColumnEnds kinds ends → n ≡ length ends → width ≡ n
    → width ≡ count_by ejects kinds
width_is kinds ends n width r e f = f ∙ (e ∙ r.size)

-- the column of an ejection channel is one of the columns
pub column_low : (kinds : List Kind) (j : ℕ) → slice_get kinds j ≡ Some Ejection → count_by ejects (take j kinds) < count_by ejects kinds
column_low kinds j e =
    let low : j < length kinds = slice_get_within kinds j Ejection e in
    let here = at_end kinds j e in
    let more = grows kinds (j + 1) (length kinds - (j + 1)) (length kinds) (omega arith) (omega arith) in
    let all : count_by ejects (take (length kinds) kinds) ≡ count_by ejects kinds = ap (count_by ejects) (take_all (length kinds) kinds (omega arith)) in
    omega arith

-- no two ejection channels have one column
pub one_column : (kinds : List Kind) (j k : ℕ) → slice_get kinds j ≡ Some Ejection → slice_get kinds k ≡ Some Ejection
    → count_by ejects (take j kinds) ≡ count_by ejects (take k kinds) → j ≡ k
one_column kinds j k e f same =
    elim (cases_order j k) [
      | inl one ↦ one
      | inr apart ↦ elim apart [
        | inl less ↦ absurd (below j k e f less same)
        | inr more ↦ absurd (below k j f e more (sym same))
      ]
    ]
  where
    below : (a b : ℕ) → slice_get kinds a ≡ Some Ejection → slice_get kinds b ≡ Some Ejection → a < b
        → count_by ejects (take a kinds) ≡ count_by ejects (take b kinds) → ⊥
    below a b e f less same =
        let low : b < length kinds = slice_get_within kinds b Ejection f in
        let here = at_end kinds a e in
        let more = grows kinds (a + 1) (b - (a + 1)) b (omega arith) (omega arith) in
        omega arith

-- the ejection channels of the columns of the first x channels
pub record AreEndsTo (kinds : List Kind) (x : ℕ) (ends : List ℕ) : Type 0 where
  pub size : length ends ≡ count_by ejects (take x kinds)
  pub each : (c : ℕ) → c < length ends → IsColumnEnd kinds c (slice_index ends c)

-- one channel more, which is an ejection channel
pub ends_more : (kinds : List Kind) (ends : List ℕ) (x : ℕ) (d : Kind) → AreEndsTo kinds x ends → x < length kinds
    → ejects (get_or kinds x d) ≡ true → AreEndsTo kinds (x + 1) (ends ++ x ∷ [])
ends_more kinds ends x d r low e =
    let more = count_by_more_yes ejects kinds x d low e in
    let size = r.size in
    let long : length (ends ++ x ∷ []) ≡ length ends + 1 = length_push ends x in
    let kind : slice_get kinds x ≡ Some Ejection = slice_get-get_or kinds x d low ∙ ap (λ z. Some z) (ejection (get_or kinds x d) e) in
    record {
      size = omega arith;
      each = λ c l. elim (cases_lt c (length ends)) [
        | inl less ↦ subst (λ z. IsColumnEnd kinds c z) (sym (get_or_append_left ends (x ∷ []) 0 c less)) (r.each c less)
        | inr high ↦ (let same : length ends ≡ c = omega arith in
            subst (λ z. IsColumnEnd kinds z (slice_index (ends ++ x ∷ []) z)) same
            (subst (λ z. IsColumnEnd kinds (length ends) z) (sym (get_or_push ends x 0 (length ends) refl))
            (record { kind = kind; column = sym size })))
      ];
    }
  where
    ejection : (k : Kind) → ejects k ≡ true → k ≡ Ejection
    ejection Injection e = cc
    ejection Hop e = cc
    ejection Ejection e = refl

-- one channel more, which isn't
pub ends_same : (kinds : List Kind) (ends : List ℕ) (x : ℕ) (d : Kind) → AreEndsTo kinds x ends → x < length kinds
    → ejects (get_or kinds x d) ≡ false → AreEndsTo kinds (x + 1) ends
ends_same kinds ends x d r low e =
    let same = count_by_more_no ejects kinds x d low e in
    record { size = r.size ∙ sym same; each = r.each }
