-- Lists that are made place by place: what stands where, the places of zeros, flags and numbers.
use Rattle.std.proofs.Common.{◌≡◌, ◌≢◌, inl, inr, ℕ, suc, ◌+◌, ◌<◌, ◌≤◌, not, Bool, true, false, List, [], ◌∷◌, ◌++◌, length, set, take, replicate, refl, sym, ◌∙◌, ap, subst, arith, eq-eqb}
use Rattle.std.specs.Prelude.{slice_index, ◌==◌}
use Rattle.std.proofs.lemmas.Bool.{cases_eq, cases_lt, ne_eqb}
use Rattle.std.proofs.lemmas.List.{get_or-set_same, get_or-set_other, length-set, length_push, get_or_push, get_or_append_left, length-replicate, get_or-replicate, get_or_past, take_all, length-take-le}
use Rattle.std.proofs.lemmas.List.Sums.{count_by_more_yes, count_by_more_no, count_by-le-length}
use Rattle.network_judge.specs.Marks.{is_marked_at}
use Rattle.dead_sets.specs.Peeling.{not_zero, AreCounts, AreZeros}
use Rattle.dead_sets.specs.Numbers.{AreFlagsOfLeft, AreNumbers}

-- the numbers at the first places of a list are counted
pub counts_begin : (count : ℕ) (list counts : List ℕ) → counts ≡ replicate count 0 → AreCounts count (take 0 list) counts
counts_begin count list counts e = record {
  size = ap length e ∙ length-replicate count 0;
  each = λ x low. ap (λ (v : List ℕ). slice_index v x) e ∙ get_or-replicate count x 0 0 low;
}

pub counts_more : (count : ℕ) (list counts : List ℕ) (k x v : ℕ) → k < length list → slice_index list k ≡ x → x < count
    → v ≡ slice_index counts x + 1 → AreCounts count (take k list) counts → AreCounts count (take (k + 1) list) (set counts x v)
counts_more count list counts k x v low is inside e a = record {
  size = length-set counts x v ∙ a.size;
  each = λ z less. elim (cases_eq z x) [
    | inl same ↦
        let n = a.size in
        let now : slice_index (set counts x v) z ≡ v = ap (slice_index (set counts x v)) same ∙ get_or-set_same counts x v 0 (omega arith) in
        let one = count_by_more_yes (λ o. o == z) list k 0 low (eq-eqb (slice_index list k) z (is ∙ sym same)) in
        let was = a.each z less in
        let f = ap (slice_index counts) same in
        omega (arith, now, one, was, f)
    | inr apart ↦
        let none = count_by_more_no (λ o. o == z) list k 0 low (ne_eqb (slice_index list k) z (λ f. apart (sym f ∙ is))) in
        get_or-set_other counts x z v 0 apart ∙ (a.each z less ∙ sym none)
  ];
}

pub counts_few : (count : ℕ) (list counts : List ℕ) (k x : ℕ) → k ≤ length list → x < count → AreCounts count (take k list) counts → slice_index counts x ≤ k
counts_few count list counts k x low inside a =
    let e = a.each x inside in
    let few = count_by-le-length (λ o. o == x) (take k list) in
    let size = length-take-le k list low in
    omega (arith, e, few, size)

pub counts_end : (count : ℕ) (list counts : List ℕ) (k : ℕ) → length list ≤ k → AreCounts count (take k list) counts → AreCounts count list counts
counts_end count list counts k high a = subst (λ (v : List ℕ). AreCounts count v counts) (take_all k list high) a

-- the places below m where 0 stands
pub record AreZerosSo (left : List ℕ) (m : ℕ) (order : List ℕ) : Type 0 where
  pub zero : (k : ℕ) → k < length order → slice_index left (slice_index order k) ≡ 0
  pub low : (k : ℕ) → k < length order → slice_index order k < m
  pub all : (x : ℕ) → x < m → slice_index left x ≡ 0 → (k : ℕ) × (k < length order) × (slice_index order k ≡ x)
  pub few : not_zero (take m left) + length order ≤ m

pub zeros_begin : (left : List ℕ) → AreZerosSo left 0 []
zeros_begin left = record { zero = λ k low. absurd (omega arith); low = λ k low. absurd (omega arith); all = λ x low. absurd (omega arith); few = omega arith }

pub zeros_skip : (left : List ℕ) (x m : ℕ) (order : List ℕ) → m ≡ suc x → x < length left → slice_index left x ≢ 0 → AreZerosSo left x order
    → AreZerosSo left m order
zeros_skip left x m order e inside some a = record {
  zero = a.zero;
  low = λ k low. (let l = a.low k low in omega arith);
  all = λ z low none. elim (cases_eq z x) [
    | inl same ↦ absurd (some (ap (slice_index left) (sym same) ∙ none))
    | inr apart ↦ a.all z (omega arith) none
  ];
  few = (let one = count_by_more_yes (λ l. not (l == 0)) left x 0 inside (ap not (ne_eqb (slice_index left x) 0 some)) in
      let f = a.few in
      subst (λ z. not_zero (take z left) + length order ≤ z) (let g : x + 1 ≡ m = omega arith in g) (omega (arith, one, f)));
}

pub zeros_put : (left : List ℕ) (x m : ℕ) (order new : List ℕ) → m ≡ suc x → x < length left → slice_index left x ≡ 0 → new ≡ order ++ x ∷ []
    → AreZerosSo left x order → AreZerosSo left m new
zeros_put left x m order new e inside none f a =
    let n = length_push order x in
    subst (λ (v : List ℕ). AreZerosSo left m v) (sym f) (record {
      zero = λ k low. elim (cases_lt k (length order)) [
        | inl less ↦ ap (slice_index left) (get_or_append_left order (x ∷ []) 0 k less) ∙ a.zero k less
        | inr high ↦ (let here : length order ≡ k = omega arith in ap (slice_index left) (get_or_push order x 0 k here) ∙ none)
      ];
      low = λ k low. elim (cases_lt k (length order)) [
        | inl less ↦ (let g = get_or_append_left order (x ∷ []) 0 k less in let l = a.low k less in omega arith)
        | inr high ↦ (let here : length order ≡ k = omega arith in let g = get_or_push order x 0 k here in omega arith)
      ];
      all = λ z low zero. elim (cases_eq z x) [
        | inl same ↦ (length order, omega arith, get_or_push order x 0 (length order) refl ∙ sym same)
        | inr apart ↦ (let r = a.all z (omega arith) zero in let l = r.1 in
            (r.0, omega arith, get_or_append_left order (x ∷ []) 0 r.0 l ∙ r.2))
      ];
      few = (let one = count_by_more_no (λ l. not (l == 0)) left x 0 inside (ap not (eq-eqb (slice_index left x) 0 none)) in
          let g = a.few in
          subst (λ z. not_zero (take z left) + length (order ++ x ∷ []) ≤ z) (let h : x + 1 ≡ m = omega arith in h) (omega (arith, one, g, n)));
    })

pub zeros_end : (left : List ℕ) (m : ℕ) (order : List ℕ) → m ≡ length left → AreZerosSo left m order
    → AreZeros left order × (not_zero left + length order ≤ length left)
zeros_end left m order e a = (
  record { zero = a.zero; low = λ k low. (let l = a.low k low in omega arith); all = λ x low none. a.all x (omega arith) none },
  (let f = a.few in let whole = ap not_zero (take_all m left (omega arith)) in omega (arith, f, whole)),
)

-- the flags of the places below m
pub record AreFlagsSo (left : List ℕ) (m : ℕ) (flags : List Bool) : Type 0 where
  pub size : length flags ≡ m
  pub up : (x : ℕ) → x < m → slice_index left x ≢ 0 → is_marked_at flags x ≡ true
  pub only : (x : ℕ) → is_marked_at flags x ≡ true → (x < m) × (slice_index left x ≢ 0)

pub flags_begin : (left : List ℕ) → AreFlagsSo left 0 []
flags_begin left = record { size = refl; up = λ x low. absurd (omega arith); only = λ x up. (let bad : false ≡ true = up in absurd (cc)) }

zero_down : (l : ℕ) → l ≡ 0 → not (l == 0) ≡ false
zero_down l e = ap not (eq-eqb l 0 e)

some_up : (l : ℕ) → l ≢ 0 → not (l == 0) ≡ true
some_up l e = ap not (ne_eqb l 0 e)

up_some : (l : ℕ) → not (l == 0) ≡ true → l ≢ 0
up_some l e z = let d = zero_down l z in let bad : true ≡ false = sym e ∙ d in cc

pub flags_more : (left : List ℕ) (x m : ℕ) (flags new : List Bool) → m ≡ suc x → new ≡ flags ++ not (slice_index left x == 0) ∷ []
    → AreFlagsSo left x flags → AreFlagsSo left m new
flags_more left x m flags new e f a =
    let b : Bool = not (slice_index left x == 0) in
    let n = length_push flags b in
    let size = a.size in
    let here : is_marked_at (flags ++ b ∷ []) x ≡ b = get_or_push flags b false x size in
    subst (λ (v : List Bool). AreFlagsSo left m v) (sym f) (record {
      size = omega arith;
      up = λ z low some. elim (cases_eq z x) [
        | inl same ↦ ap (is_marked_at (flags ++ b ∷ [])) same ∙ (here ∙ some_up (slice_index left x) (λ g. some (ap (slice_index left) same ∙ g)))
        | inr apart ↦ get_or_append_left flags (b ∷ []) false z (omega arith) ∙ a.up z (omega arith) some
      ];
      only = λ z up. elim (cases_lt z x) [
        | inl less ↦ (let r = a.only z (sym (get_or_append_left flags (b ∷ []) false z (omega arith)) ∙ up) in let l = r.0 in (omega arith, r.1))
        | inr high ↦ elim (cases_eq z x) [
          | inl same ↦ (omega arith, λ g. up_some (slice_index left x) (sym here ∙ (ap (is_marked_at (flags ++ b ∷ [])) (sym same) ∙ up)) (ap (slice_index left) (sym same) ∙ g))
          | inr apart ↦ (let past = get_or_past (flags ++ b ∷ []) z false (omega arith) in let bad : true ≡ false = sym up ∙ past in absurd (cc))
        ]
      ];
    })

pub flags_end : (left : List ℕ) (m : ℕ) (flags : List Bool) → m ≡ length left → AreFlagsSo left m flags → AreFlagsOfLeft left flags
flags_end left m flags e a = record {
  size = a.size ∙ e;
  up = λ x low some. a.up x (omega arith) some;
  only = λ x up. (let r = a.only x up in let l = r.0 in (omega arith, r.1));
}

-- the channels from place p on have numbers
pub record AreNumbersSo (count : ℕ) (order : List ℕ) (p : ℕ) (numbers : List ℕ) : Type 0 where
  pub size : length numbers ≡ count
  pub low : (x : ℕ) → x < count → slice_index numbers x < count
  pub first : (k : ℕ) → p ≤ k → k < length order → (m : ℕ) × (m < length order) × (slice_index order m ≡ slice_index order k)
      × (slice_index numbers (slice_index order k) + (m + 1) ≡ count)
  pub least : (k : ℕ) → p ≤ k → k < length order → count ≤ slice_index numbers (slice_index order k) + (k + 1)
  pub inside : p ≤ length order

pub numbers_begin : (count : ℕ) (order numbers : List ℕ) → numbers ≡ replicate count 0 → AreNumbersSo count order (length order) numbers
numbers_begin count order numbers e = record {
  size = ap length e ∙ length-replicate count 0;
  low = λ x low. (let f : slice_index numbers x ≡ 0 = ap (λ (v : List ℕ). slice_index v x) e ∙ get_or-replicate count x 0 0 low in omega arith);
  first = λ k high low. absurd (omega arith);
  least = λ k high low. absurd (omega arith);
  inside = omega arith;
}

pub numbers_more : (count : ℕ) (order numbers : List ℕ) (p q x v : ℕ) → p ≡ suc q → slice_index order q ≡ x → x < count → length order ≤ count
    → v + (q + 1) ≡ count → AreNumbersSo count order p numbers → AreNumbersSo count order q (set numbers x v)
numbers_more count order numbers p q x v e is inside few f a =
    let i = a.inside in
    let s = a.size in
    let now : slice_index (set numbers x v) x ≡ v = get_or-set_same numbers x v 0 (omega arith) in
    record {
      size = length-set numbers x v ∙ a.size;
      low = λ z low. elim (cases_eq z x) [
        | inl same ↦ (let g = ap (slice_index (set numbers x v)) same in omega arith)
        | inr apart ↦ (let g = get_or-set_other numbers x z v 0 apart in let l = a.low z low in omega arith)
      ];
      first = λ k high low. elim (cases_eq (slice_index order k) x) [
        | inl same ↦ (q, omega arith, is ∙ sym same, (let g = ap (slice_index (set numbers x v)) same in omega arith))
        | inr apart ↦ (let other : q ≢ k = λ w. apart (ap (slice_index order) (sym w) ∙ is) in
            let r = a.first k (omega arith) low in
            let g = get_or-set_other numbers x (slice_index order k) v 0 apart in let h = r.3 in
            (r.0, r.1, r.2, omega arith))
      ];
      least = λ k high low. elim (cases_eq (slice_index order k) x) [
        | inl same ↦ (let g = ap (slice_index (set numbers x v)) same in omega arith)
        | inr apart ↦ (let other : q ≢ k = λ w. apart (ap (slice_index order) (sym w) ∙ is) in
            let r = a.least k (omega arith) low in
            let g = get_or-set_other numbers x (slice_index order k) v 0 apart in omega arith)
      ];
      inside = omega arith;
    }

pub numbers_end : (count : ℕ) (order numbers : List ℕ) (p : ℕ) → p ≡ 0 → AreNumbersSo count order p numbers → AreNumbers count order numbers
numbers_end count order numbers p e a = record {
  size = a.size;
  low = a.low;
  first = λ k low. a.first k (omega arith) low;
  least = λ k low. a.least k (omega arith) low;
}
