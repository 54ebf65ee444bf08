-- Walks, a step at a time, and their marks.
use Rattle.std.proofs.Common.{◌≡◌, inl, inr, ℕ, suc, ◌+◌, ◌*◌, ◌<◌, Bool, true, false, Some, List, length, set, sym, ◌∙◌, ap, subst, arith}
use Rattle.std.proofs.lemmas.Bool.{cases_lt, cases_eq}
use Rattle.std.proofs.lemmas.List.{length-set, get_or-set_same, get_or-set_other}
use Rattle.std.proofs.lemmas.Option.{slice_get_within}
use Rattle.std.specs.Prelude.{slice_index}
use Rattle.network_judge.specs.declared.table.Kind.TheVariants.{Hop, Ejection}
use Rattle.network_judge.specs.Table.{Table, channels_of, columns_of, column_of, kind_of}
use Rattle.network_judge.specs.Columns.{AreColumns}
use Rattle.network_judge.specs.Ways.{place, IsUnderWay, IsWay}
use Rattle.network_judge.specs.Marks.{walk_cell, is_marked_at, IsTraced}
use Rattle.network_judge.proofs.Ends.{column_low}
use Rattle.network_judge.proofs.Places.{place_next}

-- the place of a step among the choices and the flags
pub cell_read : (t : Table) (columns : List ℕ) (width i j n k at m : ℕ) → AreColumns t.kinds columns → width ≡ columns_of t
    → IsUnderWay t i j n → at ≡ place t j i k → m ≡ at * width + slice_index columns j → m ≡ walk_cell t i j k
cell_read t columns width i j n k at m r wide u here e =
    let low : j < channels_of t = slice_get_within t.kinds j Ejection u.receiver in
    e
    ∙ (ap (λ z. z * width + slice_index columns j) here
    ∙ (ap (λ z. place t j i k * z + slice_index columns j) wide ∙ ap (λ z. place t j i k * columns_of t + z) (r.each j low)))

-- the column of an ejection channel is one of the columns
pub column_of_end : (t : Table) (columns : List ℕ) (width j : ℕ) → AreColumns t.kinds columns → width ≡ columns_of t
    → kind_of t j ≡ Some Ejection → slice_index columns j < width
column_of_end t columns width j r wide receiver =
    let low : j < channels_of t = slice_get_within t.kinds j Ejection receiver in
    let column : slice_index columns j ≡ column_of t j = r.each j low in
    let less : column_of t j < columns_of t = column_low t.kinds j receiver in
    omega arith

-- of a walk's end too
pub column_within : (t : Table) (columns : List ℕ) (width i j n : ℕ) → AreColumns t.kinds columns → width ≡ columns_of t
    → IsUnderWay t i j n → slice_index columns j < width
column_within t columns width i j n r wide u = column_of_end t columns width j r wide u.receiver

-- the choice that is read at the place of a step is the next place
pub next_read : (t : Table) (i j n m : ℕ) → m ≡ walk_cell t i j n → slice_index t.choices m ≡ place t j i (n + 1)
next_read t i j n m e =
    let one : suc n ≡ n + 1 = omega arith in
    ap (slice_index t.choices) e ∙ (sym (place_next t j i n) ∙ ap (place t j i) one)

-- a further hop
pub one_hop_more : (t : Table) (i j n x : ℕ) → IsUnderWay t i j (n + 1) → x ≡ place t j i (n + 1) → kind_of t x ≡ Some Hop
    → IsUnderWay t i j (n + 1 + 1)
one_hop_more t i j n x u here hop = record {
  sender = u.sender;
  receiver = u.receiver;
  hops = λ k some l. elim (cases_lt k (n + 1)) [
    | inl low ↦ u.hops k some low
    | inr high ↦ let same : k ≡ n + 1 = omega arith in ap (λ m. kind_of t (place t j i m)) same ∙ (ap (kind_of t) (sym here) ∙ hop)
  ];
}

-- one mark more
pub traced_more : (t : Table) (i j n : ℕ) (old new : List Bool) (m : ℕ) → IsTraced t i j n old new → m ≡ walk_cell t i j n
    → m < length new → IsTraced t i j (n + 1) old (set new m true)
traced_more t i j n old new m r e low = record {
  size = length-set new m true ∙ r.size;
  kept = λ k yes_k. kept k (r.kept k yes_k);
  marked = λ k l. elim (cases_lt k n) [
    | inl before ↦ kept (walk_cell t i j k) (r.marked k before)
    | inr high ↦ let same : k ≡ n = omega arith in
        let there : m ≡ walk_cell t i j k = e ∙ ap (walk_cell t i j) (sym same) in
        subst (λ z. is_marked_at (set new m true) z ≡ true) there (get_or-set_same new m true false low)
  ];
  only = λ k is_k. elim (cases_eq k m) [
    | inl same ↦ inr (n, omega arith, same ∙ e)
    | inr other ↦ elim (r.only k (sym (get_or-set_other new m k true false other) ∙ is_k)) [
      | inl was ↦ inl was
      | inr w ↦ let before = w.1 in inr (w.0, omega arith, w.2)
    ]
  ];
}
  where
    kept : (k : ℕ) → is_marked_at new k ≡ true → is_marked_at (set new m true) k ≡ true
    kept k is_k =
        elim (cases_eq k m) [
          | inl same ↦ subst (λ z. is_marked_at (set new m true) z ≡ true) (sym same) (get_or-set_same new m true false low)
          | inr other ↦ get_or-set_other new m k true false other ∙ is_k
        ]

-- the walk has come to its end
pub way_found : (t : Table) (i j n x : ℕ) → IsUnderWay t i j (n + 1) → x ≡ place t j i (n + 1) → x ≡ j → n < channels_of t → IsWay t i j (n + 1)
way_found t i j n x u here last low = record { under_way = u; arrives = sym here ∙ last; short = omega arith }
