-- Walks that are clear, a step at a time, and items that are marked one after the other.
use Rattle.std.proofs.Common.{◌≡◌, inl, inr, ℕ, suc, ◌+◌, ◌-◌, ◌<◌, Bool, true, false, cond, List, [], ◌∷◌, ◌++◌, length, set, drop, All, sym, ◌∙◌, ap, subst, arith, eq-eqb}
use Rattle.std.proofs.lemmas.Bool.{cases_lt, cases_eq, ne_eqb}
use Rattle.std.proofs.lemmas.List.{length-set, get_or-set_same, get_or-set_other, drop_more}
use Rattle.std.proofs.lemmas.List.{length-append}
use Rattle.std.proofs.Math.Seq.{get_or-append_seam, drop-length}
use Rattle.std.proofs.Math.ListN.{get_or-append}
use Rattle.std.proofs.lemmas.List.Elements.{All-nil, All-cons}
use Rattle.network_judge.specs.declared.table.Reply.{Reply}
use Rattle.std.specs.Prelude.{slice_index}
use Rattle.network_judge.specs.Table.{Table, table_next, joins_of, channels_of}
use Rattle.network_judge.specs.Ways.{place}
use Rattle.network_judge.specs.Marks.{is_marked_at}
use Rattle.network_judge.specs.Verdicts.{AllArrive}
use Rattle.network_judge.proofs.Places.{place_next}
use Rattle.network_judge.specs.declared.fill.Fill.{Fill}
use Rattle.network_judge.specs.Jams.{fill_channel, is_filled, ComesIn, AreFilledInTurn, WaitsForFilled}
use Rattle.network_judge.specs.Clear.{IsClearWalk, WaitsForMarked, AreFillsMarked, fill_at}

-- one place further
pub further : (t : Table) (i j k x y : ℕ) → x ≡ place t j i k → y ≡ table_next t x j → y ≡ place t j i (k + 1)
further t i j k x y here next =
    let one : suc k ≡ k + 1 = omega arith in next ∙ (ap (λ z. table_next t z j) here ∙ (sym (place_next t j i k) ∙ ap (place t j i) one))

-- one number more
pub one_more : (P : ℕ → Type 0) (n : ℕ) → ((k : ℕ) → k < n → P k) → P n → (k : ℕ) → k < n + 1 → P k
one_more P n all here k l = elim (cases_lt k n) [ inl low ↦ all k low | inr high ↦ let same : n ≡ k = omega arith in subst P same here ]

-- what is clear comes in
pub comes_in : (t : Table) → AllArrive t → (marks : List Bool) (f : Fill) (x : ℕ) (fs : List Fill) → joins_of t f.from f.to ≡ true
    → IsClearWalk t marks f.from f.to f.step x → ((y : ℕ) → is_marked_at marks y ≡ is_filled t fs y) → ComesIn t f fs
comes_in t arrive marks f x fs joined w same =
    let a = arrive f.from f.to joined in
    record {
      joined = joined;
      length = a.0;
      way = a.1;
      on = elim (cases_lt a.0 f.step) [
        | inl beyond ↦ absurd (w.goes_on a.0 beyond a.1.arrives)
        | inr within ↦ within
      ];
      clear = λ k l. sym (same (place t f.to f.from k)) ∙ w.clear k l;
    }

marks_set : (t : Table) (marks : List Bool) (f : Fill) (fs : List Fill) (x y : ℕ) → x ≡ fill_channel t f → x < length marks
    → ((z : ℕ) → is_marked_at marks z ≡ is_filled t fs z) → is_marked_at (set marks x true) y ≡ is_filled t (f ∷ fs) y
marks_set t marks f fs x y here low same = elim (cases_eq y x) [
  | inl e ↦ ap (is_marked_at (set marks x true)) e
      ∙ (get_or-set_same marks x true false low ∙ sym (ap (λ b. cond b true (is_filled t fs y)) (eq-eqb (fill_channel t f) y (sym here ∙ sym e))))
  | inr d ↦ get_or-set_other marks x y true false d
      ∙ (same y ∙ sym (ap (λ b. cond b true (is_filled t fs y)) (ne_eqb (fill_channel t f) y (λ e. d (sym e ∙ sym here)))))
]

-- a further item is marked
pub marked_more : (t : Table) → AllArrive t → (fs : List Fill) (from next : ℕ) (marks : List Bool) (ends : List ℕ) (x : ℕ)
    → AreFillsMarked t fs from marks ends → from ≡ next + 1 → joins_of t (fill_at fs next).from (fill_at fs next).to ≡ true
    → IsClearWalk t marks (fill_at fs next).from (fill_at fs next).to (fill_at fs next).step x
    → AreFillsMarked t fs next (set marks x true) (ends ++ x ∷ [])
marked_more t arrive fs from next marks ends x m step joined w =
    let f : Fill = fill_at fs next in
    let count = m.count in
    let long = length-append ends (x ∷ []) in
    let inside : x < length marks = subst (λ z. z < length marks) (sym w.here) (w.inside (fill_at fs next).step (omega arith)) in
    let left : drop next fs ≡ fill_at fs next ∷ drop from fs =
    drop_more fs next (record { from = 0; to = 0; step = 0 }) (omega arith) ∙ ap (λ k. fill_at fs next ∷ drop k fs) (sym step) in
    record {
      size = length-set marks x true ∙ m.size;
      count = omega arith;
      marked = λ y. marks_set t marks (fill_at fs next) (drop from fs) x y w.here inside m.marked ∙ sym (ap (λ gs. is_filled t gs y) left);
      in_turn = subst (AreFilledInTurn t) (sym left) (comes_in t arrive marks (fill_at fs next) x (drop from fs) joined w m.marked, m.in_turn);
      places = λ k low high. elim (cases_lt next k) [
        | inl behind ↦ get_or-append ends (x ∷ []) 0 (length fs - 1 - k) (omega arith) ∙ m.places k (omega arith) high
        | inr here ↦
            let same : next ≡ k = omega arith in
            let at : length fs - 1 - k ≡ length ends = omega arith in
            ap (slice_index (ends ++ x ∷ [])) at ∙ (get_or-append_seam ends x [] 0 ∙ (w.here ∙ ap (λ z. fill_channel t (fill_at fs z)) same))
      ];
    }

-- at first none is
pub none_marked : (t : Table) (fs : List Fill) (from : ℕ) (marks : List Bool) → length marks ≡ channels_of t → from ≡ length fs
    → ((m : ℕ) → is_marked_at marks m ≡ false) → AreFillsMarked t fs from marks []
none_marked t fs from marks size all clear =
    let left : drop from fs ≡ [] = ap (λ k. drop k fs) all ∙ drop-length fs in
    record {
      size = size;
      count = omega arith;
      marked = λ x. clear x ∙ sym (ap (λ gs. is_filled t gs x) left);
      in_turn = subst (AreFilledInTurn t) (sym left) tt;
      places = λ k low high. absurd (omega arith);
    }

-- where its packets wait for a marked channel, they wait for a filled one
pub waits_filled : (t : Table) (replies : List Reply) (fs : List Fill) (marks : List Bool) (ends : List ℕ) (f : Fill) (x : ℕ)
    → AreFillsMarked t fs 0 marks ends → x ≡ fill_channel t f → WaitsForMarked t replies marks f.to x → WaitsForFilled t replies fs f
waits_filled t replies fs marks ends f x m here w = record {
  under_way = λ apart. sym (m.marked (table_next t (fill_channel t f) f.to))
      ∙ (ap (λ z. is_marked_at marks (table_next t z f.to)) (sym here) ∙ w.under_way (λ e. apart (sym here ∙ e)));
  at_end = λ e. (let r = w.at_end (here ∙ e) in (r.0, r.1, sym (m.marked r.0) ∙ r.2));
}

-- from pointwise to all
pub all_of : (P : Fill → Type 0) (fs : List Fill) → ((k : ℕ) → k < length fs → P (fill_at fs k)) → All P fs
all_of P [] h = All-nil P
all_of P (f ∷ fs) h = All-cons P f fs (h 0 (omega arith)) (all_of P fs (λ k l. h (suc k) (omega arith)))
