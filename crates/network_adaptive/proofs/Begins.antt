-- Flags of where packets begin, and of where they come then.
use Rattle.std.proofs.Common.{◌≡◌, ◌≢◌, ◌⊎◌, inl, inr, ⊎_elim, ℕ, suc, ◌<◌, ◌≤◌, Bool, true, false, List, [], length, set, replicate, refl, sym, ◌∙◌, ap, subst, arith}
use Rattle.std.proofs.lemmas.Bool.{cases_lt}
use Rattle.std.proofs.lemmas.List.{length-set, length-replicate, get_or-replicate, get_or_past}
use Rattle.network_judge.specs.declared.table.Kind.{Kind}
use Rattle.network_judge.specs.declared.table.Join.{Join}
use Rattle.network_judge.specs.Table.{Table, table_of, joins_of}
use Rattle.network_judge.specs.Verdicts.{join_at}
use Rattle.network_judge.specs.Marks.{is_marked_at}
use Rattle.network_judge.proofs.Marking.{joined_at, place_of}
use Rattle.network_adaptive.specs.Spread.{Path, HasSpread}
use Rattle.network_adaptive.specs.Flags.{HasBegun, AreDown, AreComes, AreBehind}
use Rattle.network_adaptive.proofs.Flags.{set_here, set_keeps, set_only}

-- the pairs below p are looked at
pub record HasBegunSo (joins : List Join) (j p : ℕ) (old new : List Bool) : Type 0 where
  pub size : length new ≡ length old
  pub only : (x : ℕ) → is_marked_at new x ≡ true → (is_marked_at old x ≡ true) ⊎ (joins_of (table_of [] joins []) x j ≡ true)
  pub all : (q : ℕ) → q < p → (join_at (table_of [] joins []) q).to ≡ j → is_marked_at new (join_at (table_of [] joins []) q).from ≡ true

module _ (joins : List Join) (j : ℕ) where
  abbrev t : Table
  t = table_of [] joins []

  pub none_begun : (old : List Bool) → HasBegunSo joins j 0 old old
  none_begun old = record { size = refl; only = λ x e. inl e; all = λ q l. absurd (omega arith) }

  pub one_begun : (p m : ℕ) (old seen : List Bool) (count : ℕ) → m ≡ suc p → p < length joins → (join_at t p).to ≡ j → length old ≡ count
      → (join_at t p).from < count → HasBegunSo joins j p old seen → HasBegunSo joins j m old (set seen (join_at t p).from true)
  one_begun p m old seen count e low to size inner h =
      let i : ℕ = (join_at t p).from in
      let long = h.size in
      record {
        size = length-set seen i true ∙ h.size;
        only = λ x up. ⊎_elim
            (λ (here : x ≡ i). inr (subst (λ z. joins_of t z j ≡ true) (sym here) (joined_at t p i j low refl to)))
            (λ (was : is_marked_at seen x ≡ true). h.only x was)
            (set_only seen i x up);
        all = λ q l same. elim (cases_lt q p) [
          | inl less ↦ set_keeps seen i (join_at t q).from (omega arith) (h.all q less same)
          | inr high ↦ let here : q ≡ p = omega arith in
              ap (λ z. is_marked_at (set seen i true) (join_at t z).from) here ∙ set_here seen i (omega arith)
        ];
      }

  pub other_begun : (p m : ℕ) (old seen : List Bool) → m ≡ suc p → ((join_at t p).to ≢ j) → HasBegunSo joins j p old seen → HasBegunSo joins j m old seen
  other_begun p m old seen e other h = record {
    size = h.size;
    only = h.only;
    all = λ q l same. elim (cases_lt q p) [
      | inl less ↦ h.all q less same
      | inr high ↦ let here : q ≡ p = omega arith in absurd (other (ap (λ z. (join_at t z).to) (sym here) ∙ same))
    ];
  }

  pub skip_begun : (p m : ℕ) (old seen : List Bool) → p ≤ m → ((q : ℕ) → p ≤ q → q < m → (join_at t q).to ≢ j) → HasBegunSo joins j p old seen
      → HasBegunSo joins j m old seen
  skip_begun p m old seen le others h = record {
    size = h.size;
    only = h.only;
    all = λ q l same. elim (cases_lt q p) [
      | inl less ↦ h.all q less same
      | inr high ↦ absurd (others q (omega arith) l same)
    ];
  }

  pub all_begun : (m : ℕ) (old new : List Bool) → length joins ≤ m → HasBegunSo joins j m old new → HasBegun joins j old new
  all_begun m old new e h = record {
    size = h.size;
    only = h.only;
    all = λ x joined. (let at = place_of t x j joined in let low = at.1.below in
        subst (λ z. is_marked_at new z ≡ true) at.1.from (h.all at.0 (omega arith) at.1.to));
  }

-- flags that are all down
pub down_at : (n x : ℕ) → is_marked_at (replicate n false) x ≡ false
down_at n x = elim (cases_lt x n) [
  | inl low ↦ get_or-replicate n x false false low
  | inr high ↦ get_or_past (replicate n false) x false (let l = length-replicate n false in omega arith)
]

-- what spreads from where packets begin
pub comes_are : (kinds : List Kind) (joins : List Join) (step : ℕ → ℕ → Bool) (j : ℕ) (none first last : List Bool)
    → length none ≡ length kinds → AreDown none → HasBegun joins j none first → HasSpread step first last → AreComes kinds joins step j last
comes_are kinds joins step j none first last size down b s = record {
  size = s.size ∙ (b.size ∙ size);
  only = λ x up. (let r = s.led x up in ⊎_elim
      (λ (was : is_marked_at none r.0 ≡ true). let bad : true ≡ false = sym was ∙ down r.0 in absurd (cc))
      (λ (joined : joins_of (table_of [] joins []) r.0 j ≡ true). (r.0, joined, r.2))
      (b.only r.0 r.1));
  begin = λ x joined. s.kept x (b.all x joined);
  closed = s.closed;
}

-- what spreads from one channel
pub behind_are : (kinds : List Kind) (step : ℕ → ℕ → Bool) (x : ℕ) (none first last : List Bool)
    → length none ≡ length kinds → AreDown none → x < length kinds → first ≡ set none x true → HasSpread step first last → AreBehind kinds step x last
behind_are kinds step x none first last size down low e s = record {
  size = s.size ∙ (ap length e ∙ (length-set none x true ∙ size));
  only = λ y up. (let r = s.led y up in ⊎_elim
      (λ (here : r.0 ≡ x). subst (λ z. Path step z y) here r.2)
      (λ (was : is_marked_at none r.0 ≡ true). let bad : true ≡ false = sym was ∙ down r.0 in absurd (cc))
      (set_only none x r.0 (subst (λ (v : List Bool). is_marked_at v r.0 ≡ true) e r.1)));
  begin = s.kept x (subst (λ (v : List Bool). is_marked_at v x ≡ true) (sym e) (set_here none x (omega arith)));
  closed = s.closed;
}
