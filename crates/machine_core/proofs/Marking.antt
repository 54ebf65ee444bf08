-- Which attempts are marked: part by part and tile by tile.
use Rattle.std.proofs.Common.{◌≡◌, ℕ, ◌+◌, ◌<◌, ◌≤◌, ◌==◌, ◌&&◌, Bool, true, false, List, inl, inr, refl, sym, ◌∙◌, ap, subst, arith, eq-eqb}
use Rattle.std.specs.Prelude.{◌||◌, not, nat_lt}
use Rattle.std.proofs.lemmas.Bool.{cases_lt, ne_eqb}
use Rattle.flit_buffer.proofs.PortLaws.{is_less}
use Rattle.machine_parts.specs.Ports.{is_raised, raised}
use Rattle.machine_parts.specs.Machine.{Core}
use Rattle.machine_core.specs.declared.part.Part.{Part}
use Rattle.machine_core.specs.declared.part.Marks.{Marks}
use Rattle.machine_core.specs.Marked.{can_move, MarksPart, MarksTile, IsClear, KeepsOtherMarks}

or_false : (a : Bool) → (a || false) ≡ a
or_false true = refl
or_false false = refl

or_true : (a : Bool) → (a || true) ≡ true
or_true true = refl
or_true false = refl

and_false : (a : Bool) → (a && false) ≡ false
and_false true = refl
and_false false = refl

-- a flag that is raised, and others
raised_here : (f : ℕ → ℕ → Bool) (t n : ℕ) → raised f t n t n ≡ true
raised_here f t n =
    ap (λ (b : Bool). f t n || (b && (n == n))) (eq-eqb t t refl)
    ∙ (ap (λ (b : Bool). f t n || b) (eq-eqb n n refl) ∙ or_true (f t n))

raised_port : (f : ℕ → ℕ → Bool) (t n k : ℕ) → (k ≡ n → ⊥) → raised f t n t k ≡ f t k
raised_port f t n k other =
    ap (λ (b : Bool). f t k || ((t == t) && b)) (ne_eqb k n other)
    ∙ (ap (λ (b : Bool). f t k || b) (and_false (t == t)) ∙ or_false (f t k))

raised_tile : (f : ℕ → ℕ → Bool) (t n u k : ℕ) → (u ≡ t → ⊥) → raised f t n u k ≡ f u k
raised_tile f t n u k other = ap (λ (b : Bool). f u k || (b && (k == n))) (ne_eqb u t other) ∙ or_false (f u k)

module _ (c : Core) (part : Part) (t : ℕ) (old : List ℕ) where
  -- the attempts below a number are marked where they are enabled, and nothing else has changed
  pub record MarkedTo (new : List ℕ) (from : ℕ) : Type 0 where
    pub marked : (k : ℕ) → k < from → is_raised new t k ≡ (is_raised old t k || can_move c part t k)
    pub ahead : (k : ℕ) → from ≤ k → is_raised new t k ≡ is_raised old t k
    pub others : (u k : ℕ) → (u ≡ t → ⊥) → is_raised new u k ≡ is_raised old u k

  pub none_yet : MarkedTo old 0
  none_yet = record { marked = λ k low. absurd (omega (arith, low)); ahead = λ k low. refl; others = λ u k other. refl }

  -- past attempts that aren't enabled
  pub advance : (new : List ℕ) (from n : ℕ) → MarkedTo new from → from ≤ n
      → ((k : ℕ) → from ≤ k → k < n → can_move c part t k ≡ false) → MarkedTo new n
  advance new from n is low idle = record {
    marked = λ k below. elim (cases_lt k from) [
      | inl less ↦ is.marked k less
      | inr most ↦ is.ahead k most
          ∙ sym (ap (λ (b : Bool). is_raised old t k || b) (idle k most below) ∙ or_false (is_raised old t k))
    ];
    ahead = λ k most. is.ahead k (omega (arith, most, low));
    others = is.others;
  }

  -- one that isn't
  pub passed : (new : List ℕ) (from n : ℕ) → MarkedTo new from → from ≤ n
      → ((k : ℕ) → from ≤ k → k < n → can_move c part t k ≡ false) → can_move c part t n ≡ false → MarkedTo new (n + 1)
  passed new from n is low idle none = advance new from (n + 1) is (omega (arith, low)) (λ k l m. elim (cases_lt k n) [
    | inl less ↦ idle k l less
    | inr most ↦ (let e : k ≡ n = omega (arith, most, m) in ap (can_move c part t) e ∙ none)
  ])

  -- one that is, and is marked
  pub marked_too : (mid new : List ℕ) (from n : ℕ) → MarkedTo mid from → from ≤ n
      → ((k : ℕ) → from ≤ k → k < n → can_move c part t k ≡ false) → can_move c part t n ≡ true
      → ((u k : ℕ) → is_raised new u k ≡ raised (is_raised mid) t n u k) → MarkedTo new (n + 1)
  marked_too mid new from n before low idle moves is =
      let so_far : MarkedTo mid n = advance mid from n before low idle in
      record {
        marked = λ k below. elim (cases_lt k n) [
          | inl less ↦ is t k ∙ (raised_port (is_raised mid) t n k (λ e. absurd (omega (arith, e, less))) ∙ so_far.marked k less)
          | inr most ↦
              (let e : n ≡ k = omega (arith, most, below) in
              subst (λ (j : ℕ). is_raised new t j ≡ (is_raised old t j || can_move c part t j)) e
              (is t n ∙ (raised_here (is_raised mid) t n
              ∙ sym (ap (λ (b : Bool). is_raised old t n || b) moves ∙ or_true (is_raised old t n)))))
        ];
        ahead = λ k most. is t k ∙ (raised_port (is_raised mid) t n k (λ e. absurd (omega (arith, e, most))) ∙ so_far.ahead k (omega (arith, most)));
        others = λ u k other. is u k ∙ (raised_tile (is_raised mid) t n u k other ∙ so_far.others u k other);
      }

  -- all below an end
  pub all_marked : (new : List ℕ) (from end : ℕ) → MarkedTo new from → from ≤ end
      → ((k : ℕ) → from ≤ k → k < end → can_move c part t k ≡ false) → MarksPart c part t end old new
  all_marked new from end is low idle =
      let all = advance new from end is low idle in record { marked = all.marked; others = all.others }

-- where none was marked, exactly what is enabled is
pub exactly : (c : Core) (part : Part) (t end : ℕ) (old new : List ℕ) → end < 32 → ((k : ℕ) → k < 32 → is_raised old t k ≡ false) → MarksPart c part t end old new
    → (k : ℕ) → k < end → is_raised new t k ≡ can_move c part t k
exactly c part t end old new few clear is k low = is.marked k low ∙ ap (λ (b : Bool). b || can_move c part t k) (clear k (omega (arith, low, few)))

-- tiles that aren't touched
pub tile_kept : (c : Core) (ports t u : ℕ) (old new : Marks) → KeepsOtherMarks t old new → (u ≡ t → ⊥) → MarksTile c ports u old → MarksTile c ports u new
tile_kept c ports t u old new kept other is = record {
  processors = λ k low. (kept u k other).0 ∙ is.processors k low;
  takes = λ k low. (kept u k other).1 ∙ is.takes k low;
  puts = λ k low. (kept u k other).2 ∙ is.puts k low;
  credits = λ k low. (kept u k other).3 ∙ is.credits k low;
  banks = λ k low. (kept u k other).4 ∙ is.banks k low;
}

pub clear_kept : (t u : ℕ) (old new : Marks) → KeepsOtherMarks t old new → (u ≡ t → ⊥) → IsClear old u → IsClear new u
clear_kept t u old new kept other is = record {
  processors = λ k low. (kept u k other).0 ∙ is.processors k low;
  takes = λ k low. (kept u k other).1 ∙ is.takes k low;
  puts = λ k low. (kept u k other).2 ∙ is.puts k low;
  credits = λ k low. (kept u k other).3 ∙ is.credits k low;
  banks = λ k low. (kept u k other).4 ∙ is.banks k low;
}

-- the tiles below one are marked, and those from it on are clear
pub record MarkedBelow (c : Core) (ports tile : ℕ) (m : Marks) : Type 0 where
  pub done : (t : ℕ) → t < tile → MarksTile c ports t m
  pub clear : (t : ℕ) → tile ≤ t → t < 64 → IsClear m t

pub one_more : (c : Core) (ports tile : ℕ) (old new : Marks) → MarkedBelow c ports tile old → MarksTile c ports tile new → KeepsOtherMarks tile old new
    → MarkedBelow c ports (tile + 1) new
one_more c ports tile old new is here kept = record {
  done = λ t low. elim (cases_lt t tile) [
    | inl less ↦ tile_kept c ports tile t old new kept (λ e. absurd (omega (arith, e, less))) (is.done t less)
    | inr most ↦ (let e : tile ≡ t = omega (arith, most, low) in subst (λ (u : ℕ). MarksTile c ports u new) e here)
  ];
  clear = λ t low few. clear_kept tile t old new kept (λ e. absurd (omega (arith, e, low))) (is.clear t (omega (arith, low)) few);
}

-- no flag is raised of a set that has none
pub none_raised : (ws : List ℕ) → ((t k : ℕ) → is_raised ws t k ≡ not (nat_lt t 64 && nat_lt k 32)) → (t k : ℕ) → t < 64 → k < 32 → is_raised ws t k ≡ false
none_raised ws is t k low few =
    is t k ∙ (ap (λ (b : Bool). not (b && nat_lt k 32)) (is_less t 64 low) ∙ ap (λ (b : Bool). not b) (is_less k 32 few))
