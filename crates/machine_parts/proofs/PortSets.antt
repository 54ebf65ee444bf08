-- Flags of ports in words: what raising, lowering and joining them does, and the first that is raised.
use Rattle.std.proofs.Common.{◌≡◌, ◌≢◌, ◌⊎◌, inl, inr, ℕ, zero, suc, ◌+◌, ◌-◌, ◌*◌, ◌/◌, ◌%◌, ◌^◌, ◌<◌, ◌≤◌, ◌==◌, ◌&&◌, Bool, true, false, List, length, refl, sym, ◌∙◌}
use Rattle.std.proofs.Common.{ap, subst, arith, eq-eqb, slice_index, slice_set, get_or-set_other}
use Rattle.std.specs.Prelude.{◌||◌, not, nat_lt, max, replicate, bit_and, bit_or}
use Rattle.std.specs.Int.{bit_at, bit_not, trailing_zeros, w32}
use Rattle.std.specs.Slice.Scan.{HoldsNowhere, IsFirstPlace}
use Rattle.std.proofs.lemmas.Bool.{cases_eq, cases_lt, ne_eqb}
use Rattle.std.proofs.lemmas.List.{get_or-set_same, get_or-replicate}
use Rattle.std.proofs.lemmas.Nat.{shr-shr}
use Rattle.std.proofs.Math.Nat.{zero-max}
use Rattle.std.proofs.lemmas.Nat.Bits.{bit_at-zero, bit_at_not, bit_at_or, bit_at_set_same, bit_at_set_other, bit_at_clear_same, bit_at_clear_other}
use Rattle.std.proofs.lemmas.Nat.Bits.{bit_at-trailing_zeros}
use Rattle.flit_buffer.proofs.PortLaws.{is_less, less}
use Rattle.machine_parts.specs.Ports.{is_raised, raised, lowered, joined}

pub not_less : (a b : ℕ) → b ≤ a → nat_lt a b ≡ false
not_less a b h = by_test (nat_lt a b) refl
  where
    by_test : (x : Bool) → nat_lt a b ≡ x → nat_lt a b ≡ false
    by_test true e = let l = less a b e in absurd (omega (arith, h, l))
    by_test false e = e

and_false : (a : Bool) → not (a && false) ≡ true
and_false true = refl
and_false false = refl

pub or_true : (a : Bool) → (a || true) ≡ true
or_true true = refl
or_true false = refl

pub or_false : (a : Bool) → (a || false) ≡ a
or_false true = refl
or_false false = refl

pub and_true : (a : Bool) → (a && true) ≡ a
and_true true = refl
and_true false = refl

pub max_zero : (p q : ℕ) → not (max p q == 0) ≡ (not (p == 0) || not (q == 0))
max_zero zero q = ap (λ (n : ℕ). not (n == 0)) (zero-max q)
max_zero (suc p) q =
    ap (λ (b : Bool). not b) (ne_eqb (max (suc p) q) 0 (λ e. omega (arith, e)))
    ∙ ap (λ (b : Bool). not b || not (q == 0)) (sym (ne_eqb (suc p) 0 (λ e. omega (arith, e))))

-- a flag that is there, and one that isn't
module _ (ws : List ℕ) (u k : ℕ) where
  shown_in : u < 64 → k < 32 → is_raised ws u k ≡ not (bit_at (slice_index ws u) k == 0)
  shown_in l m =
      let x : Bool = bit_at (slice_index ws u) k == 0 in
      ap (λ (a : Bool). not (a && (nat_lt k 32 && x))) (is_less u 64 l) ∙ ap (λ (b : Bool). not (b && x)) (is_less k 32 m)

  past_tiles : 64 ≤ u → is_raised ws u k ≡ true
  past_tiles h = ap (λ (a : Bool). not (a && (nat_lt k 32 && (bit_at (slice_index ws u) k == 0)))) (not_less u 64 h)

  past_ports : 32 ≤ k → is_raised ws u k ≡ true
  past_ports h =
      ap (λ (b : Bool). not (nat_lt u 64 && (b && (bit_at (slice_index ws u) k == 0)))) (not_less k 32 h) ∙ and_false (nat_lt u 64)

-- all flags raised
pub all_shown : (t k : ℕ) → is_raised (replicate 64 (bit_not w32 0)) t k ≡ true
all_shown t k = elim (cases_lt t 64) [
  | inl l ↦
      elim (cases_lt k 32) [
        | inl m ↦
            shown_in (replicate 64 (bit_not w32 0)) t k l m
            ∙ (ap (λ (n : ℕ). not (bit_at n k == 0)) (get_or-replicate 64 t (bit_not w32 0) 0 l)
            ∙ (ap (λ (n : ℕ). not (n == 0)) (bit_at_not w32 0 k (omega arith) m)
            ∙ ap (λ (n : ℕ). not (1 - n == 0)) (bit_at-zero k)))
        | inr h ↦ past_ports (replicate 64 (bit_not w32 0)) t k h
      ]
  | inr h ↦ past_tiles (replicate 64 (bit_not w32 0)) t k h
]

-- none raised, of those that are there
pub none_shown : (t k : ℕ) → is_raised (replicate 64 0) t k ≡ not (nat_lt t 64 && nat_lt k 32)
none_shown t k = elim (cases_lt t 64) [
  | inl l ↦
      ap (λ (n : ℕ). not (nat_lt t 64 && (nat_lt k 32 && (bit_at n k == 0)))) (get_or-replicate 64 t 0 0 l)
      ∙ (ap (λ (n : ℕ). not (nat_lt t 64 && (nat_lt k 32 && (n == 0)))) (bit_at-zero k)
      ∙ ap (λ (b : Bool). not (nat_lt t 64 && b)) (and_true (nat_lt k 32)))
  | inr h ↦ past_tiles (replicate 64 0) t k h ∙ sym (ap (λ (a : Bool). not (a && nat_lt k 32)) (not_less t 64 h))
]

-- with another word for a tile
module _ (ws : List ℕ) (long : length ws ≡ 64) (t : ℕ) (low : t < 64) (x : ℕ) where
  abbrev vs : List ℕ
  vs = slice_set ws t x

  same_tile : (k : ℕ) → is_raised vs t k ≡ not (nat_lt t 64 && (nat_lt k 32 && (bit_at x k == 0)))
  same_tile k = ap (λ (n : ℕ). not (nat_lt t 64 && (nat_lt k 32 && (bit_at n k == 0)))) (get_or-set_same ws t x 0 (omega (arith, long, low)))

  other_tile : (u k : ℕ) → u ≢ t → is_raised vs u k ≡ is_raised ws u k
  other_tile u k other = ap (λ (n : ℕ). not (nat_lt u 64 && (nat_lt k 32 && (bit_at n k == 0)))) (get_or-set_other ws t u x 0 other)

  same_bit : (k : ℕ) → bit_at x k ≡ bit_at (slice_index ws t) k → is_raised vs t k ≡ is_raised ws t k
  same_bit k e = same_tile k ∙ ap (λ (n : ℕ). not (nat_lt t 64 && (nat_lt k 32 && (n == 0)))) e

  set_bit : (k : ℕ) → bit_at x k ≡ 1 → is_raised vs t k ≡ true
  set_bit k e = same_tile k ∙ (ap (λ (n : ℕ). not (nat_lt t 64 && (nat_lt k 32 && (n == 0)))) e ∙ two (nat_lt t 64) (nat_lt k 32))
    where
      two : (a b : Bool) → not (a && (b && false)) ≡ true
      two true b = and_false b
      two false b = refl

  clear_bit : (k : ℕ) → k < 32 → bit_at x k ≡ 0 → is_raised vs t k ≡ false
  clear_bit k m e =
      same_tile k
      ∙ (ap (λ (n : ℕ). not (nat_lt t 64 && (nat_lt k 32 && (n == 0)))) e
      ∙ (ap (λ (a : Bool). not (a && (nat_lt k 32 && true))) (is_less t 64 low) ∙ ap (λ (b : Bool). not (b && true)) (is_less k 32 m)))

module _ (ws : List ℕ) (long : length ws ≡ 64) (t : ℕ) (low : t < 64) where
  abbrev f : ℕ → ℕ → Bool
  f = is_raised ws

  abbrev word : ℕ
  word = slice_index ws t

  -- raised
  untouched : (u k port : ℕ) → (u ≢ t) ⊎ (k ≢ port) → raised f t port u k ≡ f u k
  untouched u k port (inl ne) = ap (λ (b : Bool). f u k || (b && (k == port))) (ne_eqb u t ne) ∙ or_false (f u k)
  untouched u k port (inr ne) = ap (λ (b : Bool). f u k || ((u == t) && b)) (ne_eqb k port ne) ∙ by_tile (f u k) (u == t)
    where
      by_tile : (a b : Bool) → (a || (b && false)) ≡ a
      by_tile a true = or_false a
      by_tile a false = or_false a

  touched : (port : ℕ) → raised f t port t port ≡ true
  touched port =
      ap (λ (b : Bool). f t port || (b && (port == port))) (eq-eqb t t refl)
      ∙ (ap (λ (b : Bool). f t port || b) (eq-eqb port port refl) ∙ or_true (f t port))

  module _ (port : ℕ) (within : port < 32) where
    abbrev with_bit : ℕ
    with_bit = bit_or word (1 * 2 ^ port % 2 ^ 32)

    here_raised : (k : ℕ) → is_raised (slice_set ws t with_bit) t k ≡ raised f t port t k
    here_raised k = elim (cases_eq k port) [
      | inl e ↦
          subst (λ (n : ℕ). is_raised (slice_set ws t with_bit) t n ≡ raised f t port t n) (sym e)
          (set_bit ws long t low with_bit port (bit_at_set_same w32 word port within) ∙ sym (touched port))
      | inr ne ↦ same_bit ws long t low with_bit k (bit_at_set_other w32 word port within k ne) ∙ sym (untouched t k port (inr ne))
    ]

    pub raised_in : (u k : ℕ) → is_raised (slice_set ws t with_bit) u k ≡ raised f t port u k
    raised_in u k = elim (cases_eq u t) [
      | inl e ↦ subst (λ (n : ℕ). is_raised (slice_set ws t with_bit) n k ≡ raised f t port n k) (sym e) (here_raised k)
      | inr ne ↦ other_tile ws long t low with_bit u k ne ∙ sym (untouched u k port (inl ne))
    ]

    abbrev without_bit : ℕ
    without_bit = bit_and word (bit_not w32 (1 * 2 ^ port % 2 ^ 32))

    spared : (u k : ℕ) → (u ≢ t) ⊎ (k ≢ port) → lowered f t port u k ≡ f u k
    spared u k (inl ne) = ap (λ (b : Bool). f u k && not (b && ((k == port) && nat_lt k 32))) (ne_eqb u t ne) ∙ and_true (f u k)
    spared u k (inr ne) =
        ap (λ (b : Bool). f u k && not ((u == t) && (b && nat_lt k 32))) (ne_eqb k port ne)
        ∙ (ap (λ (b : Bool). f u k && b) (and_false (u == t)) ∙ and_true (f u k))

    emptied : lowered f t port t port ≡ false
    emptied =
        ap (λ (b : Bool). f t port && not (b && ((port == port) && nat_lt port 32))) (eq-eqb t t refl)
        ∙ (ap (λ (b : Bool). f t port && not (b && nat_lt port 32)) (eq-eqb port port refl)
        ∙ (ap (λ (b : Bool). f t port && not b) (is_less port 32 within) ∙ with_false (f t port)))
      where
        with_false : (a : Bool) → (a && false) ≡ false
        with_false true = refl
        with_false false = refl

    beside : (k : ℕ) → k ≢ port → is_raised (slice_set ws t without_bit) t k ≡ f t k
    beside k ne = elim (cases_lt k 32) [
      | inl m ↦ same_bit ws long t low without_bit k (bit_at_clear_other w32 word port within k m ne)
      | inr h ↦ past_ports (slice_set ws t without_bit) t k h ∙ sym (past_ports ws t k h)
    ]

    here_lowered : (k : ℕ) → is_raised (slice_set ws t without_bit) t k ≡ lowered f t port t k
    here_lowered k = elim (cases_eq k port) [
      | inl e ↦
          subst (λ (n : ℕ). is_raised (slice_set ws t without_bit) t n ≡ lowered f t port t n) (sym e)
          (clear_bit ws long t low without_bit port within (bit_at_clear_same w32 word port within) ∙ sym emptied)
      | inr ne ↦ beside k ne ∙ sym (spared t k (inr ne))
    ]

    pub lowered_in : (u k : ℕ) → is_raised (slice_set ws t without_bit) u k ≡ lowered f t port u k
    lowered_in u k = elim (cases_eq u t) [
      | inl e ↦ subst (λ (n : ℕ). is_raised (slice_set ws t without_bit) n k ≡ lowered f t port n k) (sym e) (here_lowered k)
      | inr ne ↦ other_tile ws long t low without_bit u k ne ∙ sym (spared u k (inl ne))
    ]

  -- of a port that has no flag
  module _ (port : ℕ) (past : 32 ≤ port) where
    pub raised_past : (u k : ℕ) → f u k ≡ raised f t port u k
    raised_past u k = elim (cases_eq k port) [
      | inl e ↦
          let up = past_ports ws u k (omega (arith, past, e)) in
          up ∙ sym (ap (λ (b : Bool). b || ((u == t) && (k == port))) up)
      | inr ne ↦ sym (untouched u k port (inr ne))
    ]

    pub lowered_past : (u k : ℕ) → f u k ≡ lowered f t port u k
    lowered_past u k = sym (elim (cases_eq k port) [
      | inl e ↦
          ap (λ (b : Bool). f u k && not ((u == t) && ((k == port) && b))) (not_less k 32 (omega (arith, past, e))) ∙ three (f u k) (u == t) (k == port)
      | inr ne ↦
          ap (λ (b : Bool). f u k && not ((u == t) && (b && nat_lt k 32))) (ne_eqb k port ne)
          ∙ (ap (λ (b : Bool). f u k && b) (and_false (u == t)) ∙ and_true (f u k))
    ])
      where
        three : (a b c : Bool) → (a && not (b && (c && false))) ≡ a
        three true true true = refl
        three true true false = refl
        three true false c = refl
        three false b c = refl

  -- joined
  both_flags : (a b : Bool) (p q : ℕ) → not (a && (b && (max p q == 0))) ≡ (not (a && (b && (p == 0))) || not (a && (b && (q == 0))))
  both_flags true true p q = max_zero p q
  both_flags true false p q = refl
  both_flags false b p q = refl

  module _ (os : List ℕ) where
    abbrev with_others : ℕ
    with_others = bit_or word (slice_index os t)

    here_joined : (k : ℕ) → is_raised (slice_set ws t with_others) t k ≡ joined f t (is_raised os) t k
    here_joined k =
        same_tile ws long t low with_others k
        ∙ (ap (λ (n : ℕ). not (nat_lt t 64 && (nat_lt k 32 && (n == 0)))) (bit_at_or word (slice_index os t) k)
        ∙ (both_flags (nat_lt t 64) (nat_lt k 32) (bit_at word k) (bit_at (slice_index os t) k)
        ∙ sym (ap (λ (b : Bool). f t k || (b && is_raised os t k)) (eq-eqb t t refl))))

    pub joined_in : (u k : ℕ) → is_raised (slice_set ws t with_others) u k ≡ joined f t (is_raised os) u k
    joined_in u k = elim (cases_eq u t) [
      | inl e ↦ subst (λ (n : ℕ). is_raised (slice_set ws t with_others) n k ≡ joined f t (is_raised os) n k) (sym e) (here_joined k)
      | inr ne ↦
          other_tile ws long t low with_others u k ne
          ∙ sym (ap (λ (b : Bool). f u k || (b && is_raised os u k)) (ne_eqb u t ne) ∙ or_false (f u k))
    ]

positive : (n : ℕ) → (n ≡ 0 → ⊥) → 0 < n
positive zero h = absurd (h refl)
positive (suc n) h = omega arith

-- the first that is raised
module _ (ws : List ℕ) (t : ℕ) (low : t < 64) (from end rest : ℕ) (short : end < 32) (is : rest ≡ slice_index ws t / 2 ^ from) where
  bit_behind : (i : ℕ) → bit_at rest i ≡ bit_at (slice_index ws t) (from + i)
  bit_behind i = ap (λ (n : ℕ). bit_at n i) is ∙ ap (λ (x : ℕ). x % 2) (shr-shr (slice_index ws t) from i)

  off_at : (k : ℕ) → from ≤ k → k < end → bit_at rest (k - from) ≡ 0 → is_raised ws t k ≡ false
  off_at k l m e =
      let at : from + (k - from) ≡ k = omega (arith, l) in
      shown_in ws t k low (omega (arith, m, short))
      ∙ ap (λ (n : ℕ). not (n == 0)) (ap (bit_at (slice_index ws t)) (sym at) ∙ (sym (bit_behind (k - from)) ∙ e))

  pub none_raised : rest ≡ 0 → HoldsNowhere (is_raised ws t) from end
  none_raised none k l m = off_at k l m (ap (λ (n : ℕ). bit_at n (k - from)) none ∙ bit_at-zero (k - from))

  module _ (other : rest ≡ 0 → ⊥) (small : rest < 2 ^ 32) where
    abbrev zeros : ℕ
    zeros = trailing_zeros w32 rest

    pub first_raised : from + zeros < end → IsFirstPlace (is_raised ws t) from end (from + zeros)
    first_raised inside =
        let x = bit_at-trailing_zeros w32 rest (positive rest other) small in
        record {
          low = omega arith;
          high = omega (arith, inside);
          before = λ k l m. off_at k l (omega (arith, m, inside)) (x.2 (k - from) (omega (arith, l, m)));
          hit = λ h.
              shown_in ws t (from + zeros) low (omega (arith, inside, short))
              ∙ ap (λ (n : ℕ). not (n == 0)) (sym (bit_behind zeros) ∙ x.1);
        }

    pub none_within : end ≤ from + zeros → HoldsNowhere (is_raised ws t) from end
    none_within past k l m =
        let x = bit_at-trailing_zeros w32 rest (positive rest other) small in off_at k l m (x.2 (k - from) (omega (arith, l, m, past)))
