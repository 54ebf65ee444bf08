-- The numbers of the packets of senders, one packet further.
use Rattle.std.proofs.Common.{◌≡◌, inl, inr, ℕ, ◌+◌, ◌<◌, ◌≤◌, List, [], ◌∷◌, ◌++◌, Vec, length, get_or, sym, ◌∙◌, ap, arith, map, refl, false, true}
use Rattle.std.proofs.Common.{get_or-set_same, get_or-set_other}
use Rattle.std.specs.Prelude.{◌==◌, slice_set, slice_index, filter}
use Rattle.std.specs.List.{range_with_len}
use Rattle.std.proofs.lemmas.Bool.{cases_eq, eq-eqb, ne_eqb}
use Rattle.std.proofs.lemmas.List.{append-nil, map-set, length-set, length-map, same_lists, get_or-map}
use Rattle.std.proofs.lemmas.List.FromFn.{length-map-range_with_len, get_or-map-range_with_len}
use Rattle.network_rounds.specs.declared.senders.Timed.{Timed}
use Rattle.network_traffic.specs.Plans.{senders_of}
use Rattle.network_traffic.proofs.Pieces.{passing_more}

module _ {A : Type 0} (all : List (Vec ℕ A)) (f g : ℕ → List ℕ) (n x : ℕ) (is : map (λ (v : Vec ℕ A). v.items) all ≡ map f (range_with_len 0 n))
    (else' : (y : ℕ) → (x ≡ y → ⊥) → f y ≡ g y) where
  abbrev items : Vec ℕ A → List ℕ
  items v = v.items

  many : length all ≡ n
  many = sym (length-map all items) ∙ (ap length is ∙ length-map-range_with_len f 0 n)

  same_after : (k : ℕ) (d : List ℕ) → k < n → (x ≡ k → ⊥) → get_or (map f (range_with_len 0 n)) k d ≡ get_or (map g (range_with_len 0 n)) k d
  same_after k d low other =
      get_or-map-range_with_len f 0 n k k d low (omega arith) ∙ (else' k other ∙ sym (get_or-map-range_with_len g 0 n k k d low (omega arith)))

  -- a number of no sender that is there
  pub number_apart : length all ≤ x → map (λ (v : Vec ℕ A). v.items) all ≡ map g (range_with_len 0 n)
  number_apart past =
      is ∙ same_lists _ _ (length-map-range_with_len f 0 n ∙ sym (length-map-range_with_len g 0 n))
      (λ k d low. (let size = length-map-range_with_len f 0 n in
      let m = many in
      same_after k d (omega (arith, low, size)) (λ e. absurd (omega (arith, e, past, low, size, m)))))

  -- one number more behind those of its sender
  pub number_added : (v old : Vec ℕ A) (k : ℕ) → x < length all → v.items ≡ (get_or all x old).items ++ k ∷ [] → g x ≡ f x ++ k ∷ []
      → map (λ (v : Vec ℕ A). v.items) (slice_set all x v) ≡ map g (range_with_len 0 n)
  number_added v old number low more adds =
      map-set items all x v ∙ (ap (λ (qs : List (List ℕ)). slice_set qs x v.items) is
      ∙ same_lists _ _ (length-set _ x v.items ∙ (length-map-range_with_len f 0 n ∙ sym (length-map-range_with_len g 0 n))) each)
    where
      first : (get_or all x old).items ≡ f x
      first =
          sym (get_or-map items all x old old.items low)
          ∙ (ap (λ (qs : List (List ℕ)). get_or qs x old.items) is
          ∙ get_or-map-range_with_len f 0 n x x old.items (let m = many in omega (arith, low, m)) (omega arith))

      shown : v.items ≡ g x
      shown = more ∙ (ap (λ (xs : List ℕ). xs ++ number ∷ []) first ∙ sym adds)

      each : (k : ℕ) (d : List ℕ) → k < length (slice_set (map f (range_with_len 0 n)) x v.items)
          → get_or (slice_set (map f (range_with_len 0 n)) x v.items) k d ≡ get_or (map g (range_with_len 0 n)) k d
      each k d in' =
          (let size = length-set (map f (range_with_len 0 n)) x v.items in
          let long = length-map-range_with_len f 0 n in
          let inside : k < n = omega (arith, in', size, long) in
          elim (cases_eq k x) [
            | inl same ↦ ap (λ (j : ℕ). get_or (slice_set (map f (range_with_len 0 n)) x v.items) j d) same
                ∙ (get_or-set_same _ x v.items d (let m = many in omega (arith, low, m, long))
                ∙ (shown ∙ (ap g (sym same) ∙ sym (get_or-map-range_with_len g 0 n k k d inside (omega arith)))))
            | inr other ↦ get_or-set_other _ x k v.items d other ∙ same_after k d inside (λ e. other (sym e))
          ])

-- the numbers of a sender among the first so many packets
abbrev pub numbers_before : List Timed → ℕ → ℕ → List ℕ
numbers_before packets k x = filter (λ j. slice_index (senders_of packets) j == x) (range_with_len 0 k)

sender_at : (packets : List Timed) (k : ℕ) (d : Timed) → k < length packets → slice_index (senders_of packets) k ≡ (get_or packets k d).packet.from
sender_at packets k d low = get_or-map (λ (timed : Timed). timed.packet.from) packets k d 0 low

-- those of another sender, and of its sender, one packet further
pub numbers_else : (packets : List Timed) (k : ℕ) (d : Timed) (x y : ℕ) → k < length packets → x ≡ (get_or packets k d).packet.from → (x ≡ y → ⊥)
    → numbers_before packets k y ≡ numbers_before packets (k + 1) y
numbers_else packets k d x y low is other =
    passing_more (λ j. slice_index (senders_of packets) j == y) k (numbers_before packets k y) (numbers_before packets k y) false refl
    (sym (ap (λ (z : ℕ). z == y) (sender_at packets k d low ∙ sym is) ∙ ne_eqb x y other)) (sym (append-nil (numbers_before packets k y)))

pub numbers_here : (packets : List Timed) (k : ℕ) (d : Timed) (x : ℕ) → k < length packets → x ≡ (get_or packets k d).packet.from
    → numbers_before packets (k + 1) x ≡ numbers_before packets k x ++ k ∷ []
numbers_here packets k d x low is =
    sym (passing_more (λ j. slice_index (senders_of packets) j == x) k (numbers_before packets k x) (numbers_before packets k x ++ k ∷ []) true refl
    (sym (ap (λ (z : ℕ). z == x) (sender_at packets k d low ∙ sym is) ∙ eq-eqb x x refl)) refl)
