-- Ranks rise along the hops of one ring.
use Rattle.std.proofs.Common.{◌≡◌, ◌≢◌, ℕ, ◌+◌, ◌-◌, ◌%◌, ◌<◌, ◌≤◌, zero, suc, Bool, true, false, refl, sym, ◌∙◌, ap, subst, arith, inl, inr}
use Rattle.std.specs.Prelude.{◌==◌, ◌||◌}
use Rattle.std.proofs.lemmas.Bool.{cases_lt, cases_eq, eq-eqb, ne_eqb}
use Rattle.torus.specs.declared.shape.Dir.{Dir}
use Rattle.torus.specs.declared.shape.Dir.TheVariants.{Plus, Minus}
use Rattle.dateline_route.specs.Ring.{hops_by, digit_after, dateline_out_of, is_crossed}
use Rattle.dateline_route.proofs.Rings.{mod_cases, mod_small, mod_over, is_crossed_more, is_crossed_first, digit_after-hops_by, hops_by-digit_after}
use Rattle.dateline_route.proofs.Rings.{hops_by_below}
use Rattle.channel_number.specs.Number.{past_dateline, rank_of}

dateline_below : (dir : Dir) (k z : ℕ) → z < k → dateline_out_of dir k z < k
dateline_below Plus k z low = low
dateline_below Minus k z low = let w = mod_cases (z + 1) k (omega arith) in grind arith

-- how many hops lie before the dateline hop
abbrev pub hops_before : Dir → ℕ → ℕ → ℕ → ℕ
hops_before dir k z x = hops_by dir k x (dateline_out_of dir k z)

-- how far past the dateline the hops leave, up to the dateline hop
past_before : (dir : Dir) (k z x i : ℕ) → z < k → x < k → i ≤ hops_before dir k z x
    → past_dateline dir k z (digit_after dir k x i) + (hops_before dir k z x + 1) ≡ k + i
past_before Plus k z x i hz hx few = let w0 = mod_cases (z + (k - x)) k (omega arith) in let w1 = mod_cases (x + i) k (omega arith) in
    let w2 = mod_cases ((x + i) % k + (k - (z + 1))) k (omega arith) in grind arith
past_before Minus k z x i hz hx few = let w3 = mod_cases (z + 1) k (omega arith) in let w0 = mod_cases (x + (k - (z + 1) % k)) k (omega arith) in
    let w1 = mod_cases (x + (k - i)) k (omega arith) in let w2 = mod_cases (z + (k - (x + (k - i)) % k)) k (omega arith) in grind arith

-- and after it
past_after : (dir : Dir) (k z x i : ℕ) → z < k → x < k → i < k → hops_before dir k z x < i
    → past_dateline dir k z (digit_after dir k x i) + (hops_before dir k z x + 1) ≡ i
past_after Plus k z x i hz hx small many = let w0 = mod_cases (z + (k - x)) k (omega arith) in let w1 = mod_cases (x + i) k (omega arith) in
    let w2 = mod_cases ((x + i) % k + (k - (z + 1))) k (omega arith) in grind arith
past_after Minus k z x i hz hx small many = let w3 = mod_cases (z + 1) k (omega arith) in let w0 = mod_cases (x + (k - (z + 1) % k)) k (omega arith) in
    let w1 = mod_cases (x + (k - i)) k (omega arith) in let w2 = mod_cases (z + (k - (x + (k - i)) % k)) k (omega arith) in grind arith

-- the dateline hop is the one that leaves after that many hops
at_dateline : (dir : Dir) (k z x j : ℕ) → z < k → x < k → j ≡ hops_before dir k z x → (digit_after dir k x j == dateline_out_of dir k z) ≡ true
at_dateline dir k z x j hz hx e =
    eq-eqb (digit_after dir k x j) (dateline_out_of dir k z)
    (ap (digit_after dir k x) e ∙ digit_after-hops_by dir k x (dateline_out_of dir k z) hx (dateline_below dir k z hz))

off_dateline : (dir : Dir) (k z x j : ℕ) → x < k → j < k → j ≢ hops_before dir k z x → (digit_after dir k x j == dateline_out_of dir k z) ≡ false
off_dateline dir k z x j hx hj other =
    ne_eqb (digit_after dir k x j) (dateline_out_of dir k z) (λ same. other (sym (hops_by-digit_after dir k x j hx hj) ∙ ap (hops_by dir k x) same))

pub not_crossed : (dir : Dir) (k z x i : ℕ) → x < k → i < k → i < hops_before dir k z x → is_crossed dir k z x i ≡ false
not_crossed dir k z x zero hx hi few = is_crossed_first dir k z x ∙ off_dateline dir k z x 0 hx hi (λ e. omega arith)
not_crossed dir k z x (suc i) hx hi few =
    let P : ℕ → Type 0 = λ m. is_crossed dir k z x m ≡ false in
    let next : i + 1 ≡ suc i = omega arith in
    let before : is_crossed dir k z x i ≡ false = not_crossed dir k z x i hx (omega arith) (omega arith) in
    let off : (digit_after dir k x (i + 1) == dateline_out_of dir k z) ≡ false = off_dateline dir k z x (i + 1) hx (omega arith) (λ e. omega arith) in
    subst P next (is_crossed_more dir k z x i ∙ ap (λ b. b || (digit_after dir k x (i + 1) == dateline_out_of dir k z)) before ∙ off)

or_right : (a b : Bool) → b ≡ true → (a || b) ≡ true
or_right true b e = refl
or_right false b e = e

pub crossed : (dir : Dir) (k z x i : ℕ) → z < k → x < k → hops_before dir k z x ≤ i → is_crossed dir k z x i ≡ true
crossed dir k z x zero hz hx many = is_crossed_first dir k z x ∙ at_dateline dir k z x 0 hz hx (omega arith)
crossed dir k z x (suc i) hz hx many =
    let P : ℕ → Type 0 = λ m. is_crossed dir k z x m ≡ true in
    let next : i + 1 ≡ suc i = omega arith in
    let here : Bool = (digit_after dir k x (i + 1) == dateline_out_of dir k z) in
    subst P next (is_crossed_more dir k z x i ∙ elim (cases_eq (suc i) (hops_before dir k z x)) [
      | inl same ↦ or_right (is_crossed dir k z x i) here (at_dateline dir k z x (i + 1) hz hx (omega arith))
      | inr other ↦ ap (λ b. b || here) (crossed dir k z x i hz hx (omega arith))
    ])

-- the rank of hop i of those from digit x on
abbrev pub rank_at : Dir → ℕ → ℕ → ℕ → ℕ → ℕ
rank_at dir k z x i = rank_of dir k z (digit_after dir k x i) (is_crossed dir k z x i)

pub rank_before : (dir : Dir) (k z x i : ℕ) → z < k → x < k → i < hops_before dir k z x → rank_at dir k z x i + (hops_before dir k z x + 1) ≡ k + i
rank_before dir k z x i hz hx few =
    let short : i < k = omega (arith, hops_by_below dir k x (dateline_out_of dir k z) hx (dateline_below dir k z hz)) in
    let bit : rank_at dir k z x i ≡ past_dateline dir k z (digit_after dir k x i) =
    ap (rank_of dir k z (digit_after dir k x i)) (not_crossed dir k z x i hx short few) in
    omega (arith, past_before dir k z x i hz hx (omega arith))

pub rank_after : (dir : Dir) (k z x i : ℕ) → z < k → x < k → i < k → hops_before dir k z x ≤ i → rank_at dir k z x i + hops_before dir k z x ≡ k + i
rank_after dir k z x i hz hx small many =
    let c : ℕ = past_dateline dir k z (digit_after dir k x i) in
    let bit : rank_at dir k z x i ≡ k + (c + 1) % k = ap (rank_of dir k z (digit_after dir k x i)) (crossed dir k z x i hz hx many) in
    elim (cases_eq i (hops_before dir k z x)) [
      | inl same ↦ (
          let all : c + 1 ≡ k = omega (arith, past_before dir k z x i hz hx (omega arith)) in
          let none : (c + 1) % k + k ≡ c + 1 = mod_over (c + 1) k (omega arith) (omega arith) in
          omega arith)
      | inr other ↦ (
          let some : c + (hops_before dir k z x + 1) ≡ i = past_after dir k z x i hz hx small (omega arith) in
          let kept : (c + 1) % k ≡ c + 1 = mod_small (c + 1) k (omega arith) in
          omega arith)
    ]

pub rank_below : (dir : Dir) (k z x i : ℕ) → z < k → x < k → i < k → rank_at dir k z x i < k + k
rank_below dir k z x i hz hx small =
    elim (cases_lt i (hops_before dir k z x)) [
      | inl few ↦ omega (arith, rank_before dir k z x i hz hx few)
      | inr many ↦ omega (arith, rank_after dir k z x i hz hx small many)
    ]

pub rank_rises : (dir : Dir) (k z x i : ℕ) → z < k → x < k → i + 1 < k → rank_at dir k z x i < rank_at dir k z x (i + 1)
rank_rises dir k z x i hz hx small =
    elim (cases_lt i (hops_before dir k z x)) [
      | inl few ↦ elim (cases_lt (i + 1) (hops_before dir k z x)) [
        | inl few' ↦ omega (arith, rank_before dir k z x i hz hx few, rank_before dir k z x (i + 1) hz hx few')
        | inr many ↦ omega (arith, rank_before dir k z x i hz hx few, rank_after dir k z x (i + 1) hz hx small many)
      ]
      | inr many ↦ omega (arith, rank_after dir k z x i hz hx (omega arith) many, rank_after dir k z x (i + 1) hz hx small (omega arith))
    ]
