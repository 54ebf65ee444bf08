-- Sums in which one or two items change.
use Rattle.std.proofs.Common.{◌≡◌, ◌≢◌, ℕ, ◌+◌, ◌<◌, zero, suc, inl, inr, sym, ap, refl, arith}
use Rattle.std.proofs.lemmas.Bool.{cases_eq}
use Rattle.wormhole.specs.Weight.{sum_below}

-- two sums of the same items
pub sum_same : (n : ℕ) (f g : ℕ → ℕ) → ((y : ℕ) → y < n → g y ≡ f y) → sum_below n g ≡ sum_below n f
sum_same zero f g same = refl
sum_same (suc n) f g same = omega (arith, sum_same n f g (λ y h. same y (omega arith)), same n (omega arith))

-- one item changes
pub sum_one : (n x : ℕ) (f g : ℕ → ℕ) → x < n → ((y : ℕ) → y < n → y ≢ x → g y ≡ f y) → sum_below n g + f x ≡ sum_below n f + g x
sum_one zero x f g h same = absurd (omega arith)
sum_one (suc n) x f g h same = elim (cases_eq x n) [
  | inl here ↦
      let e = sum_same n f g (λ y low. same y (omega arith) (omega arith)) in
      let a = ap f here in
      let b = ap g here in
      omega arith
  | inr other ↦
      let ih = sum_one n x f g (omega arith) (λ y low ne. same y (omega arith) ne) in
      let e = same n (omega arith) (λ h. other (sym h)) in
      omega arith
]

-- two items change
pub sum_two : (n x y : ℕ) (f g : ℕ → ℕ) → x < n → y < n → x ≢ y → ((z : ℕ) → z < n → z ≢ x → z ≢ y → g z ≡ f z)
    → sum_below n g + f x + f y ≡ sum_below n f + g x + g y
sum_two zero x y f g hx hy apart same = absurd (omega arith)
sum_two (suc n) x y f g hx hy apart same = elim (cases_eq x n) [
  | inl here ↦
      let ih = sum_one n y f g (omega arith) (λ z low ne. same z (omega arith) (omega arith) ne) in
      let a = ap f here in
      let b = ap g here in
      omega arith
  | inr other ↦ elim (cases_eq y n) [
    | inl there ↦
        let ih = sum_one n x f g (omega arith) (λ z low ne. same z (omega arith) ne (omega arith)) in
        let a = ap f there in
        let b = ap g there in
        omega arith
    | inr neither ↦
        let ih = sum_two n x y f g (omega arith) (omega arith) apart (λ z low ne nf. same z (omega arith) ne nf) in
        let e = same n (omega arith) (λ h. other (sym h)) (λ h. neither (sym h)) in
        omega arith
  ]
]

-- a sum falls where one item falls, up to what is paid for it
pub falls_one : (n x paid : ℕ) (f g : ℕ → ℕ) → x < n → ((y : ℕ) → y < n → y ≢ x → g y ≡ f y) → g x < f x + paid → sum_below n g < sum_below n f + paid
falls_one n x paid f g h same lower = omega (arith, sum_one n x f g h same)

-- a sum falls where the sum of two items falls
pub falls_two : (n x y : ℕ) (f g : ℕ → ℕ) → x < n → y < n → x ≢ y → ((z : ℕ) → z < n → z ≢ x → z ≢ y → g z ≡ f z)
    → g x + g y < f x + f y → sum_below n g < sum_below n f
falls_two n x y f g hx hy apart same lower = omega (arith, sum_two n x y f g hx hy apart same)
