-- How many choices there may be.
use Rattle.std.proofs.Common.{◌≡◌, ℕ, ◌+◌, ◌*◌, ◌^◌, ◌<◌, ◌≤◌, sym, subst, arith}
use Rattle.std.proofs.Math.Nat.{mul-le-mul_right}

-- with one ejection channel more there are few more
pub record IsSmall (n e : ℕ) : Type 0 where
  pub each : e ≤ 2 ^ 27
  pub all : n * (e + 1) ≤ 2 ^ 27 + 65536

pub is_small : (n e w : ℕ) → 0 < n → n ≤ 65536 → e ≡ w → n * w ≤ 2 ^ 27 → IsSmall n e
is_small n e w some many is few =
    let here : n * e ≤ 2 ^ 27 = subst (λ z. n * z ≤ 2 ^ 27) (sym is) few in
    let one : 1 * e ≤ n * e = mul-le-mul_right e (omega arith) in
    record {
      each = omega arith;
      all = omega arith;
    }

-- a bound on a product, by its factors
pub product_same : (n m a b : ℕ) → m ≡ n → b ≡ a → n * a ≤ 2 ^ 27 → m * b ≤ 2 ^ 27
product_same n m a b is same few =
    subst (λ z. z * b ≤ 2 ^ 27) (sym is) (subst (λ z. n * z ≤ 2 ^ 27) (sym same) few)

-- none are few
pub product_none : (n w : ℕ) → w ≡ 0 → n * w ≤ 2 ^ 27
product_none n w none = subst (λ z. n * z ≤ 2 ^ 27) (sym none) (omega arith)
