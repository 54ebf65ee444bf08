-- The bits of the slots.
use Rattle.std.proofs.Common.{◌≡◌, ◌≢◌, ◌⊎◌, inl, inr, ⊎_elim, ℕ, ◌<◌, arith}
use mir.Syntax.{w128}
use Rattle.std.specs.Int.{bit_at}
use Rattle.std.proofs.lemmas.Bool.{cases_eq}
use Rattle.std.proofs.lemmas.Nat.Bits.{bit_at_set_same, bit_at_set_other, bit_at_clear_same, bit_at_clear_other, bit_at-lt}
use Rattle.trace_laws.specs.Configs.{with_bit, without_bit}

pub bit_cases : (n s : ℕ) → (bit_at n s ≡ 0) ⊎ (bit_at n s ≡ 1)
bit_cases n s = two (bit_at n s) (bit_at-lt n s)
  where
    two : (b : ℕ) → b < 2 → (b ≡ 0) ⊎ (b ≡ 1)
    two b l = ⊎_elim (λ (e : b ≡ 0). inl e) (λ (ne : b ≢ 0). inr (omega arith)) (cases_eq b 0)

pub not_both : (b : ℕ) → b ≡ 0 → b ≡ 1 → ⊥
not_both b z o = omega arith

pub with_same : (n k : ℕ) → k < 128 → bit_at (with_bit n k) k ≡ 1
with_same n k l = bit_at_set_same w128 n k l

pub with_other : (n k i : ℕ) → k < 128 → i ≢ k → bit_at (with_bit n k) i ≡ bit_at n i
with_other n k i l ne = bit_at_set_other w128 n k l i ne

pub without_same : (n k : ℕ) → k < 128 → bit_at (without_bit n k) k ≡ 0
without_same n k l = bit_at_clear_same w128 n k l

pub without_other : (n k i : ℕ) → k < 128 → i < 128 → i ≢ k → bit_at (without_bit n k) i ≡ bit_at n i
without_other n k i l m ne = bit_at_clear_other w128 n k l i m ne
