-- Bit fields of numbers.
use Rattle.std.proofs.Common.{◌≡◌, ℕ, ◌+◌, ◌*◌, ◌/◌, ◌%◌, ◌^◌, ◌<◌, ◌∙◌, sym, ap, arith}
use Rattle.std.proofs.lemmas.Nat.{shr_split, shr-shr, shr_high, mod_low, mod_below, pow_pos}
use Rattle.packet.specs.Flit.{field}

-- numbers that agree from `low + width` on and in the field below agree from `low` on
pub same_from_field : (n m low width : ℕ) → n / 2 ^ (low + width) ≡ m / 2 ^ (low + width) → field n low width ≡ field m low width → n / 2 ^ low ≡ m / 2 ^ low
unfolding field
same_from_field n m low width above here =
    sym (shr_split (n / 2 ^ low) width)
    ∙ ap (λ k. k * 2 ^ width + field n low width) (shr-shr n low width ∙ above ∙ sym (shr-shr m low width))
    ∙ ap (λ k. m / 2 ^ low / 2 ^ width * 2 ^ width + k) here
    ∙ shr_split (m / 2 ^ low) width

-- a field of `(a << low) + b` that begins where a does
pub field-above : (n a low b width high : ℕ) → b < 2 ^ low → n ≡ (high * 2 ^ width + a) * 2 ^ low + b → a < 2 ^ width → field n low width ≡ a
unfolding field
field-above n a low b width high below is small =
    ap (λ k. k / 2 ^ low % 2 ^ width) is
    ∙ ap (λ k. k % 2 ^ width) (shr_high (high * 2 ^ width + a) low b below)
    ∙ mod_low high width a small

pub field_below : (n low width : ℕ) → field n low width < 2 ^ width
unfolding field
field_below n low width = mod_below (n / 2 ^ low) (2 ^ width) (pow_pos width)

-- a number of which a bit is set is not 0
pub above-zero : (n : ℕ) → field n 61 1 ≡ 1 → 0 < n
unfolding field
above-zero n e = omega arith
