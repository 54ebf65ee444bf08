-- The greatest of some numbers, kinds of operations that are no fences, and what models keep in order.
use Rattle.std.proofs.Common.{◌≡◌, inl, inr, ℕ, zero, suc, ◌+◌, ◌*◌, ◌<◌, ◌≤◌, max, Bool, true, cond, List}
use Rattle.std.proofs.Common.{refl, sym, ◌∙◌, ap, arith, mul-le-mul_right, suc-mul}
use Rattle.std.proofs.lemmas.Bool.{cases_Bool, cases_order, cond-true, cond-false}
use Rattle.memory_models.specs.declared.kinds.Kind.{Kind}
use Rattle.memory_models.specs.declared.kinds.Kind.TheVariants.{Load, Store, Atomic, Fence}
use Rattle.memory_models.specs.declared.kinds.Operation.{Operation}
use Rattle.memory_models.specs.declared.kinds.Rule.{Rule}
use Rattle.memory_models.specs.Trace.{has, is_load, is_write, writes_rule, operation_at, IsOwn}
use Rattle.memory_models.specs.Order.{KeepsOrder}
use Rattle.memory_models.specs.Models.{but_fences, sequential}

-- the greatest value of those below n that pass a test
abbrev pub top : (ℕ → Bool) → (ℕ → ℕ) → ℕ → ℕ
top test value zero = 0
top test value (suc n) = max (cond (test n) (value n) 0) (top test value n)

pub top_at : (test : ℕ → Bool) (value : ℕ → ℕ) (n x : ℕ) → x < n → test x ≡ true → value x ≤ top test value n
top_at test value zero x low h = absurd (omega arith)
top_at test value (suc n) x low h = elim (cases_order x n) [
  | inl same ↦ (let is : cond (test n) (value n) 0 ≡ value n = cond-true (test n) (value n) 0 (ap test (sym same) ∙ h) in
      let e : value x ≡ value n = ap value same in omega (arith, is, e))
  | inr (inl less) ↦ (let rest = top_at test value n x less h in omega (arith, rest))
  | inr (inr more) ↦ absurd (omega (arith, low, more))
]

pub top_below : (test : ℕ → Bool) (value : ℕ → ℕ) (n b : ℕ) → ((x : ℕ) → x < n → test x ≡ true → value x ≤ b) → top test value n ≤ b
top_below test value zero b h = omega arith
top_below test value (suc n) b h =
    let rest = top_below test value n b (λ x low t. h x (omega (arith, low)) t) in
    elim (cases_Bool (test n)) [
      | inl passes ↦ (let is : cond (test n) (value n) 0 ≡ value n = cond-true (test n) (value n) 0 passes in
          let here = h n (omega arith) passes in omega (arith, is, here, rest))
      | inr fails ↦ (let is : cond (test n) (value n) 0 ≡ 0 = cond-false (test n) (value n) 0 fails in omega (arith, is, rest))
    ]

pub product_less : (n k m : ℕ) → k < m → k * n + n ≤ m * n
product_less n k m less =
    let more : suc k * n ≤ m * n = mul-le-mul_right n less in
    let step = suc-mul k n in omega (arith, more, step)

pub is_any : (k : Kind) → has (record { load = true; store = true; atomic = true; fence = true }) k ≡ true
is_any Load = refl
is_any Store = refl
is_any Atomic = refl
is_any Fence = refl

pub write_is_no_fence : (k : Kind) → is_write k ≡ true → k ≡ Fence → ⊥
write_is_no_fence Load h e = cc
write_is_no_fence Store h e = cc
write_is_no_fence Atomic h e = cc
write_is_no_fence Fence h e = cc

pub load_is_no_fence : (k : Kind) → is_load k ≡ true → k ≡ Fence → ⊥
load_is_no_fence Load h e = cc
load_is_no_fence Store h e = cc
load_is_no_fence Atomic h e = cc
load_is_no_fence Fence h e = cc

pub word_is_no_fence : (k : Kind) → has but_fences k ≡ true → k ≡ Fence → ⊥
word_is_no_fence Load h e = cc
word_is_no_fence Store h e = cc
word_is_no_fence Atomic h e = cc
word_is_no_fence Fence h e = cc

pub written_is_no_fence : (k : Kind) → has writes_rule.from k ≡ true → k ≡ Fence → ⊥
written_is_no_fence Load h e = cc
written_is_no_fence Store h e = cc
written_is_no_fence Atomic h e = cc
written_is_no_fence Fence h e = cc

-- what is kept is of one processor
pub own_of : (rules : List Rule) (ops : List Operation) (x y : ℕ) → KeepsOrder rules ops x y → IsOwn ops x y
own_of rules ops x y (inl (k, low, a)) = a.own
own_of rules ops x y (inr a) = a.own

pub all_kept : (ops : List Operation) (x y : ℕ) → IsOwn ops x y → KeepsOrder sequential ops x y
all_kept ops x y own = inl (0, omega arith, record { own = own; from = is_any (operation_at ops x).kind; to = is_any (operation_at ops y).kind; key = refl })
