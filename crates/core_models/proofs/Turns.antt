-- Turns by services: a fence has its turn right behind all that its processor did before it.
use Rattle.std.proofs.Common.{◌≡◌, inl, inr, ℕ, zero, suc, ◌+◌, ◌*◌, ◌<◌, ◌≤◌, ◌==◌, max, true, false, cond, List, [], ◌∷◌, length}
use Rattle.std.proofs.Common.{ap, arith, eq-eqb, mul-le-mul_right, suc-mul}
use Rattle.std.proofs.lemmas.Bool.{cases_eq, cases_order, cond-true, cond-false, ne_eqb}
use Rattle.memory_models.specs.Trace.{uses_word}
use Rattle.core_models.specs.Accesses.{Access}
use Rattle.core_models.specs.Traces.{access_at}

-- the number of an access's service, if it is processor q's
abbrev pub own_served : ℕ → Access → ℕ
own_served q a = cond (a.processor == q) a.served 0

-- the greatest of those of q among the first f
abbrev pub latest : List Access → ℕ → ℕ → ℕ
latest [] q f = 0
latest (a ∷ accesses) q zero = 0
latest (a ∷ accesses) q (suc f) = max (own_served q a) (latest accesses q f)

pub latest_at : (all : List Access) (q f y : ℕ) → y < f → y < length all → (access_at all y).processor ≡ q → (access_at all y).served ≤ latest all q f
latest_at [] q f y less low own = absurd (omega arith)
latest_at (a ∷ all) q zero y less low own = absurd (omega arith)
latest_at (a ∷ all) q (suc f) zero less low own =
    let is : own_served q a ≡ a.served = cond-true (a.processor == q) a.served 0 (eq-eqb a.processor q own) in
    omega (arith, is)
latest_at (a ∷ all) q (suc f) (suc y) less low own = let rest = latest_at all q f y (omega arith) (omega arith) own in omega (arith, rest)

pub latest_more : (all : List Access) (q f g : ℕ) → f ≤ g → latest all q f ≤ latest all q g
latest_more [] q f g low = omega arith
latest_more (a ∷ all) q zero g low = omega arith
latest_more (a ∷ all) q (suc f) zero low = absurd (omega arith)
latest_more (a ∷ all) q (suc f) (suc g) low = let rest = latest_more all q f g (omega arith) in omega (arith, rest)

pub latest_below : (all : List Access) (q f t : ℕ) → 0 < t
    → ((y : ℕ) → y < f → y < length all → (access_at all y).processor ≡ q → (access_at all y).served < t) → latest all q f < t
latest_below [] q f t some h = some
latest_below (a ∷ all) q zero t some h = some
latest_below (a ∷ all) q (suc f) t some h =
    let rest = latest_below all q f t some (λ y less low own. h (suc y) (omega arith) (omega arith) own) in
    let first : own_served q a < t = elim (cases_eq a.processor q) [
      | inl own ↦ (let is : own_served q a ≡ a.served = cond-true (a.processor == q) a.served 0 (eq-eqb a.processor q own) in
          let less = h 0 (omega arith) (omega arith) own in omega (arith, is, less))
      | inr other ↦ (let is : own_served q a ≡ 0 = cond-false (a.processor == q) a.served 0 (ne_eqb a.processor q other) in omega (arith, is))
    ] in
    omega (arith, rest, first)

-- by what an access has its turn
abbrev pub turn_key : List Access → ℕ → ℕ
turn_key all x = cond (uses_word (access_at all x).kind) (access_at all x).served (latest all (access_at all x).processor x)

abbrev pub turn_of : List Access → ℕ → ℕ
turn_of all x = turn_key all x * length all + x

pub key_of_use : (all : List Access) (x : ℕ) → uses_word (access_at all x).kind ≡ true → turn_key all x ≡ (access_at all x).served
key_of_use all x used = cond-true (uses_word (access_at all x).kind) (access_at all x).served (latest all (access_at all x).processor x) used

pub key_of_fence : (all : List Access) (x : ℕ) → uses_word (access_at all x).kind ≡ false → turn_key all x ≡ latest all (access_at all x).processor x
key_of_fence all x none = cond-false (uses_word (access_at all x).kind) (access_at all x).served (latest all (access_at all x).processor x) none

product_less : (n k m : ℕ) → k < m → k * n + n ≤ m * n
product_less n k m less =
    let more : suc k * n ≤ m * n = mul-le-mul_right n less in
    let step = suc-mul k n in omega (arith, more, step)

pub later_key : (all : List Access) (x y : ℕ) → x < length all → turn_key all x < turn_key all y → turn_of all x < turn_of all y
later_key all x y low less = let more = product_less (length all) (turn_key all x) (turn_key all y) less in omega (arith, more)

pub later_place : (all : List Access) (x y : ℕ) → x < y → x < length all → turn_key all x ≤ turn_key all y → turn_of all x < turn_of all y
later_place all x y less low keys = elim (cases_eq (turn_key all x) (turn_key all y)) [
  | inl same ↦ (let equal : turn_key all x * length all ≡ turn_key all y * length all = ap (λ k. k * length all) same in omega (arith, equal))
  | inr other ↦ later_key all x y low (omega (arith, other))
]

pub turns_apart : (all : List Access) (x y : ℕ) → x < length all → y < length all → turn_of all x ≡ turn_of all y → x ≡ y
turns_apart all x y low high same = elim (cases_order (turn_key all x) (turn_key all y)) [
  | inl equal ↦ (let products : turn_key all x * length all ≡ turn_key all y * length all = ap (λ k. k * length all) equal in omega (arith, products))
  | inr (inl less) ↦ (let bad = later_key all x y low less in absurd (omega (arith, bad)))
  | inr (inr more) ↦ (let bad = later_key all y x high more in absurd (omega (arith, bad)))
]
