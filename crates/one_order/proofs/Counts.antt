-- How many operations there can be, anywhere.
use Rattle.std.proofs.Common.{◌≡◌, ℕ, zero, suc, ◌+◌, ◌<◌, ◌≤◌, ◌==◌, cond, List, [], ◌∷◌, ◌++◌, length, take, drop}
use Rattle.std.proofs.Common.{replicate, Some, refl, sym, ◌∙◌, ap, arith, slice_get, length-append, length-take}
use Rattle.std.proofs.Common.{length-drop}
use Rattle.std.specs.Prelude.{remove, count_by}
use Rattle.std.proofs.lemmas.List.Sums.{sum_by-append, sum_by-remove}
use Rattle.std.proofs.lemmas.Option.{slice_get_within, get_or_from_slice_get}
use Rattle.packet.specs.declared.kinds.Operation.{Operation}
use Rattle.packet.specs.declared.kinds.Request.{Request}
use Rattle.one_order.specs.Observed.{Observed, list_at, total}
use Rattle.one_order.specs.Order.{home}
use Rattle.one_order.specs.Events.{push_at}

pub total_within : {A : Type 0} (xss : List (List A)) (p : ℕ) → length (list_at xss p) ≤ total xss
total_within [] p = omega arith
total_within (xs ∷ xss) zero = omega arith
total_within (xs ∷ xss) (suc p) = omega (arith, total_within xss p)

pub length-remove : {A : Type 0} (xs : List A) (k : ℕ) → k < length xs → length (remove xs k) + 1 ≡ length xs
length-remove xs k h = omega (arith, length-append (take k xs) (drop (suc k) xs), length-take k xs, length-drop (suc k) xs)

-- how many operations of a list are at home in a bank
abbrev pub home_count : ℕ → ℕ → List Operation → ℕ
home_count tiles b os = count_by (λ o. home tiles o == b) os

-- how many operations of several lists together are at home in a bank
abbrev pub home_total : ℕ → ℕ → List (List Operation) → ℕ
home_total tiles b [] = 0
home_total tiles b (os ∷ oss) = home_count tiles b os + home_total tiles b oss

-- how many requests are to a bank
abbrev pub asked_of : ℕ → List Request → ℕ
asked_of b requests = count_by (λ r. r.destination == b) requests

home_count_push : (tiles b : ℕ) (os : List Operation) (o : Operation)
    → home_count tiles b (os ++ o ∷ []) ≡ home_count tiles b os + cond (home tiles o == b) 1 0
home_count_push tiles b os o = omega (arith, sum_by-append (λ (x : Operation). cond (home tiles x == b) 1 0) os (o ∷ []))

pub home_total_push : (tiles b : ℕ) (oss : List (List Operation)) (p : ℕ) (o : Operation) → p < length oss →
    home_total tiles b (push_at oss p o) ≡ home_total tiles b oss + cond (home tiles o == b) 1 0
home_total_push tiles b [] p o h = absurd (omega arith)
home_total_push tiles b (os ∷ oss) zero o h = omega (arith, home_count_push tiles b os o)
home_total_push tiles b (os ∷ oss) (suc p) o h = omega (arith, home_total_push tiles b oss p o (omega arith))

pub asked_push : (b : ℕ) (requests : List Request) (r : Request)
    → asked_of b (requests ++ r ∷ []) ≡ asked_of b requests + cond (r.destination == b) 1 0
asked_push b requests r = omega (arith, sum_by-append (λ (x : Request). cond (x.destination == b) 1 0) requests (r ∷ []))

pub asked_remove : (b : ℕ) (requests : List Request) (k : ℕ) (r : Request) → slice_get requests k ≡ Some r
    → asked_of b (remove requests k) + cond (r.destination == b) 1 0 ≡ asked_of b requests
asked_remove b requests k r there =
    let within = slice_get_within requests k r there in
    ap (λ (x : Request). asked_of b (remove requests k) + cond (x.destination == b) 1 0) (sym (get_or_from_slice_get requests k r r there))
    ∙ sum_by-remove (λ (x : Request). cond (x.destination == b) 1 0) requests k r within

-- Each operation that was issued is asked for or served, in all and for each bank; and each served one is told or answered.
pub record Counted (tiles : ℕ) (s : Observed) (requests : List Request) (responses : ℕ) : Type 0 where
  pub asked : length requests + total s.entries ≡ total s.issued
  pub told : responses + total s.answers ≡ total s.entries
  pub homes : (b : ℕ) → asked_of b requests + length (list_at s.entries b) ≡ home_total tiles b s.issued

pub home_total_none : (tiles b n : ℕ) → home_total tiles b (replicate n []) ≡ 0
home_total_none tiles b zero = refl
home_total_none tiles b (suc n) = omega (arith, home_total_none tiles b n)
