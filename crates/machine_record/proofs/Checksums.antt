-- A byte more in a checksum.
use Rattle.std.proofs.Common.{◌≡◌, ℕ, ◌+◌, ◌*◌, ◌%◌, List, [], ◌∷◌, ◌++◌, length, sym, ◌∙◌, ap, arith}
use Rattle.std.proofs.Math.Nat.{add-mod-mod, mod-add-mod}
use Rattle.std.proofs.lemmas.List.{length-append}
use Rattle.machine_record.specs.Checksum.{sum_of, sum_of_sums}

sum_more : (xs : List ℕ) (b : ℕ) → sum_of (xs ++ b ∷ []) ≡ sum_of xs + b
sum_more [] b = omega arith
sum_more (x ∷ xs) b = let rest = sum_more xs b in omega (arith, rest)

times_more : (n x : ℕ) → (n + 1) * x ≡ n * x + x
times_more n x = omega arith

sums_more : (xs : List ℕ) (b : ℕ) → sum_of_sums (xs ++ b ∷ []) ≡ sum_of_sums xs + (sum_of xs + b)
sums_more [] b = omega arith
sums_more (x ∷ xs) b =
    let rest = sums_more xs b in
    let size : length ((x ∷ xs) ++ b ∷ []) ≡ length (x ∷ xs) + 1 = length-append (x ∷ xs) (b ∷ []) in
    let first : length ((x ∷ xs) ++ b ∷ []) * x ≡ length (x ∷ xs) * x + x = ap (λ (n : ℕ). n * x) size ∙ times_more (length (x ∷ xs)) x in
    omega (arith, rest, first)

pub sum_goes_on : (xs ys : List ℕ) (b now next m : ℕ) → ys ≡ xs ++ b ∷ [] → now ≡ sum_of xs % m → next ≡ (now + b) % m → next ≡ sum_of ys % m
sum_goes_on xs ys b now next m is so_far made =
    made ∙ (ap (λ (n : ℕ). (n + b) % m) so_far ∙ (mod-add-mod (sum_of xs) m b ∙ ap (λ (n : ℕ). n % m) (sym (sum_more xs b) ∙ ap sum_of (sym is))))

pub sums_go_on : (xs ys : List ℕ) (b sum now next m : ℕ) → ys ≡ xs ++ b ∷ [] → sum ≡ sum_of ys % m → now ≡ sum_of_sums xs % m → next ≡ (now + sum) % m
    → next ≡ sum_of_sums ys % m
sums_go_on xs ys b sum now next m is one so_far made =
    made
    ∙ (ap (λ (n : ℕ). (n + sum) % m) so_far
    ∙ (mod-add-mod (sum_of_sums xs) m sum
    ∙ (ap (λ (n : ℕ). (sum_of_sums xs + n) % m) one
    ∙ (add-mod-mod (sum_of_sums xs) (sum_of ys) m
    ∙ ap (λ (n : ℕ). n % m)
    (ap (λ (zs : List ℕ). sum_of_sums xs + sum_of zs) is ∙ (ap (λ (n : ℕ). sum_of_sums xs + n) (sum_more xs b) ∙ (sym (sums_more xs b) ∙ ap sum_of_sums (sym is))))))))
