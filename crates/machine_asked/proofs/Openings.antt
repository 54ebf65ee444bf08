-- A machine that is opened by numbers.
use Rattle.std.proofs.Common.{◌≡◌, ℕ, zero, suc, ◌+◌, ◌<◌, ◌≤◌, Bool, true, false, not, List, [], ◌∷◌, length, take, replicate, Option, Some, None, Result, Ok, Err, refl, sym, ◌∙◌, ap, subst, arith, slice_get, slice_index}
use Rattle.std.proofs.lemmas.Option.{slice_get-get_or}
use Rattle.std.proofs.lemmas.List.{take_all}
use Rattle.torus.specs.Shape.{Shape, IsAccepted, dims_of, tiles_of}
use Rattle.lexer.specs.declared.fault.LineFault.{LineFault}
use Rattle.script_lines.specs.Machine.{MachineSpec}
use Rattle.script.specs.Machine.{machine_of}
use Rattle.script.specs.Scripts.{scripts_of}
use Rattle.machine_parts.specs.Load.{Load, load_of}
use Rattle.machine_core.specs.Loading.{◌then◌, load_by}

-- what isn't false is true
pub is_so : (b : Bool) → not b ≡ false → b ≡ true
is_so true h = refl
is_so false h = absurd (cc)

-- scripts that are read of no line have no lines
read_none : (r : Result MachineSpec LineFault) (l : Load) → (r then λ m. scripts_of m [] then λ s. Ok (load_of m s)) ≡ Ok l
    → l.scripts ≡ replicate (tiles_of l.shape) []
read_none (Ok m) l e =
    let is : load_of m (record { words = length m.opening; lists = replicate (tiles_of m.shape) [] }) ≡ l = cc in
    subst (λ (x : Load). x.scripts ≡ replicate (tiles_of x.shape) []) is refl
read_none (Err f) l e = absurd (cc)

pub no_lines : (machine : List (List ℕ)) (l : Load) → load_by machine [] ≡ Ok l → l.scripts ≡ replicate (tiles_of l.shape) []
no_lines machine l e = read_none (machine_of machine) l e

-- one word more of two lists that begin alike
one_more : (xs ys : List ℕ) (i : ℕ) → i < length xs → slice_get xs i ≡ slice_get ys i → take i xs ≡ take i ys → take (suc i) xs ≡ take (suc i) ys
one_more [] ys i low same so_far = absurd (omega (arith, low))
one_more (x ∷ xs) [] zero low same so_far = absurd (cc)
one_more (x ∷ xs) [] (suc i) low same so_far = absurd (cc)
one_more (x ∷ xs) (y ∷ ys) zero low same so_far = let is : x ≡ y = cc in ap (λ (z : ℕ). z ∷ []) is
one_more (x ∷ xs) (y ∷ ys) (suc i) low same so_far =
    let is : x ≡ y = cc in let rest : take i xs ≡ take i ys = cc in
    let more = one_more xs ys i (omega (arith, low)) same rest in
    ap (λ (z : ℕ). z ∷ take (suc i) xs) is ∙ ap (λ (zs : List ℕ). y ∷ zs) more

alike : (xs ys : List ℕ) (i : ℕ) → i < length xs → slice_get xs i ≡ slice_get ys i → take i xs ≡ take i ys → take (i + 1) xs ≡ take (i + 1) ys
alike xs ys i low same so_far =
    subst (λ (n : ℕ). take n xs ≡ take n ys) (let next : suc i ≡ i + 1 = omega arith in next) (one_more xs ys i low same so_far)

pub same_so_far : (xs ys : List ℕ) (i : ℕ) → i < length xs → i < length ys → slice_index xs i ≡ slice_index ys i → take i xs ≡ take i ys
    → take (i + 1) xs ≡ take (i + 1) ys
same_so_far xs ys i low there same so_far =
    alike xs ys i low (slice_get-get_or xs i 0 low ∙ (ap Some same ∙ sym (slice_get-get_or ys i 0 there))) so_far

-- shapes whose lists are alike to their ends are one
pub same_shape : (s t : Shape) (n : ℕ) → IsAccepted s → IsAccepted t → dims_of s ≤ n → dims_of t ≤ n → take n s.radices ≡ take n t.radices
    → take n s.datelines ≡ take n t.datelines → s ≡ t
same_shape s t n h g low there radices datelines =
    let first = h.counts in let second = g.counts in
    let r : s.radices ≡ t.radices = sym (take_all n s.radices low) ∙ (radices ∙ take_all n t.radices there) in
    let d : s.datelines ≡ t.datelines =
    sym (take_all n s.datelines (omega (arith, first, low))) ∙ (datelines ∙ take_all n t.datelines (omega (arith, second, there))) in
    λ i. record { radices = r i; datelines = d i }
