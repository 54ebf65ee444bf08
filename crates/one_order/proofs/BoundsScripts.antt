-- How many operations of a processor that follows its script can be at home in a bank, and of all processors together.
use Rattle.std.proofs.Common.{◌≡◌, ℕ, zero, suc, ◌%◌, ◌<◌, ◌≤◌, ◌==◌, Bool, cond, List, [], ◌∷◌, length, Some, refl, ap, arith, slice_get}
use Rattle.std.specs.Prelude.{count_by}
use Rattle.std.proofs.lemmas.List.Sums.{sum_by-cons}
use Rattle.std.proofs.lemmas.Option.{same_Some}
use Rattle.packet.specs.declared.kinds.Operation.{Operation}
use Rattle.script_lines.specs.declared.line.Line.{Line}
use Rattle.one_order.specs.Scripts.{Invocation, FollowsScript}
use Rattle.script_lines.specs.Lines.{operation_count, total_count}
use Rattle.one_order.specs.Observed.{list_at, total}
use Rattle.one_order.specs.Room.{home_room}
use Rattle.one_order.specs.Homes.{script_home_count}
use Rattle.one_order.proofs.Homes.{invoked, allowed_homes}
use Rattle.one_order.proofs.Counts.{home_count, home_total}

-- how many operations have an address that passes
abbrev pub passing : (ℕ → Bool) → List Operation → ℕ
passing test os = count_by (λ o. test o.address) os

-- the operations that a processor issued, as invocations or not
pub same_passing : (test : ℕ → Bool) (ops : List Invocation) (os : List Operation) → length ops ≡ length os
    → ((i : ℕ) (o : Invocation) → slice_get ops i ≡ Some o → slice_get os i ≡ Some o.operation) → invoked test ops ≡ passing test os
same_passing test [] [] e h = refl
same_passing test [] (o ∷ os) e h = absurd (omega arith)
same_passing test (x ∷ ops) [] e h = absurd (omega arith)
same_passing test (x ∷ ops) (o ∷ os) e h =
    let same : o ≡ x.operation = same_Some _ _ (h 0 x refl) in
    let one : ◌≡◌ {A = ℕ} (cond (test o.address) 1 0) (cond (test x.operation.address) 1 0) = ap (λ (y : Operation). cond (test y.address) 1 0) same in
    let rest = same_passing test ops os (omega arith) (λ i y g. h (suc i) y g) in
    omega (
      arith,
      one,
      rest,
      sum_by-cons (λ (y : Invocation). cond (test y.operation.address) 1 0) x ops,
      sum_by-cons
          (λ (y : Operation). cond (test y.address) 1 0) o os,
    )

-- a processor that follows its script issues at most so many operations to a bank
pub followed_home_within : (tiles b : ℕ) (lines : List Line) (ops : List Invocation) (os : List Operation) → FollowsScript lines ops → length ops ≡ length os
    → ((i : ℕ) (o : Invocation) → slice_get ops i ≡ Some o → slice_get os i ≡ Some o.operation) → home_count tiles b os ≤ script_home_count tiles b lines
followed_home_within tiles b lines ops os follows e h =
    omega (arith, allowed_homes tiles b lines ops follows, same_passing (λ a. (a % tiles) == b) ops os e h)

-- all processors together
pub home_total_within : (tiles b : ℕ) (oss : List (List Operation)) (scripts : List (List Line)) → length oss ≡ length scripts
    → ((p : ℕ) (lines : List Line) → slice_get scripts p ≡ Some lines → home_count tiles b (list_at oss p) ≤ script_home_count tiles b lines)
    → home_total tiles b oss ≤ home_room tiles b scripts
home_total_within tiles b [] scripts e h = omega arith
home_total_within tiles b (os ∷ oss) [] e h = absurd (omega arith)
home_total_within tiles b (os ∷ oss) (lines ∷ scripts) e h =
    omega (
      arith,
      h 0 lines refl,
      home_total_within tiles b oss scripts (omega arith) (λ p ls g. h (suc p) ls g),
      sum_by-cons (script_home_count tiles b) lines
          scripts,
    )

pub total_within_room : (oss : List (List Operation)) (scripts : List (List Line)) → length oss ≡ length scripts
    → ((p : ℕ) (lines : List Line) → slice_get scripts p ≡ Some lines → length (list_at oss p) ≤ operation_count lines) → total oss ≤ total_count scripts
total_within_room [] scripts e h = omega arith
total_within_room (os ∷ oss) [] e h = absurd (omega arith)
total_within_room (os ∷ oss) (lines ∷ scripts) e h =
    omega (arith, h 0 lines refl, total_within_room oss scripts (omega arith) (λ p ls g. h (suc p) ls g), sum_by-cons operation_count lines scripts)

-- where one processor has room, there is room for one more of all
pub total_below_room : (oss : List (List Operation)) (scripts : List (List Line)) → length oss ≡ length scripts
    → ((p : ℕ) (lines : List Line) → slice_get scripts p ≡ Some lines → length (list_at oss p) ≤ operation_count lines)
    → (t : ℕ) (own : List Line) → slice_get scripts t ≡ Some own → length (list_at oss t) < operation_count own → total oss < total_count scripts
total_below_room oss [] e h t own there below = absurd (cc)
total_below_room [] (lines ∷ scripts) e h t own there below = absurd (omega arith)
total_below_room (os ∷ oss) (lines ∷ scripts) e h zero own there below =
    let same = ap operation_count (same_Some lines own there) in
    omega (arith, same, below, total_within_room oss scripts (omega arith) (λ p ls g. h (suc p) ls g), sum_by-cons operation_count lines scripts)
total_below_room (os ∷ oss) (lines ∷ scripts) e h (suc t) own there below =
    omega (
      arith,
      h 0 lines refl,
      total_below_room oss scripts (omega arith) (λ p ls g. h (suc p) ls g) t own there below,
      sum_by-cons operation_count lines
          scripts,
    )
