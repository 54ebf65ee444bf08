-- How many operations all scripts allow, by processor and by bank.
use Rattle.std.proofs.Common.{◌≡◌, ⊎_elim, ℕ, zero, suc, ◌+◌, ◌%◌, ◌<◌, ◌≤◌, ◌==◌, cond, List, [], ◌∷◌, length, Option, Some, None, refl, ap, arith}
use Rattle.std.proofs.Common.{slice_index_or, eq-eqb}
use Rattle.std.specs.Prelude.{if◌then◌else◌}
use Rattle.std.proofs.lemmas.Bool.{cases_eq, ne_eqb}
use Rattle.std.proofs.lemmas.List.Sums.{sum_by-cons}
use Rattle.script_lines.specs.declared.line.Line.{Line}
use Rattle.script_lines.specs.Lines.{operations_of, operation_count, total_count}
use Rattle.one_order.specs.Scripts.{IsFollowable, address_of}
use Rattle.one_order.specs.Homes.{is_home, line_home_count, script_home_count}
use Rattle.one_order.specs.Following.{first_of, left_of, starts}
use Rattle.one_order.proofs.Shown.{left_within}
use Rattle.one_order.specs.Room.{home_room}
use Rattle.wormhole.specs.Weight.{sum_below}

-- the sum of two counts
sum_both : (m : ℕ) (f g h : ℕ → ℕ) → ((b : ℕ) → h b ≡ f b + g b) → sum_below m h ≡ sum_below m f + sum_below m g
sum_both zero f g h same = refl
sum_both (suc m) f g h same = let rest = sum_both m f g h same in let here = same m in omega arith

sum_none : (m : ℕ) (f : ℕ → ℕ) → ((b : ℕ) → f b ≡ 0) → sum_below m f ≡ 0
sum_none zero f none = refl
sum_none (suc m) f none = let rest = sum_none m f none in let here = none m in omega arith

-- one number at most is this
none_below : (m k c : ℕ) → m ≤ k → sum_below m (λ b. if k == b then c else 0) ≡ 0
none_below zero k c low = refl
none_below (suc m) k c low =
    let rest = none_below m k c (omega arith) in
    let here : (if k == m then c else 0) ≡ 0 = ap (λ b. cond b c 0) (ne_eqb k m (λ e. absurd (omega arith))) in
    omega arith

one_below : (m k c : ℕ) → sum_below m (λ b. if k == b then c else 0) ≤ c
one_below zero k c = omega arith
one_below (suc m) k c = ⊎_elim
    (λ (same : k ≡ m).
    let rest = none_below m k c (omega arith) in
    let here : (if k == m then c else 0) ≡ c = ap (λ b. cond b c 0) (eq-eqb k m same) in
    omega arith)
    (λ other.
    let rest = one_below m k c in
    let here : (if k == m then c else 0) ≡ 0 = ap (λ b. cond b c 0) (ne_eqb k m other) in
    omega arith)
    (cases_eq k m)

-- an address is at home in one bank
at_home : (tiles c m : ℕ) (a : Option ℕ) → sum_below m (λ b. if is_home tiles b a then c else 0) ≤ c
at_home tiles c m None = let none = sum_none m (λ b. 0) (λ b. refl) in omega arith
at_home tiles c m (Some a) = one_below m (a % tiles) c

script_homes : (tiles m : ℕ) (lines : List Line) → sum_below m (λ b. script_home_count tiles b lines) ≤ operation_count lines
script_homes tiles m [] = let none = sum_none m (λ b. script_home_count tiles b []) (λ b. refl) in omega arith
script_homes tiles m (line ∷ lines) =
    let both = sum_both m (λ b. line_home_count tiles b line) (λ b. script_home_count tiles b lines) (λ b. script_home_count tiles b (line ∷ lines))
    (λ b. sum_by-cons (line_home_count tiles b) line lines) in
    let first = at_home tiles (operations_of line) m (address_of line) in
    let rest = script_homes tiles m lines in
    let all = sum_by-cons operations_of line lines in
    omega arith

-- the banks together have room for the operations of all scripts, and no more
pub all_homes : (tiles m : ℕ) (scripts : List (List Line)) → sum_below m (λ b. home_room tiles b scripts) ≤ total_count scripts
all_homes tiles m [] = let none = sum_none m (λ b. home_room tiles b []) (λ b. refl) in omega arith
all_homes tiles m (lines ∷ scripts) =
    let both = sum_both m (λ b. script_home_count tiles b lines) (λ b. home_room tiles b scripts) (λ b. home_room tiles b (lines ∷ scripts))
    (λ b. sum_by-cons (script_home_count tiles b) lines scripts) in
    let first = script_homes tiles m lines in
    let rest = all_homes tiles m scripts in
    let all = sum_by-cons operation_count lines scripts in
    omega arith

-- at first a follower has no more left than its script allows
pub left_at_first : (lines : List Line) → IsFollowable lines → left_of (first_of lines) ≤ operation_count lines
left_at_first lines followable = let most = left_within lines [] (first_of lines) followable starts in omega arith

-- the numbers of a list, summed
sum_front : (m : ℕ) (f : ℕ → ℕ) → sum_below (suc m) f ≡ f 0 + sum_below m (λ t. f (suc t))
sum_front zero f = omega arith
sum_front (suc m) f = let rest = sum_front m f in omega arith

pub all_left : (scripts : List (List Line)) (f : List Line → ℕ)
    → ((p : ℕ) → p < length scripts → f (slice_index_or scripts p []) ≤ operation_count (slice_index_or scripts p []))
    → sum_below (length scripts) (λ t. f (slice_index_or scripts t [])) ≤ total_count scripts
all_left [] f each = omega arith
all_left (lines ∷ scripts) f each =
    let front = sum_front (length scripts) (λ t. f (slice_index_or (lines ∷ scripts) t [])) in
    let first = each 0 (omega arith) in
    let rest = all_left scripts f (λ p low. each (suc p) (omega arith)) in
    let all = sum_by-cons operation_count lines scripts in
    omega arith
