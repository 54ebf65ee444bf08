-- A reading with choices, and the place of a choice.
use Rattle.std.proofs.Common.{◌≡◌, ℕ, ◌+◌, ◌*◌, ◌<◌, ◌≤◌, ◌==◌, Bool, true, false, Some, None, List, take, refl, sym, ◌∙◌, ap, arith, eq-eqb}
use Rattle.std.specs.Prelude.{slice_get, slice_index, nat_lt, if◌then◌else◌}
use Rattle.std.specs.List.{count_by}
use Rattle.std.proofs.Math.Nat.{mul-le-mul_right}
use Rattle.std.proofs.lemmas.Option.{slice_get_within}
use Rattle.std.proofs.lemmas.Bool.Decides.{nat_tests}
use Rattle.network_judge.specs.declared.table.Kind.{Kind}
use Rattle.network_judge.specs.declared.table.Kind.TheVariants.{Ejection}
use Rattle.network_judge.specs.Table.{ejects, is_receiver}
use Rattle.network_judge.specs.Columns.{AreColumns}
use Rattle.network_text.specs.Network.{Reading, count_of, lacks, started, begun, cell_of, after_choice, after_next, taken_cell}

begun_by : (r : Reading) (b : Bool) → r.begun ≡ b → (begun r).begun ≡ true
begun_by r true e = ap (λ b. (if b then r else started r).begun) e ∙ e
begun_by r false e = ap (λ b. (if b then r else started r).begun) e

kinds_by : (r : Reading) (b : Bool) → r.begun ≡ b → (begun r).table.kinds ≡ r.table.kinds
kinds_by r true e = ap (λ b. (if b then r else started r).table.kinds) e
kinds_by r false e = ap (λ b. (if b then r else started r).table.kinds) e

-- it is begun, of the same channels
pub is_begun : (r new : Reading) → new ≡ begun r → new.begun ≡ true
is_begun r new e = ap (λ (x : Reading). x.begun) e ∙ begun_by r r.begun refl

pub begun_kinds : (r new : Reading) → new ≡ begun r → new.table.kinds ≡ r.table.kinds
begun_kinds r new e = ap (λ (x : Reading). x.table.kinds) e ∙ kinds_by r r.begun refl

-- a place in a row of a channel
pub cell_low : (n w x c : ℕ) → x < n → c < w → x * w + c < n * w
cell_low n w x c low inside =
    let rows : (x + 1) * w ≤ n * w = mul-le-mul_right w (omega arith) in
    omega arith

-- the column that is read
pub column_there : (kinds : List Kind) (columns : List ℕ) (j c : ℕ) → AreColumns kinds columns → slice_get kinds j ≡ Some Ejection
    → c ≡ slice_index columns j → c ≡ count_by ejects (take j kinds)
column_there kinds columns j c are e read = read ∙ are.each j (slice_get_within kinds j Ejection e)

-- a channel that there is
pub has_channel : (r : Reading) (place x : ℕ) → x < count_of r → lacks r place x ≡ None
has_channel r place x low =
    let some : (count_of r == 0) ≡ false = grind (arith, nat_tests) in
    let a : nat_lt x (count_of r) ≡ true = grind (arith, nat_tests) in
    rw some (rw a refl)

-- a choice that may be given
pub next_is : (r : Reading) (x j y : ℕ) → x < count_of r → j < count_of r → is_receiver (slice_get r.table.kinds j) ≡ true → y < count_of r
    → after_next r x j y ≡ after_choice (begun r) (cell_of r x j) y
next_is r x j y low between ends inner =
    rw (has_channel r 1 x low) (rw (has_channel r 2 j between) (rw ends (rw (has_channel r 3 y inner) refl)))

pub begun_same : (r : Reading) → r.begun ≡ true → r ≡ begun r
begun_same r given = ap (λ b. if b then r else started r) (sym given)

-- the place of a choice that is given
taken_is : (r : Reading) (x j : ℕ) → r.begun ≡ true → x < count_of r → is_receiver (slice_get r.table.kinds j) ≡ true
    → taken_cell r x j ≡ (if slice_index r.table.choices (cell_of r x j) == count_of r then None else Some (cell_of r x j))
taken_is r x j given low ends =
    let a : nat_lt x (count_of r) ≡ true = grind (arith, nat_tests) in
    rw given (rw a (rw ends refl))

pub not_taken : (r : Reading) (x j cell : ℕ) → r.begun ≡ true → x < count_of r → is_receiver (slice_get r.table.kinds j) ≡ true
    → cell ≡ cell_of r x j → slice_index r.table.choices cell ≡ count_of r → None ≡ taken_cell r x j
not_taken r x j cell given low ends is e =
    sym (taken_is r x j given low ends ∙ ap (λ b. if b then None else Some (cell_of r x j)) (eq-eqb _ _ (ap (slice_index r.table.choices) (sym is) ∙ e)))

pub is_taken : (r : Reading) (x j cell : ℕ) → r.begun ≡ true → x < count_of r → is_receiver (slice_get r.table.kinds j) ≡ true
    → cell ≡ cell_of r x j → (slice_index r.table.choices cell == count_of r) ≡ false → Some cell ≡ taken_cell r x j
is_taken r x j cell given low ends is e =
    ap Some is ∙ sym (taken_is r x j given low ends
    ∙ ap (λ b. if b then None else Some (cell_of r x j)) (ap (λ z. slice_index r.table.choices z == count_of r) (sym is) ∙ e))
