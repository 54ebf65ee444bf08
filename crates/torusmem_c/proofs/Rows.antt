-- The row of a machine, word by word.
use Rattle.std.proofs.Common.{◌≡◌, ℕ, zero, suc, ◌+◌, ◌*◌, ◌<◌, ◌≤◌, true, false, List, [], ◌∷◌, length, slice_get, Some}
use Rattle.std.proofs.Common.{is_some, refl, sym, subst, arith}
use Rattle.std.proofs.Math.Nat.{mul-le-mul}
use Rattle.std.specs.Option.{unwrap_or}
use Rattle.torus.specs.Shape.{Shape, dims_of, tiles_of}
use Rattle.torus.specs.declared.step.Step.{Step}
use Rattle.channel_number.specs.Order.{channel_count}
use Rattle.core_laws.specs.Row.{row_of}
use Rattle.core_laws.specs.Core.{Load}
use Rattle.core_laws.specs.Machine.{Core, IsAfter, built_to}
use Rattle.machine_core.proofs.ShownRows.{shows_row}

-- a row has at most as many words as 1792 channels of 8 places, 65536 addresses and the done word
pub row_small : (l : Load) (c : Core) (steps : List Step) → IsAfter l c steps → length (row_of (built_to c) c.state) ≤ 79873
row_small l c steps h =
    let size = (shows_row l c steps h).size in
    let tiles : tiles_of c.shape ≤ 64 = subst (λ (s : Shape). tiles_of s ≤ 64) (sym h.shape) h.accepted.shape.tiles in
    let dims : dims_of c.shape ≤ 3 = subst (λ (s : Shape). dims_of s ≤ 3) (sym h.shape) h.accepted.shape.dims_high in
    let ports : 8 * dims_of c.shape + 4 ≤ 28 = omega (arith, dims) in
    let channels : channel_count c.shape ≤ 64 * 28 = mul-le-mul tiles ports in
    let depth : c.depth ≤ 8 = subst (λ (n : ℕ). n ≤ 8) (sym h.depth) h.accepted.depth.1 in
    let places : channel_count c.shape * c.depth ≤ (64 * 28) * 8 = mul-le-mul channels depth in
    let words : length c.opening ≤ 65536 = subst (λ (xs : List ℕ). length xs ≤ 65536) (sym h.opening) h.accepted.size.1 in
    omega (arith, size, places, words)

-- where there is a word the row goes on, and where there is none it ends
pub goes_on : (row : List ℕ) (i : ℕ) → is_some (slice_get row i) ≡ true → i < length row
goes_on [] i h = absurd (cc)
goes_on (x ∷ row) zero h = omega arith
goes_on (x ∷ row) (suc i) h = let rest : i < length row = goes_on row i h in omega (arith, rest)

pub ends : (row : List ℕ) (i : ℕ) → i ≤ length row → is_some (slice_get row i) ≡ false → i ≡ length row
ends [] i low h = omega (arith, low)
ends (x ∷ row) zero low h = absurd (cc)
ends (x ∷ row) (suc i) low h = let rest : i ≡ length row = ends row i (omega (arith, low)) h in omega (arith, rest)

-- the word at a place of the row
pub word_at : (row : List ℕ) (i : ℕ) → i < length row → slice_get row i ≡ Some (unwrap_or (slice_get row i) 0)
word_at [] i there = absurd (omega (arith, there))
word_at (x ∷ row) zero there = refl
word_at (x ∷ row) (suc i) there = word_at row i (omega (arith, there))
