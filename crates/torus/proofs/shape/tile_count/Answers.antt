use Rattle.std.proofs.Common.{◌≡◌, ◌*◌, ◌≤◌, ℕ, List, ◌∙◌, ap, arith}
use Rattle.std.specs.Prelude.{slice_index}
use Rattle.std.proofs.lemmas.Nat.{mul-le}
use Rattle.torus.specs.Filled.{filled}
use Rattle.torus.proofs.Kept.{filled_small, product-filled}
use Rattle.torus.proofs.Refusals.{radices_bounds}
use Rattle.torus.proofs.shape.tile_count.Goals as goal

small : (ks all : List ℕ) → all ≡ filled 1 ks → ((i : ℕ) → slice_index (filled 1 ks) i ≤ 8) → (i : ℕ) → slice_index all i ≤ 8
small ks all e h i = rw e (h i)

two : (all : List ℕ) → ((i : ℕ) → slice_index all i ≤ 8) → slice_index all 0 * slice_index all 1 ≤ 64
two all h = mul-le (slice_index all 0) (slice_index all 1) 8 8 (h 0) (h 1)

three : (all : List ℕ) → ((i : ℕ) → slice_index all i ≤ 8) → slice_index all 0 * slice_index all 1 * slice_index all 2 ≤ 512
three all h = mul-le (slice_index all 0 * slice_index all 1) (slice_index all 2) 64 8 (two all h) (h 2)

pub overflow_mul-result : goal.overflow_mul-result
overflow_mul-result c =
    omega (
      arith,
      two c.filled-all.result (small c.args.radices.now c.filled-all.result c.filled-all.ensures
          (filled_small c.args.radices.now c.requires.few (λ d low. (radices_bounds c.args.radices.now c.requires.radices d low).1))),
    )

pub overflow_mul-result-2 : goal.overflow_mul-result-2
overflow_mul-result-2 c =
    omega (
      arith,
      three c.filled-all.result (small c.args.radices.now c.filled-all.result c.filled-all.ensures
          (filled_small c.args.radices.now c.requires.few (λ d low. (radices_bounds c.args.radices.now c.requires.radices d low).1))),
    )

pub returns : goal.returns
returns c =
    ap (λ (all : List ℕ). slice_index all 0 * slice_index all 1 * slice_index all 2) c.filled-all.ensures
    ∙ product-filled c.args.radices.now c.requires.some c.requires.few
