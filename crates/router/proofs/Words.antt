-- Latches as words: 0 where there is no flit.
use Rattle.std.specs.List.{refill}
use Rattle.std.proofs.Common.{◌≡◌, ◌≢◌, ℕ, zero, suc, ◌<◌, List, ◌∷◌, drop, length-set, length, get_or, set, map, replicate, Option, Some, None, refl, sym, ap, ◌∙◌, arith}
use Rattle.std.proofs.lemmas.Bool.{ne_eqb}
use Rattle.std.proofs.lemmas.List.{map-set, get_or-map, length-map, take_at}
use Rattle.flit_buffer.specs.Tries.{flit_in}

-- a word that isn't 0 is a flit
pub is_flit : (w : ℕ) → w ≢ 0 → flit_in w ≡ Some w
is_flit w some = rw (ne_eqb w 0 some) refl

pub filled_latch : (ws : List ℕ) (i w : ℕ) → w ≢ 0 → map flit_in (set ws i w) ≡ set (map flit_in ws) i (Some w)
filled_latch ws i w some = map-set flit_in ws i w ∙ ap (set (map flit_in ws) i) (is_flit w some)

pub emptied_latch : (ws : List ℕ) (i : ℕ) → map flit_in (set ws i 0) ≡ set (map flit_in ws) i None
emptied_latch ws i = map-set flit_in ws i 0

pub latch_told : (ws : List ℕ) (i : ℕ) → i < length (map flit_in ws) → get_or (map flit_in ws) i None ≡ flit_in (get_or ws i 0)
latch_told ws i low = get_or-map flit_in ws i 0 None (omega (arith, low, length-map ws flit_in))

pub empty_latches : (n : ℕ) → map flit_in (replicate n 0) ≡ replicate n None
empty_latches zero = refl
empty_latches (suc n) = ap (λ l. None ∷ l) (empty_latches n)

-- a write of one item through the slice of a list in an array
pub written : {X : Type 0} (xs ys : List X) (i : ℕ) (v : X) → ys ≡ xs → refill (length xs) xs (set ys i v) ≡ set xs i v
written xs ys i v is =
    take_at (set ys i v) (drop (length (set ys i v)) xs) (length xs) (length-set ys i v ∙ ap length is) ∙ ap (λ l. set l i v) is
