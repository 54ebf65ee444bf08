-- What is owed at first.
use Rattle.std.proofs.Common.{◌≡◌, ℕ, ◌+◌, ◌*◌, zero, suc, refl, arith}
use Rattle.wormhole.specs.Net.{Net}
use Rattle.wormhole.specs.State.{empty, empty_line, empty_note}
use Rattle.wormhole.specs.Weight.{sum_below, weight_at}
use Rattle.wormhole.specs.Work.{end_weight, work, first_end}

-- the empty network owes nothing
pub empty_owes : (n : Net) (m : ℕ) → sum_below m (λ x. weight_at n x (empty_line n) empty_note) ≡ 0
empty_owes n zero = refl
empty_owes n (suc m) = let e = empty_owes n m in omega arith

-- what the ends owe at first
pub ends_owe : (ops cap : ℕ → ℕ) (m : ℕ) → sum_below m (λ t. end_weight (first_end (ops t) (cap t))) ≡ 150 * sum_below m ops + 91 * sum_below m cap + 2 * m
ends_owe ops cap zero = refl
ends_owe ops cap (suc m) = let e = ends_owe ops cap m in omega arith

-- at first 241 moves an operation are owed, and 2 a tile
pub owed_at_first : (n : Net) (tiles total : ℕ) (ops cap : ℕ → ℕ) → sum_below tiles ops ≡ total → sum_below tiles cap ≡ total
    → work n tiles (λ t. first_end (ops t) (cap t)) (empty n) ≡ 241 * total + 2 * tiles
owed_at_first n tiles total ops cap all rooms = let a = ends_owe ops cap tiles in let b = empty_owes n n.channels in omega arith
