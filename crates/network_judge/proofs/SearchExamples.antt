-- A walk that is clear, one that isn't, and packets that wait, on a line of three channels.
use Rattle.std.proofs.Common.{◌≡◌, ℕ, zero, suc, ◌<◌, ◌≤◌, Bool, true, false, List, [], ◌∷◌, refl, arith}
use Rattle.network_judge.specs.declared.table.Kind.TheVariants.{Injection, Hop, Ejection}
use Rattle.network_judge.specs.Table.{Table}
use Rattle.network_judge.specs.Ways.{place}
use Rattle.network_judge.specs.Marks.{is_marked_at}
use Rattle.network_judge.specs.Clear.{IsClearWalk, WaitsForMarked}

-- packets go from sender 0 over hop 1 to receiver 2
abbrev line : Table
line = record { kinds = Injection ∷ Hop ∷ Ejection ∷ []; joins = record { from = 0; to = 2 } ∷ []; choices = 1 ∷ 2 ∷ 0 ∷ [] }

abbrev only_1 : List Bool
only_1 = false ∷ true ∷ false ∷ []

abbrev only_2 : List Bool
only_2 = false ∷ false ∷ true ∷ []

-- with channel 2 filled, packets still come to channel 1
comes_to_1 : IsClearWalk line only_2 0 2 1 1
comes_to_1 = record { here = refl; inside = inside; clear = clear; goes_on = goes_on }
  where
    inside : (k : ℕ) → k ≤ 1 → place line 2 0 k < 3
    inside zero l = omega arith
    inside (suc zero) l = omega arith
    inside (suc (suc k)) l = absurd (omega arith)

    clear : (k : ℕ) → k ≤ 1 → is_marked_at only_2 (place line 2 0 k) ≡ false
    clear zero l = refl
    clear (suc zero) l = refl
    clear (suc (suc k)) l = absurd (omega arith)

    goes_on : (k : ℕ) → k < 1 → place line 2 0 k ≡ 2 → ⊥
    goes_on zero l e = absurd (omega arith)
    goes_on (suc k) l e = absurd (omega arith)

-- the channel that is to be filled may not be filled before
fills_once : IsClearWalk line only_1 0 2 1 1 → ⊥
fills_once walk =
    let free : is_marked_at only_1 1 ≡ false = walk.clear 1 (omega arith) in
    let filled : is_marked_at only_1 1 ≡ true = refl in
    absurd (cc)

-- packets in channel 1 wait for channel 2 if that is filled, and a channel doesn't wait for itself
waits_for_next : WaitsForMarked line [] only_2 2 1
waits_for_next = record { under_way = λ apart. refl; at_end = λ e. absurd (omega arith) }

waits_not_for_itself : WaitsForMarked line [] only_1 2 1 → ⊥
waits_not_for_itself waits =
    let next : is_marked_at only_1 2 ≡ true = waits.under_way (λ e. absurd (omega arith)) in
    let free : is_marked_at only_1 2 ≡ false = refl in
    absurd (cc)
