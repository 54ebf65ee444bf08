-- Hops on the ring of one dimension.
use Rattle.std.specs.Prelude.{ℕ, ◌+◌, ◌-◌, ◌%◌, ◌==◌, Bool, nat_le, if◌then◌else◌}
use Rattle.std.specs.List.{list_any, range_with_len}
use Rattle.torus.specs.declared.shape.Dir.{Dir}
use Rattle.torus.specs.declared.shape.Dir.TheVariants.{Plus, Minus}

-- how many hops in a direction lead from digit x to digit y of a ring of k digits (Dally and
-- Towles, chapter 8)
abbrev pub hops_by : Dir → ℕ → ℕ → ℕ → ℕ
hops_by Plus k x y = (y + (k - x)) % k
hops_by Minus k x y = (x + (k - y)) % k

-- the direction that leads from digit x to digit y by the least number of hops; a tie goes plus
-- (Dally and Towles, chapter 8)
abbrev pub shorter_way : ℕ → ℕ → ℕ → Dir
shorter_way k x y = if nat_le (hops_by Plus k x y) (hops_by Minus k x y) then Plus else Minus

-- the digit to which i hops lead from digit x, where i is at most k (Dally and Towles, chapter 5)
abbrev pub digit_after : Dir → ℕ → ℕ → ℕ → ℕ
digit_after Plus k x i = (x + i) % k
digit_after Minus k x i = (x + (k - i)) % k

-- the digit out of which the dateline hop leads: plus out of the dateline digit z, minus out of the
-- one above it (Dally and Towles, chapter 14)
abbrev pub dateline_out_of : Dir → ℕ → ℕ → ℕ
dateline_out_of Plus k z = z
dateline_out_of Minus k z = (z + 1) % k

-- whether, of the hops from digit x on, hop i (from 0) or one before it is the dateline hop (Dally
-- and Towles, chapter 14)
abbrev pub is_crossed : Dir → ℕ → ℕ → ℕ → ℕ → Bool
is_crossed dir k z x i = list_any (λ j. digit_after dir k x j == dateline_out_of dir k z)
    (range_with_len 0 (i + 1))
