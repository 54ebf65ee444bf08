-- What a machine shows is within the limits of a report.
use Rattle.std.proofs.Common.{ℕ, zero, suc, ◌<◌, ◌≤◌, List, [], ◌∷◌, length, arith, slice_index_or}
use Rattle.one_order.specs.Observed.{total}
use Rattle.core_laws.specs.Machine.{Core}
use Rattle.core_laws.specs.Reported.{ReportsWell}
use Rattle.machine_report.specs.Report.{IsWithinLimits}

-- each list is at most as long as all together
all_within : {X : Type 0} (xss : List (List X)) (n : ℕ) → total xss ≤ n → (k : ℕ) (d : List X) → k < length xss → length (slice_index_or xss k d) ≤ n
all_within [] n few k d below = absurd (omega (arith, below))
all_within (xs ∷ xss) n few zero d below = omega (arith, few)
all_within (xs ∷ xss) n few (suc k) d below = all_within xss n (omega (arith, few)) k d (omega (arith, below))

pub within_limits : (c : Core) → ReportsWell c → IsWithinLimits c
within_limits c well = record {
  tiles = well.shape.tiles;
  banks = well.shows.sizes.banks;
  processors = well.shows.sizes.answerers;
  words = well.words_high;
  memory = well.shows.sizes.size;
  places = all_within _ 65536 (let count = well.shows.entries.count in omega (arith, count, well.shows.few));
  events = well.shows.events;
}
