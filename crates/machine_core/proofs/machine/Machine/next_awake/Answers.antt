use Rattle.std.proofs.Common.{ℕ, ◌<◌, ◌≤◌, Bool, Option, Some, None, ap}
use Rattle.std.specs.Prelude.{MatchOption, is_some}
use Rattle.std.specs.Slice.Scan.{HoldsNowhere, IsFirstPlace}
use Rattle.machine_parts.specs.Machine.{Core}
use Rattle.machine_core.specs.declared.part.Part.{Part}
use Rattle.machine_core.specs.declared.part.Part.TheVariants.{Takes, Puts, Credits}
use Rattle.machine_core.specs.Marked.{SkipsIdle, attempt_in}
use Rattle.machine_core.proofs.Skips.{IsIdle, takes_asleep, puts_asleep, credits_asleep}
use Rattle.machine_core.proofs.machine.Machine.next_awake.Goals as goal

-- flags below which no attempt is enabled
skips : (c : Core) (part : Part) (t from end : ℕ) (flags : ℕ → Bool)
    → ((to : ℕ) → HoldsNowhere flags from to → (k : ℕ) → from ≤ k → k < to → IsIdle c (attempt_in part t k))
    → (found : Option ℕ) → MatchOption found (HoldsNowhere flags from end) (λ i. (i < end) × IsFirstPlace flags from end i)
    → SkipsIdle c part t from end found
skips c part t from end flags idle None off = λ k l m. ap is_some (idle end off k l m)
skips c part t from end flags idle (Some n) is = (is.1.low, is.0, λ k l m. ap is_some (idle n is.1.before k l m))

pub returns-in-Takes : goal.returns-in-Takes
returns-in-Takes g c =
    rw c.in-Takes.is
    (skips c.args.self.now Takes c.args.tile c.args.from c.args.end _
    (λ to off. takes_asleep c.self.inside c.self.invariant c.args.self.now c.self.view_is c.args.tile c.args.from to off)
    c.next_take.result c.next_take.ensures)

pub returns-in-Puts : goal.returns-in-Puts
returns-in-Puts g c =
    rw c.in-Puts.is
    (skips c.args.self.now Puts c.args.tile c.args.from c.args.end _
    (λ to off. puts_asleep c.self.inside c.self.invariant c.args.self.now c.self.view_is c.args.tile c.args.from to off)
    c.next_put.result c.next_put.ensures)

pub returns-in-Credits : goal.returns-in-Credits
returns-in-Credits g c =
    rw c.in-Credits.is
    (skips c.args.self.now Credits c.args.tile c.args.from c.args.end _
    (λ to off. credits_asleep c.self.inside c.self.invariant c.args.self.now c.self.view_is c.args.tile c.args.from to off)
    c.next_credit.result c.next_credit.ensures)
