use Rattle.std.proofs.Common.{sym, ◌∙◌}
use Rattle.machine_core.proofs.FirstEnabled.{picks, passes, tile_parts}
use Rattle.machine_core.proofs.machine.Machine.enabled_at.Goals as goal

pub returns-then-is_some : goal.returns-then-is_some
returns-then-is_some g c =
    let whole = tile_parts c.args.self.now c.args.ports c.args.tile in
    picks _ _ _ c.enabled_choice-found.result whole c.enabled_choice-found.ensures (sym c.is_some.ensures ∙ c.if-is_some.true)

pub returns-then-is_some-2 : goal.returns-then-is_some-2
returns-then-is_some-2 g c =
    let whole = tile_parts c.args.self.now c.args.ports c.args.tile in
    let after_own = passes _ _ _ c.enabled_choice-found.result whole c.enabled_choice-found.ensures (sym c.is_some.ensures ∙ c.if-is_some.false) in
    picks _ _ _ c.enabled_take-found.result after_own c.enabled_take-found.ensures (sym c.is_some-2.ensures ∙ c.if-is_some-2.true)

pub returns-then-is_some-3 : goal.returns-then-is_some-3
returns-then-is_some-3 g c =
    let whole = tile_parts c.args.self.now c.args.ports c.args.tile in
    let after_own = passes _ _ _ c.enabled_choice-found.result whole c.enabled_choice-found.ensures (sym c.is_some.ensures ∙ c.if-is_some.false) in
    let after_takes = passes _ _ _ c.enabled_take-found.result after_own c.enabled_take-found.ensures (sym c.is_some-2.ensures ∙ c.if-is_some-2.false) in
    picks _ _ _ c.enabled_put-found.result after_takes c.enabled_put-found.ensures (sym c.is_some-3.ensures ∙ c.if-is_some-3.true)

pub returns-then-is_some-4 : goal.returns-then-is_some-4
returns-then-is_some-4 g c =
    let whole = tile_parts c.args.self.now c.args.ports c.args.tile in
    let after_own = passes _ _ _ c.enabled_choice-found.result whole c.enabled_choice-found.ensures (sym c.is_some.ensures ∙ c.if-is_some.false) in
    let after_takes = passes _ _ _ c.enabled_take-found.result after_own c.enabled_take-found.ensures (sym c.is_some-2.ensures ∙ c.if-is_some-2.false) in
    let after_puts = passes _ _ _ c.enabled_put-found.result after_takes c.enabled_put-found.ensures (sym c.is_some-3.ensures ∙ c.if-is_some-3.false) in
    picks _ _ _ c.enabled_credit-found.result after_puts c.enabled_credit-found.ensures (sym c.is_some-4.ensures ∙ c.if-is_some-4.true)

pub returns : goal.returns
returns g c =
    let whole = tile_parts c.args.self.now c.args.ports c.args.tile in
    let after_own = passes _ _ _ c.enabled_choice-found.result whole c.enabled_choice-found.ensures (sym c.is_some.ensures ∙ c.if-is_some.false) in
    let after_takes = passes _ _ _ c.enabled_take-found.result after_own c.enabled_take-found.ensures (sym c.is_some-2.ensures ∙ c.if-is_some-2.false) in
    let after_puts = passes _ _ _ c.enabled_put-found.result after_takes c.enabled_put-found.ensures (sym c.is_some-3.ensures ∙ c.if-is_some-3.false) in
    let after_credits = passes _ _ _ c.enabled_credit-found.result after_puts c.enabled_credit-found.ensures (sym c.is_some-4.ensures ∙ c.if-is_some-4.false) in
    c.enabled_choice.ensures ∙ sym after_credits
