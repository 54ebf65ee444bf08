use Rattle.std.proofs.Common.{◌≡◌, ◌≤◌, ◌*◌, List, ◌∙◌, ap, arith, take}
use Rattle.std.proofs.lemmas.List.{take_all}
use Rattle.std.proofs.lemmas.List.Sums.{sum_by_more}
use Rattle.tile.specs.Agents.{state_of}
use Rattle.tile.specs.Placed.{PlacedTile}
use Rattle.core_laws.specs.Reopened.{marks}
use Rattle.machine_parts.specs.Grown.{marks_in}
use Rattle.machine_parts.proofs.reports.marks_in.Goals as goal

pub loop-agents-preserved : goal.loop-agents-preserved
loop-agents-preserved g c =
    let v : PlacedTile = c.agents-item.result in
    let one = sum_by_more (λ (x : PlacedTile). marks (state_of x.place)) c.args.tiles.now c.loop-agents.agents-index v c.loop-agents-test.true in
    let here = ap (λ (x : PlacedTile). marks (state_of x.place)) c.agents-item.is in
    let before : c.loop-agents.all ≡ marks_in (take c.loop-agents.agents-index c.args.tiles.now) = c.loop-agents.invariant.0 in
    let small : c.loop-agents.all ≤ 2 * c.loop-agents.agents-index = c.loop-agents.invariant.1 in
    let value = c.marks-all.ensures.value in
    let few = c.marks-all.ensures.small in
    (omega (arith, one, here, before, value), omega (arith, small, few))

pub returns-clause-value : goal.returns-clause-value
returns-clause-value g c =
    c.loop-agents.invariant.0 ∙ ap (λ (vs : List PlacedTile). marks_in vs) (take_all c.loop-agents.agents-index c.args.tiles.now c.loop-agents-test.false)
