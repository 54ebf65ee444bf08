use Rattle.std.proofs.Common.{◌≡◌, ◌+◌, ◌*◌, ℕ, Bool, ap, subst, arith}
use Rattle.std.specs.Prelude.{slice_index}
use Rattle.network_adaptive.specs.Between.{IsWhether, LeadsToWait}
use Rattle.network_adaptive.proofs.Ways.{step_found, no_step_more, no_steps}
use Rattle.network_adaptive.proofs.between.step_toward.Goals as goal

pub returns-then-branch : goal.returns-then-branch
returns-then-branch g c =
    let next : ℕ = slice_index c.args.choices.now (c.args.base + c.cell.result) in
    let value = c.cell.ensures.value in
    let place : c.args.base + c.args.x * c.args.ways + c.loop-k.k ≡ c.args.base + c.cell.result = omega arith in
    step_found c.args.kinds.now c.args.choices.now c.args.base c.args.ways c.args.shut.now c.args.x c.loop-k.k c.args.y next (omega arith)
    (ap (slice_index c.args.choices.now) place) c.if-next-kinds.false c.if-shut-next.false c.requires.has
    (subst (λ (b : Bool). IsWhether (LeadsToWait c.args.kinds.now c.args.choices.now c.args.base c.args.ways c.args.shut.now next c.args.y) b) c.if-branch.true
    c.in_ok-leads_to_wait.ensures)

pub loop-k-preserved : goal.loop-k-preserved
loop-k-preserved g c =
    let next : ℕ = slice_index c.args.choices.now (c.args.base + c.cell.result) in
    let value = c.cell.ensures.value in
    let place : c.args.base + c.args.x * c.args.ways + c.loop-k.k ≡ c.args.base + c.cell.result = omega arith in
    let no = subst (λ (b : Bool). IsWhether (LeadsToWait c.args.kinds.now c.args.choices.now c.args.base c.args.ways c.args.shut.now next c.args.y) b) c.if-branch.false
    c.in_ok-leads_to_wait.ensures in
    no_step_more c.args.kinds.now c.args.choices.now c.args.base c.args.ways c.args.shut.now c.args.x c.loop-k.k (c.loop-k.k + 1) c.args.y next (omega arith)
    (ap (slice_index c.args.choices.now) place) (λ s. no s.leads) c.loop-k.invariant

pub unreachable-requires : goal.unreachable-requires
unreachable-requires g c =
    no_steps c.args.kinds.now c.args.choices.now c.args.base c.args.ways c.args.shut.now c.args.x c.loop-k.k c.args.y (omega arith)
    c.requires.has c.loop-k.invariant
