use Rattle.std.proofs.Common.{ℕ, Some, None, ◌∙◌, ap}
use Rattle.machine_core.specs.Oldest.{issue_of_tag, processor_told}
use Rattle.machine_core.proofs.Fields.{vec_at}
use Rattle.machine_core.proofs.Agents.{tile_within}
use Rattle.machine_core.proofs.LatchAges.{age_told, head_age, no_age}
use Rattle.machine_core.proofs.machine.Machine.age.Goals as goal

pub returns-in_default : goal.returns-in_default
returns-in_default g c =
    let low = tile_within c.self.inside c.self.invariant c.args.self.now c.self.view_is c.args.tile c.requires in
    age_told c.self.inside c.args.self.now c.self.view_is c.args.tile c.args.input c.index.result.now
    (vec_at c.self.inside.tiles c.args.tile c.index.result.now low c.index.ensures) None c.in_default.ensures

pub returns-then-is_head : goal.returns-then-is_head
returns-then-is_head g c =
    let low = tile_within c.self.inside c.self.invariant c.args.self.now c.self.view_is c.args.tile c.requires in
    c.issue_under.ensures
    ∙ (ap (λ (p : ℕ). issue_of_tag c.args.self.now p c.tag_told.result.0) c.processor_told.ensures
    ∙ (ap (λ (k : ℕ). issue_of_tag c.args.self.now (processor_told c.in-Some.flit) k) c.tag_told.ensures
    ∙ (head_age c.self.inside c.args.self.now c.self.view_is c.in-Some.flit c.is_head.result c.is_head.ensures c.if-is_head.true
    ∙ age_told c.self.inside c.args.self.now c.self.view_is c.args.tile c.args.input c.index.result.now
    (vec_at c.self.inside.tiles c.args.tile c.index.result.now low c.index.ensures) (Some c.in-Some.flit) c.in-Some.ensures)))

pub returns-else-is_head : goal.returns-else-is_head
returns-else-is_head g c =
    let low = tile_within c.self.inside c.self.invariant c.args.self.now c.self.view_is c.args.tile c.requires in
    no_age c.self.inside c.args.self.now c.self.view_is c.in-Some.flit c.is_head.result c.is_head.ensures c.if-is_head.false
    ∙ age_told c.self.inside c.args.self.now c.self.view_is c.args.tile c.args.input c.index.result.now
    (vec_at c.self.inside.tiles c.args.tile c.index.result.now low c.index.ensures) (Some c.in-Some.flit) c.in-Some.ensures
