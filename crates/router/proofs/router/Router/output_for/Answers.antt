use Rattle.std.proofs.Common.{◌≡◌, Some, None, sym, ap, ◌∙◌, subst, get_or}
use Rattle.packet.specs.Flits.{head_of}
use Rattle.router.specs.Table.{RouterPlace, output_for, way_of, latch_of}
use Rattle.router.proofs.Ways.{owned_way, free_way}
use Rattle.router.proofs.Latched.{target_is}
use Rattle.router.proofs.router.Router.output_for.Goals as goal

pub returns-then-is_owned-clause-value : goal.returns-then-is_owned-clause-value
returns-then-is_owned-clause-value g c =
    let s = c.self.inside in
    let headed : head_of c.args.flit ≡ Some c.in-Some._head = sym c.in-Some.ensures in
    let latched : get_or s.latches c.args.input None ≡ Some c.args.flit = ap (λ (p : RouterPlace). latch_of p.agent.state c.args.input) c.self.view_is ∙ c.requires.flit in
    let is : c.output_at-output.result ≡ way_of s.torus s.tile c.args.input c.in-Some._head =
    c.output_at-output.ensures
    ∙ target_is s.torus s.tile s.latches s.targets.items c.self.invariant.targets c.args.input c.args.flit c.in-Some._head latched headed in
    subst (λ (p : RouterPlace). None ≡ output_for p.torus p.tile p.agent.state c.args.input (head_of c.args.flit)) c.self.view_is
    (owned_way s.torus s.tile (record { latches = s.latches; owned = s.owners }) c.args.input c.in-Some._head c.output_at-output.result is
    (sym c.is_owned.ensures ∙ c.if-is_owned.true)
    ∙ ap (output_for s.torus s.tile (record { latches = s.latches; owned = s.owners }) c.args.input) (sym headed))

pub returns-else-is_owned-clause-value : goal.returns-else-is_owned-clause-value
returns-else-is_owned-clause-value g c =
    let s = c.self.inside in
    let headed : head_of c.args.flit ≡ Some c.in-Some._head = sym c.in-Some.ensures in
    let latched : get_or s.latches c.args.input None ≡ Some c.args.flit = ap (λ (p : RouterPlace). latch_of p.agent.state c.args.input) c.self.view_is ∙ c.requires.flit in
    let is : c.output_at-output.result ≡ way_of s.torus s.tile c.args.input c.in-Some._head =
    c.output_at-output.ensures
    ∙ target_is s.torus s.tile s.latches s.targets.items c.self.invariant.targets c.args.input c.args.flit c.in-Some._head latched headed in
    subst (λ (p : RouterPlace). Some c.output_at-output.result ≡ output_for p.torus p.tile p.agent.state c.args.input (head_of c.args.flit)) c.self.view_is
    (free_way s.torus s.tile (record { latches = s.latches; owned = s.owners }) c.args.input c.in-Some._head c.output_at-output.result is
    (sym c.is_owned.ensures ∙ c.if-is_owned.false)
    ∙ ap (output_for s.torus s.tile (record { latches = s.latches; owned = s.owners }) c.args.input) (sym headed))
