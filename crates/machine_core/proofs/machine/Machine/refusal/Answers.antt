use Rattle.std.proofs.Common.{◌≡◌, ◌≤◌, ℕ, List, length, sym, ◌∙◌, ap, subst, arith, slice_index}
use Rattle.machine_parts.specs.Machine.{Core}
use Rattle.machine_parts.specs.Handed.{refused}
use Rattle.machine_core.specs.Inside.{core_of}
use Rattle.machine_core.proofs.Allowed.{each_small}
use Rattle.machine_core.proofs.machine.Machine.refusal.Goals as goal

pub refusal-requires-clause-each : goal.refusal-requires-clause-each
refusal-requires-clause-each g c = λ p.
    subst (λ (ns : List ℕ). slice_index ns p ≤ 4096) (sym c.as_slice.ensures.value) (each_small c.self.inside c.self.invariant p)

pub returns : goal.returns
returns g c =
    let words : length c.self.inside.opening.items ≡ c.len.result = let n = c.len.ensures in let k = c.self.inside.opening.ok.0 in omega (arith, n, k) in
    c.refusal.ensures (core_of c.self.inside) (sym c.as_slice.ensures.value) words
    ∙ ap (λ (x : Core). refused x c.args.processor c.args.line) c.self.view_is
