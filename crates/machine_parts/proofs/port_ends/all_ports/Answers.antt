use Rattle.std.proofs.Common.{◌/◌, List, [], ◌∷◌, ◌++◌, sym, ◌∙◌, ap, arith, map}
use Rattle.std.specs.List.{range_with_len}
use Rattle.std.proofs.lemmas.List.FromFn.{map-range_with_len_more}
use Rattle.machine_parts.specs.Ports.{ports_at}
use Rattle.machine_parts.specs.declared.port_ends.PortEnds.{PortEnds}
use Rattle.machine_parts.proofs.port_ends.all_ports.Goals as goal

pub loop-place-preserved : goal.loop-place-preserved
loop-place-preserved g c =
    let so_far : List PortEnds = map (λ place. ports_at c.args.torus.now (place / c.args.depth)) (range_with_len 0 c.loop-place.place) in
    c.in_ok-push.ensures.items
    ∙ (ap (λ (xs : List PortEnds). xs ++ c.ports_at.result ∷ []) c.loop-place.invariant
    ∙ (ap (λ (e : PortEnds). so_far ++ e ∷ []) c.ports_at.ensures
    ∙ sym (map-range_with_len_more (λ place. ports_at c.args.torus.now (place / c.args.depth)) 0 c.loop-place.place c.loop-place.place (omega arith))))
