use Rattle.std.proofs.Common.{ℕ, ◌*◌, ◌/◌, List, [], ◌∷◌, ◌++◌, sym, ◌∙◌, ap, arith, map}
use Rattle.std.proofs.lemmas.Grind.{common_steps}
use Rattle.std.specs.List.{range_with_len}
use Rattle.std.proofs.lemmas.List.FromFn.{map-range_with_len_more}
use Rattle.machine_parts.specs.Ends.{ends_of}
use Rattle.machine_parts.specs.declared.ends.Ends.{Ends}
use Rattle.machine_parts.proofs.PlacesOfLines.{channel_below}
use Rattle.machine_parts.proofs.ends.all_ends.Goals as goal

pub ends_of-requires : goal.ends_of-requires
ends_of-requires g c =
    let places = ap (λ (k : ℕ). k * c.args.depth) c.channel_count.ensures.value in
    channel_below c.args.torus.now c.args.depth c.loop-place.place c.requires.some (omega (arith, places))

pub loop-place-preserved : goal.loop-place-preserved
loop-place-preserved g c =
    let so_far : List Ends = map (λ place. ends_of c.args.torus.now (place / c.args.depth)) (range_with_len 0 c.loop-place.place) in
    c.in_ok-push.ensures.items
    ∙ (ap (λ (xs : List Ends). xs ++ c.ends_of.result ∷ []) c.loop-place.invariant
    ∙ (ap (λ (e : Ends). so_far ++ e ∷ []) c.ends_of.ensures
    ∙ sym (map-range_with_len_more (λ place. ends_of c.args.torus.now (place / c.args.depth)) 0 c.loop-place.place c.loop-place.place (omega arith))))

pub returns-in_err-push : goal.returns-in_err-push
returns-in_err-push g c = grind (arith, common_steps)
