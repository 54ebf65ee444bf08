use Rattle.std.proofs.Common.{◌≡◌, ◌∙◌, ◌*◌, ◌≤◌, List, Bool, length, sym, ap, subst, arith}
use Rattle.std.specs.List.{count_by}
use Rattle.std.proofs.lemmas.Option.{slice_get_within}
use Rattle.rising.specs.declared.edge.Edge.{Edge}
use Rattle.rising.specs.Graph.{EdgesAreWithin}
use Rattle.network_judge.specs.declared.table.Kind.TheVariants.{Injection, Ejection}
use Rattle.network_judge.specs.Table.{ejects}
use Rattle.network_judge.proofs.Ends.{width_is}
use Rattle.network_adaptive.specs.Choosing.{ChoiceTable, choosing_of}
use Rattle.network_adaptive.specs.Flags.{AreDown}
use Rattle.network_adaptive.specs.Travel.{step_to}
use Rattle.network_adaptive.proofs.Circles.{down_from}
use Rattle.network_adaptive.proofs.Pairs.{pairs_within}
use Rattle.network_answer.specs.Reached.{AreReached}
use Rattle.network_answer.specs.Totals.{injects}
use Rattle.network_answer.proofs.Reaching.{all_fit, no_senders, hops_reached, any_flits}
use Rattle.network_answer.proofs.reached.chosen_totals.Goals as goal

pub chains_of-requires : goal.chains_of-requires
chains_of-requires g c =
    let a = c.args in
    subst (λ (v : List Edge). EdgesAreWithin (length a.kinds.now) v) (sym c.deref.ensures.value)
    (pairs_within a.joins.now c.in_ok-turned.turned.items c.in_ok-turned.ensures (length a.kinds.now)
    (λ i j joined. slice_get_within a.kinds.now i Injection (c.requires.shaped.senders i j joined))
    (λ i j joined. slice_get_within a.kinds.now j Ejection (c.requires.shaped.receivers i j joined)))

pub reach_all-requires-clause-outputs : goal.reach_all-requires-clause-outputs
reach_all-requires-clause-outputs g c =
    let a = c.args in
    let t : ChoiceTable = choosing_of a.kinds.now a.joins.now a.ways a.choices.now a.marks.now in
    let down : AreDown c.deref-3.result.now =
    down_from c.deref-3.result.now c.in_ok-none.none.items (length a.kinds.now) c.deref-3.ensures.value (c.in_ok-none.ensures.items_if_clones_equal (λ y h. h)) in
    no_senders t c.deref-3.result.now down c.requires.shaped 0 any_flits

pub overflow_mul-result : goal.overflow_mul-result
overflow_mul-result g c =
    let a = c.args in
    let wide : c.len.result ≡ count_by ejects a.kinds.now =
    width_is a.kinds.now c.in_ok-ends_of.field-0.items c.in_ok-ends_of.field-0.len c.len.result c.in_ok-ends_of.ensures c.in_ok-ends_of.field-0.ok.0
    c.len.ensures in
    let most : c.injection_count.result * count_by ejects a.kinds.now ≤ length a.choices.now =
    all_fit c.injection_count.result (count_by ejects a.kinds.now) (length a.kinds.now) a.ways (length a.choices.now) c.injection_count.ensures.low
    c.requires.ways c.requires.shaped.full in
    let same : c.injection_count.result * c.len.result ≡ c.injection_count.result * count_by ejects a.kinds.now =
    ap (λ z. c.injection_count.result * z) wide in
    omega arith

pub returns : goal.returns
returns g c =
    let a = c.args in
    let t : ChoiceTable = choosing_of a.kinds.now a.joins.now a.ways a.choices.now a.marks.now in
    let wide = width_is a.kinds.now c.in_ok-ends_of.field-0.items c.in_ok-ends_of.field-0.len c.len.result c.in_ok-ends_of.ensures
    c.in_ok-ends_of.field-0.ok.0 c.len.ensures in
    let down : AreDown c.deref-3.result.now =
    down_from c.deref-3.result.now c.in_ok-none.none.items (length a.kinds.now) c.deref-3.ensures.value (c.in_ok-none.ensures.items_if_clones_equal (λ y h. h)) in
    record {
      go_on = c.requires.go_on;
      pairs = c.in_ok-reached.ensures.pairs;
      all_pairs = ap (λ m. m * c.len.result) c.injection_count.ensures.value ∙ ap (λ m. count_by injects a.kinds.now * m) wide;
      hops = hops_reached t c.deref-3.result.now down c.requires.shaped c.deref-4.result.now c.hops_up.result
          (subst (λ (v : List Bool). AreReached a.kinds.now a.joins.now (step_to a.kinds.now a.choices.now a.ways c.deref-3.result.now) (length a.kinds.now) v)
          (sym c.deref-4.ensures.value) c.in_ok-reached.ensures.flags)
          c.hops_up.ensures;
      all_hops = c.hop_count.ensures;
      longest = c.in_ok-longest.ensures;
    }
