use Rattle.std.proofs.Common.{◌≡◌, ◌-◌, ◌∙◌, ℕ, List, ap, sym, subst, arith}
use Rattle.std.specs.Prelude.{slice_index}
use Rattle.network_judge.specs.Table.{Table, table_of}
use Rattle.network_judge.specs.Spans.{span_at, IsLastMet}
use Rattle.network_judge.proofs.Owners.{tangle, untangled}
use Rattle.network_judge.proofs.tangles.first_tangle.Goals as goal

pub returns-in-Some-clause-some : goal.returns-in-Some-clause-some
returns-in-Some-clause-some g c =
    let t : Table = table_of c.args.kinds.now c.args.joins.now c.args.choices.now in
    let l = c.loop-place in
    let met : IsLastMet (table_of c.args.kinds.now c.args.joins.now c.args.choices.now) c.in_ok-owners.owners.items (span_at c.args.spans.now c.loop-place.place) c.in-Some.met =
    subst (λ (os : List ℕ). IsLastMet t os (span_at c.args.spans.now l.place) c.in-Some.met) c.deref.ensures.value c.in-Some.ensures.some in
    let b : slice_index c.in_ok-owners.owners.items c.in-Some.met.channel - 1 ≡ c.owner_at.result - 1 =
    ap (λ z. z - 1) (sym (c.owner_at.ensures ∙ ap (λ (os : List ℕ). slice_index os c.in-Some.met.channel) c.deref-in-Some.ensures.value)) in
    tangle t c.args.spans.now c.in_ok-owners.owners.items l.place (c.owner_at.result - 1) c.in-Some.met c.in_ok-owners.ensures c.loop-place-test.true met b

pub returns-clause-none : goal.returns-clause-none
returns-clause-none g c =
    let t : Table = table_of c.args.kinds.now c.args.joins.now c.args.choices.now in
    let end = c.loop-place-test.false in
    untangled t c.args.spans.now c.in_ok-owners.owners.items c.in_ok-owners.ensures (λ a low. c.loop-place.invariant a (omega arith))
