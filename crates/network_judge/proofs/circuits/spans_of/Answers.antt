use Rattle.std.proofs.Common.{◌≡◌, ◌<◌, ◌+◌, ◌∙◌, ℕ, length, ap, subst, arith}
use Rattle.std.specs.Prelude.{slice_index_or}
use Rattle.std.proofs.lemmas.List.{length_push, get_or_default}
use Rattle.network_judge.specs.declared.table.Link.{Link}
use Rattle.network_judge.specs.declared.table.By.TheVariants.{To}
use Rattle.network_judge.specs.Table.{Table, table_of}
use Rattle.network_judge.specs.Cycles.{link_at}
use Rattle.network_judge.specs.Spans.{end_of, IsPoint, IsMissed}
use Rattle.network_judge.proofs.Parts.{not_missed, circle_of, points_more}
use Rattle.network_judge.proofs.circuits.spans_of.Goals as goal

pub returns-in-None-clause-none : goal.returns-in-None-clause-none
returns-in-None-clause-none g c =
    let t : Table = table_of c.args.kinds.now c.args.joins.now c.args.choices.now in
    let l = c.loop-place in
    let link : Link = slice_index_or c.args.links.now l.place (record { channel = 0; by = To 0 }) in
    let same : slice_index_or c.args.links.now c.loop-place.place (record { channel = 0; by = To 0 }) ≡ link_at c.args.links.now c.loop-place.place =
    get_or_default c.args.links.now l.place _ _ c.loop-place-test.true in
    let missed : (p : ℕ) → p < length c.args.joins.now → IsMissed t p (end_of link) link.channel =
    subst (λ z. (p : ℕ) → p < length c.args.joins.now → IsMissed t p z link.channel) c.end_of.ensures c.in-None.ensures.none in
    λ replies are cycle. not_missed t replies c.requires.arrive are c.args.links.now cycle l.place c.loop-place-test.true
    (subst (λ (k : Link). (p : ℕ) → p < length c.args.joins.now → IsMissed t p (end_of k) k.channel) same missed)

pub loop-place-preserved : goal.loop-place-preserved
loop-place-preserved g c =
    let t : Table = table_of c.args.kinds.now c.args.joins.now c.args.choices.now in
    let l = c.loop-place in
    let link : Link = slice_index_or c.args.links.now l.place (record { channel = 0; by = To 0 }) in
    let same : slice_index_or c.args.links.now c.loop-place.place (record { channel = 0; by = To 0 }) ≡ link_at c.args.links.now c.loop-place.place =
    get_or_default c.args.links.now l.place _ _ c.loop-place-test.true in
    let here : IsPoint t (end_of link) link.channel c.in-Some.span = subst (λ z. IsPoint t z link.channel c.in-Some.span) c.end_of.ensures c.in-Some.ensures.some in
    record {
      size = ap length c.in_ok-push-in-Some.ensures.items ∙ (length_push l.spans.items c.in-Some.span ∙ ap (λ z. z + 1) l.invariant.size);
      each = points_more t c.args.links.now l.place l.spans.items c.push.new.self.items c.in-Some.span l.invariant.size c.in_ok-push-in-Some.ensures.items
          l.invariant.each (subst (λ (k : Link). IsPoint t (end_of k) k.channel c.in-Some.span) same here);
    }

pub returns-clause-some : goal.returns-clause-some
returns-clause-some g c =
    let t : Table = table_of c.args.kinds.now c.args.joins.now c.args.choices.now in
    let l = c.loop-place in
    let end = c.loop-place-test.false in
    let size = l.invariant.size in
    let all : c.loop-place.place ≡ length c.args.links.now = omega arith in
    λ replies are cycle distinct. circle_of t replies c.requires.arrive are c.args.links.now cycle l.spans.items (l.invariant.size ∙ all) distinct
    (λ k low. l.invariant.each k (omega arith))
