use Rattle.std.proofs.Common.{rules, ◌≡◌, ◌+◌, ◌-◌, ◌++◌, ◌∷◌, [], ℕ, List, length, set, true, false, subst, sym, arith}
use Rattle.network_judge.specs.Table.{Table, table_of, joins_of}
use Rattle.network_judge.specs.Jams.{fill_channel}
use Rattle.network_judge.specs.Clear.{AreFillsMarked, fill_at}
use Rattle.network_judge.proofs.Walks.{marked_more}
use Rattle.network_judge.proofs.NoJams.{next_is_clear}
use Rattle.network_judge.proofs.check.mark_all.Goals as goal

pub loop-done-preserved : goal.loop-done-preserved
loop-done-preserved g c =
    let t : Table = table_of c.args.kinds.now c.args.joins.now c.args.choices.now in
    let fs = c.args.items.now in
    let l = c.loop-done in
    let low = c.loop-done-test.true in
    let next : ℕ = length c.args.items.now - 1 - l.done in
    let joined : joins_of (table_of c.args.kinds.now c.args.joins.now c.args.choices.now) (fill_at c.args.items.now (length c.args.items.now - 1 - c.loop-done.done)).from (fill_at c.args.items.now (length c.args.items.now - 1 - c.loop-done.done)).to ≡ true = search rules in
    let same : length c.args.items.now - 1 - c.loop-done.done ≡ length c.args.items.now - (c.loop-done.done + 1) = omega arith in
    let more = marked_more t c.requires.arrive c.args.items.now (length c.args.items.now - c.loop-done.done) (length c.args.items.now - 1 - c.loop-done.done) c.loop-done.marks c.loop-done.ends.items c.in-Some.x
    l.invariant (omega arith) joined c.in-Some.ensures.some in
    let pushed : c.push.new.self.items ≡ c.loop-done.ends.items ++ c.in-Some.x ∷ [] = search rules in
    subst (λ (ends : List ℕ). AreFillsMarked t fs (length c.args.items.now - (c.loop-done.done + 1)) (set c.loop-done.marks c.in-Some.x true) ends) (sym pushed)
    (subst (λ k. AreFillsMarked t fs k (set c.loop-done.marks c.in-Some.x true) (c.loop-done.ends.items ++ c.in-Some.x ∷ [])) same more)

pub returns-then-not-is_joined-clause-none : goal.returns-then-not-is_joined-clause-none
returns-then-not-is_joined-clause-none g c =
    let t : Table = table_of c.args.kinds.now c.args.joins.now c.args.choices.now in
    let apart : joins_of (table_of c.args.kinds.now c.args.joins.now c.args.choices.now) (fill_at c.args.items.now (length c.args.items.now - 1 - c.loop-done.done)).from (fill_at c.args.items.now (length c.args.items.now - 1 - c.loop-done.done)).to ≡ false = search rules in
    let low = c.loop-done-test.true in
    λ turn. (let next = next_is_clear t c.args.items.now (length c.args.items.now - c.loop-done.done) (length c.args.items.now - 1 - c.loop-done.done) c.loop-done.marks c.loop-done.ends.items
    c.loop-done.invariant (omega arith) (omega arith) turn in
    let joined = next.joined in
    absurd (cc))

pub returns-in-None-clause-none : goal.returns-in-None-clause-none
returns-in-None-clause-none g c =
    let t : Table = table_of c.args.kinds.now c.args.joins.now c.args.choices.now in
    let low = c.loop-done-test.true in
    λ turn. (let next = next_is_clear t c.args.items.now (length c.args.items.now - c.loop-done.done) (length c.args.items.now - 1 - c.loop-done.done) c.loop-done.marks c.loop-done.ends.items
    c.loop-done.invariant (omega arith) (omega arith) turn in
    c.in-None.ensures.none next.receiver c.loop-done.invariant.size
    (fill_channel t (fill_at c.args.items.now (length c.args.items.now - 1 - c.loop-done.done))) next.walk)
