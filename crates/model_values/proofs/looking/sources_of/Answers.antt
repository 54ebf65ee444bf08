use Rattle.std.proofs.Common.{◌≡◌, ℕ, List, length, nat_lt, refl, sym, subst, arith}
use Rattle.model_values.specs.Choices.{AreChosen, choice_at}
use Rattle.model_values.proofs.Written.{lent_whole}
use Rattle.model_values.proofs.Looked.{chosen_more, is_below}
use Rattle.model_values.proofs.looking.sources_of.Goals as goal

pub loop-k-preserved : goal.loop-k-preserved
loop-k-preserved g c =
    let path = c.args.path.now in
    let k : ℕ = c.loop-k.k in
    let new : List ℕ = c.put_source.new.sources in
    let old : AreChosen path c.args.depth c.args.count c.deref_mut.result.now =
    subst (λ (z : List ℕ). AreChosen path c.args.depth c.args.count z) (sym c.deref_mut.ensures.value) c.loop-k.invariant in
    let are : AreChosen path c.args.depth c.args.count new =
    chosen_more path c.args.depth c.args.count k (choice_at path k).0 (choice_at path k).1 (nat_lt k c.args.depth) c.deref_mut.result.now new old
    c.loop-k-test.true (λ is. is_below k c.args.depth is) refl c.put_source.ensures.not c.put_source.ensures.yes in
    let size : length new ≡ c.args.count = are.size in
    let before : length c.loop-k.sources.items ≡ c.args.count = c.loop-k.invariant.size in
    let len = c.loop-k.sources.ok in
    subst (λ (z : List ℕ). AreChosen path c.args.depth c.args.count z)
    (sym (lent_whole c.loop-k.sources.len new c.loop-k.sources.items (omega (arith, size, before, c.deref_mut.ensures.len)))) are
