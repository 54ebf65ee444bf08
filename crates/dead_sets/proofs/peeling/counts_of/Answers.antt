use Rattle.std.proofs.Common.{◌+◌, ◌<◌, ℕ, length, refl, arith}
use Rattle.std.specs.Prelude.{slice_index}
use Rattle.std.proofs.lemmas.List.{get_or_read}
use Rattle.dead_sets.proofs.Zeros.{counts_more, counts_few, counts_end}
use Rattle.dead_sets.proofs.peeling.counts_of.Goals as goal

pub overflow_add-index_mut : goal.overflow_add-index_mut
overflow_add-index_mut g c =
    let l = c.loop-k in
    let x : ℕ = slice_index c.args.list.now l.k in
    let low : x < c.args.count = c.requires l.k (omega arith) in
    let size = l.invariant.size in
    let inside : x < length l.counts.items = omega arith in
    let read = get_or_read l.counts.items x c.index_mut.result.now inside c.index_mut.ensures.value 0 in
    let few = counts_few c.args.count c.args.list.now l.counts.items l.k x (omega arith) low l.invariant in
    omega (arith, read, few)

pub loop-k-preserved : goal.loop-k-preserved
loop-k-preserved g c =
    let l = c.loop-k in
    let x : ℕ = slice_index c.args.list.now l.k in
    let low : x < c.args.count = c.requires l.k (omega arith) in
    let size = l.invariant.size in
    let inside : x < length l.counts.items = omega arith in
    let read = get_or_read l.counts.items x c.index_mut.result.now inside c.index_mut.ensures.value 0 in
    counts_more c.args.count c.args.list.now l.counts.items l.k x (c.index_mut.result.now + 1) (omega arith) refl low (omega (arith, read)) l.invariant

pub returns : goal.returns
returns g c = counts_end c.args.count c.args.list.now c.loop-k.counts.items c.loop-k.k (omega arith) c.loop-k.invariant
