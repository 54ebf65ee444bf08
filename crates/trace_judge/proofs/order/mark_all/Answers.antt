use Rattle.std.proofs.Common.{◌≡◌, ◌<◌, ◌+◌, ℕ, Bool, length, arith, sym, ◌∙◌, subst, List}
use Rattle.trace_laws.specs.declared.opened.Node.{Node}
use Rattle.trace_laws.specs.Searches.{Picks}
use Rattle.trace_judge.specs.Sets.{lists_of}
use Rattle.std.proofs.lemmas.List.{with_items_is}
use Rattle.trace_judge.proofs.Firsts.{filled_length, head_in, firsts, picks_word}
use Rattle.trace_judge.proofs.Marking.{picks_none, PicksSoFar}
use Rattle.trace_judge.proofs.order.mark_all.Goals as goal

pub loop-word-init : goal.loop-word-init
loop-word-init g c = picks_none (firsts c.args.search.now.words.items)
    (lists_of c.args.search.now.words.items) c.args.search.now.nodes.items c.len.result c.in_ok-marks.marks.items c.in_ok-marks.ensures (omega arith)

pub index-requires : goal.index-requires
index-requires g c =
    let l : c.loop-word.word < length c.args.search.now.words.items = omega arith in
    let m : c.loop-word.word < length c.args.opening.now = let e = c.requires.sized in omega arith in
    filled_length c.args.search.now.words.items c.loop-word.word c.index-branches.result.now l c.index-branches.ensures (c.requires.filled c.loop-word.word m)

pub mark-requires-clause-below : goal.mark-requires-clause-below
mark-requires-clause-below g c = λ i e.
    let l : c.loop-word.word < length c.args.search.now.words.items = omega arith in
    let m : c.loop-word.word < length c.args.opening.now = let e = c.requires.sized in omega arith in
    let some = filled_length c.args.search.now.words.items c.loop-word.word c.index-branches.result.now l c.index-branches.ensures
    (c.requires.filled c.loop-word.word m) in
    let in' = head_in c.args.search.now.words.items c.loop-word.word c.index-branches.result.now c.index.result.now l c.index-branches.ensures some
    c.index.ensures in
    subst (λ (ns : List Node). i < length ns) (sym c.deref.ensures.value)
    (c.requires.searched.sound.inside c.loop-word.word i c.index.result.now m in' e)

pub loop-word-preserved : goal.loop-word-preserved
loop-word-preserved g c =
    let words = c.args.search.now.words.items in
    let w = c.loop-word.word in
    let l : c.loop-word.word < length c.args.search.now.words.items = omega arith in
    let m : c.loop-word.word < length c.args.opening.now = let e = c.requires.sized in omega arith in
    let some = filled_length words w c.index-branches.result.now l c.index-branches.ensures (c.requires.filled w m) in
    let len : length c.mark.new.marks ≡ length c.deref_mut.result.now = c.mark.auto.marks in
    let long : length c.mark.new.marks ≡ c.loop-word.marks.len = len ∙ c.deref_mut.ensures.len in
    subst (λ (ms : List Bool). PicksSoFar (firsts c.args.search.now.words.items) (c.loop-word.word + 1)
    (lists_of c.args.search.now.words.items) c.args.search.now.nodes.items ms)
    (sym (with_items_is c.loop-word.marks c.mark.new.marks long))
    (picks_word words w c.args.search.now.nodes.items c.deref.result.now c.loop-word.marks.items c.deref_mut.result.now c.mark.new.marks
    c.index-branches.result.now c.index.result.now
    l c.index-branches.ensures some c.index.ensures c.deref.ensures.value c.deref_mut.ensures.value c.mark.ensures len c.loop-word.invariant)

pub returns : goal.returns
returns g c =
    let e : c.loop-word.word ≡ length c.args.opening.now = let e = c.requires.sized in omega arith in (
      firsts c.args.search.now.words.items,
      c.loop-word.invariant.0,
      subst (λ (n : ℕ). Picks n (lists_of c.args.search.now.words.items) c.args.search.now.nodes.items
          (firsts c.args.search.now.words.items) c.loop-word.invariant.0 c.loop-word.marks.items) e c.loop-word.invariant.1,
    )
