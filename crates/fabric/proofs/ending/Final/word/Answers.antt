use Rattle.std.proofs.Common.{length, arith, ap}
use Rattle.std.specs.Slots.{slots_small}
use Rattle.fabric.proofs.Closing.{word_at, no_word_at}
use Rattle.fabric.proofs.ending.Final.word.Goals as goal

pub returns-then-at-len : goal.returns-then-at-len
returns-then-at-len g c =
    let n = c.self.inside.opening.ok.0 in
    let same = ap length c.self.invariant.0.opening in
    rw (← c.self.view_is) (no_word_at c.self.inside.behind.me.0.load c.self.inside.behind.me.0.run c.args.address c.self.invariant.0.accepted
    (omega (arith, n, same)))

pub overflow_add-place : goal.overflow_add-place
overflow_add-place g c =
    let n = c.self.inside.opening.ok.0 in
    let same = ap length c.self.invariant.0.opening in
    let base = c.self.invariant.0.base in
    let size = c.self.invariant.3 in
    let small = slots_small c.self.inside.closed.words in
    omega (arith, n, same, base, size, small)

pub word-requires : goal.word-requires
word-requires g c =
    let n = c.self.inside.opening.ok.0 in
    let same = ap length c.self.invariant.0.opening in
    let base = c.self.invariant.0.base in
    let size = c.self.invariant.3 in
    (omega (arith, n, same, base, size), c.self.invariant.2)

pub returns : goal.returns
returns g c =
    let n = c.self.inside.opening.ok.0 in
    let same = ap length c.self.invariant.0.opening in
    rw (← c.self.view_is) (word_at c.self.inside.behind.me.0.load c.self.inside.behind.me.0.run _ c.self.inside.base c.args.address _
    c.self.invariant.0.accepted c.self.invariant.0.row c.self.invariant.0.base (omega (arith, n, same)) c.word.ensures)
