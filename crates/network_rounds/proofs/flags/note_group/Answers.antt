use Rattle.std.proofs.Common.{◌≡◌, ◌++◌, length, take, ◌∙◌, ap, subst, arith}
use Rattle.std.proofs.lemmas.List.{length-append, length-take-le}
use Rattle.std.proofs.Math.Seq.{take-length}
use Rattle.network_rounds.specs.Flags.{AreNotedIn}
use Rattle.network_rounds.proofs.Noted.{notes_more}
use Rattle.network_rounds.proofs.flags.note_group.Goals as goal

pub loop-k-preserved : goal.loop-k-preserved
loop-k-preserved c = λ choices long h.
    let group = c.args.group.now in
    let k = c.loop-k.k in
    let size = length-append choices (take k group) in
    let front = length-take-le k group (let low = c.loop-k-test.true in omega (arith, low)) in
    notes_more c.note_place.new.places choices group k _ c.loop-k-test.true
    (c.note_place.ensures (choices ++ take k group) (omega (arith, size, front, long)) (c.loop-k.invariant choices long h))

pub returns : goal.returns
returns c = λ choices long h.
    let group = c.args.group.now in
    let end : c.loop-k.k ≡ length group = (let past = c.loop-k-test.false in let e = c.loop-k.auto.k-end in omega (arith, past, e)) in
    subst (λ ms. AreNotedIn c.loop-k.places (choices ++ ms)) (ap (λ n. take n group) end ∙ take-length group) (c.loop-k.invariant choices long h)
