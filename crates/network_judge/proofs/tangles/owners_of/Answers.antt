use Rattle.std.proofs.Common.{rules, ◌≡◌, ◌+◌, ℕ, List, length, sym, subst, arith, refl}
use Rattle.network_judge.specs.Table.{Table, table_of}
use Rattle.network_judge.specs.Spans.{span_at, AreOwners, IsSpanNoted}
use Rattle.network_judge.proofs.Owners.{owned_more, written}
use Rattle.network_judge.proofs.tangles.owners_of.Goals as goal

pub loop-place-preserved : goal.loop-place-preserved
loop-place-preserved g c =
    let t : Table = table_of c.args.kinds.now c.args.joins.now c.args.choices.now in
    let l = c.loop-place in
    let noted : IsSpanNoted (table_of c.args.kinds.now c.args.joins.now c.args.choices.now) (span_at c.args.spans.now c.loop-place.place) (c.loop-place.place + 1) c.loop-place.owners.items c.note.new.owners =
    subst (λ (os : List ℕ). IsSpanNoted t (span_at c.args.spans.now l.place) (l.place + 1) os c.note.new.owners) c.deref_mut.ensures.value c.note.ensures in
    let more = owned_more t c.args.spans.now l.place (l.place + 1) l.owners.items c.note.new.owners l.invariant refl noted in
    subst (λ (os : List ℕ). AreOwners t c.args.spans.now (l.place + 1) os) (sym (written l.owners.len l.owners.items c.note.new.owners noted.size (search rules))) more

pub returns : goal.returns
returns g c =
    let t : Table = table_of c.args.kinds.now c.args.joins.now c.args.choices.now in
    let l = c.loop-place in
    let end = c.loop-place-test.false in
    let all : c.loop-place.place ≡ length c.args.spans.now = omega arith in
    subst (λ n. AreOwners t c.args.spans.now n l.owners.items) all l.invariant
