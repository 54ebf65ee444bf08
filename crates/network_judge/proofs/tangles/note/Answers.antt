use Rattle.std.proofs.Common.{◌+◌, ◌<◌, ℕ, List, sym, subst, arith}
use Rattle.network_judge.specs.Table.{Table, table_of, channels_of}
use Rattle.network_judge.proofs.Walks.{further}
use Rattle.network_judge.proofs.Owners.{NotedTo, noted_more, noted_less, noted, arc_end, arc_within}
use Rattle.network_judge.proofs.tangles.note.Goals as goal
use Rattle.network_judge.proofs.tangles.note.Goals.{then-step-span+then-at-owners, else-step-span, else-step-span-via-then-step-span+else-at-owners, else-step-span-via-else-step-span}

pub loop-step-preserved : goal.loop-step-preserved
loop-step-preserved c =
    let t : Table = table_of c.args.kinds.now c.args.joins.now c.args.choices.now in
    let l = c.loop-step in
    let s = c.args.span in
    record {
      here = further t s.from s.to l.step l.at c.in-Some.next l.invariant.here c.in-Some.ensures.some;
      noted = elim c.if-step-span.branch [
        | then-step-span+then-at-owners w ↦ subst (λ (os : List ℕ). NotedTo t s c.args.number (l.step + 1) c.args.owners.now os) (sym w.owners-is)
            (noted_more t s c.args.number l.step l.at c.args.owners.now l.owners l.invariant.noted l.invariant.here c.loop-step-test.true w.if-step-span.true w.if-at-owners.true)
        | else-step-span w ↦ subst (λ (os : List ℕ). NotedTo t s c.args.number (l.step + 1) c.args.owners.now os) (sym w.owners-is)
            (noted_less t s c.args.number l.step l.at c.args.owners.now l.owners l.invariant.noted l.invariant.here (λ above inside. elim w.else-step-span.branch [
              | else-step-span-via-then-step-span+else-at-owners w2 ↦ (let no = w2.if-at-owners.false in omega arith)
              | else-step-span-via-else-step-span w2 ↦ (let no = w2.if-step-span.false in omega arith)
            ]))
      ];
    }

pub returns-in-None : goal.returns-in-None
returns-in-None c =
    let t : Table = table_of c.args.kinds.now c.args.joins.now c.args.choices.now in
    let l = c.loop-step in
    let s = c.args.span in
    noted t s c.args.number (l.step + 1) c.args.owners.now c.if-step-span.owners
    (elim c.if-step-span.branch [
      | then-step-span+then-at-owners w ↦ subst (λ (os : List ℕ). NotedTo t s c.args.number (l.step + 1) c.args.owners.now os) (sym w.owners-is)
          (noted_more t s c.args.number l.step l.at c.args.owners.now l.owners l.invariant.noted l.invariant.here c.loop-step-test.true w.if-step-span.true w.if-at-owners.true)
      | else-step-span w ↦ subst (λ (os : List ℕ). NotedTo t s c.args.number (l.step + 1) c.args.owners.now os) (sym w.owners-is)
          (noted_less t s c.args.number l.step l.at c.args.owners.now l.owners l.invariant.noted l.invariant.here (λ above inside. elim w.else-step-span.branch [
            | else-step-span-via-then-step-span+else-at-owners w2 ↦ (let no = w2.if-at-owners.false in omega arith)
            | else-step-span-via-else-step-span w2 ↦ (let no = w2.if-step-span.false in omega arith)
          ]))
    ])
    (λ a. absurd (c.in-None.ensures.none (arc_end t s a) (subst (λ z. z < channels_of t) (sym l.invariant.here) (arc_within t s l.step a c.loop-step-test.true))))

pub returns : goal.returns
returns c =
    let t : Table = table_of c.args.kinds.now c.args.joins.now c.args.choices.now in
    let l = c.loop-step in
    let end = c.loop-step-test.false in
    noted t c.args.span c.args.number l.step c.args.owners.now l.owners l.invariant.noted (λ a. end)
