use Rattle.std.proofs.Common.{◌≡◌, ◌∙◌, ◌+◌, ◌*◌, ◌≤◌, ◌≢◌, Some, sym, ap, length, true, false, arith}
use Rattle.std.proofs.Common.{take, subst}
use Rattle.std.specs.List.{count_by}
use Rattle.std.specs.Prelude.{slice_get}
use Rattle.network_judge.specs.declared.table.Kind.TheVariants.{Ejection}
use Rattle.network_judge.specs.Table.{Table, table_of, ejects, is_receiver}
use Rattle.network_judge.proofs.Tracing.{column_of_end}
use Rattle.network_answer.specs.Totals.{pairs_to}
use Rattle.network_answer.proofs.Counting.{sum_more, receiver_kind, ends_more, ends_no_more, low_more, column_count, no_pairs_to}
use Rattle.network_answer.proofs.totals.pairs_marked.Goals as goal
use Rattle.network_answer.proofs.totals.pairs_marked.Goals.{then-is_receiver, else-is_receiver}

pub loop-to-preserved : goal.loop-to-preserved
loop-to-preserved c =
    let t : Table = table_of c.args.kinds.now c.args.joins.now c.args.choices.now in
    let n = length c.args.kinds.now in
    let l = c.loop-to in
    let j = l.to in
    let used = c.args.used.now in
    let value = l.invariant.value in
    let more = sum_more (pairs_to c.args.joins.now n) j in
    let below = c.loop-to-test.true in
    elim c.if-is_receiver.branch [
      | then-is_receiver w ↦
          let end = receiver_kind (slice_get c.args.kinds.now j)
          (ap is_receiver (sym c.kind_at.ensures) ∙ (sym c.is_receiver.ensures ∙ w.if-is_receiver.true)) in
          let m = w.marked_senders-count in
          let is = column_count t used c.requires.marked c.args.width _ m.result j n c.requires.width (c.requires.columns.each j below) end
          m.ensures.value in
          rw w.count-is (record {
            value = omega (arith, value, more, is);
            low = low_more l.count m.result (count_by ejects (take j c.args.kinds.now)) (count_by ejects (take (j + 1) c.args.kinds.now)) n
                l.invariant.low m.ensures.low (ends_more c.args.kinds.now j end);
          })
      | else-is_receiver w ↦
          let other : is_receiver (slice_get c.args.kinds.now j) ≡ false =
          ap is_receiver (sym c.kind_at.ensures) ∙ (sym c.is_receiver.ensures ∙ w.if-is_receiver.false) in
          let isnt : slice_get c.args.kinds.now j ≢ Some Ejection = λ e. (let is : is_receiver (slice_get c.args.kinds.now j) ≡ true = ap is_receiver e in cc) in
          let none = no_pairs_to t used c.requires.marked j n isnt in
          rw w.count-is (record {
            value = omega (arith, value, more, none);
            low = subst (λ d. l.count ≤ d * n) (sym (ends_no_more c.args.kinds.now j below other)) l.invariant.low;
          })
    ]

pub marked_senders-count-requires-clause-column : goal.marked_senders-count-requires-clause-column
marked_senders-count-requires-clause-column c =
    let t : Table = table_of c.args.kinds.now c.args.joins.now c.args.choices.now in
    column_of_end t c.args.columns.now c.args.width c.loop-to.to c.requires.columns c.requires.width
    (receiver_kind (slice_get c.args.kinds.now c.loop-to.to)
    (ap is_receiver (sym c.kind_at.ensures) ∙ (sym c.is_receiver.ensures ∙ c.if-is_receiver.true)))
