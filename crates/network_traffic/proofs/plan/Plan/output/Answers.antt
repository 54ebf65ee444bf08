use Rattle.std.proofs.Common.{◌≡◌, ◌+◌, ◌*◌, ℕ, Some, sym, ap, ◌∙◌, arith, get_or}
use Rattle.std.specs.Prelude.{slice_index, option_map}
use Rattle.std.proofs.lemmas.List.{get_or_read}
use Rattle.std.proofs.lemmas.Option.{slice_get_within, slice_get-get_or}
use Rattle.network_judge.specs.declared.table.Kind.TheVariants.{Ejection}
use Rattle.network_judge.specs.Table.{Table, columns_of, column_of, table_next}
use Rattle.network_machine.proofs.Columns.{column_inside}
use Rattle.network_rounds.specs.declared.senders.Timed.{Timed}
use Rattle.network_traffic.specs.Plans.{plan_table}
use Rattle.network_traffic.proofs.plan.Plan.output.Goals as goal

pub index-column-requires : goal.index-column-requires
index-column-requires g c =
    let p = c.args.self.now in
    let d : Timed = record { round = 0; packet = record { from = 0; to = 0; length = 0 } } in
    let to : ℕ = (get_or p.packets.now c.args.k d).packet.to in
    let low = c.if-k-self.false in
    let kind = c.requires.plan.ends c.args.k (get_or p.packets.now c.args.k d) (slice_get-get_or p.packets.now c.args.k d (omega (arith, low))) in
    let inside = slice_get_within p.kinds.now to Ejection kind in
    let size = p.columns.ok.0 in
    let many = c.requires.plan.columns.size in
    omega (arith, inside, size, many)

pub cell-requires-clause-column : goal.cell-requires-clause-column
cell-requires-clause-column g c =
    let p = c.args.self.now in
    let d : Timed = record { round = 0; packet = record { from = 0; to = 0; length = 0 } } in
    let to : ℕ = (get_or p.packets.now c.args.k d).packet.to in
    let low = c.if-k-self.false in
    let kind = c.requires.plan.ends c.args.k (get_or p.packets.now c.args.k d) (slice_get-get_or p.packets.now c.args.k d (omega (arith, low))) in
    let inside = slice_get_within p.kinds.now to Ejection kind in
    let many = c.requires.plan.columns.size in
    let column = column_inside p.kinds.now p.columns.items to c.requires.plan.columns kind in
    let read = get_or_read p.columns.items to c.index-column.result.now (omega (arith, inside, many)) c.index-column.ensures 0 in
    let width = c.requires.plan.width in
    omega (arith, column, read, width)

pub returns : goal.returns
returns g c =
    let p = c.args.self.now in
    let t : Table = plan_table p in
    let d : Timed = record { round = 0; packet = record { from = 0; to = 0; length = 0 } } in
    let low = c.if-k-self.false in
    let here = slice_get-get_or p.packets.now c.args.k d (omega (arith, low)) in
    let to : ℕ = (get_or p.packets.now c.args.k d).packet.to in
    let inside = slice_get_within p.kinds.now to Ejection (c.requires.plan.ends c.args.k (get_or p.packets.now c.args.k d) here) in
    let many = c.requires.plan.columns.size in
    let read = get_or_read p.columns.items to c.index-column.result.now (omega (arith, inside, many)) c.index-column.ensures 0 in
    let cell : c.cell.result ≡ c.args.x * columns_of t + column_of t to =
    c.cell.ensures.value ∙ (ap (λ (w : ℕ). c.args.x * w + c.index-column.result.now) c.requires.plan.width
    ∙ ap (λ (q : ℕ). c.args.x * columns_of t + q) (read ∙ c.requires.plan.columns.each to inside)) in
    ap (λ (i : ℕ). Some (slice_index p.choices.now i)) cell
    ∙ sym (ap (option_map (λ (timed : Timed). table_next t c.args.x timed.packet.to)) here)
