use Rattle.std.proofs.Common.{◌≡◌, ℕ, ◌-◌, length, arith}
use Rattle.std.proofs.lemmas.List.Elements.{All-get_or}
use Rattle.std.specs.Prelude.{slice_index}
use Rattle.network_judge.specs.Table.{Table, table_of}
use Rattle.network_judge.specs.Jams.{fill_channel, WaitsForFilled}
use Rattle.network_judge.specs.Clear.{fill_at}
use Rattle.network_judge.proofs.Walks.{all_of}
use Rattle.network_judge.proofs.NoJams.{waits_marked, is_item}
use Rattle.network_judge.proofs.check.all_wait.Goals as goal

pub returns-clause-yes : goal.returns-clause-yes
returns-clause-yes c = λ yes. (let end = c.loop-place-test.false in
    all_of (WaitsForFilled (table_of c.args.kinds.now c.args.joins.now c.args.choices.now) c.args.replies.now c.args.items.now) c.args.items.now
    (λ k low. c.loop-place.invariant k (omega arith)))

pub returns-then-not-waits-clause-no : goal.returns-then-not-waits-clause-no
returns-then-not-waits-clause-no c =
    let t : Table = table_of c.args.kinds.now c.args.joins.now c.args.choices.now in
    let m = c.requires.marked in
    let low = c.loop-place-test.true in
    let x : ℕ = slice_index c.args.ends.now (length c.args.items.now - 1 - c.loop-place.place) in
    let here : slice_index c.args.ends.now (length c.args.items.now - 1 - c.loop-place.place) ≡ fill_channel t (fill_at c.args.items.now c.loop-place.place) =
    m.places c.loop-place.place (omega arith) low in
    let item = is_item t c.args.items.now c.loop-place.place x low m.in_turn here in
    λ no all. c.waits.ensures.no c.if-not-waits.true item.receiver item.channel
    (waits_marked t c.args.replies.now c.args.items.now c.args.marks.now c.args.ends.now (fill_at c.args.items.now c.loop-place.place) x m here
    (All-get_or (WaitsForFilled t c.args.replies.now c.args.items.now) c.args.items.now c.loop-place.place (record { from = 0; to = 0; step = 0 }) low all))
