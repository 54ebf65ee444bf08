use Rattle.std.proofs.Common.{◌≡◌, ◌≤◌, length, sym, ◌∙◌, ap, arith, vec_capacity, slice_index}
use Rattle.std.proofs.lemmas.Result.{on_ok_weaker}
use Rattle.order_book.proofs.Lists.{same_shown, roomier, as_many, room_there}
use Rattle.order_book.proofs.book.reserve_at.Goals as goal

pub returns-clause-same : goal.returns-clause-same
returns-clause-same g c =
    same_shown (λ list. list.items) c.args.lists.now.items c.args.at c.index_mut-list.result.now c.try_reserve.new.self c.requires
    c.index_mut-list.ensures.value c.try_reserve.ensures.items

pub returns-clause-kept : goal.returns-clause-kept
returns-clause-kept g c =
    roomier (λ list. vec_capacity list) c.args.lists.now.items c.args.at c.index_mut-list.result.now c.try_reserve.new.self c.requires
    c.index_mut-list.ensures.value c.try_reserve.ensures.capacity

pub returns-clause-count : goal.returns-clause-count
returns-clause-count g c = as_many (λ list. vec_capacity list) c.args.lists.now.items c.args.at c.try_reserve.new.self

pub returns-clause-room : goal.returns-clause-room
returns-clause-room g c = on_ok_weaker c.try_reserve.result
    (λ enough.
    let there = room_there (λ list. vec_capacity list) c.args.lists.now.items c.args.at c.try_reserve.new.self c.requires in
    omega (arith, enough, there, c.saturating_sub.ensures, c.len.ensures, c.try_reserve.ensures.len))
    c.try_reserve.ensures.ok
