use Rattle.std.proofs.Common.{◌≡◌, [], length, sym, ◌∙◌, ap, arith, vec_capacity}
use Rattle.std.proofs.lemmas.List.{length-map, length-replicate}
use Rattle.std.proofs.lemmas.Option.{slice_get_within, get_or_from_slice_get}
use Rattle.order_book.proofs.Lists.{empties, rooms_more}
use Rattle.order_book.proofs.book.empty_lists.Given.{Over}
use Rattle.order_book.proofs.book.empty_lists.Goals as goal

as_many : (g : Over) (c : goal.In_ok-push g) → length c.loop-room.lists.items ≡ c.loop-room.room-index
as_many g c =
    sym (length-map c.loop-room.lists.items (λ list. list.items)) ∙ (ap length c.loop-room.invariant.empty ∙ length-replicate c.loop-room.room-index [])

pub loop-room-preserved : goal.loop-room-preserved
loop-room-preserved g c = record {
  within = omega (arith, c.loop-room-test.true);
  empty = empties (λ list. list.items) c.loop-room.lists.items c.push.new.self.items c.in_ok-with_capacity.field-0 c.loop-room.room-index
      c.in_ok-push.ensures.items c.in_ok-with_capacity.ensures.items c.loop-room.invariant.empty;
  room = rooms_more (λ list. vec_capacity list) c.loop-room.lists.items c.push.new.self.items c.in_ok-with_capacity.field-0 c.args.rooms.now
      c.loop-room.room-index c.in_ok-push.ensures.items (as_many g c) c.loop-room.invariant.room
      (λ room at. let is = get_or_from_slice_get c.args.rooms.now c.loop-room.room-index room 0 at in omega (arith, c.in_ok-with_capacity.ensures.capacity));
}

pub returns-clause-room : goal.returns-clause-room
returns-clause-room g c = λ k room at.
    let here = slice_get_within c.args.rooms.now k room at in
    c.loop-room.invariant.room k room (omega (arith, c.loop-room-test.false)) at
