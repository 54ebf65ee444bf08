use Rattle.std.proofs.Common.{◌≡◌, ◌<◌, [], length, refl, ap, arith, vec_capacity}
use Rattle.std.proofs.lemmas.List.{length-map}
use Rattle.one_order.specs.Observed.{list_at}
use Rattle.order_book.proofs.Lists.{shown_at, roomier, as_many}
use Rattle.order_book.proofs.Services.{row_is, served}
use Rattle.order_book.proofs.book.EventBook.note_service.Given.{Over}
use Rattle.order_book.proofs.book.EventBook.note_service.Goals as goal

bank_there : (g : Over) (c : goal.After-push_within-2 g) → c.args.bank < length c.self.inside.positions.items
bank_there g c =
    let here : c.args.bank < length c.args.self.now.book.positions = c.requires.bank in
    let is = ap (λ book. length book.book.positions) c.self.view_is in
    let counted = length-map c.self.inside.positions.items (λ list. list.items) in
    omega arith

source_there : (g : Over) (c : goal.After-push_within-2 g) → c.args.source < length c.self.inside.issues.items
source_there g c =
    let here : c.args.source < length c.args.self.now.book.issues = c.requires.source in
    let is = ap (λ book. length book.book.issues) c.self.view_is in
    let counted = length-map c.self.inside.issues.items (λ list. list.items) in
    omega arith

-- the processor has issued the operation
issued_there : (g : Over) (c : goal.After-push_within-2 g) → c.args.index < length c.index.result.now.items
issued_there g c =
    let here : c.args.index < length (list_at c.args.self.now.book.issues c.args.source) = c.requires.index in
    let is = ap (λ book. length (list_at book.book.issues c.args.source)) c.self.view_is in
    let numbers = ap length (shown_at (λ list. list.items) c.self.inside.issues.items c.args.source c.index.result.now [] (source_there g c) c.index.ensures) in
    omega arith

pub returns-clause-book : goal.returns-clause-book
returns-clause-book g c =
    let place : c.len-place.result ≡ length c.index_mut-positions.result.now.items = let counted = c.index_mut-positions.result.now.ok.0 in
    omega (arith, c.len-place.ensures) in
    let position : c.len-position.result ≡ length c.self.inside.rows.items = let counted = c.self.inside.rows.ok.0 in omega (arith, c.len-position.ensures) in
    let row = row_is c.self.inside c.args.bank c.args.source c.args.index c.len-place.result c.index-issued.result.now c.index.result.now
    c.index_mut-positions.result.now
    (source_there g c) c.index.ensures (issued_there g c) c.index-issued.ensures (bank_there g c) c.index_mut-positions.ensures.value place in
    rw (← c.self.view_is) (served c.self.inside c.args.bank c.args.source c.args.index c.len-position.result _ c.index_mut-positions.result.now
    c.push_within.new.items c.push_within-2.new.items.items
    (bank_there g c) c.index_mut-positions.ensures.value c.push_within.ensures.items position c.push_within-2.ensures.items row)

pub returns-clause-room : goal.returns-clause-room
returns-clause-room g c = rw (← c.self.view_is) (record {
  issues = λ p. omega arith;
  positions = roomier (λ list. vec_capacity list) c.self.inside.positions.items c.args.bank c.index_mut-positions.result.now c.push_within.new.items
      (bank_there g c) c.index_mut-positions.ensures.value c.push_within.ensures.capacity;
  rows = c.push_within-2.ensures.capacity;
  processors = refl;
  banks = as_many (λ list. vec_capacity list) c.self.inside.positions.items c.args.bank c.push_within.new.items;
})
