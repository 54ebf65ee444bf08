-- What the fields of a book of events stand for.
use Rattle.std.specs.Prelude.{map, vec_capacity}
use Rattle.one_order.specs.EventBook.{EventBook}
use Rattle.order_book.specs.declared.book.EventBook.TheInside.{Inside}
use Rattle.order_book.specs.RoomyBook.{RoomyBook}

abbrev pub book_of : {A : Type 0} → Inside A → EventBook
book_of a = record {
  events = a.events;
  issues = map (λ list. list.items) a.issues.items;
  positions = map (λ list. list.items) a.positions.items;
  rows = a.rows.items;
}

abbrev pub roomy_of : {A : Type 0} → Inside A → RoomyBook
roomy_of a = record {
  book = book_of a;
  issues = map (λ list. vec_capacity list) a.issues.items;
  positions = map (λ list. vec_capacity list) a.positions.items;
  rows = vec_capacity a.rows;
}
