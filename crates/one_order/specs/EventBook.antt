-- The book of events that a machine keeps while it steps, so that it can give the rows of its one
-- legal order.
use Rattle.std.specs.Prelude.{ℕ, zero, suc, ◌+◌, List, [], ◌∷◌, ◌++◌, Some, None, length, replicate, slice_index}
use Rattle.std.specs.Prelude.{slice_index_or, slice_set}
use Rattle.one_order.specs.declared.ordered.Ordered.{Ordered}
use Rattle.one_order.specs.Observed.{list_at}
use Rattle.one_order.specs.Order.{home}
use Rattle.one_order.specs.Events.{Event, Nothing, Issued, Served, Answered, push_at}

-- how many events have happened; of each processor's operations, the number of the issue; of each
-- bank's services, where its row stands; and the rows of the order
pub record EventBook : Type 0 where
  pub events : ℕ
  pub issues : List (List ℕ)
  pub positions : List (List ℕ)
  pub rows : List Ordered

-- the book after an issue of processor p
abbrev pub noted_issue : ℕ → EventBook → EventBook
noted_issue p l =
    record {
      events = l.events + 1;
      issues = push_at l.issues p (l.events + 1);
      positions = l.positions;
      rows = l.rows;
    }

-- the row of a service of bank b, of operation i of processor p
abbrev pub new_row : ℕ → ℕ → ℕ → EventBook → Ordered
new_row b p i l = record {
  bank = b;
  place = length (list_at l.positions b);
  source = p;
  index = i;
  issued = slice_index (list_at l.issues p) i;
  served = l.events + 1;
  answered = None;
}

-- the book after that service
abbrev pub noted_service : ℕ → ℕ → ℕ → EventBook → EventBook
noted_service b p i l = record {
  events = l.events + 1;
  issues = l.issues;
  positions = push_at l.positions b (length l.rows);
  rows = l.rows ++ new_row b p i l ∷ [];
}

-- the row of the service of a place of bank b
abbrev pub row_at : ℕ → ℕ → EventBook → ℕ
row_at b place l = slice_index (list_at l.positions b) place

abbrev pub no_row : Ordered
no_row = record {
  bank = 0;
  place = 0;
  source = 0;
  index = 0;
  issued = 0;
  served = 0;
  answered = None;
}

-- a row with the number of its answer
abbrev pub answered_row : Ordered → ℕ → Ordered
answered_row row m = record {
  bank = row.bank;
  place = row.place;
  source = row.source;
  index = row.index;
  issued = row.issued;
  served = row.served;
  answered = Some m;
}

-- the book after an answer that names the service of a place of bank b
abbrev pub noted_answer : ℕ → ℕ → EventBook → EventBook
noted_answer b place l = record {
  events = l.events + 1;
  issues = l.issues;
  positions = l.positions;
  rows = slice_set l.rows (row_at b place l)
      (answered_row (slice_index_or l.rows (row_at b place l) no_row) (l.events + 1));
}

-- before any event nothing is noted
abbrev pub first_book : ℕ → EventBook
first_book tiles = record {
  events = 0;
  issues = replicate tiles [];
  positions = replicate tiles [];
  rows = [];
}

-- the book after an event
abbrev pub noted_event : ℕ → EventBook → Event → EventBook
noted_event tiles l Nothing = l
noted_event tiles l (Issued p o) = noted_issue p l
noted_event tiles l (Served p i tag o) = noted_service (home tiles o) p i l
noted_event tiles l (Answered p a) = noted_answer a.bank a.place l

-- the book of the events of the first n steps
abbrev pub book_of : ℕ → (ℕ → Event) → ℕ → EventBook
book_of tiles event zero = first_book tiles
book_of tiles event (suc n) = noted_event tiles (book_of tiles event n) (event n)
