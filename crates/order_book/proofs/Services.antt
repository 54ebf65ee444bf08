-- The row that a service adds to a book.
use Rattle.std.proofs.Common.{◌≡◌, ℕ, ◌+◌, ◌<◌, List, [], ◌∷◌, ◌++◌, length, map, set, None, Some, sym, ◌∙◌, ap, slice_index, get_or}
use Rattle.std.specs.Prelude.{Vec}
use Rattle.std.proofs.lemmas.Option.{get_or_from_slice_get, slice_get-get_or}
use Rattle.one_order.specs.declared.ordered.Ordered.{Ordered}
use Rattle.one_order.specs.Observed.{list_at}
use Rattle.one_order.specs.Events.{push_at}
use Rattle.one_order.specs.EventBook.{EventBook, new_row, noted_service}
use Rattle.order_book.specs.declared.book.EventBook.TheInside.{Inside}
use Rattle.order_book.specs.Inside.{book_of}
use Rattle.order_book.proofs.Lists.{shown_at, pushed}

-- a number that stands in a list is read there
number_at : (xs : List ℕ) (i x : ℕ) → i < length xs → x ≡ get_or xs i x → slice_index xs i ≡ x
number_at xs i x there is = get_or_from_slice_get xs i x 0 (slice_get-get_or xs i x there ∙ ap Some (sym is))

pub row_is : {A : Type 0} (a : Inside A) (b p i place issued : ℕ) (of to : Vec ℕ A) → p < length a.issues.items → of ≡ get_or a.issues.items p of
    → i < length of.items → issued ≡ get_or of.items i issued → b < length a.positions.items → to ≡ get_or a.positions.items b to → place ≡ length to.items
    → ◌≡◌ {A = Ordered} (record { bank = b; place = place; source = p; index = i; issued = issued; served = a.events + 1; answered = None })
    (new_row b p i (book_of a))
row_is a b p i place issued of to p_there of_is i_there issued_is b_there to_is place_is =
    let numbers : list_at (book_of a).issues p ≡ of.items = shown_at (λ list. list.items) a.issues.items p of [] p_there of_is in
    let positions : list_at (book_of a).positions b ≡ to.items = shown_at (λ list. list.items) a.positions.items b to [] b_there to_is in
    let number : issued ≡ slice_index (list_at (book_of a).issues p) i =
    sym (ap (λ xs. slice_index xs i) numbers ∙ number_at of.items i issued i_there issued_is) in
    ap (λ k. record { bank = b; place = k; source = p; index = i; issued = issued; served = a.events + 1; answered = None })
    (place_is ∙ ap length (sym positions))
    ∙ ap (λ k. record { bank = b; place = length (list_at (book_of a).positions b); source = p; index = i; issued = k; served = a.events + 1; answered = None })
    number

-- the fields after a service make the book after it
pub served : {A : Type 0} (a : Inside A) (b p i position : ℕ) (row : Ordered) (old new : Vec ℕ A) (rows : List Ordered) → b < length a.positions.items
    → old ≡ get_or a.positions.items b old → new.items ≡ old.items ++ position ∷ [] → position ≡ length a.rows.items → rows ≡ a.rows.items ++ row ∷ []
    → row ≡ new_row b p i (book_of a)
    → ◌≡◌ {A = EventBook} (record {
      events = a.events + 1;
      issues = (book_of a).issues;
      positions = map (λ list. list.items) (set a.positions.items b new);
      rows = rows;
    }) (noted_service b p i (book_of a))
served a b p i position row old new rows there is more at_end one_more is_row =
    let g : EventBook = book_of a in
    let positions : map (λ list. list.items) (set a.positions.items b new) ≡ push_at g.positions b (length g.rows) =
    pushed (λ list. list.items) a.positions.items b position old new there is more ∙ ap (push_at g.positions b) at_end in
    let all_rows : rows ≡ g.rows ++ new_row b p i g ∷ [] = one_more ∙ ap (λ (x : Ordered). g.rows ++ x ∷ []) is_row in
    ap (λ xss. record { events = g.events + 1; issues = g.issues; positions = xss; rows = rows }) positions
    ∙ ap (λ xs. record { events = g.events + 1; issues = g.issues; positions = push_at g.positions b (length g.rows); rows = xs }) all_rows
