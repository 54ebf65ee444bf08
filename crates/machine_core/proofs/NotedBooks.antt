-- What is noted of a step, by what its tile shows.
use Rattle.std.proofs.Common.{◌≡◌, ℕ, ◌<◌, ◌≤◌, true, ltb, List, length, Option, Some, sym, ◌∙◌, ap, slice_get, slice_index_or}
use Rattle.std.proofs.lemmas.Bool.{cond-true, cond-false, lt-ltb, le-ltb, ltb-true}
use Rattle.std.proofs.lemmas.Option.{slice_get-get_or, slice_get_past, slice_get-map, get_or_from_slice_get}
use Rattle.std.specs.Option.{option_map}
use Rattle.home_bank.specs.declared.entry.Entry.{Entry}
use Rattle.one_order.specs.declared.answer.Answer.{Answer}
use Rattle.one_order.specs.ProcessorRecord.{ProcessorRecord, no_processor, index_of}
use Rattle.machine_parts.specs.EventBook.{EventBook, noted_issue, noted_service, noted_answer}
use Rattle.tile.specs.Tile.{TileState}
use Rattle.machine_parts.specs.Placed.{PlacedTile}
use Rattle.machine_parts.specs.Notes.{book_noted, answer_noted, service_noted, index_served}
use Rattle.machine_core.specs.declared.noting.Counts.{Counts}
use Rattle.machine_core.specs.Noted.{records_in}

-- an element of a slice
pub seen_at : {A : Type 0} (xs : List A) (k : ℕ) (x : A) → k < length xs → x ≡ slice_index_or xs k x → slice_get xs k ≡ Some x
seen_at xs k x h e = slice_get-get_or xs k x h ∙ ap Some (sym e)

-- an element that was looked up in an equal list
pub looked_up : {A : Type 0} (xs ys : List A) (k : ℕ) (x : A) → ys ≡ xs → true ≡ ltb k (length ys) → x ≡ slice_index_or ys k x → slice_get xs k ≡ Some x
looked_up xs ys k x same short e = sym (ap (λ zs. slice_get zs k) same) ∙ seen_at ys k x (ltb-true k (length ys) (sym short)) e

module _ (t : ℕ) (records : List ProcessorRecord) (before : Counts) (after : TileState) (g : EventBook) where
  abbrev noted : EventBook
  noted = book_noted t records before.issued before.answers before.entries after g

  pub noted_as_issue : before.issued < length after.processor.operations.issued → noted ≡ noted_issue t g
  noted_as_issue h = cond-true _ _ _ (lt-ltb before.issued (length after.processor.operations.issued) h)

  without_issue : length after.processor.operations.issued ≤ before.issued
      → noted ≡ answer_noted t records (slice_get after.processor.operations.answers before.answers) (slice_get after.bank.entries before.entries) g
  without_issue h = cond-false _ _ _ (le-ltb before.issued (length after.processor.operations.issued) h)

  pub noted_as_answer : length after.processor.operations.issued ≤ before.issued
      → (a : Answer) → slice_get after.processor.operations.answers before.answers ≡ Some a → noted ≡ noted_answer a.bank a.place g
  noted_as_answer h a is =
      without_issue h ∙ ap (λ (o : Option Answer). answer_noted t records o (slice_get after.bank.entries before.entries) g) is

  without_answer : length after.processor.operations.issued ≤ before.issued → length after.processor.operations.answers ≤ before.answers
      → noted ≡ service_noted t records (slice_get after.bank.entries before.entries) g
  without_answer h k =
      without_issue h
      ∙ ap (λ (o : Option Answer). answer_noted t records o (slice_get after.bank.entries before.entries) g)
      (slice_get_past after.processor.operations.answers before.answers k)

  pub noted_as_service : length after.processor.operations.issued ≤ before.issued → length after.processor.operations.answers ≤ before.answers
      → (e : Entry) → slice_get after.bank.entries before.entries ≡ Some e → noted ≡ noted_service t e.source (index_served records e) g
  noted_as_service h k e is = without_answer h k ∙ ap (λ (o : Option Entry). service_noted t records o g) is

  pub noted_as_nothing : length after.processor.operations.issued ≤ before.issued → length after.processor.operations.answers ≤ before.answers
      → length after.bank.entries ≤ before.entries → noted ≡ g
  noted_as_nothing h k m = without_answer h k ∙ ap (λ (o : Option Entry). service_noted t records o g) (slice_get_past after.bank.entries before.entries m)

-- the index that an entry's tag has at its source
pub served_at : (tiles : List PlacedTile) (e : Entry) (v : PlacedTile) → slice_get tiles e.source ≡ Some v
    → index_of v.place.processor.state.operations e.tag.0 ≡ index_served (records_in tiles) e
served_at tiles e v there =
    let record_there : slice_get (records_in tiles) e.source ≡ Some v.place.processor.state.operations =
    slice_get-map (λ (w : PlacedTile). w.place.processor.state.operations) tiles e.source
    ∙ ap (option_map (λ (w : PlacedTile). w.place.processor.state.operations)) there in
    ap (λ (b : ProcessorRecord). index_of b e.tag.0)
    (sym (get_or_from_slice_get (records_in tiles) e.source v.place.processor.state.operations no_processor record_there))
