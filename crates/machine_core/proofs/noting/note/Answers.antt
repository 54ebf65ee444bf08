use Rattle.std.proofs.Common.{◌≡◌, ◌<◌, ℕ, length, sym, ◌∙◌, ap, arith, slice_get}
use Rattle.std.proofs.lemmas.Option.{same_Some}
use Rattle.machine_parts.specs.EventBook.{noted_service}
use Rattle.tile.specs.Agents.{state_of}
use Rattle.machine_parts.specs.Placed.{PlacedTile}
use Rattle.machine_parts.specs.Notes.{RoomToNoteAnswer, index_served}
use Rattle.machine_core.specs.Noted.{HasRoomForIssue, HasRoomForService, records_in}
use Rattle.machine_core.proofs.NotedBooks.{seen_at, looked_up, noted_as_issue, noted_as_answer, noted_as_service, noted_as_nothing, served_at}
use Rattle.machine_core.proofs.noting.note.Given.{Over}
use Rattle.machine_core.proofs.noting.note.Goals as goal

issues : (g : Over) (c : goal.After-note_issue-arg-1 g) → HasRoomForIssue c.args.book.now c.args.tile
issues g c = c.requires.room.issue c.index-tiles-tile.result
    (seen_at c.args.tiles.now c.args.tile c.index-tiles-tile.result c.requires.tile c.index-tiles-tile.is)
    (omega (arith, ap length c.issued.ensures))

answers : (g : Over) (c : goal.After-note_answer-arg-1 g) → RoomToNoteAnswer c.args.book.now.book c.in-Some.answer.now.bank c.in-Some.answer.now.place
answers g c = c.requires.room.answer c.index-tiles-tile.result
    (seen_at c.args.tiles.now c.args.tile c.index-tiles-tile.result c.requires.tile c.index-tiles-tile.is)
    c.in-Some.answer.now
    (looked_up c.index-tiles-tile.result.place.processor.state.operations.answers c.answers.result.now c.args.before.answers c.in-Some.answer.now
    c.answers.ensures c.in-Some.ensures.lookup.0 c.in-Some.ensures.lookup.1)

pub bounds-tiles-tile : goal.bounds-tiles-tile
bounds-tiles-tile g c = c.requires.tile

pub offset_bounds-tiles-tile : goal.offset_bounds-tiles-tile
offset_bounds-tiles-tile g c = let h = c.requires.tiles in omega (arith, h, c.requires.tile)

pub overflow_cast-tile : goal.overflow_cast-tile
overflow_cast-tile g c = omega (arith, c.requires.tiles)

pub overflow_cast-tile-in-Some-get : goal.overflow_cast-tile-in-Some-get
overflow_cast-tile-in-Some-get g c = omega (arith, c.requires.tiles)

pub returns-then-before-issued-clause-room : goal.returns-then-before-issued-clause-room
returns-then-before-issued-clause-room g c = c.note_issue.ensures.room

pub returns-in-Some-clause-room : goal.returns-in-Some-clause-room
returns-in-Some-clause-room g c = c.note_answer.ensures.room

pub returns-in-Some-get-clause-room : goal.returns-in-Some-get-clause-room
returns-in-Some-get-clause-room g c = c.note_service.ensures.room

pub note_issue-requires-clause-processor : goal.note_issue-requires-clause-processor
note_issue-requires-clause-processor g c = (issues g c).processor

pub note_issue-requires-clause-room : goal.note_issue-requires-clause-room
note_issue-requires-clause-room g c = (issues g c).room

pub note_issue-requires-clause-events : goal.note_issue-requires-clause-events
note_issue-requires-clause-events g c = c.requires.room.events

pub note_answer-requires-clause-bank : goal.note_answer-requires-clause-bank
note_answer-requires-clause-bank g c = (answers g c).bank_in

pub note_answer-requires-clause-place : goal.note_answer-requires-clause-place
note_answer-requires-clause-place g c = (answers g c).place_in

pub note_answer-requires-clause-row : goal.note_answer-requires-clause-row
note_answer-requires-clause-row g c = (answers g c).row

pub note_answer-requires-clause-events : goal.note_answer-requires-clause-events
note_answer-requires-clause-events g c = c.requires.room.events

source : (g : Over) (c : goal.After-row_known-1 g) → c.in-Some-get.entry.now.source < length c.args.tiles.now
source g c = (c.requires.room.service c.index-tiles-tile.result
    (seen_at c.args.tiles.now c.args.tile c.index-tiles-tile.result c.requires.tile c.index-tiles-tile.is)
    c.in-Some-get.entry.now
    (looked_up c.index-tiles-tile.result.place.bank.state.entries c.entries.result.now c.args.before.entries c.in-Some-get.entry.now c.entries.ensures
    c.in-Some-get.ensures.lookup.0 c.in-Some-get.ensures.lookup.1)).0

services : (g : Over) (c : goal.After-note_service-arg-1 g)
    → HasRoomForService c.args.book.now c.args.tile c.in-Some-get.entry.now.source (index_served (records_in c.args.tiles.now) c.in-Some-get.entry.now)
services g c = (c.requires.room.service c.index-tiles-tile.result
    (seen_at c.args.tiles.now c.args.tile c.index-tiles-tile.result c.requires.tile c.index-tiles-tile.is)
    c.in-Some-get.entry.now
    (looked_up c.index-tiles-tile.result.place.bank.state.entries c.entries.result.now c.args.before.entries c.in-Some-get.entry.now c.entries.ensures
    c.in-Some-get.ensures.lookup.0 c.in-Some-get.ensures.lookup.1)).1

pub offset_bounds-tiles-entry : goal.offset_bounds-tiles-entry
offset_bounds-tiles-entry g c = let h = source g c in omega arith

pub bounds-tiles-entry : goal.bounds-tiles-entry
bounds-tiles-entry g c = source g c

pub note_service-requires-clause-index : goal.note_service-requires-clause-index
note_service-requires-clause-index g c =
    let short = (c.requires.room.service c.index-tiles-tile.result
    (seen_at c.args.tiles.now c.args.tile c.index-tiles-tile.result c.requires.tile c.index-tiles-tile.is)
    c.in-Some-get.entry.now
    (looked_up c.index-tiles-tile.result.place.bank.state.entries c.entries.result.now c.args.before.entries c.in-Some-get.entry.now c.entries.ensures
    c.in-Some-get.ensures.lookup.0 c.in-Some-get.ensures.lookup.1)).0 in
    let index : c.holder-index.result ≡ index_served (records_in c.args.tiles.now) c.in-Some-get.entry.now =
    c.holder-index.ensures ∙ served_at c.args.tiles.now c.in-Some-get.entry.now c.index-tiles-entry.result
    (seen_at c.args.tiles.now c.in-Some-get.entry.now.source c.index-tiles-entry.result short c.index-tiles-entry.is) in
    let within = (services g c).index in
    omega (arith, index, within)

pub note_service-requires-clause-bank : goal.note_service-requires-clause-bank
note_service-requires-clause-bank g c = (services g c).bank

pub note_service-requires-clause-source : goal.note_service-requires-clause-source
note_service-requires-clause-source g c = (services g c).source

pub note_service-requires-clause-place : goal.note_service-requires-clause-place
note_service-requires-clause-place g c = (services g c).place

pub note_service-requires-clause-services : goal.note_service-requires-clause-services
note_service-requires-clause-services g c = (services g c).services

pub note_service-requires-clause-room : goal.note_service-requires-clause-room
note_service-requires-clause-room g c = (services g c).room

pub note_service-requires-clause-rows : goal.note_service-requires-clause-rows
note_service-requires-clause-rows g c = (services g c).rows

pub note_service-requires-clause-events : goal.note_service-requires-clause-events
note_service-requires-clause-events g c = c.requires.room.events

pub returns-then-before-issued-clause-book : goal.returns-then-before-issued-clause-book
returns-then-before-issued-clause-book g c = λ v at.
    let here = seen_at c.args.tiles.now c.args.tile c.index-tiles-tile.result c.requires.tile c.index-tiles-tile.is in
    let same : c.index-tiles-tile.result ≡ v = same_Some _ _ (sym here ∙ at) in
    c.note_issue.ensures.book
    ∙ sym (noted_as_issue c.args.tile (records_in c.args.tiles.now) c.args.before (state_of v.place) c.args.book.now.book
    (omega (arith, ap length c.issued.ensures, ap (λ (w : PlacedTile). length w.place.processor.state.operations.issued) same)))

pub returns-in-Some-clause-book : goal.returns-in-Some-clause-book
returns-in-Some-clause-book g c = λ v at.
    let here = seen_at c.args.tiles.now c.args.tile c.index-tiles-tile.result c.requires.tile c.index-tiles-tile.is in
    let same : c.index-tiles-tile.result ≡ v = same_Some _ _ (sym here ∙ at) in
    let found = looked_up c.index-tiles-tile.result.place.processor.state.operations.answers c.answers.result.now c.args.before.answers c.in-Some.answer.now
    c.answers.ensures c.in-Some.ensures.lookup.0 c.in-Some.ensures.lookup.1 in
    c.note_answer.ensures.book
    ∙ sym (noted_as_answer c.args.tile (records_in c.args.tiles.now) c.args.before (state_of v.place) c.args.book.now.book
    (omega (arith, ap length c.issued.ensures, c.if-before-issued.false, ap (λ (w : PlacedTile). length w.place.processor.state.operations.issued) same))
    c.in-Some.answer.now (sym (ap (λ (w : PlacedTile). slice_get w.place.processor.state.operations.answers c.args.before.answers) same) ∙ found))

pub returns-in-Some-get-clause-book : goal.returns-in-Some-get-clause-book
returns-in-Some-get-clause-book g c = λ v at.
    let here = seen_at c.args.tiles.now c.args.tile c.index-tiles-tile.result c.requires.tile c.index-tiles-tile.is in
    let same : c.index-tiles-tile.result ≡ v = same_Some _ _ (sym here ∙ at) in
    let found = looked_up c.index-tiles-tile.result.place.bank.state.entries c.entries.result.now c.args.before.entries c.in-Some-get.entry.now
    c.entries.ensures c.in-Some-get.ensures.lookup.0 c.in-Some-get.ensures.lookup.1 in
    let source = (c.requires.room.service c.index-tiles-tile.result here c.in-Some-get.entry.now found).0 in
    let index : c.holder-index.result ≡ index_served (records_in c.args.tiles.now) c.in-Some-get.entry.now =
    c.holder-index.ensures ∙ served_at c.args.tiles.now c.in-Some-get.entry.now c.index-tiles-entry.result
    (seen_at c.args.tiles.now c.in-Some-get.entry.now.source c.index-tiles-entry.result source c.index-tiles-entry.is) in
    c.note_service.ensures.book
    ∙ (ap (λ (i : ℕ). noted_service c.args.tile c.in-Some-get.entry.now.source i c.args.book.now.book) index
    ∙ sym (noted_as_service c.args.tile (records_in c.args.tiles.now) c.args.before (state_of v.place) c.args.book.now.book
    (omega (arith, ap length c.issued.ensures, c.if-before-issued.false, ap (λ (w : PlacedTile). length w.place.processor.state.operations.issued) same))
    (omega (arith, ap length c.answers.ensures, c.in_default.ensures.lookup.3, ap (λ (w : PlacedTile). length w.place.processor.state.operations.answers) same))
    c.in-Some-get.entry.now (sym (ap (λ (w : PlacedTile). slice_get w.place.bank.state.entries c.args.before.entries) same) ∙ found)))

pub returns-in_default-get-clause-book : goal.returns-in_default-get-clause-book
returns-in_default-get-clause-book g c = λ v at.
    let here = seen_at c.args.tiles.now c.args.tile c.index-tiles-tile.result c.requires.tile c.index-tiles-tile.is in
    let same : c.index-tiles-tile.result ≡ v = same_Some _ _ (sym here ∙ at) in
    sym (noted_as_nothing c.args.tile (records_in c.args.tiles.now) c.args.before (state_of v.place) c.args.book.now.book
    (omega (arith, ap length c.issued.ensures, c.if-before-issued.false, ap (λ (w : PlacedTile). length w.place.processor.state.operations.issued) same))
    (omega (arith, ap length c.answers.ensures, c.in_default.ensures.lookup.3, ap (λ (w : PlacedTile). length w.place.processor.state.operations.answers) same))
    (omega (arith, ap length c.entries.ensures, c.in_default-get.ensures.lookup.3, ap (λ (w : PlacedTile). length w.place.bank.state.entries) same)))
