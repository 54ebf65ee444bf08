use Rattle.std.proofs.Common.{◌<◌, ◌∙◌, length, refl, arith}
use Rattle.std.specs.Vec.{with_item}
use Rattle.trace_laws.proofs.Table.{at_within}
use Rattle.trace_judge.specs.Sets.{lists_of}
use Rattle.trace_judge.proofs.Many.{answer_in, full_told, has_many}
use Rattle.trace_judge.proofs.Searching.{read_set}
use Rattle.trace_judge.proofs.Answering.{seen_answer, answer_yes, answer_no, stays_some, goes_none, slot_low}
use Rattle.trace_judge.proofs.search.Search.answer.Goals as goal

pub close-closed-requires-clause-inside : goal.close-closed-requires-clause-inside
close-closed-requires-clause-inside g c =
    let a = c.place_of-slot.result.1 in
    let w = a.call.operation.address in
    at_within c.args.events.now c.args.k w (lists_of c.args.self.now.tables.items w) c.place_of-slot.result.0 a
    (c.requires.holds.searched.tabled w c.place_of-slot.ensures.inside) c.place_of-slot.ensures.there

pub keep-requires : goal.keep-requires
keep-requires g c =
    let a = c.place_of-slot.result.1 in
    let w = a.call.operation.address in
    at_within c.args.events.now c.args.k w (lists_of c.args.self.now.tables.items w) c.place_of-slot.result.0 a
    (c.requires.holds.searched.tabled w c.place_of-slot.ensures.inside) c.place_of-slot.ensures.there

pub free-requires : goal.free-requires
free-requires g c =
    let a = c.place_of-slot.result.1 in
    let w = a.call.operation.address in
    let far = c.place_of-slot.ensures.inside in
    let inside : w < length c.args.self.now.tables.items = let e = c.requires.holds.tabled in omega arith in
    slot_low c.args.self.now.tables.items w c.place_of-slot.result.0 a c.index_mut.result.now inside c.index_mut.ensures.value
    c.place_of-slot.ensures.there

pub returns-clause-yes : goal.returns-clause-yes
returns-clause-yes g c = λ e.
    let s = c.args.self.now in
    let slot = c.place_of-slot.result.0 in
    let a = c.place_of-slot.result.1 in
    let w = a.call.operation.address in
    let later = c.in_ok-later.later in
    let ts = with_item s.tables w c.free.new.table in
    let ws = with_item s.words w later in
    let done = seen_answer c.args.opening.now c.args.events.now c.args.whole.now c.args.k s ts ws c.close-closed.new.nodes slot a c.args.id
    c.args.reply c.index_mut.result.now c.index-2.result.now c.free.new.table c.deref-2.result.now c.index.result.now
    c.deref.result.now c.in-Ok.middle.items c.deref-3.result.now later
    c.requires.trace c.requires.answered c.place_of-slot.ensures.number c.place_of-slot.ensures.inside
    c.place_of-slot.ensures.there c.requires.holds c.index_mut.ensures.value c.index-2.ensures c.deref-2.ensures.value
    c.index.ensures c.deref.ensures.value c.deref-3.ensures.value refl c.free.ensures refl
    c.in-Ok.ensures.kept c.in-Ok.ensures.closed c.in-Ok.ensures.sound c.in_ok-later.ensures.from c.in_ok-later.ensures.released in
    answer_yes c.args.opening.now c.args.events.now c.args.whole.now c.args.k s ts ws c.close-closed.new.nodes _ _ _ w slot a
    c.index_mut.result.now c.free.new.table later
    c.place_of-slot.ensures.inside (stays_some later c.is_empty-stands.result c.is_empty-stands.ensures e)
    c.index_mut.ensures.value c.place_of-slot.ensures.there refl c.free.ensures refl c.requires.holds done

pub returns-clause-no : goal.returns-clause-no
returns-clause-no g c = λ e.
    let s = c.args.self.now in
    let slot = c.place_of-slot.result.0 in
    let a = c.place_of-slot.result.1 in
    let w = a.call.operation.address in
    let later = c.in_ok-later.later in
    let ts = with_item s.tables w c.free.new.table in
    let ws = with_item s.words w later in
    let done = seen_answer c.args.opening.now c.args.events.now c.args.whole.now c.args.k s ts ws c.close-closed.new.nodes slot a c.args.id
    c.args.reply c.index_mut.result.now c.index-2.result.now c.free.new.table c.deref-2.result.now c.index.result.now
    c.deref.result.now c.in-Ok.middle.items c.deref-3.result.now later
    c.requires.trace c.requires.answered c.place_of-slot.ensures.number c.place_of-slot.ensures.inside
    c.place_of-slot.ensures.there c.requires.holds c.index_mut.ensures.value c.index-2.ensures c.deref-2.ensures.value
    c.index.ensures c.deref.ensures.value c.deref-3.ensures.value refl c.free.ensures refl
    c.in-Ok.ensures.kept c.in-Ok.ensures.closed c.in-Ok.ensures.sound c.in_ok-later.ensures.from c.in_ok-later.ensures.released in
    answer_no c.args.opening.now c.args.events.now c.args.whole.now c.args.k s (lists_of ts.items) ws.items c.close-closed.new.nodes.items w later
    c.place_of-slot.ensures.inside (goes_none later c.is_empty-stands.result c.is_empty-stands.ensures e) refl
    c.requires.holds.sized done

pub returns-in-Err-clause-undecided : goal.returns-in-Err-clause-undecided
returns-in-Err-clause-undecided g c =
    c.at_event.ensures.undecided c.args.whole.now
    (answer_in c.args.events.now c.args.whole.now c.args.k c.args.id c.args.reply c.requires.beginning c.requires.answered)

pub returns-in-Err-clause-full : goal.returns-in-Err-clause-full
returns-in-Err-clause-full g c =
    let s = c.args.self.now in
    let w = c.place_of-slot.result.1.call.operation.address in
    let far = c.place_of-slot.ensures.inside in
    let inside : w < length s.words.items = let e = c.requires.holds.sized in omega arith in
    let within : w < length s.tables.items = let e = c.requires.holds.tabled in omega arith in
    c.at_event.ensures.full c.args.opening.now c.args.whole.now c.args.bound (λ told.
    has_many c.args.opening.now c.args.events.now c.args.whole.now c.args.k c.args.bound s w c.deref.result.now s.nodes.items
    c.deref-2.result.now c.requires.trace c.requires.beginning c.requires.inside c.requires.holds far
    (c.deref.ensures.value ∙ read_set s.words.items w c.index.result.now inside c.index.ensures) refl
    (c.deref-2.ensures.value ∙ read_set s.tables.items w c.index-2.result.now within c.index-2.ensures)
    (full_told c.close-closed.result c.in-Err.full _ c.in-Err.is told c.close-closed.ensures.full))
