use Rattle.std.proofs.Common.{◌<◌, ◌∙◌, length, arith}
use Rattle.std.proofs.lemmas.Option.{MatchOption-at_none}
use Rattle.trace_judge.proofs.Searching.{read_set}
use Rattle.trace_judge.proofs.Answering.{issue_inside, slot_known, slot_there}
use Rattle.trace_judge.proofs.search.Search.place_of.Goals as goal

pub unreachable-requires-in_default-slot_of : goal.unreachable-requires-in_default-slot_of
unreachable-requires-in_default-slot_of g c =
    let s = c.args.self.now in
    let w = c.in-Some.call.operation.address in
    let far : w < length c.args.opening.now = issue_inside (length c.args.opening.now) c.args.events.now c.args.k
    c.args.id c.in-Some.call c.requires.trace c.in-Some.ensures in
    let inside : w < length s.tables.items = let e = c.requires.holds.tabled in omega arith in
    slot_known c.args.opening.now c.args.events.now c.args.whole.now c.args.k s c.args.id c.in-Some.call c.deref.result.now
    c.requires.trace c.requires.holds c.requires.answered c.in-Some.ensures
    (c.deref.ensures.value ∙ read_set s.tables.items w c.index.result.now inside c.index.ensures)
    (MatchOption-at_none {o = c.slot_of.result} _ _ c.in_default-slot_of.is c.slot_of.ensures)

pub returns-clause-there : goal.returns-clause-there
returns-clause-there g c =
    let s = c.args.self.now in
    let w = c.in-Some.call.operation.address in
    let far : w < length c.args.opening.now = issue_inside (length c.args.opening.now) c.args.events.now c.args.k
    c.args.id c.in-Some.call c.requires.trace c.in-Some.ensures in
    let inside : w < length s.tables.items = let e = c.requires.holds.tabled in omega arith in
    (slot_there c.args.opening.now c.args.events.now c.args.whole.now c.args.k s w c.in-Some-slot_of.found.0 c.in-Some-slot_of.found.1
    c.deref.result.now c.requires.holds far
    (c.deref.ensures.value ∙ read_set s.tables.items w c.index.result.now inside c.index.ensures)
    c.in-Some-slot_of.ensures.0).0

pub returns-clause-inside : goal.returns-clause-inside
returns-clause-inside g c =
    let s = c.args.self.now in
    let w = c.in-Some.call.operation.address in
    let far : w < length c.args.opening.now = issue_inside (length c.args.opening.now) c.args.events.now c.args.k
    c.args.id c.in-Some.call c.requires.trace c.in-Some.ensures in
    let inside : w < length s.tables.items = let e = c.requires.holds.tabled in omega arith in
    (slot_there c.args.opening.now c.args.events.now c.args.whole.now c.args.k s w c.in-Some-slot_of.found.0 c.in-Some-slot_of.found.1
    c.deref.result.now c.requires.holds far
    (c.deref.ensures.value ∙ read_set s.tables.items w c.index.result.now inside c.index.ensures)
    c.in-Some-slot_of.ensures.0).1
