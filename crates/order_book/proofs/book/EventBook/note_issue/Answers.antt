use Rattle.std.proofs.Common.{◌+◌, ◌<◌, length, map, refl, ap, arith, vec_capacity}
use Rattle.std.proofs.lemmas.List.{length-map}
use Rattle.order_book.proofs.Lists.{pushed, roomier, as_many}
use Rattle.order_book.proofs.book.EventBook.note_issue.Given.{Over}
use Rattle.order_book.proofs.book.EventBook.note_issue.Goals as goal

there : (g : Over) (c : goal.After-self-2-1 g) → c.args.processor < length c.self.inside.issues.items
there g c =
    let here : c.args.processor < length c.args.self.now.book.issues = c.requires.processor in
    let is = ap (λ book. length book.book.issues) c.self.view_is in
    let counted = length-map c.self.inside.issues.items (λ list. list.items) in
    omega arith

pub returns-clause-book : goal.returns-clause-book
returns-clause-book g c = rw (← c.self.view_is) (ap
    (λ issues. record {
      events = c.self.inside.events + 1;
      issues = issues;
      positions = map (λ list. list.items) c.self.inside.positions.items;
      rows = c.self.inside.rows.items;
    })
    (pushed (λ list. list.items) c.self.inside.issues.items c.args.processor (c.self.inside.events + 1) c.index_mut.result.now c.push_within.new.items
    (there g c) c.index_mut.ensures.value c.push_within.ensures.items))

pub returns-clause-room : goal.returns-clause-room
returns-clause-room g c = rw (← c.self.view_is) (record {
  issues = roomier (λ list. vec_capacity list) c.self.inside.issues.items c.args.processor c.index_mut.result.now c.push_within.new.items (there g c)
      c.index_mut.ensures.value c.push_within.ensures.capacity;
  positions = λ b. omega arith;
  rows = omega arith;
  processors = as_many (λ list. vec_capacity list) c.self.inside.issues.items c.args.processor c.push_within.new.items;
  banks = refl;
})
