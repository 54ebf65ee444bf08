use Rattle.std.proofs.Common.{◌≡◌, ℕ, Option, Some, None, ◌∙◌, ap}
use Rattle.std.specs.Option.{option_map, option_and_then}
use Rattle.std.proofs.lemmas.Option.{same_Some}
use Rattle.torus.specs.declared.step.Tag.{Tag}
use Rattle.packet.specs.declared.kinds.Op.{Op}
use Rattle.packet.specs.declared.kinds.Operation.{Operation}
use Rattle.tag_table.specs.Tags.{tag_numbered, free_tag}
use Rattle.one_order.specs.Following.{next_operation_of}
use Rattle.one_order.specs.ProcessorRecord.{ProcessorRecord, ready}
use Rattle.net_interface.proofs.record.Record.ready.Goals as goal

found : (n : Option Operation) (t : Option ℕ) (a : ℕ) (op : Op) (tag : Tag)
    → ◌≡◌ {A = Option (ℕ × Op)} (Some (a, op)) (option_map (λ (o : Operation). (o.address, o.op)) n) → Some tag ≡ tag_numbered t
    → ◌≡◌ {A = Option (Tag × Operation)} (Some (tag, record { address = a; op = op }))
    (option_map (λ (f : ℕ × Operation). (record { 0 = f.0 }, f.1)) (option_and_then (λ o. option_map (λ k. (k, o)) t) n))
found None t a op tag e f = cc
found (Some o) None a op tag e f = cc
found (Some o) (Some k) a op tag e f =
    let pair : ◌≡◌ {A = ℕ × Op} (a, op) (o.address, o.op) = same_Some _ _ e in
    let t : ◌≡◌ {A = Tag} tag (record { 0 = k }) = same_Some _ _ f in
    ap (λ (p : ℕ × Op). Some (tag, record { address = p.0; op = p.1 })) pair ∙ ap (λ (x : Tag). Some (x, o)) t

pub returns-in-Some-next_free-clause-value : goal.returns-in-Some-next_free-clause-value
returns-in-Some-next_free-clause-value g c =
    let s = c.self.inside in
    found (next_operation_of s.follower) (free_tag s.tags) c.in-Some.address c.in-Some.op c.in-Some-next_free.tag c.in-Some.ensures
    c.in-Some-next_free.ensures.lowest
    ∙ ap (λ (b : ProcessorRecord). option_map (λ (f : ℕ × Operation). (record { 0 = f.0 }, f.1)) (ready b)) c.self.view_is
