use Rattle.std.proofs.Common.{◌≡◌, ℕ, List, Some, sum, ◌∙◌, ap, slice_get}
use Rattle.std.specs.Prelude.{Option}
use Rattle.machine_parts.specs.Machine.{Core}
use Rattle.machine_core.specs.Growing.{room_left}
use Rattle.machine_core.proofs.Allowed.{own_small, room_is}
use Rattle.machine_core.proofs.NotedBooks.{looked_up}
use Rattle.machine_core.proofs.machine.Machine.room_left.Goals as goal

pub overflow_sub-own : goal.overflow_sub-own
overflow_sub-own g c =
    own_small c.self.inside c.self.invariant c.args.processor c.in_ok-own.field-0.now
    (looked_up c.self.inside.allowed.items c.deref.result.now c.args.processor c.in_ok-own.field-0.now c.deref.ensures.value
    c.in_ok-own.ensures.lookup.0 c.in_ok-own.ensures.lookup.1)

pub returns-clause-value : goal.returns-clause-value
returns-clause-value g c =
    let at : slice_get c.self.inside.allowed.items c.args.processor ≡ Some c.in_ok-own.field-0.now =
    looked_up c.self.inside.allowed.items c.deref.result.now c.args.processor c.in_ok-own.field-0.now c.deref.ensures.value
    c.in_ok-own.ensures.lookup.0 c.in_ok-own.ensures.lookup.1 in
    room_is c.self.inside.allowed.items c.args.processor c.in_ok-own.field-0.now c.sum_of-all.result c.min.result at
    (c.sum_of-all.ensures ∙ ap (λ (ns : List ℕ). sum ns) c.as_slice.ensures.value) c.min.ensures
    ∙ ap {B = Option ℕ} (λ (x : Core). room_left x.allowed c.args.processor) c.self.view_is

pub returns-clause-scripts : goal.returns-clause-scripts
returns-clause-scripts g c = λ l steps h.
    let at : slice_get c.self.inside.allowed.items c.args.processor ≡ Some c.in_ok-own.field-0.now =
    looked_up c.self.inside.allowed.items c.deref.result.now c.args.processor c.in_ok-own.field-0.now c.deref.ensures.value
    c.in_ok-own.ensures.lookup.0 c.in_ok-own.ensures.lookup.1 in
    room_is c.self.inside.allowed.items c.args.processor c.in_ok-own.field-0.now c.sum_of-all.result c.min.result at
    (c.sum_of-all.ensures ∙ ap (λ (ns : List ℕ). sum ns) c.as_slice.ensures.value) c.min.ensures
    ∙ (ap {B = Option ℕ} (λ (x : Core). room_left x.allowed c.args.processor) c.self.view_is
    ∙ ap {B = Option ℕ} (λ (ns : List ℕ). room_left ns c.args.processor) h.allowed)
