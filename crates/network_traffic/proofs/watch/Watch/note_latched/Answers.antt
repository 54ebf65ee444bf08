use Rattle.std.proofs.Common.{◌∙◌, sym, ap, subst, is_some, None, List, Option, ℕ}
use Rattle.std.specs.Prelude.{slice_index_or}
use Rattle.std.proofs.lemmas.List.{with_items_is}
use Rattle.network_traffic.specs.declared.waits.Wait.{Wait}
use Rattle.network_traffic.specs.Plans.{plan_table}
use Rattle.network_traffic.specs.Labels.{LabelsSpec, labels_spec}
use Rattle.network_traffic.specs.Waits.{CountWaits}
use Rattle.network_traffic.proofs.Watching.{latches_kept}
use Rattle.network_traffic.proofs.watch.Watch.note_latched.Goals as goal

pub returns-clause-waits : goal.returns-clause-waits
returns-clause-waits g c = λ waited stood few counts.
    (let x = c.channel-x.result in
    let at : List (Option ℕ) → Option ℕ = λ os. slice_index_or os x None in
    let old = c.args.self.now.labels.latches.items in
    let new = c.make.new.self.latches.items in
    subst (λ (ws : List Wait). CountWaits waited c.args.round stood new ws) (sym (with_items_is c.args.self.now.waits c.note_latch.new.waits (c.note_latch.ensures.size ∙ c.deref_mut.ensures.len)))
    (c.note_latch.ensures.counts waited stood old new (few x)
    (c.is_some-was.ensures ∙ ap is_some (c.packet_at.ensures.value ∙ ap at c.deref.ensures.value))
    (c.is_some-is.ensures ∙ ap is_some (c.packet_at-2.ensures.value ∙ ap at c.deref-2.ensures.value))
    (λ z other. ap (λ (l : LabelsSpec). slice_index_or l.latches z None) c.make.ensures.value
    ∙ latches_kept (plan_table c.args.plan.now) c.args.plan.now.packets.now (labels_spec c.args.self.now.labels) c.args.of z (λ e. other (e ∙ sym c.channel-x.ensures)))
    (subst (λ (ws : List Wait). CountWaits waited c.args.round stood old ws) (sym c.deref_mut.ensures.value) counts)))
