use Rattle.std.proofs.Common.{ap, length, subst, sym, ◌∙◌}
use Rattle.network_traffic.specs.Plans.{plan_table}
use Rattle.network_traffic.specs.Labels.{labels_after, labels_spec, HasChannels}
use Rattle.network_traffic.proofs.Pieces.{channels_kept}
use Rattle.network_traffic.proofs.labels.Labels.make.Goals as goal

pub returns-in-More-clause-value : goal.returns-in-More-clause-value
returns-in-More-clause-value g c =
    c.go_on.ensures (plan_table c.args.plan.now) c.args.plan.now.packets.now
    ∙ ap (labels_after (plan_table c.args.plan.now) c.args.plan.now.packets.now (labels_spec c.args.self.now)) (sym c.in-More.is)

pub returns-in-More-clause-channels : goal.returns-in-More-clause-channels
returns-in-More-clause-channels g c =
    subst (λ l. HasChannels l (length c.args.plan.now.kinds.now)) (sym (returns-in-More-clause-value g c))
    (channels_kept (plan_table c.args.plan.now) c.args.plan.now.packets.now (labels_spec c.args.self.now) c.args.of (length c.args.plan.now.kinds.now) c.requires.channels)

pub returns-in-Take-clause-value : goal.returns-in-Take-clause-value
returns-in-Take-clause-value g c =
    c.take.ensures (plan_table c.args.plan.now) c.args.plan.now.packets.now
    ∙ ap (labels_after (plan_table c.args.plan.now) c.args.plan.now.packets.now (labels_spec c.args.self.now)) (sym c.in-Take.is)

pub returns-in-Take-clause-channels : goal.returns-in-Take-clause-channels
returns-in-Take-clause-channels g c =
    subst (λ l. HasChannels l (length c.args.plan.now.kinds.now)) (sym (returns-in-Take-clause-value g c))
    (channels_kept (plan_table c.args.plan.now) c.args.plan.now.packets.now (labels_spec c.args.self.now) c.args.of (length c.args.plan.now.kinds.now) c.requires.channels)

pub returns-in-Accept-clause-value : goal.returns-in-Accept-clause-value
returns-in-Accept-clause-value g c =
    c.accept.ensures (plan_table c.args.plan.now) c.args.plan.now.packets.now
    ∙ ap (labels_after (plan_table c.args.plan.now) c.args.plan.now.packets.now (labels_spec c.args.self.now)) (sym c.in-Accept.is)

pub returns-in-Accept-clause-channels : goal.returns-in-Accept-clause-channels
returns-in-Accept-clause-channels g c =
    subst (λ l. HasChannels l (length c.args.plan.now.kinds.now)) (sym (returns-in-Accept-clause-value g c))
    (channels_kept (plan_table c.args.plan.now) c.args.plan.now.packets.now (labels_spec c.args.self.now) c.args.of (length c.args.plan.now.kinds.now) c.requires.channels)
