use Rattle.std.proofs.Common.{◌≡◌, ◌∙◌, ℕ, List, Vec, map, length, sym, ap, subst}
use Rattle.std.specs.List.{range_with_len}
use Rattle.network_judge.specs.declared.table.Reply.{Reply}
use Rattle.network_machine.specs.declared.moves.Move.{Move}
use Rattle.network_machine.specs.Machine.{IsOpenedNetwork}
use Rattle.network_rounds.specs.declared.senders.Timed.{Timed}
use Rattle.network_rounds.specs.Choices.{groups_of}
use Rattle.network_rounds.specs.Routers.{AreRouters}
use Rattle.network_rounds.specs.Senders.{queue_of}
use Rattle.network_judge.specs.declared.table.Kind.{Kind}
use Rattle.network_judge.specs.declared.table.Join.{Join}
use Rattle.network_judge.specs.Table.{Table, table_of, channels_of}
use Rattle.network_text.specs.Network.{NetworkSpec}
use Rattle.network_text.proofs.Refused.{moved}
use Rattle.network_traffic.specs.Plans.{GoToReceivers, plan_table}
use Rattle.network_traffic.proofs.Pieces.{queues_many}
use Rattle.network_traffic.proofs.Telling.{receivers, told}
use Rattle.network_traffic.proofs.answering.simulated.Goals as goal

pub open-requires-clause-replies : goal.open-requires-clause-replies
open-requires-clause-replies g c =
    moved c.args.network.now.table (table_of c.kinds-kinds.result.now c.joins-joins.result.now c.choices-choices.result.now)
    c.args.network.now.replies c.replies.result.now c.kinds-kinds.ensures.value c.replies.ensures c.kinds-kinds.ensures.replies

tables : (n : NetworkSpec) (kinds : List Kind) (joins : List Join) (choices : List ℕ) → kinds ≡ n.table.kinds → joins ≡ n.table.joins → choices ≡ n.table.choices
    → table_of kinds joins choices ≡ n.table
tables n kinds joins choices one two three =
    ap (λ (ks : List Kind). table_of ks joins choices) one
    ∙ (ap (λ (js : List Join). table_of n.table.kinds js choices) two ∙ ap (λ (cs : List ℕ). table_of n.table.kinds n.table.joins cs) three)

pub open_plan-requires-clause-ends : goal.open_plan-requires-clause-ends
open_plan-requires-clause-ends g c =
    let n = c.args.network.now in
    subst (λ (t : Table). GoToReceivers t c.args.packets.now)
    (sym (tables n c.kinds-kinds.result.now c.joins-joins.result.now c.choices-choices.result.now c.kinds-kinds.ensures.value c.joins-joins.ensures c.choices-choices.ensures))
    (receivers n.table c.args.packets.now c.requires.arrive c.requires.joined)

pub run_packets-requires-clause-queues : goal.run_packets-requires-clause-queues
run_packets-requires-clause-queues g c =
    ap length c.deref-2.ensures.value
    ∙ (queues_many c.in_ok-queues.queues.items c.args.packets.now (length c.kinds-kinds.result.now) c.in_ok-queues.ensures
    ∙ sym (ap (λ (t : Table). length t.kinds) c.in_ok-plan.ensures.table))

pub returns : goal.returns
returns g c =
    let n = c.args.network.now in
    let t0 : Table = table_of c.kinds-kinds.result.now c.joins-joins.result.now c.choices-choices.result.now in
    let same : t0 ≡ n.table =
    tables n c.kinds-kinds.result.now c.joins-joins.result.now c.choices-choices.result.now c.kinds-kinds.ensures.value c.joins-joins.ensures c.choices-choices.ensures in
    let course = c.in_ok-course.course in
    told c.args.by n c.args.depth c.args.packets.now c.in_ok-plan.plan.packets.now (plan_table c.in_ok-plan.plan) c.in_ok-routers.routers.items c.deref-2.result.now
    c.deref-3.result.now c.in_ok-machine.machine c.run_packets.new.machine course.flits.items c.deref-6.result.now c.deref-7.result.now c.deref-4.result.now
    c.deref-5.result.now course.watch course.extent c.ending-ending.result c.in_ok-text.text.items c.is_sound.result
    (c.in_ok-plan.ensures.table ∙ same) c.in_ok-plan.ensures.packets
    (subst (λ (t : Table). AreRouters t c.in_ok-routers.routers.items) same c.in_ok-routers.ensures)
    (ap (λ (qs : List (Vec Timed _)). map (λ q. q.items) qs) c.deref-2.ensures.value
    ∙ (c.in_ok-queues.ensures ∙ ap (λ (ks : List Kind). map (queue_of c.args.packets.now) (range_with_len 0 (length ks))) c.kinds-kinds.ensures.value))
    (ap (λ (qs : List (Vec Move _)). map (λ q. q.items) qs) c.deref-3.ensures.value
    ∙ (c.in_ok-groups.ensures ∙ (ap (λ (ks : List Kind). groups_of ks c.deref.result.now (length ks)) c.kinds-kinds.ensures.value
    ∙ ap (λ (rs : List ℕ). groups_of n.table.kinds rs (channels_of n.table)) c.deref.ensures.value)))
    (subst (λ (t : Table). IsOpenedNetwork t n.replies c.args.depth c.in_ok-machine.machine) same
    (subst (λ (rs : List Reply). IsOpenedNetwork t0 rs c.args.depth c.in_ok-machine.machine) c.replies.ensures c.in_ok-machine.ensures))
    c.in_ok-course.ensures.run (c.in_ok-course.ensures.size ∙ ap (λ (t : Table). length t.kinds) (c.in_ok-plan.ensures.table ∙ same)) c.ending-ending.ensures
    c.deref-4.ensures.value c.deref-5.ensures.value c.deref-6.ensures.value c.deref-7.ensures.value c.in_ok-text.ensures c.is_sound.ensures
