use Rattle.std.proofs.Common.{◌≡◌, List, ℕ, ◌∙◌, ap, arith, take, get_or, length}
use Rattle.std.specs.Prelude.{slice_index, option_to_list}
use Rattle.std.proofs.Math.Seq.{take-length}
use Rattle.std.specs.List.{flat_map}
use Rattle.network_machine.specs.declared.moves.Move.{Move}
use Rattle.network_rounds.specs.declared.senders.Timed.{Timed}
use Rattle.network_rounds.specs.Senders.{due_of, queue_at}
use Rattle.network_rounds.proofs.Groups.{queue_is}
use Rattle.network_rounds.proofs.Queues.{sender_low, senders_few, dues_all, dues_more}
use Rattle.network_rounds.proofs.Lists.{items_of}
use Rattle.network_rounds.proofs.senders.due_packets.Goals as goal

pub bounds-queues-x : goal.bounds-queues-x
bounds-queues-x g c = sender_low c.args.queues.now c.args.senders.now c.loop-k.k 0 c.requires.senders c.loop-k-test.true

pub offset_bounds-queues-x : goal.offset_bounds-queues-x
offset_bounds-queues-x g c =
    let low = sender_low c.args.queues.now c.args.senders.now c.loop-k.k 0 c.requires.senders c.loop-k-test.true in
    omega (arith, low)

pub bounds-begun-x : goal.bounds-begun-x
bounds-begun-x g c =
    let low = sender_low c.args.queues.now c.args.senders.now c.loop-k.k 0 c.requires.senders c.loop-k-test.true in
    let many = c.requires.begun in
    omega (arith, low, many)

pub offset_bounds-begun-x : goal.offset_bounds-begun-x
offset_bounds-begun-x g c =
    let low = sender_low c.args.queues.now c.args.senders.now c.loop-k.k 0 c.requires.senders c.loop-k-test.true in
    let many = c.requires.begun in
    omega (arith, low, many)

pub put_if-count-requires : goal.put_if-count-requires
put_if-count-requires g c =
    let low = c.loop-k-test.true in
    let count = c.loop-k.invariant.few in
    let size = c.loop-k.invariant.size in
    let room = c.requires.room in
    let few = senders_few c.args.queues.now c.args.senders.now c.requires.senders in
    omega (arith, low, count, size, room, few)

pub loop-k-preserved : goal.loop-k-preserved
loop-k-preserved g c =
    let queues = c.args.queues.now in
    let x = get_or c.args.senders.now c.loop-k.k 0 in
    let low = sender_low queues c.args.senders.now c.loop-k.k 0 c.requires.senders c.loop-k-test.true in
    let shown = c.deref.ensures.value ∙ items_of _ _ c.index-queues-x.is in
    let queue = queue_is queues x c.index-queues-x.result c.deref.result.now low shown in
    record {
      size = c.put_if-count.auto.moves ∙ c.loop-k.invariant.size;
      few = (let one = c.put_if-count.ensures.few in let few = c.loop-k.invariant.few in omega (arith, one, few));
      so_far = dues_more (λ x. option_to_list (due_of (queue_at queues x) (slice_index c.args.begun.now x) c.args.round)) c.args.senders.now c.loop-k.k 0
          (take c.loop-k.count c.loop-k.sends) (take c.put_if-count.result c.put_if-count.new.moves) (option_to_list c.due_of.result) c.loop-k-test.true
          c.loop-k.invariant.so_far
          (ap option_to_list (c.due_of.ensures ∙ ap (λ (q : List Timed). due_of q (slice_index c.args.begun.now x) c.args.round) queue))
          c.put_if-count.ensures.adds;
    }

pub returns-clause-few : goal.returns-clause-few
returns-clause-few g c =
    let count = c.loop-k.invariant.few in
    let end = c.loop-k.auto.k-end in
    let few = senders_few c.args.queues.now c.args.senders.now c.requires.senders in
    omega (arith, count, end, few)

pub returns-clause-sends : goal.returns-clause-sends
returns-clause-sends g c =
    let senders = c.args.senders.now in
    let f : ℕ → List Move = λ x. option_to_list (due_of (queue_at c.args.queues.now x) (slice_index c.args.begun.now x) c.args.round) in
    let end : c.loop-k.k ≡ length senders = (let past = c.loop-k-test.false in let e = c.loop-k.auto.k-end in omega (arith, past, e)) in
    c.loop-k.invariant.so_far ∙ (ap (flat_map f) (ap (λ n. take n senders) end ∙ take-length senders)
    ∙ dues_all c.args.queues.now senders (slice_index c.args.begun.now) c.args.round c.requires.senders)
