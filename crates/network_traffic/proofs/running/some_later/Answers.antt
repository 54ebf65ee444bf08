use Rattle.std.proofs.Common.{◌≡◌, ◌∙◌, ◌<◌, ℕ, Bool, true, false, List, sym, ap, get_or, length, arith}
use Rattle.std.specs.Prelude.{◌||◌, slice_get, slice_index}
use Rattle.std.specs.List.{list_any, range_with_len}
use Rattle.std.proofs.lemmas.List.{take_all}
use Rattle.std.proofs.lemmas.List.FromFn.{length-range_with_len}
use Rattle.std.proofs.lemmas.List.Folds.{list_any_at, list_any_more}
use Rattle.network_rounds.specs.declared.senders.Timed.{Timed}
use Rattle.network_rounds.specs.Senders.{queue_at}
use Rattle.network_rounds.proofs.Groups.{queue_is}
use Rattle.network_rounds.proofs.Lists.{items_of}
use Rattle.network_traffic.specs.Simulated.{is_later}
use Rattle.network_traffic.proofs.Pieces.{range_at}
use Rattle.network_traffic.proofs.running.some_later.Goals as goal

pub loop-x-preserved : goal.loop-x-preserved
loop-x-preserved g c =
    let p : ℕ → Bool = λ z. is_later c.args.round (slice_get (queue_at c.args.queues.now z) (slice_index c.args.begun.now z)) in
    let n : ℕ = length c.args.queues.now in
    let x : ℕ = c.loop-x.x in
    let shown = c.deref.ensures.value ∙ items_of _ _ c.index-queues-x.is in
    let queue = queue_is c.args.queues.now x c.index-queues-x.result c.deref.result.now c.loop-x-test.true shown in
    let many = length-range_with_len 0 n in
    let low : x < length (range_with_len 0 n) = (let here = c.loop-x-test.true in omega (arith, here, many)) in
    let here : p x ≡ false = ap (λ (q : List Timed). is_later c.args.round (slice_get q (slice_index c.args.begun.now x))) (sym queue)
    ∙ (sym c.is_later.ensures ∙ c.if-is_later.false) in
    list_any_more p (range_with_len 0 n) x 0 low
    ∙ (ap (λ (b : Bool). b || p (get_or (range_with_len 0 n) x 0)) c.loop-x.invariant
    ∙ (ap p (range_at n x c.loop-x-test.true) ∙ here))

pub returns-then-is_later : goal.returns-then-is_later
returns-then-is_later g c =
    let p : ℕ → Bool = λ z. is_later c.args.round (slice_get (queue_at c.args.queues.now z) (slice_index c.args.begun.now z)) in
    let n : ℕ = length c.args.queues.now in
    let x : ℕ = c.loop-x.x in
    let shown = c.deref.ensures.value ∙ items_of _ _ c.index-queues-x.is in
    let queue = queue_is c.args.queues.now x c.index-queues-x.result c.deref.result.now c.loop-x-test.true shown in
    let many = length-range_with_len 0 n in
    let low : x < length (range_with_len 0 n) = (let here = c.loop-x-test.true in omega (arith, here, many)) in
    let here : p x ≡ true = ap (λ (q : List Timed). is_later c.args.round (slice_get q (slice_index c.args.begun.now x))) (sym queue)
    ∙ (sym c.is_later.ensures ∙ c.if-is_later.true) in
    sym (list_any_at p (range_with_len 0 n) x 0 low (ap p (range_at n x c.loop-x-test.true) ∙ here))

pub returns : goal.returns
returns g c =
    let p : ℕ → Bool = λ z. is_later c.args.round (slice_get (queue_at c.args.queues.now z) (slice_index c.args.begun.now z)) in
    let n : ℕ = length c.args.queues.now in
    let many = length-range_with_len 0 n in
    let end = c.loop-x-test.false in
    sym (ap (list_any p) (sym (take_all c.loop-x.x (range_with_len 0 n) (omega (arith, many, end)))) ∙ c.loop-x.invariant)
