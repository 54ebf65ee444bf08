-- The seat takes in one worker's seat after the other.
use Rattle.std.proofs.Common.{◌≡◌, [], ◌∷◌, ◌++◌, sym, arith}
use Rattle.std.proofs.lemmas.List.{nil_from_length}
use Rattle.command_run.proofs.Joined.{joins_first, joins_own, joins_more, joins_all}
use Rattle.command_run.proofs.by_workers.joined.Goals as goal

pub loop-worker-init : goal.loop-worker-init
loop-worker-init g c =
    let split : c.args.workers.items ≡ c.pop.new.self.items ++ c.in-Some.last ∷ [] = c.in-Some.ensures.items in
    let start = joins_first c.args.fabric.now c.args.workers.items c.pop.new.self.items c.in-Some.last c.requires.own split in
    rw c.into_seat-whole.ensures start

pub join-whole-requires : goal.join-whole-requires
join-whole-requires g c =
    let k = c.loop-worker.invariant in
    let own = joins_own c.args.fabric.now c.args.workers.items c.loop-worker.workers.items c.pop-in-loop-worker.new.self.items c.loop-worker.whole
    c.in-Some-pop.worker k c.in-Some-pop.ensures.items in
    (k.own, rw c.into_seat.ensures own)

pub loop-worker-preserved : goal.loop-worker-preserved
loop-worker-preserved g c =
    let k = c.loop-worker.invariant in
    joins_more c.args.fabric.now c.args.workers.items c.loop-worker.workers.items c.pop-in-loop-worker.new.self.items c.loop-worker.whole c.in-Some-pop.worker k
    c.in-Some-pop.ensures.items
    c.join-whole.result (rw (sym c.into_seat.ensures) c.join-whole.ensures.both)

pub returns-clause-all : goal.returns-clause-all
returns-clause-all g c =
    let none : c.loop-worker.workers.items ≡ [] =
    nil_from_length c.loop-worker.workers.items
    (let size = c.loop-worker.workers.ok.0 in let k = c.in_default-pop.ensures.cases in let e = k.0 in omega (arith, size, e)) in
    joins_all c.args.fabric.now c.args.workers.items c.loop-worker.workers.items c.loop-worker.whole c.loop-worker.invariant none
