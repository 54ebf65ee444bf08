use Rattle.std.proofs.Common.{◌≡◌, ◌∙◌, None, ap, arith, take, length}
use Rattle.std.specs.Prelude.{slice_index_or, option_to_list}
use Rattle.std.specs.List.{flat_map}
use Rattle.std.proofs.Math.Seq.{take-length}
use Rattle.network_machine.specs.declared.moves.Move.{Move}
use Rattle.network_rounds.specs.Arbiters.{attempt_by}
use Rattle.network_rounds.proofs.Firsts.{writes_next}
use Rattle.network_rounds.proofs.granting.write_attempts.Goals as goal

pub loop-k-preserved : goal.loop-k-preserved
loop-k-preserved g c = record {
  size = c.put_attempt-count.auto.attempts ∙ c.loop-k.invariant.size;
  few = (let one = c.put_attempt-count.ensures.few in let few = c.loop-k.invariant.few in omega (arith, one, few));
  so_far = writes_next (λ of. option_to_list (attempt_by c.args.by c.args.machine.now (λ z. slice_index_or c.args.firsts.now z None) of)) c.args.moves.now
      c.loop-k.k _ (take c.loop-k.count c.loop-k.attempts) (take c.put_attempt-count.result c.put_attempt-count.new.attempts)
      (option_to_list c.attempt_by.result) c.loop-k-test.true c.loop-k.invariant.so_far (ap option_to_list c.attempt_by.ensures) c.put_attempt-count.ensures.adds;
}

pub returns-clause-attempts : goal.returns-clause-attempts
returns-clause-attempts g c =
    let f = λ (of : Move). option_to_list (attempt_by c.args.by c.args.machine.now (λ z. slice_index_or c.args.firsts.now z None) of) in
    let moves = c.args.moves.now in
    let end : c.loop-k.k ≡ length moves = (let past = c.loop-k-test.false in let e = c.loop-k.auto.k-end in omega (arith, past, e)) in
    c.loop-k.invariant.so_far ∙ ap (flat_map f) (ap (λ n. take n moves) end ∙ take-length moves)
