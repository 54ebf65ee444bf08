use Rattle.std.proofs.Common.{◌≡◌, ◌+◌, ◌≤◌, ◌∙◌, sym, ap, subst, arith, length, take, ◌++◌, ◌∷◌, []}
use Rattle.std.proofs.lemmas.List.{take_more}
use Rattle.network_machine.specs.declared.moves.Move.{Move}
use Rattle.network_machine.specs.Machine.{NetworkMachineSpec, Prevents}
use Rattle.network_machine.specs.Runs.{RunsTo}
use Rattle.network_machine.proofs.Running.{runs_on, take_whole}
use Rattle.network_machine.proofs.machine.Machine.replay.Goals as goal

pub returns-in-Err-clause-stops : goal.returns-in-Err-clause-stops
returns-in-Err-clause-stops g c =
    (let same = c.in-Err.ensures.stays in
    record {
      here = c.loop-place-test.true;
      before = subst (λ (m : NetworkMachineSpec). RunsTo c.args.self.now m (take c.loop-place.place c.args.moves.now)) (sym same) c.loop-place.invariant.runs;
      prevented = λ d. subst (Prevents c.attempt.new.self) (c.move_at.ensures d)
          (subst (λ (m : NetworkMachineSpec). Prevents m c.move_at.result) (sym same) c.in-Err.ensures.prevented);
    })

pub loop-place-preserved : goal.loop-place-preserved
loop-place-preserved g c =
    (let moves = c.args.moves.now in
    let place = c.loop-place.place in
    let longer : take (place + 1) moves ≡ take place moves ++ c.move_at.result ∷ [] =
    take_more moves place c.move_at.result c.loop-place-test.true ∙ ap (λ (m : Move). take place moves ++ m ∷ []) (sym (c.move_at.ensures c.move_at.result)) in
    record {
      runs = subst (RunsTo c.args.self.now c.attempt.new.self) (sym longer)
          (runs_on c.args.self.now c.loop-place.self c.attempt.new.self (take place moves) c.move_at.result c.loop-place.invariant.same c.loop-place.invariant.runs
          c.in_default.ensures.moves);
      same = record {
        table = c.attempt.ensures.same.table ∙ c.loop-place.invariant.same.table;
        replies = c.attempt.ensures.same.replies ∙ c.loop-place.invariant.same.replies;
      };
    })

pub returns-clause-runs : goal.returns-clause-runs
returns-clause-runs g c =
    (let end = c.loop-place-test.false in
    let whole : length c.args.moves.now ≤ c.loop-place.place = omega arith in
    subst (RunsTo c.args.self.now c.loop-place.self) (take_whole c.args.moves.now c.loop-place.place whole) c.loop-place.invariant.runs)
