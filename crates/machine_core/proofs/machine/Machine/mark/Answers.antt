use Rattle.std.proofs.Common.{◌≡◌, ℕ, ◌+◌, List, Some, sym, ◌∙◌, ap, subst, arith}
use Rattle.machine_parts.specs.Machine.{Core}
use Rattle.machine_core.specs.Marked.{can_move, SkipsIdle}
use Rattle.machine_core.proofs.Marking.{MarkedTo, marked_too, passed}
use Rattle.machine_core.proofs.machine.Machine.mark.Goals as goal
use Rattle.machine_core.proofs.machine.Machine.mark.Goals.{then-can_move, else-can_move}

pub loop-from-preserved : goal.loop-from-preserved
loop-from-preserved g c =
    let l = c.loop-from in
    let found = subst (λ (x : Core). SkipsIdle x c.args.part c.args.tile l.from c.args.end (Some c.in-Some.number)) l.invariant.same c.in-Some.ensures in
    let asked : c.can_move.result ≡ can_move c.args.self.now c.args.part c.args.tile c.in-Some.number =
    c.can_move.ensures ∙ ap (λ (x : Core). can_move x c.args.part c.args.tile c.in-Some.number) l.invariant.same in
    record {
      same = elim c.if-can_move.branch [
        | then-can_move w ↦ w.self-is ∙ l.invariant.same
        | else-can_move w ↦ w.self-is ∙ (w.falls_asleep.ensures ∙ l.invariant.same)
      ];
      within = let below = found.1 in omega (arith, below);
      marked = elim c.if-can_move.branch [
        | then-can_move w ↦
            subst (λ (z : List ℕ). MarkedTo c.args.self.now c.args.part c.args.tile c.args.marks.now z (c.in-Some.number + 1)) (sym w.marks-is)
            (marked_too c.args.self.now c.args.part c.args.tile c.args.marks.now l.marks w.raise.new.self l.from c.in-Some.number l.invariant.marked
            found.0 found.2 (sym asked ∙ w.if-can_move.true) w.raise.ensures)
        | else-can_move w ↦
            subst (λ (z : List ℕ). MarkedTo c.args.self.now c.args.part c.args.tile c.args.marks.now z (c.in-Some.number + 1)) (sym w.marks-is)
            (passed c.args.self.now c.args.part c.args.tile c.args.marks.now l.marks l.from c.in-Some.number l.invariant.marked
            found.0 found.2 (sym asked ∙ w.if-can_move.false))
      ];
    }
