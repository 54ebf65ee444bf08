-- What is told of the run whose moves are drawn.
use Rattle.std.proofs.Common.{◌≡◌, ℕ, ◌+◌, ◌≤◌, ◌<◌, ◌++◌, List, [], ◌∷◌, Bool, false, Option, Some, None, Result, Ok, map, refl, sym, ap, subst, ◌∙◌, arith, length}
use Rattle.std.specs.Prelude.{IfSome, unwrap_or}
use Rattle.std.specs.Str.Lines.{lines}
use Rattle.torus.specs.declared.step.Step.{Step}
use Rattle.lexer.specs.declared.fault.LineFault.{LineFault}
use Rattle.script.specs.Steps.{steps_of}
use Rattle.one_order.specs.Load.{Load}
use Rattle.core_laws.specs.ProgressMoves.{most_moves}
use Rattle.machine_core.specs.Loading.{HasLoaded}
use Rattle.core_laws.specs.Machine.{Core, IsAfter, all_finished, core_after, core_after_load}
use Rattle.core_laws.proofs.Machines.{named_machine, after_steps}
use Rattle.core_laws.proofs.Moves.{all_moves}
use Rattle.core_laws.specs.MachineMoves.{AreMoves, moves_of}
use Rattle.core_laws.proofs.StepLists.{load_enabled, load_few}
use Rattle.command_schedule.specs.declared.line.ScheduleLine.TheVariants.{End, Move}
use Rattle.command_schedule.specs.Line.{line_text, text_of}
use Rattle.command_schedule.specs.Schedule.{moves_schedule}
use Rattle.command_schedule.proofs.RunsAgain.{moves_again}
use Rattle.program_fault.specs.Done.{Output, TookAll, TookFront, Wrote}
use Rattle.command_schedule.specs.Drawn.{IsDrawnText, drawn_moves}
use Rattle.command_schedule.specs.Output.{headed}
use Rattle.command_schedule.specs.Schedules.{TellsRun}
use Rattle.command_schedule.proofs.DrawnMoves.{drawn_all, drawn_are, drawn_few, left_some}
use Rattle.command_schedule.proofs.Outputs.{took_then, front_then, front_of_more}
use Rattle.command_schedule.proofs.Told.{from_start, tells, with_end}

few_of : (most : Option ℕ) (n left count : ℕ) → n ≡ unwrap_or most left → count ≤ n → IfSome most (λ m. count ≤ m)
few_of None n left count is few = tt
few_of (Some m) n left count is few = omega (arith, is, few)

most_of : (most : Option ℕ) (n left count : ℕ) → n ≡ unwrap_or most left → count ≡ n → (count ≡ left → ⊥) → most ≡ Some count
most_of None n left count is all more = absurd (more (all ∙ is))
most_of (Some m) n left count is all more = ap Some (sym (all ∙ is))

module _ (asked : Result Load LineFault) (seed : ℕ) (most : Option ℕ) (start : Core) (loaded : HasLoaded asked start) (n : ℕ)
    (allowed : n ≡ unwrap_or most start.moves_left) where
  all_left : start.moves_left ≡ most_moves loaded.load
  all_left = let h = all_moves loaded.load start [] loaded.after in omega (arith, h)

  own : moves_of loaded.load (drawn_moves n seed start) ≡ drawn_moves n seed start
  own = sym (from_start loaded.load start (drawn_moves n seed start) loaded.after) ∙ drawn_are n seed start

  not_all : (c : Core) → IsAfter loaded.load c (drawn_moves n seed start) → all_finished c.state ≡ false
      → length (drawn_moves n seed start) ≡ start.moves_left → ⊥
  not_all c after busy all =
      let made : length (moves_of loaded.load (drawn_moves n seed start)) + c.moves_left ≡ most_moves loaded.load =
      load_few loaded.load c (drawn_moves n seed start) after in
      let same : length (moves_of loaded.load (drawn_moves n seed start)) ≡ length (drawn_moves n seed start) = ap length own in
      let some : 0 < c.moves_left = left_some loaded.load (drawn_moves n seed start) c after busy in
      let left : start.moves_left ≡ most_moves loaded.load = all_left in
      omega (arith, made, same, some, left, all)

  module _ (c : Core) (finished : Bool) (made : c ≡ core_after start (drawn_moves n seed start)) (is : finished ≡ all_finished c.state) where
    behind : IsAfter loaded.load c (drawn_moves n seed start)
    behind = subst (λ (x : Core). IsAfter loaded.load x (drawn_moves n seed start)) (sym made)
        (after_steps loaded.load start [] (drawn_moves n seed start) loaded.after)

    whole : text_of (moves_schedule (drawn_moves n seed start) finished) ≡ text_of (headed None (drawn_moves n seed start)) ++ line_text (End finished)
    whole = with_end (map Move (drawn_moves n seed start)) finished

    not_finished : finished ≡ false → most ≡ Some (length (drawn_moves n seed start))
    not_finished un =
        let busy : all_finished c.state ≡ false = sym is ∙ un in
        most_of most n start.moves_left (length (drawn_moves n seed start)) allowed
        (drawn_all loaded.load n seed [] start loaded.after (ap (λ (x : Core). all_finished x.state) (sym made) ∙ busy))
        (not_all c behind busy)

    pub drawn_text : IsDrawnText asked seed most finished (text_of (headed None (drawn_moves n seed start)) ++ line_text (End finished))
    drawn_text = record {
      load = loaded.load;
      read = loaded.read;
      steps = drawn_moves n seed start;
      drawn = ap (λ (k : ℕ). drawn_moves k seed start) (allowed ∙ ap (unwrap_or most) all_left)
          ∙ ap (drawn_moves (unwrap_or most (most_moves loaded.load)) seed) (named_machine loaded.load start [] loaded.after);
      moves = subst (AreMoves loaded.load) own (load_enabled loaded.load (drawn_moves n seed start));
      few = few_of most n start.moves_left (length (drawn_moves n seed start)) allowed (drawn_few n seed start);
      unfinished = not_finished;
      is = sym whole;
      run = subst (TellsRun loaded.load (drawn_moves n seed start) finished) whole
          (tells loaded.load c (drawn_moves n seed start) finished (text_of (moves_schedule (drawn_moves n seed start) finished)) behind is
          (λ machine same. subst (λ (xs : List Step). steps_of machine (lines (text_of (moves_schedule xs finished))) ≡ Ok (moves_of loaded.load (drawn_moves n seed start))) own
          (moves_again loaded.load machine (drawn_moves n seed start) finished loaded.after.accepted same)));
    }

  -- the moves and the last line
  pub draw_whole : (c : Core) (finished : Bool) (old mid new : Output) → c ≡ core_after start (drawn_moves n seed start) → finished ≡ all_finished c.state
      → TookAll old mid (text_of (headed None (drawn_moves n seed start))) → TookAll mid new (line_text (End (all_finished c.state)))
      → Wrote (IsDrawnText asked seed most) TookAll old new finished
  draw_whole c finished old mid new made is put took = (
    text_of (headed None (drawn_moves n seed start)) ++ line_text (End finished),
    drawn_text c finished made is,
    subst (λ (b : Bool). TookAll old new (text_of (headed None (drawn_moves n seed start)) ++ line_text (End b))) (sym is)
        (took_then old mid new (text_of (headed None (drawn_moves n seed start))) (line_text (End (all_finished c.state))) put took),
  )

  -- the moves and a beginning of the last line
  pub draw_last : (c : Core) (old mid new : Output) → c ≡ core_after start (drawn_moves n seed start)
      → TookAll old mid (text_of (headed None (drawn_moves n seed start))) → TookFront mid new (line_text (End (all_finished c.state)))
      → (finished : Bool) × Wrote (IsDrawnText asked seed most) TookFront old new finished
  draw_last c old mid new made put took = (
    all_finished c.state,
    (
      text_of (headed None (drawn_moves n seed start)) ++ line_text (End (all_finished c.state)),
      drawn_text c (all_finished c.state) made refl,
      front_then old mid new (text_of (headed None (drawn_moves n seed start))) (line_text (End (all_finished c.state))) put took,
    ),
  )

  -- a beginning of the moves
  pub draw_begun : (old new : Output) → TookFront old new (text_of (headed None (drawn_moves n seed start)))
      → (finished : Bool) × Wrote (IsDrawnText asked seed most) TookFront old new finished
  draw_begun old new took =
      let c : Core = core_after start (drawn_moves n seed start) in (
        all_finished c.state,
        (
          text_of (headed None (drawn_moves n seed start)) ++ line_text (End (all_finished c.state)),
          drawn_text c (all_finished c.state) refl refl,
          front_of_more old new (text_of (headed None (drawn_moves n seed start))) (line_text (End (all_finished c.state))) took,
        ),
      )
