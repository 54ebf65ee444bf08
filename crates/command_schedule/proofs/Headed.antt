-- The lines of moves, and of more behind them.
use Rattle.std.proofs.Common.{◌≡◌, ℕ, ◌++◌, List, [], ◌∷◌, Option, Some, None, map, refl, sym, ap, ◌∙◌, append-nil}
use Rattle.std.proofs.lemmas.List.{map-append}
use Rattle.std.proofs.lemmas.List.Concat.{flat_map-append}
use Rattle.torus.specs.declared.step.Step.{Step}
use Rattle.command_schedule.specs.declared.line.ScheduleLine.{ScheduleLine}
use Rattle.command_schedule.specs.declared.line.ScheduleLine.TheVariants.{Move, Round}
use Rattle.command_schedule.specs.Line.{line_text, text_of}
use Rattle.command_schedule.specs.Output.{headed, heading_behind}

-- no moves have no lines
pub headed_none : (heading : Option ℕ) → headed heading [] ≡ []
headed_none None = refl
headed_none (Some n) = refl

-- moves and more
headed_lines : (heading : Option ℕ) (xs ys : List Step) → headed heading (xs ++ ys) ≡ headed heading xs ++ headed (heading_behind heading xs) ys
headed_lines None [] ys = refl
headed_lines (Some n) [] ys = refl
headed_lines None (x ∷ xs) ys = map-append Move (x ∷ xs) ys
headed_lines (Some n) (x ∷ xs) ys = ap (λ (ls : List ScheduleLine). Round n ∷ Move x ∷ ls) (map-append Move xs ys)

pub headed_more : (heading : Option ℕ) (xs ys : List Step)
    → text_of (headed heading (xs ++ ys)) ≡ text_of (headed heading xs) ++ text_of (headed (heading_behind heading xs) ys)
headed_more heading xs ys =
    ap text_of (headed_lines heading xs ys) ∙ flat_map-append line_text (headed heading xs) (headed (heading_behind heading xs) ys)

-- one move without a heading, and behind one
pub one_bare : (heading : Option ℕ) (step : Step) → heading ≡ None → line_text (Move step) ≡ text_of (headed heading (step ∷ []))
one_bare heading step is = sym (append-nil (line_text (Move step))) ∙ ap (λ (h : Option ℕ). text_of (headed h (step ∷ []))) (sym is)

pub one_headed : (heading : Option ℕ) (n : ℕ) (step : Step) → heading ≡ Some n
    → line_text (Round n) ++ line_text (Move step) ≡ text_of (headed heading (step ∷ []))
one_headed heading n step is =
    ap (λ (t : List ℕ). line_text (Round n) ++ t) (sym (append-nil (line_text (Move step))))
    ∙ ap (λ (h : Option ℕ). text_of (headed h (step ∷ []))) (sym is)
