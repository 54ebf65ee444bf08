use Rattle.std.proofs.Common.{◌≡◌, ◌<◌, ◌+◌, ◌∷◌, ◌∙◌, ℕ, suc, Bool, true, false, List, length, drop, get_or, sym, ap, arith}
use Rattle.std.specs.Prelude.{◌||◌}
use Rattle.std.specs.List.{list_any}
use Rattle.std.proofs.Math.Seq.{drop-cons}
use Rattle.std.proofs.lemmas.List.Folds.{list_any_at}
use Rattle.model_text.specs.Views.{log_so_far}
use Rattle.model_answer.specs.PartText.{is_paired_in}
use Rattle.model_answer.proofs.part_words.has_pair.Goals as goal

-- one that fails a test is passed over
any_next : (p : ℕ → Bool) (xs : List ℕ) (i : ℕ) (b : Bool) → i < length xs → p (get_or xs i 0) ≡ false → list_any p (drop i xs) ≡ b
    → list_any p (drop (i + 1) xs) ≡ b
any_next p xs i b low fails so_far =
    let next : suc i ≡ i + 1 = omega arith in
    let e : drop i xs ≡ get_or xs i 0 ∷ drop (i + 1) xs = drop-cons xs i 0 low ∙ ap (λ (k : ℕ). get_or xs i 0 ∷ drop k xs) next in
    sym (ap (list_any p) e ∙ ap (λ (c : Bool). c || list_any p (drop (i + 1) xs)) fails) ∙ so_far

pub returns-then-is_paired_in : goal.returns-then-is_paired_in
returns-then-is_paired_in g c =
    sym (list_any_at (is_paired_in (log_so_far c.args.log.now) c.args.n) c.args.program.now c.loop-i.i 0 (omega arith)
    (sym c.is_paired_in.ensures ∙ c.if-is_paired_in.true))

pub loop-i-preserved : goal.loop-i-preserved
loop-i-preserved g c =
    let p = is_paired_in (log_so_far c.args.log.now) c.args.n in
    any_next p c.args.program.now c.loop-i.i (list_any p c.args.program.now) (omega arith)
    (sym c.is_paired_in.ensures ∙ c.if-is_paired_in.false) c.loop-i.invariant
