use Rattle.std.proofs.Common.{◌∙◌, ap, drop, map, sym, List, ℕ}
use Rattle.std.specs.Borrow.{Bor}
use Rattle.std.specs.List.{drop-map}
use Rattle.std.proofs.lemmas.List.{take_rest}
use Rattle.model_text.proofs.annotation.behind_operands.Goals as goal

pub returns : goal.returns
returns c =
    ap (map (λ (w : Bor (List ℕ)). w.now)) (take_rest c.args.words.now c.operand_count.result)
    ∙ (sym (drop-map (λ (w : Bor (List ℕ)). w.now) c.operand_count.result c.args.words.now)
    ∙ ap (λ (n : ℕ). drop n (map (λ (w : Bor (List ℕ)). w.now) c.args.words.now)) c.operand_count.ensures.value)
