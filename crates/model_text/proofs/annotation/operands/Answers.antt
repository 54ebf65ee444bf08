use Rattle.std.proofs.Common.{◌∙◌, ap, map, sym, take, List, ℕ}
use Rattle.std.specs.Borrow.{Bor}
use Rattle.std.proofs.lemmas.List.{take-map}
use Rattle.model_text.proofs.annotation.operands.Goals as goal

pub returns : goal.returns
returns c =
    sym (take-map (λ (w : Bor (List ℕ)). w.now) c.operand_count.result c.args.words.now)
    ∙ ap (λ (n : ℕ). take n (map (λ (w : Bor (List ℕ)). w.now) c.args.words.now)) c.operand_count.ensures.value
