use Rattle.std.proofs.Common.{ℕ, get_or, sym, arith}
use Rattle.std.specs.Prelude.{◌==◌}
use Rattle.std.proofs.lemmas.Bool.{eq-eqb}
use Rattle.std.proofs.lemmas.List.Sums.{position_or_len_is}
use Rattle.model_answer.proofs.part_words.place_in.Goals as goal

pub returns-then-list-k : goal.returns-then-list-k
returns-then-list-k c =
    sym (position_or_len_is (λ (y : ℕ). y == c.args.n) c.args.list.now c.loop-k.k 0 (omega arith) c.loop-k.invariant
    (λ _. eq-eqb (get_or c.args.list.now c.loop-k.k 0) c.args.n c.if-list-k.true))

pub returns : goal.returns
returns c =
    sym (position_or_len_is (λ (y : ℕ). y == c.args.n) c.args.list.now _ 0 (omega arith) (λ k h. c.loop-k.invariant k (omega arith)) (λ h. absurd (omega arith)))
