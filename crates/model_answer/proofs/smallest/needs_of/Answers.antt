use Rattle.std.proofs.Common.{ℕ, List, [], ◌∷◌, ◌++◌, ◌∙◌, ap, sym, map, arith, Option}
use Rattle.std.specs.List.{range_with_len}
use Rattle.std.proofs.lemmas.List.FromFn.{map-range_with_len_more}
use Rattle.model_text.specs.Views.{log_so_far}
use Rattle.model_answer.specs.Parts.{needed_in}
use Rattle.model_answer.proofs.smallest.needs_of.Goals as goal

pub loop-n-preserved : goal.loop-n-preserved
loop-n-preserved g c =
    let f = needed_in (log_so_far c.args.log.now) in
    let n : ℕ = c.loop-n.n in
    c.in_ok-push.ensures.items
    ∙ (ap (λ (t : List (Option ℕ)). t ++ c.needed_in.result ∷ []) c.loop-n.invariant
    ∙ (ap (λ (v : Option ℕ). map f (range_with_len 0 n) ++ v ∷ []) c.needed_in.ensures
    ∙ sym (map-range_with_len_more f 0 n n (omega arith))))
