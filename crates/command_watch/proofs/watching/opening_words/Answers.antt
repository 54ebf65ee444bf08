-- One opening word after the other.
use Rattle.std.proofs.Common.{◌∙◌, ◌++◌, ◌∷◌, [], ℕ, List, ap, sym, map, zero-add}
use Rattle.std.specs.Prelude.{unwrap_or}
use Rattle.std.specs.List.{range_with_len}
use Rattle.std.proofs.lemmas.List.FromFn.{map-range_with_len_more}
use Rattle.trace_lines.specs.Head.{value_in}
use Rattle.command_watch.proofs.watching.opening_words.Goals as goal

pub loop-a-preserved : goal.loop-a-preserved
loop-a-preserved g c =
    let opening : ℕ → ℕ = λ a. unwrap_or (value_in c.args.head.now.inits a) 0 in
    c.in_ok-push.ensures.items
    ∙ (ap (λ (ws : List ℕ). ws ++ c.opening.result ∷ []) c.loop-a.invariant
    ∙ (ap (λ (w : ℕ). map opening (range_with_len 0 c.loop-a.a) ++ w ∷ []) c.opening.ensures
    ∙ sym (map-range_with_len_more opening 0 c.loop-a.a c.loop-a.a (zero-add c.loop-a.a))))
