-- One more worker's first tile.
use Rattle.std.proofs.Common.{◌≡◌, ◌+◌, ◌++◌, ◌∷◌, [], ℕ, List, sym, ap, ◌∙◌, arith}
use Rattle.std.proofs.lemmas.List.FromFn.{map-range_with_len_more}
use Rattle.command_run.specs.Workers.{first_held}
use Rattle.command_run.proofs.by_workers.cuts_of.Goals as goal

pub loop-before-preserved : goal.loop-before-preserved
loop-before-preserved c =
    let first : ℕ → ℕ = first_held c.args.tiles c.args.crew in
    let k : ℕ = c.loop-before.before in
    let next : 1 + k ≡ k + 1 = omega arith in
    record {
      count = c.push.ensures.len ∙ ap (λ (n : ℕ). n + 1) c.loop-before.invariant.count;
      cuts = c.push.ensures.items
          ∙ (ap (λ (l : List ℕ). l ++ first (k + 1) ∷ []) c.loop-before.invariant.cuts ∙ sym (map-range_with_len_more first 1 k (k + 1) next));
    }
