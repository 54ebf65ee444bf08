use Rattle.std.proofs.Common.{rules}
use Rattle.std.proofs.lemmas.List.Sorted.{IsNonDecreasingBy-from_sort_by_key}
use Rattle.sentences.proofs.scripts.put_in_text_order.Goals as goal

pub returns-clause-rising : goal.returns-clause-rising
returns-clause-rising g c =
    IsNonDecreasingBy-from_sort_by_key (λ spin. spin.line) _ c.sort_unstable_by_key.ensures.sorted (λ a r q k. search rules)
