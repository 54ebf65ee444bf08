-- Whether there are order lines, by the number of the last one.
use Rattle.std.proofs.Common.{◌≡◌, ℕ, ◌+◌, ◌==◌, List, [], ◌∷◌, Option, None, if◌then◌else◌, fold, length, map, refl, ap, arith}
use Rattle.std.proofs.lemmas.Bool.{ne_eqb}
use Rattle.report_lines.specs.declared.line.OrderLine.{OrderLine}
use Rattle.report_check.specs.declared.rule.Rule.{Rule}
use Rattle.report_check.specs.Seen.{above_last}

above_some : (n : ℕ) (numbers : List ℕ) → fold (λ _ k. k + 1) (n + 1) numbers ≡ 0 → ⊥
above_some n [] h = absurd (omega (arith, h))
above_some n (k ∷ numbers) h = above_some k numbers h

-- above the last number of no line is 0, and only of none
pub no_orders : (orders : List OrderLine) → above_last (map (λ x. x.served) orders) ≡ 0 → orders ≡ []
no_orders [] h = refl
no_orders (o ∷ orders) h = absurd (above_some o.served (map (λ x. x.served) orders) h)

pub some_orders : (orders : List OrderLine) (other : Option Rule) → (orders ≡ [] → ⊥) → (if length orders == 0 then None else other) ≡ other
some_orders [] other h = absurd (h refl)
some_orders (o ∷ orders) other h =
    let test = ne_eqb (length (o ∷ orders)) 0 (λ none. absurd (omega (arith, none))) in
    ap (λ b. if b then None else other) test
