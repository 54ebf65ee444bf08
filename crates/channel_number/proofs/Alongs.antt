-- The numbers along a route, one by one.
use Rattle.std.proofs.Common.{◌≡◌, ℕ, ◌+◌, ◌-◌, ◌<◌, ◌≤◌, List, length, sym, ◌∙◌, ap, arith, inl, inr, get_or}
use Rattle.std.specs.Prelude.{slice_index}
use Rattle.std.proofs.lemmas.Bool.{cases_eq}
use Rattle.std.proofs.lemmas.List.{get_or-map}
use Rattle.torus.specs.Shape.{Shape}
use Rattle.torus.specs.declared.shape.Class.{Class}
use Rattle.dateline_route.specs.declared.channel.Channel.{Channel}
use Rattle.dateline_route.specs.Route.{route_of}
use Rattle.channel_number.specs.Order.{channel_index}
use Rattle.channel_number.specs.Rising.{along}

-- the number at a position of the route
pub along_at : (s : Shape) (numbers : List ℕ) (class : Class) (src dst : ℕ) (slice items : List Channel) (d : Channel) (i index : ℕ) → slice ≡ items
    → items ≡ route_of s src dst class → i < length items →
    index ≡ channel_index s (get_or slice i d) → get_or numbers index 0 ≡ slice_index (along s numbers class src dst) i
along_at s numbers class src dst slice items d i index slice_is items_is low index_is =
    let f : Channel → ℕ = λ x. slice_index numbers (channel_index s x) in
    let whole : slice ≡ route_of s src dst class = slice_is ∙ items_is in
    ap (λ n. get_or numbers n 0) index_is ∙ ap (λ xs. f (get_or xs i d)) whole
    ∙ sym (get_or-map f (route_of s src dst class) i d 0 (omega (arith, ap length items_is)))

-- numbers that rise one place further
pub rise_more : (xs : List ℕ) (hop before here : ℕ) → 1 ≤ hop → before ≡ slice_index xs (hop - 1) → here ≡ slice_index xs hop → before < here →
    ((k : ℕ) → k + 1 < hop → slice_index xs k < slice_index xs (k + 1)) → (k : ℕ) → k + 1 < hop + 1 → slice_index xs k < slice_index xs (k + 1)
rise_more xs hop before here low before_is here_is up rise k less =
    elim (cases_eq (k + 1) hop) [
      | inl same ↦ (
          let first : k ≡ hop - 1 = omega arith in
          let left : slice_index xs k ≡ before = ap (slice_index xs) first ∙ sym before_is in
          let right : slice_index xs (k + 1) ≡ here = ap (slice_index xs) same ∙ sym here_is in
          omega arith)
      | inr other ↦ rise k (omega arith)
    ]
