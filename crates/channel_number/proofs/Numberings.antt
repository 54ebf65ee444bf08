-- A list of the numbers of the first channels, one by one.
use Rattle.std.proofs.Common.{◌≡◌, ℕ, ◌+◌, ◌<◌, List, [], ◌∷◌, ◌++◌, length, refl, sym, ◌∙◌, ap, subst, arith, inl, inr, length-append}
use Rattle.std.specs.Prelude.{slice_index}
use Rattle.std.proofs.lemmas.Bool.{cases_eq}
use Rattle.std.proofs.lemmas.Grind.{common_steps}
use Rattle.torus.specs.Shape.{Shape}
use Rattle.dateline_route.specs.declared.channel.Channel.{Channel}
use Rattle.dateline_route.specs.Walk.{IsChannel}
use Rattle.channel_number.specs.Order.{channel_index, channel_count}
use Rattle.channel_number.specs.Number.{number_of, IsNumbering}
use Rattle.channel_number.proofs.Orders.{one_index, index_below}

-- the numbers of the first n channels
pub record IsBegun (s : Shape) (numbers : List ℕ) (n : ℕ) : Type 0 where
  pub count : length numbers ≡ n
  pub each : (x : Channel) → IsChannel s x → channel_index s x < n → slice_index numbers (channel_index s x) ≡ number_of s x

pub begun_none : (s : Shape) → IsBegun s [] 0
begun_none s = record { count = refl; each = λ x h low. absurd (omega arith) }

at_end : (old : List ℕ) (n i : ℕ) → i ≡ length old → slice_index (old ++ n ∷ []) i ≡ n
at_end old n i e = grind (arith, common_steps)

before_end : (old : List ℕ) (n i : ℕ) → i < length old → slice_index (old ++ n ∷ []) i ≡ slice_index old i
before_end old n i low = grind (arith, common_steps)

pub begun_more : (s : Shape) (old new : List ℕ) (n number : ℕ) (x : Channel) → IsBegun s old n → IsChannel s x → channel_index s x ≡ n → number ≡ number_of s x
    → new ≡ old ++ number ∷ [] → IsBegun s new (n + 1)
begun_more s old new n number x b h at number_is new_is =
    let P : List ℕ → Type 0 = λ ns. IsBegun s ns (n + 1) in
    subst P (sym new_is) (record {
      count = omega (arith, length-append old (number ∷ []), b.count);
      each = λ y g low. elim (cases_eq (channel_index s y) n) [
        | inl same ↦ (
            let one : x ≡ y = one_index s x y h g (at ∙ sym same) in
            at_end old number (channel_index s y) (same ∙ sym b.count) ∙ number_is ∙ ap (number_of s) one)
        | inr other ↦ (
            let under : channel_index s y < n = omega arith in
            before_end old number (channel_index s y) (omega (arith, b.count)) ∙ b.each y g under)
      ];
    })

pub begun_all : (s : Shape) (numbers : List ℕ) (n : ℕ) → IsBegun s numbers n → n ≡ channel_count s → IsNumbering s numbers
begun_all s numbers n b all = record {
  count = b.count ∙ all;
  each = λ x h. b.each x h (omega (arith, index_below s x h));
}
