-- Packets of the plain format.
use Rattle.std.proofs.Common.{◌≡◌, ℕ, zero, suc, ◌+◌, ◌-◌, ◌*◌, ◌<◌, ◌==◌, ◌/◌, ◌%◌, if◌then◌else◌, true, false, ◌∷◌, length, refl, sym, ◌∙◌, ap, arith, inl, inr, eq-eqb}
use Rattle.std.proofs.lemmas.Bool.{cases_eq, ne_eqb}
use Rattle.wormhole.specs.Net.{Net, IsParcel, EndsWithTail, has_no_flit, net_flits}
use Rattle.network_judge.specs.Table.{Table, joins_of}
use Rattle.network_judge.specs.TableNet.{table_network}
use Rattle.network_judge.specs.LockUps.{plain_format}
use Rattle.network_machine.specs.Packets.{head_word, rest_word, rest_words, packet_of}

-- where some are left, the next one comes first
pub rest_some : (left : ℕ) → 0 < left → rest_words left ≡ rest_word left ∷ rest_words (left - 1)
rest_some zero some = absurd (omega arith)
rest_some (suc left) some = (let less : suc left - 1 ≡ left = omega arith in ap (λ k. rest_word (suc left) ∷ rest_words k) (sym less))

pub rest_length : (left : ℕ) → length (rest_words left) ≡ left
rest_length zero = refl
rest_length (suc left) = (let more = rest_length left in omega arith)

none_left : (left : ℕ) → has_no_flit (rest_words left) ≡ (left == 0)
none_left zero = refl
none_left (suc left) = sym (ne_eqb (suc left) 0 (λ e. omega arith))

module _ (t : Table) (number : ℕ → ℕ) (top depth : ℕ) where
  abbrev net : Net
  net = table_network t number top depth plain_format

  rest_is_no_head : (left : ℕ) → plain_format.is_head (rest_word left) ≡ false
  rest_is_no_head left = elim (cases_eq left 1) [
    | inl same ↦ ap (λ b. plain_format.is_head (if b then 1 else 0)) (eq-eqb left 1 same)
    | inr other ↦ ap (λ b. plain_format.is_head (if b then 1 else 0)) (ne_eqb left 1 other)
  ]

  rest_tail : (left : ℕ) → plain_format.is_tail (rest_word (suc left)) ≡ has_no_flit (rest_words left)
  rest_tail zero = refl
  rest_tail (suc left) = ap (λ b. plain_format.is_tail (if b then 1 else 0)) (ne_eqb (suc (suc left)) 1 (λ e. omega arith))

  ends_with_tail : (left : ℕ) → EndsWithTail net (rest_words left)
  ends_with_tail zero = tt
  ends_with_tail (suc left) = (rest_is_no_head (suc left), rest_tail left, ends_with_tail left)

  -- the head flit of such a packet
  head_bit : (to count : ℕ) → plain_format.is_head (head_word to count) ≡ true
  head_bit to count = elim (cases_eq count 1) [
    | inl same ↦ ap (λ b. plain_format.is_head (to * 4 + (if b then 3 else 2))) (eq-eqb count 1 same)
        ∙ (let bit : (to * 4 + 3) / 2 % 2 ≡ 1 = omega arith in eq-eqb _ 1 bit)
    | inr other ↦ ap (λ b. plain_format.is_head (to * 4 + (if b then 3 else 2))) (ne_eqb count 1 other)
        ∙ (let bit : (to * 4 + 2) / 2 % 2 ≡ 1 = omega arith in eq-eqb _ 1 bit)
  ]

  head_tells : (to count : ℕ) → plain_format.told (head_word to count) ≡ to
  head_tells to count = elim (cases_eq count 1) [
    | inl same ↦ ap (λ b. plain_format.told (to * 4 + (if b then 3 else 2))) (eq-eqb count 1 same) ∙ omega arith
    | inr other ↦ ap (λ b. plain_format.told (to * 4 + (if b then 3 else 2))) (ne_eqb count 1 other) ∙ omega arith
  ]

  head_tail : (to count : ℕ) → 0 < count → plain_format.is_tail (head_word to count) ≡ has_no_flit (rest_words (count - 1))
  head_tail to count some = elim (cases_eq count 1) [
    | inl same ↦ ap (λ b. plain_format.is_tail (to * 4 + (if b then 3 else 2))) (eq-eqb count 1 same)
        ∙ ((let bit : (to * 4 + 3) % 2 ≡ 1 = omega arith in eq-eqb _ 1 bit)
        ∙ (let none : count - 1 ≡ 0 = omega arith in sym (none_left (count - 1) ∙ eq-eqb _ 0 none)))
    | inr other ↦ ap (λ b. plain_format.is_tail (to * 4 + (if b then 3 else 2))) (ne_eqb count 1 other)
        ∙ ((let bit : (to * 4 + 2) % 2 ≡ 0 = omega arith in ne_eqb _ 1 (λ e. omega arith))
        ∙ sym (none_left (count - 1) ∙ ne_eqb (count - 1) 0 (λ e. other (omega arith))))
  ]

  -- it is a packet of the network, if packets go so
  pub is_parcel : (from to count : ℕ) → joins_of t from to ≡ true → 0 < count → IsParcel net (packet_of from to count)
  is_parcel from to count joined some = record {
    joined = joined;
    head = head_bit to count;
    told = head_tells to count;
    alone = head_tail to count some;
    tail = ends_with_tail (count - 1);
  }

pub packet_length : (from to count : ℕ) → 0 < count → length (net_flits (packet_of from to count)) ≡ count
packet_length from to count some = (let rest = rest_length (count - 1) in omega arith)
