-- The bits of flits: the numbers that `specs/Written.antt` writes have them, and no other number has.
use Rattle.std.proofs.Common.{◌≡◌, ℕ, ◌+◌, ◌*◌, ◌/◌, ◌%◌, ◌^◌, ◌<◌, ◌∙◌, sym, arith}
use Rattle.packet.specs.Flit.{Heading, IsHeadFlit, IsPayloadFlit}
use Rattle.packet.specs.Written.{head_flit}
use Rattle.packet.proofs.Fields.{same_from_field, field-above, field_below}

-- what fits a head flit
pub record FitsHead (told : Heading) : Type 0 where
  pub operation : told.operation < 16
  pub class : told.class < 2
  pub destination : told.destination < 64
  pub source : told.source < 64
  pub tag : told.tag < 16
  pub place : told.place < 2 ^ 32

pub IsHeadFlit-written : (told : Heading) (n tail : ℕ) → FitsHead told → tail < 2 → n ≡ tail * 2 ^ 62 + head_flit told → IsHeadFlit tail told n
IsHeadFlit-written told n t fits small is =
    let o = told.operation % 8 in
    let p = told.operation / 8 in
    let c = told.class in
    let d = told.destination in
    let s = told.source in
    let g = told.tag in
    let l = told.place in
    let l41 : ℕ = p * 2 ^ 40 + l in
    let l45 : ℕ = g * 2 ^ 41 + l41 in
    let l51 : ℕ = s * 2 ^ 45 + l45 in
    let l57 : ℕ = d * 2 ^ 51 + l51 in
    let l58 : ℕ = c * 2 ^ 57 + l57 in
    let l61 : ℕ = o * 2 ^ 58 + l58 in
    let l62 : ℕ = 2 ^ 61 + l61 in
    let l63 : ℕ = t * 2 ^ 62 + l62 in
    let h61 : ℕ = 2 + t in
    let h58 : ℕ = h61 * 2 + 1 in
    let h57 : ℕ = h58 * 8 + o in
    let h51 : ℕ = h57 * 2 + c in
    let h45 : ℕ = h51 * 64 + d in
    let h41 : ℕ = h45 * 64 + s in
    let h40 : ℕ = h41 * 16 + g in
    let h32 : ℕ = h40 * 2 + p in
    record {
      whole = omega arith;
      head_bit = field-above n 1 63 l63 1 0 (omega arith) (omega arith) (omega arith);
      tail_bit = field-above n t 62 l62 1 1 (omega arith) (omega arith) small;
      flit_bit = field-above n 1 61 l61 1 h61 (omega arith) (omega arith) (omega arith);
      operation_low = field-above n o 58 l58 3 h58 (omega arith) (omega arith) (omega arith);
      class = field-above n c 57 l57 1 h57 (omega arith) (omega arith) fits.class;
      destination = field-above n d 51 l51 6 h51 (omega arith) (omega arith) fits.destination;
      source = field-above n s 45 l45 6 h45 (omega arith) (omega arith) fits.source;
      tag = field-above n g 41 l41 4 h41 (omega arith) (omega arith) fits.tag;
      operation_high = field-above n p 40 l 1 h40 (omega arith) (omega arith) (omega arith);
      zeros = field-above n 0 32 l 8 h32 fits.place (omega arith) (omega arith);
      place = field-above n l 0 0 32 (h32 * 256) (omega arith) (omega arith) fits.place;
    }

pub IsPayloadFlit-written : (half n tail : ℕ) → half < 2 ^ 32 → tail < 2 → n ≡ tail * 2 ^ 62 + 2 ^ 61 + half → IsPayloadFlit tail half n
IsPayloadFlit-written half n t fits small is =
    record {
      whole = omega arith;
      head_bit = field-above n 0 63 (t * 2 ^ 62 + 2 ^ 61 + half) 1 0 (omega arith) (omega arith) (omega arith);
      tail_bit = field-above n t 62 (2 ^ 61 + half) 1 0 (omega arith) (omega arith) small;
      flit_bit = field-above n 1 61 half 1 t (omega arith) (omega arith) (omega arith);
      zeros = field-above n 0 32 half 29 (2 * t + 1) fits (omega arith) (omega arith);
      payload = field-above n half 0 0 32 ((2 * t + 1) * 2 ^ 29) (omega arith) (omega arith) fits;
    }

-- two words of 64 bits agree above bit 63
same-above : (n m : ℕ) → n < 2 ^ 64 → m < 2 ^ 64 → n / 2 ^ 64 ≡ m / 2 ^ 64
same-above n m p q = omega arith

same-below : (n m : ℕ) → n / 2 ^ 0 ≡ m / 2 ^ 0 → n ≡ m
same-below n m e = omega arith

pub same_head : (told : Heading) (tail n m : ℕ) → IsHeadFlit tail told n → IsHeadFlit tail told m → n ≡ m
same_head told t n m a b =
    let s63 : n / 2 ^ 63 ≡ m / 2 ^ 63 = same_from_field n m 63 1 (same-above n m a.whole b.whole) (a.head_bit ∙ sym b.head_bit) in
    let s62 : n / 2 ^ 62 ≡ m / 2 ^ 62 = same_from_field n m 62 1 s63 (a.tail_bit ∙ sym b.tail_bit) in
    let s61 : n / 2 ^ 61 ≡ m / 2 ^ 61 = same_from_field n m 61 1 s62 (a.flit_bit ∙ sym b.flit_bit) in
    let s58 : n / 2 ^ 58 ≡ m / 2 ^ 58 = same_from_field n m 58 3 s61 (a.operation_low ∙ sym b.operation_low) in
    let s57 : n / 2 ^ 57 ≡ m / 2 ^ 57 = same_from_field n m 57 1 s58 (a.class ∙ sym b.class) in
    let s51 : n / 2 ^ 51 ≡ m / 2 ^ 51 = same_from_field n m 51 6 s57 (a.destination ∙ sym b.destination) in
    let s45 : n / 2 ^ 45 ≡ m / 2 ^ 45 = same_from_field n m 45 6 s51 (a.source ∙ sym b.source) in
    let s41 : n / 2 ^ 41 ≡ m / 2 ^ 41 = same_from_field n m 41 4 s45 (a.tag ∙ sym b.tag) in
    let s40 : n / 2 ^ 40 ≡ m / 2 ^ 40 = same_from_field n m 40 1 s41 (a.operation_high ∙ sym b.operation_high) in
    let s32 : n / 2 ^ 32 ≡ m / 2 ^ 32 = same_from_field n m 32 8 s40 (a.zeros ∙ sym b.zeros) in
    same-below n m (same_from_field n m 0 32 s32 (a.place ∙ sym b.place))

pub same_payload : (half tail n m : ℕ) → IsPayloadFlit tail half n → IsPayloadFlit tail half m → n ≡ m
same_payload half t n m a b =
    let s63 : n / 2 ^ 63 ≡ m / 2 ^ 63 = same_from_field n m 63 1 (same-above n m a.whole b.whole) (a.head_bit ∙ sym b.head_bit) in
    let s62 : n / 2 ^ 62 ≡ m / 2 ^ 62 = same_from_field n m 62 1 s63 (a.tail_bit ∙ sym b.tail_bit) in
    let s61 : n / 2 ^ 61 ≡ m / 2 ^ 61 = same_from_field n m 61 1 s62 (a.flit_bit ∙ sym b.flit_bit) in
    let s32 : n / 2 ^ 32 ≡ m / 2 ^ 32 = same_from_field n m 32 29 s61 (a.zeros ∙ sym b.zeros) in
    same-below n m (same_from_field n m 0 32 s32 (a.payload ∙ sym b.payload))

pub FitsHead-told : (told : Heading) (tail n : ℕ) → IsHeadFlit tail told n → FitsHead told
FitsHead-told told t n h =
    record {
      operation = omega (arith, h.operation_high, field_below n 40 1);
      class = omega (arith, h.class, field_below n 57 1);
      destination = omega (arith, h.destination, field_below n 51 6);
      source = omega (arith, h.source, field_below n 45 6);
      tag = omega (arith, h.tag, field_below n 41 4);
      place = omega (arith, h.place, field_below n 0 32);
    }

-- a value whose high half is in a flit has 64 bits
pub value_below : (v tail n : ℕ) → IsPayloadFlit tail (v / 2 ^ 32) n → v < 2 ^ 64
value_below v t n h = omega (arith, h.payload, field_below n 0 32)
