-- Each packet has one spelling.
use Rattle.std.proofs.Common.{◌≡◌, ℕ, ◌+◌, ◌*◌, ◌/◌, ◌%◌, ◌^◌, ◌<◌, ◌≤◌, ◌∙◌, List, [], ◌∷◌, length, sym, ap, arith}
use Rattle.std.specs.Prelude.{All}
use Rattle.std.proofs.lemmas.List.Elements.{All-head, All-tail, All-cons, All-nil}
use Rattle.packet.specs.declared.kinds.Op.{Op}
use Rattle.packet.specs.declared.kinds.Op.TheVariants.{Load, Store, Swap, Cas, Add, And, Or, Xor, Max, Min}
use Rattle.packet.specs.declared.kinds.Code.{Code}
use Rattle.packet.specs.declared.kinds.Code.TheVariants as code
use Rattle.packet.specs.declared.kinds.Reply.{Reply}
use Rattle.packet.specs.declared.kinds.Reply.TheVariants.{Old, Ok as Stored}
use Rattle.packet.specs.declared.kinds.Packet.{Packet}
use Rattle.packet.specs.declared.kinds.Packet.TheVariants.{Request, Response}
use Rattle.packet.specs.Flit.{Heading, IsPayloadFlit}
use Rattle.packet.specs.Numbers.{code_number}
use Rattle.packet.specs.Spelling.{values_of_op, values_of_reply, values_of, heading_of, SpellsWith, Spells, IsSpellable, word_or_place, code_in}
use Rattle.packet.specs.Written.{head_flit, flits_for, IsOfWords}
use Rattle.packet.specs.Flits.{flits_of}
use Rattle.packet.proofs.FlitBits.{FitsHead, IsHeadFlit-written, IsPayloadFlit-written, same_head, same_payload, FitsHead-told, value_below}

pub code_number_below : (c : Code) → code_number c < 10
code_number_below code.Load = omega arith
code_number_below code.Store = omega arith
code_number_below code.Swap = omega arith
code_number_below code.Cas = omega arith
code_number_below code.Add = omega arith
code_number_below code.And = omega arith
code_number_below code.Or = omega arith
code_number_below code.Xor = omega arith
code_number_below code.Max = omega arith
code_number_below code.Min = omega arith

at_most_two : (op : Op) → length (values_of_op op) ≤ 2
at_most_two Load = omega arith
at_most_two (Store v) = omega arith
at_most_two (Swap v) = omega arith
at_most_two (Cas e n) = omega arith
at_most_two (Add v) = omega arith
at_most_two (And v) = omega arith
at_most_two (Or v) = omega arith
at_most_two (Xor v) = omega arith
at_most_two (Max v) = omega arith
at_most_two (Min v) = omega arith

at_most_one : (r : Reply) → length (values_of_reply r) ≤ 2
at_most_one Stored = omega arith
at_most_one (Old w) = omega arith

pub few_values : (p : Packet) → length (values_of p) ≤ 2
few_values (Request r) = at_most_two r.op
few_values (Response r) = at_most_one r.reply

pub FitsHead-packet : (p : Packet) → IsSpellable p → word_or_place p < 2 ^ 32 → FitsHead (heading_of p)
FitsHead-packet (Request r) s w =
    record {
      operation = omega (arith, code_number_below (code_in (Request r)));
      class = omega arith;
      destination = s.destination;
      source = s.source;
      tag = s.tag;
      place = w;
    }
FitsHead-packet (Response r) s w =
    record { operation = omega (arith, code_number_below r.code); class = omega arith; destination = s.destination; source = s.source; tag = s.tag; place = w }

-- the two flits of a value
high-written : (v : ℕ) → v < 2 ^ 64 → IsPayloadFlit 0 (v / 2 ^ 32) (2 ^ 61 + v / 2 ^ 32)
high-written v small = IsPayloadFlit-written (v / 2 ^ 32) _ 0 (omega arith) (omega arith) (omega arith)

low-written : (v tail n : ℕ) → tail < 2 → n ≡ tail * 2 ^ 62 + 2 ^ 61 + v % 2 ^ 32 → IsPayloadFlit tail (v % 2 ^ 32) n
low-written v tail n small is = IsPayloadFlit-written (v % 2 ^ 32) n tail (omega arith) small is

pub SpellsWith-written : (told : Heading) (vs : List ℕ) → FitsHead told → All (λ v. v < 2 ^ 64) vs → length vs ≤ 2
    → SpellsWith told vs (flits_for (head_flit told) vs)
SpellsWith-written told [] fits all few = IsHeadFlit-written told _ 1 fits (omega arith) (omega arith)
SpellsWith-written told (v ∷ []) fits all few =
    let small : v < 2 ^ 64 = All-head (λ k. k < 2 ^ 64) v [] all in
    (IsHeadFlit-written told _ 0 fits (omega arith) (omega arith), high-written v small, low-written v 1 _ (omega arith) (omega arith))
SpellsWith-written told (v ∷ w ∷ []) fits all few =
    let small : v < 2 ^ 64 = All-head (λ k. k < 2 ^ 64) v (w ∷ []) all in
    let small' : w < 2 ^ 64 = All-head (λ k. k < 2 ^ 64) w [] (All-tail (λ k. k < 2 ^ 64) v (w ∷ []) all) in (
      IsHeadFlit-written told _ 0 fits (omega arith) (omega arith),
      high-written v small,
      low-written v 0 _ (omega arith) (omega arith),
      high-written w small',
      low-written w 1 _ (omega arith) (omega arith),
    )
SpellsWith-written told (v ∷ w ∷ x ∷ xs) fits all few = absurd (omega arith)

pub Spells-flits_of : (p : Packet) → IsSpellable p → IsOfWords p → Spells p (flits_of p)
unfolding flits_of
Spells-flits_of p s w =
    record { sound = s.sound; bits = SpellsWith-written (heading_of p) (values_of p) (FitsHead-packet p s w.place) w.values (few_values p) }

-- what spells a heading and its values is what is written for them
pub written_only : (told : Heading) (vs xs : List ℕ) → SpellsWith told vs xs → xs ≡ flits_for (head_flit told) vs
written_only told [] (h ∷ []) s =
    ap (λ x. x ∷ []) (same_head told 1 h _ s (IsHeadFlit-written told _ 1 (FitsHead-told told 1 h s) (omega arith) (omega arith)))
written_only told (v ∷ []) (h ∷ a ∷ b ∷ []) s =
    let small : v < 2 ^ 64 = value_below v 0 a s.1 in
    let eh : h ≡ head_flit told = same_head told 0 h _ s.0 (IsHeadFlit-written told _ 0 (FitsHead-told told 0 h s.0) (omega arith) (omega arith)) in
    let ea : a ≡ 2 ^ 61 + v / 2 ^ 32 = same_payload (v / 2 ^ 32) 0 a _ s.1 (high-written v small) in
    let eb : b ≡ 2 ^ 62 + 2 ^ 61 + v % 2 ^ 32 = same_payload (v % 2 ^ 32) 1 b _ s.2 (low-written v 1 _ (omega arith) (omega arith)) in
    cc
written_only told (v ∷ w ∷ []) (h ∷ a ∷ b ∷ c ∷ d ∷ []) s =
    let small : v < 2 ^ 64 = value_below v 0 a s.1 in
    let small' : w < 2 ^ 64 = value_below w 0 c s.3 in
    let eh : h ≡ head_flit told = same_head told 0 h _ s.0 (IsHeadFlit-written told _ 0 (FitsHead-told told 0 h s.0) (omega arith) (omega arith)) in
    let ea : a ≡ 2 ^ 61 + v / 2 ^ 32 = same_payload (v / 2 ^ 32) 0 a _ s.1 (high-written v small) in
    let eb : b ≡ 2 ^ 61 + v % 2 ^ 32 = same_payload (v % 2 ^ 32) 0 b _ s.2 (low-written v 0 _ (omega arith) (omega arith)) in
    let ec : c ≡ 2 ^ 61 + w / 2 ^ 32 = same_payload (w / 2 ^ 32) 0 c _ s.3 (high-written w small') in
    let ed : d ≡ 2 ^ 62 + 2 ^ 61 + w % 2 ^ 32 = same_payload (w % 2 ^ 32) 1 d _ s.4 (low-written w 1 _ (omega arith) (omega arith)) in
    cc
written_only told vs xs s = absurd s

-- the flits that spell a packet are those written for it
pub spelling_only : (p : Packet) (xs : List ℕ) → Spells p xs → xs ≡ flits_of p
unfolding flits_of
spelling_only p xs s = written_only (heading_of p) (values_of p) xs s.bits

pub one_spelling : (p : Packet) (xs ys : List ℕ) → Spells p xs → Spells p ys → xs ≡ ys
one_spelling p xs ys s t = spelling_only p xs s ∙ sym (spelling_only p ys t)

-- what is spelled fits
fits-spelled : (told : Heading) (vs xs : List ℕ) → SpellsWith told vs xs → FitsHead told × All (λ v. v < 2 ^ 64) vs
fits-spelled told [] (h ∷ []) s = (FitsHead-told told 1 h s, All-nil (λ k. k < 2 ^ 64))
fits-spelled told (v ∷ []) (h ∷ a ∷ b ∷ []) s =
    (FitsHead-told told 0 h s.0, All-cons (λ k. k < 2 ^ 64) v [] (value_below v 0 a s.1) (All-nil (λ k. k < 2 ^ 64)))
fits-spelled told (v ∷ w ∷ []) (h ∷ a ∷ b ∷ c ∷ d ∷ []) s = (
  FitsHead-told told 0 h s.0,
  All-cons (λ k. k < 2 ^ 64) v (w ∷ []) (value_below v 0 a s.1)
      (All-cons (λ k. k < 2 ^ 64) w [] (value_below w 0 c s.3) (All-nil (λ k. k < 2 ^ 64))),
)
fits-spelled told vs xs s = absurd s

pub IsSpellable-spelled : (p : Packet) (xs : List ℕ) → Spells p xs → IsSpellable p
IsSpellable-spelled p xs s =
    let fits = (fits-spelled (heading_of p) (values_of p) xs s.bits).0 in
    record { destination = fits.destination; source = fits.source; tag = fits.tag; sound = s.sound }

pub IsOfWords-spelled : (p : Packet) (xs : List ℕ) → Spells p xs → IsOfWords p
IsOfWords-spelled p xs s =
    let fits = fits-spelled (heading_of p) (values_of p) xs s.bits in
    record { place = fits.0.place; values = fits.1 }
