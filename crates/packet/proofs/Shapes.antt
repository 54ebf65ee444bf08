-- Laws of spellings.
use Rattle.std.proofs.Common.{◌≡◌, ◌↔◌, ℕ, ◌+◌, ◌*◌, ◌^◌, ◌<◌, ◌≤◌, ◌∙◌, List, [], ◌∷◌, ◌++◌, length, get_or, sym, ap, refl, subst, arith, length-append}
use Rattle.std.specs.Prelude.{All}
use Rattle.std.specs.List.{AllByRecursion}
use Rattle.std.proofs.lemmas.List.Elements.{All-from_recursion}
use Rattle.packet.specs.declared.kinds.Packet.{Packet}
use Rattle.packet.specs.declared.kinds.Packet.TheVariants.{Request, Response}
use Rattle.packet.specs.declared.kinds.Reply.{Reply}
use Rattle.packet.specs.declared.kinds.Reply.TheVariants.{Old, Ok as Stored}
use Rattle.torus.specs.declared.shape.Class.{Class}
use Rattle.torus.specs.declared.shape.Class.TheVariants as class
use Rattle.packet.specs.Flit.{field, Heading, IsHeadFlit, IsPayloadFlit, class_number, class_numbered}
use Rattle.packet.specs.Spelling.{SpellsWith, Spells, heading_of, values_of, values_of_reply, class_of, TellsPacket, IsTailShaped, IsSpellable}
use Rattle.packet.specs.Refusal.{flits_told}
use Rattle.packet.specs.Written.{IsOfWords}
use Rattle.packet.specs.Flits.{flits_of}
use Rattle.packet.proofs.Fields.{above-zero}
use Rattle.packet.proofs.Spelled.{Spells-flits_of, spelling_only, few_values}
use Rattle.packet.proofs.Accepted.{IsWhole, IsWhole-spelled}

pub one_list : (p : Packet) (xs : List ℕ) → IsSpellable p → IsOfWords p → Spells p xs ↔ (xs ≡ flits_of p)
one_list p xs s w =
    (λ h. spelling_only p xs h, λ e. subst (λ (ys : List ℕ). Spells p ys) (sym e) (Spells-flits_of p s w))

length-whole : (xs : List ℕ) → IsWhole xs → flits_told (get_or xs 0 0) ≡ length xs
length-whole (h ∷ []) w = w.1
length-whole (h ∷ a ∷ b ∷ []) w = w.1
length-whole (h ∷ a ∷ b ∷ c ∷ d ∷ []) w = w.1
length-whole xs w = absurd w

none_more : (ys : List ℕ) → length ys ≡ 0 → ys ≡ []
none_more [] e = refl
none_more (y ∷ ys) e = absurd (omega arith)

whole_alone : (xs ys : List ℕ) → IsWhole xs → IsWhole (xs ++ ys) → ys ≡ []
whole_alone [] ys v w = absurd v
whole_alone (h ∷ rest) ys v w =
    let e = length-whole (h ∷ rest) v in
    let f = length-whole (h ∷ (rest ++ ys)) w in
    none_more ys (omega (arith, e, f, length-append rest ys))

-- no spelling properly begins another
pub spelling_alone : (p q : Packet) (xs ys : List ℕ) → Spells p xs → Spells q (xs ++ ys) → ys ≡ []
spelling_alone p q xs ys s t = whole_alone xs ys (IsWhole-spelled p xs s) (IsWhole-spelled q (xs ++ ys) t)

class_numbered-class_number : (c : Class) → class_numbered (class_number c) ≡ c
class_numbered-class_number class.Request = refl
class_numbered-class_number class.Reply = refl

TellsPacket-head : (p : Packet) (tail h : ℕ) → IsHeadFlit tail (heading_of p) h → TellsPacket p h
TellsPacket-head p tail h s =
    record {
      head_bit = s.head_bit;
      flit_bit = s.flit_bit;
      destination = s.destination;
      class = ap class_numbered s.class ∙ class_numbered-class_number (class_of p);
    }

-- the head of what is spelled, with its tail bit
head-spelled : (told : Heading) (vs : List ℕ) (h : ℕ) (t : List ℕ) → SpellsWith told vs (h ∷ t) → (tail : ℕ) × IsHeadFlit tail told h × ((tail ≡ 1) ↔ (t ≡ []))
head-spelled told [] h [] s = (1, s, (λ _. refl, λ _. refl))
head-spelled told (v ∷ []) h (a ∷ b ∷ []) s = (0, s.0, (λ e. cc, λ e. cc))
head-spelled told (v ∷ w ∷ []) h (a ∷ b ∷ c ∷ d ∷ []) s = (0, s.0, (λ e. cc, λ e. cc))
head-spelled told vs h t s = absurd s

pub TellsPacket-spelled : (p : Packet) (h : ℕ) (t : List ℕ) → Spells p (h ∷ t) → TellsPacket p h
TellsPacket-spelled p h t s =
    let k = head-spelled (heading_of p) (values_of p) h t s.bits in
    TellsPacket-head p k.0 h k.1

pub tail_bit-head : (p : Packet) (h : ℕ) (t : List ℕ) → Spells p (h ∷ t) → (field h 62 1 ≡ 1) ↔ (t ≡ [])
tail_bit-head p h t s =
    let k = head-spelled (heading_of p) (values_of p) h t s.bits in
    (λ e. k.2.0 (sym k.1.tail_bit ∙ e), λ e. k.1.tail_bit ∙ k.2.1 e)

rest-spelled : (told : Heading) (vs : List ℕ) (h : ℕ) (t : List ℕ) → SpellsWith told vs (h ∷ t) → IsTailShaped t
rest-spelled told [] h [] s = tt
rest-spelled told (v ∷ []) h (a ∷ b ∷ []) s =
    (s.1.head_bit, s.1.tail_bit, (s.2.head_bit, s.2.tail_bit, tt))
rest-spelled told (v ∷ w ∷ []) h (a ∷ b ∷ c ∷ d ∷ []) s =
    (s.1.head_bit, s.1.tail_bit, (s.2.head_bit, s.2.tail_bit, (s.3.head_bit, s.3.tail_bit, (s.4.head_bit, s.4.tail_bit, tt))))
rest-spelled told vs h t s = absurd s

pub IsTailShaped-spelled : (p : Packet) (h : ℕ) (t : List ℕ) → Spells p (h ∷ t) → IsTailShaped t
IsTailShaped-spelled p h t s = rest-spelled (heading_of p) (values_of p) h t s.bits

length-with : (told : Heading) (vs xs : List ℕ) → SpellsWith told vs xs → length xs ≡ 1 + 2 * length vs
length-with told [] (h ∷ []) s = refl
length-with told (v ∷ []) (h ∷ a ∷ b ∷ []) s = refl
length-with told (v ∷ w ∷ []) (h ∷ a ∷ b ∷ c ∷ d ∷ []) s = refl
length-with told vs xs s = absurd s

pub length-spelled : (p : Packet) (xs : List ℕ) → Spells p xs → length xs ≡ 1 + 2 * length (values_of p)
length-spelled p xs s = length-with (heading_of p) (values_of p) xs s.bits

pub at_most_five : (p : Packet) (xs : List ℕ) → Spells p xs → length xs ≤ 5
at_most_five p xs s = omega (arith, length-spelled p xs s, few_values p)

one_at_most : (r : Reply) → length (values_of_reply r) ≤ 1
one_at_most Stored = omega arith
one_at_most (Old w) = omega arith

pub at_most_three : (p : Packet) (xs : List ℕ) → Spells p xs → class_of p ≡ class.Reply → length xs ≤ 3
at_most_three (Request r) xs s e = cc
at_most_three (Response r) xs s e = omega (arith, length-spelled (Response r) xs s, one_at_most r.reply)

-- what all flits of a spelling have
all-with : (P : ℕ → Type 0) → ((told : Heading) (tail n : ℕ) → IsHeadFlit tail told n → P n) → ((tail half n : ℕ) → IsPayloadFlit tail half n → P n)
    → (told : Heading) (vs xs : List ℕ) → SpellsWith told vs xs → AllByRecursion P xs
all-with P head payload told [] (h ∷ []) s = (head told 1 h s, tt)
all-with P head payload told (v ∷ []) (h ∷ a ∷ b ∷ []) s =
    (head told 0 h s.0, (payload 0 _ a s.1, (payload 1 _ b s.2, tt)))
all-with P head payload told (v ∷ w ∷ []) (h ∷ a ∷ b ∷ c ∷ d ∷ []) s =
    (head told 0 h s.0, (payload 0 _ a s.1, (payload 0 _ b s.2, (payload 0 _ c s.3, (payload 1 _ d s.4, tt)))))
all-with P head payload told vs xs s = absurd s

all-spelled : (P : ℕ → Type 0) → ((told : Heading) (tail n : ℕ) → IsHeadFlit tail told n → P n) → ((tail half n : ℕ) → IsPayloadFlit tail half n → P n)
    → (p : Packet) (xs : List ℕ) → Spells p xs → All P xs
all-spelled P head payload p xs s =
    All-from_recursion P xs (all-with P head payload (heading_of p) (values_of p) xs s.bits)

pub flits_above_zero : (p : Packet) (xs : List ℕ) → Spells p xs → All (λ n. 0 < n) xs
flits_above_zero =
    all-spelled (λ n. 0 < n) (λ told tail n k. above-zero n k.flit_bit) (λ tail half n k. above-zero n k.flit_bit)

pub flits_of_words : (p : Packet) (xs : List ℕ) → Spells p xs → All (λ n. n < 2 ^ 64) xs
flits_of_words = all-spelled (λ n. n < 2 ^ 64) (λ told tail n k. k.whole) (λ tail half n k. k.whole)
