-- The three answers of an assembler, against the spellings.
use Rattle.std.proofs.Common.{◌≡◌, ◌≢◌, ◌↔◌, ℕ, ◌+◌, ◌^◌, ◌<◌, ◌∙◌, List, [], ◌∷◌, ◌++◌, length, sym, ap, refl, subst, arith, append_assoc}
use Rattle.std.specs.Prelude.{◌==◌, if◌then◌else◌, Some, None}
use Rattle.packet.specs.declared.kinds.Packet.{Packet}
use Rattle.packet.specs.declared.assembler.Kind.{Kind}
use Rattle.packet.specs.declared.assembler.Offered.{Offered}
use Rattle.packet.specs.declared.assembler.Offered.TheVariants.{More, Whole, Refused}
use Rattle.packet.specs.Flit.{field}
use Rattle.packet.specs.Spelling.{Spells, ProperlyBegins, tail_bit_before}
use Rattle.packet.specs.Refusal.{flits_told, tail_wanted, refusal}
use Rattle.packet.specs.Reading.{packet_told, IsAcceptedHead, IsAcceptedPayload, IsBegun}
use Rattle.packet.proofs.Refusals.{none-start, none-inside}
use Rattle.packet.proofs.Told.{one_packet}
use Rattle.packet.proofs.Accepted.{IsWhole, Spells-whole, IsWhole-spelled}
use Rattle.packet.proofs.Offering.{IsBegun-push, IsWhole-push, ProperlyBegins-begun}

-- a flit that is taken, with its tail bit
pub record IsTaken (xs : List ℕ) (f tail : ℕ) : Type 0 where
  pub taken : refusal xs f ≡ None
  pub tail_bit : field f 62 1 ≡ tail

IsTaken-head : (f tail n : ℕ) → IsAcceptedHead tail f → flits_told f ≡ n → tail ≡ (if 1 == n then 1 else 0) → IsTaken [] f tail
IsTaken-head f tail n a e t =
    let wanted : tail_wanted f 0 ≡ (if 1 == n then 1 else 0) = ap (λ (k : ℕ). if 1 == k then 1 else 0) e in
    record {
      taken = none-start _ _ _ _ _ _
          (record { flit = a.flit_bit; begun = a.head_bit; known = a.operation; empty = a.zeros; last = a.tail_bit ∙ t ∙ sym wanted });
      tail_bit = a.tail_bit;
    }

IsTaken-payload : (h : ℕ) (rest : List ℕ) (f tail n : ℕ) → IsAcceptedPayload tail f → flits_told h ≡ n → tail ≡ (if length (h ∷ rest) + 1 == n then 1 else 0)
    → IsTaken (h ∷ rest) f tail
IsTaken-payload h rest f tail n a e t =
    let wanted : tail_wanted h (length (h ∷ rest)) ≡ (if length (h ∷ rest) + 1 == n then 1 else 0) =
    ap (λ (k : ℕ). if length (h ∷ rest) + 1 == k then 1 else 0) e in
    record {
      taken = none-inside _ _ _ _ _ (record { flit = a.flit_bit; inside = a.head_bit; empty = a.zeros; last = a.tail_bit ∙ t ∙ sym wanted });
      tail_bit = a.tail_bit;
    }

-- each flit of a whole packet is taken
IsTaken-whole : (xs : List ℕ) (f : ℕ) (ys : List ℕ) → IsWhole (xs ++ f ∷ ys) → IsTaken xs f (tail_bit_before ys)
IsTaken-whole [] f [] w = IsTaken-head f 1 1 w.0 w.1 refl
IsTaken-whole [] f (a ∷ b ∷ []) w = IsTaken-head f 0 3 w.0 w.1 refl
IsTaken-whole [] f (a ∷ b ∷ c ∷ d ∷ []) w = IsTaken-head f 0 5 w.0 w.1 refl
IsTaken-whole (h ∷ []) f (b ∷ []) w = IsTaken-payload h [] f 0 3 w.2 w.1 refl
IsTaken-whole (h ∷ []) f (b ∷ c ∷ d ∷ []) w = IsTaken-payload h [] f 0 5 w.2 w.1 refl
IsTaken-whole (h ∷ a ∷ []) f [] w = IsTaken-payload h (a ∷ []) f 1 3 w.3 w.1 refl
IsTaken-whole (h ∷ a ∷ []) f (c ∷ d ∷ []) w = IsTaken-payload h (a ∷ []) f 0 5 w.3 w.1 refl
IsTaken-whole (h ∷ a ∷ b ∷ []) f (d ∷ []) w = IsTaken-payload h (a ∷ b ∷ []) f 0 5 w.4 w.1 refl
IsTaken-whole (h ∷ a ∷ b ∷ c ∷ []) f [] w = IsTaken-payload h (a ∷ b ∷ c ∷ []) f 1 5 w.5 w.1 refl
IsTaken-whole (h ∷ a ∷ b ∷ c ∷ d ∷ []) f ys w = absurd w
IsTaken-whole (h ∷ a ∷ b ∷ c ∷ d ∷ e ∷ more) f ys w = absurd w
IsTaken-whole xs f ys w = absurd w

-- each flit of a spelling is taken after those before it, and only the last has the tail bit
pub IsTaken-spelled : (p : Packet) (xs : List ℕ) (f : ℕ) (ys : List ℕ) → Spells p (xs ++ f ∷ ys) → IsTaken xs f (tail_bit_before ys)
IsTaken-spelled p xs f ys s = IsTaken-whole xs f ys (IsWhole-spelled p (xs ++ f ∷ ys) s)

-- a flit that properly begins a spelling is taken, and has no tail bit
pub IsTaken-begins : (xs : List ℕ) (f : ℕ) → ProperlyBegins (xs ++ f ∷ []) → IsTaken xs f 0
IsTaken-begins xs f b =
    elim (b.rest) as (λ (ys : List ℕ). ys ≢ [] → Spells b.packet ((xs ++ f ∷ []) ++ ys) → IsTaken xs f 0) [
      | [] ↦ λ some s. absurd (some refl)
      | y ∷ ys ↦ λ some s. IsTaken-spelled b.packet xs f (y ∷ ys) (subst (λ (zs : List ℕ). Spells b.packet zs) (append_assoc xs (f ∷ []) (y ∷ ys)) s)
    ] b.more b.spelled

-- what an assembler answers to a flit after those that it has
pub record IsAnswer (xs : List ℕ) (f : ℕ) (answer : Offered) : Type 0 where
  pub whole : (p : Packet) → (answer ≡ Whole p) ↔ Spells p (xs ++ f ∷ [])
  pub more : (answer ≡ More) ↔ ProperlyBegins (xs ++ f ∷ [])
  pub refused : (k : Kind) → (answer ≡ Refused k) ↔ (refusal xs f ≡ Some k)

pub IsAnswer-refused : (xs : List ℕ) (f : ℕ) (k : Kind) → refusal xs f ≡ Some k → IsAnswer xs f (Refused k)
IsAnswer-refused xs f k e =
    record {
      whole = λ p. (λ h. cc, λ s. let t = (IsTaken-spelled p xs f [] s).taken in cc);
      more = (λ h. cc, λ b. let t = (IsTaken-begins xs f b).taken in cc);
      refused = λ j. (λ h. cc, λ h. cc);
    }

begins : (xs : List ℕ) (f : ℕ) → IsBegun (xs ++ f ∷ []) → ProperlyBegins (xs ++ f ∷ [])
begins [] f b = ProperlyBegins-begun f [] b
begins (h ∷ rest) f b = ProperlyBegins-begun h (rest ++ f ∷ []) b

pub IsAnswer-more : (xs : List ℕ) (f : ℕ) → IsBegun xs → f < 2 ^ 64 → refusal xs f ≡ None → field f 62 1 ≡ 0 → IsAnswer xs f More
IsAnswer-more xs f b small e t =
    record {
      whole = λ p. (λ h. cc, λ s. let u : field f 62 1 ≡ 1 = (IsTaken-spelled p xs f [] s).tail_bit in absurd (omega arith));
      more = (λ _. begins xs f (IsBegun-push xs f b small e t), λ _. refl);
      refused = λ j. (λ h. cc, λ h. cc);
    }

pub IsAnswer-whole : (xs : List ℕ) (f : ℕ) → IsBegun xs → f < 2 ^ 64 → refusal xs f ≡ None → field f 62 1 ≡ 1
    → IsAnswer xs f (Whole (packet_told (xs ++ f ∷ [])))
IsAnswer-whole xs f b small e t =
    let zs = xs ++ f ∷ [] in
    let s : Spells (packet_told zs) zs = Spells-whole zs (IsWhole-push xs f b small e t) in
    record {
      whole = λ p. (
        λ h. (let same : packet_told zs ≡ p = cc in subst (λ (q : Packet). Spells q zs) same s),
        λ u. ap Whole
            (one_packet (packet_told zs) p zs s u),
      );
      more = (λ h. cc, λ b. let u : field f 62 1 ≡ 0 = (IsTaken-begins xs f b).tail_bit in absurd (omega arith));
      refused = λ j. (λ h. cc, λ h. cc);
    }
