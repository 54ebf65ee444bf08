-- What an assembler answers to a flit.
use Rattle.std.proofs.Common.{◌≡◌, ◌≢◌, ◌⊎◌, ℕ, zero, suc, ◌+◌, ◌%◌, ◌^◌, ◌<◌, ◌≤◌, ◌∙◌, List, [], ◌∷◌, ◌++◌, length, sym, refl, arith, Bool, true, false}
use Rattle.std.proofs.Common.{inl, inr, length-append}
use Rattle.std.specs.Prelude.{◌==◌, if◌then◌else◌, None, IsTrue}
use Rattle.std.specs.List.{AllByRecursion}
use Rattle.std.proofs.lemmas.Bool.{eqb-true, eqb-false, false≢true}
use Rattle.packet.specs.Flit.{field, operation_told}
use Rattle.packet.specs.Spelling.{ProperlyBegins}
use Rattle.packet.specs.Refusal.{flits_of_request, flits_of_reply, flits_told, tail_wanted, refusal}
use Rattle.packet.specs.Reading.{packet_told, IsAcceptedHead, IsAcceptedPayload, IsBegun}
use Rattle.packet.proofs.Fields.{field_below}
use Rattle.packet.proofs.FlitBits.{IsPayloadFlit-written}
use Rattle.packet.proofs.Refusals.{PassesStart, PassesInside, PassesStart-none, PassesInside-none}
use Rattle.packet.proofs.Accepted.{IsWhole, Spells-whole, IsAcceptedPayload-spelled, zero_or_one}

-- a packet has 1, 3 or 5 flits
record IsCount (n : ℕ) : Type 0 where
  odd : n % 2 ≡ 1
  most : n ≤ 5

IsCount-if : (b : Bool) (m n : ℕ) → IsCount m → IsCount n → IsCount (if b then m else n)
IsCount-if true m n p q = p
IsCount-if false m n p q = q

IsCount-one : IsCount 1
IsCount-one = record { odd = refl; most = omega arith }

IsCount-three : IsCount 3
IsCount-three = record { odd = refl; most = omega arith }

IsCount-five : IsCount 5
IsCount-five = record { odd = refl; most = omega arith }

IsCount-told : (h : ℕ) → IsCount (flits_told h)
IsCount-told h =
    let n = operation_told h in
    IsCount-if (field h 57 1 == 0) (flits_of_request n) (flits_of_reply n)
    (IsCount-if (n == 0) 1 _ IsCount-one (IsCount-if (n == 3) 5 3 IsCount-five IsCount-three)) (IsCount-if (n == 1) 1 3 IsCount-one IsCount-three)

-- the tail bit that is wanted tells whether this is the last flit
last-wanted : (b : Bool) → ◌≡◌ {A = ℕ} (if b then 1 else 0) 1 → b ≡ true
last-wanted true h = refl
last-wanted false h = cc

not_last-wanted : (b : Bool) → ◌≡◌ {A = ℕ} (if b then 1 else 0) 0 → b ≡ false
not_last-wanted true h = cc
not_last-wanted false h = refl

last : (h before : ℕ) → tail_wanted h before ≡ 1 → before + 1 ≡ flits_told h
last h k e = eqb-true (k + 1) (flits_told h) (last-wanted (k + 1 == flits_told h) e)

not_last : (h before : ℕ) → tail_wanted h before ≡ 0 → before + 1 ≢ flits_told h
not_last h k e = eqb-false (k + 1) (flits_told h) (not_last-wanted (k + 1 == flits_told h) e)

-- a flit that is not refused
starts : (f : ℕ) → refusal [] f ≡ None → PassesStart (field f 61 1) (field f 63 1) (operation_told f) (field f 32 8) (field f 62 1) (tail_wanted f 0)
starts f e = PassesStart-none _ _ _ _ _ _ (field_below f 61 1) (field_below f 63 1) e

goes_on : (h : ℕ) (rest : List ℕ) (f : ℕ) → refusal (h ∷ rest) f ≡ None
    → PassesInside (field f 61 1) (field f 63 1) (field f 32 29) (field f 62 1) (tail_wanted h (length (h ∷ rest)))
goes_on h rest f e = PassesInside-none _ _ _ _ _ (field_below f 61 1) (field_below f 63 1) e

head_taken : (f tail : ℕ) → f < 2 ^ 64 → refusal [] f ≡ None → field f 62 1 ≡ tail → IsAcceptedHead tail f
head_taken f tail small e t =
    let p = starts f e in
    record { whole = small; head_bit = p.begun; tail_bit = t; flit_bit = p.flit; operation = p.known; zeros = p.empty }

payload_taken : (h : ℕ) (rest : List ℕ) (f tail : ℕ) → f < 2 ^ 64 → refusal (h ∷ rest) f ≡ None → field f 62 1 ≡ tail → IsAcceptedPayload tail f
payload_taken h rest f tail small e t =
    let p = goes_on h rest f e in
    record { whole = small; head_bit = p.inside; tail_bit = t; flit_bit = p.flit; zeros = p.empty; payload = refl }

AllByRecursion-push : (P : ℕ → Type 0) (xs : List ℕ) (x : ℕ) → AllByRecursion P xs → P x → AllByRecursion P (xs ++ x ∷ [])
AllByRecursion-push P [] x all p = (p, all)
AllByRecursion-push P (y ∷ ys) x all p = (all.0, AllByRecursion-push P ys x all.1 p)

-- a flit that is taken and has no tail bit leaves a packet begun
pub IsBegun-push : (xs : List ℕ) (f : ℕ) → IsBegun xs → f < 2 ^ 64 → refusal xs f ≡ None → field f 62 1 ≡ 0 → IsBegun (xs ++ f ∷ [])
IsBegun-push [] f b small e t =
    let other = not_last f 0 (sym (starts f e).last ∙ t) in
    (head_taken f 0 small e t, tt, omega (arith, other, (IsCount-told f).odd, (IsCount-told f).most))
IsBegun-push (h ∷ rest) f b small e t =
    let other = not_last h (length (h ∷ rest)) (sym (goes_on h rest f e).last ∙ t) in
    (b.0, AllByRecursion-push (IsAcceptedPayload 0) rest f b.1 (payload_taken h rest f 0 small e t), omega (arith, other, b.2, length-append rest (f ∷ [])))

-- a flit that is taken and has the tail bit makes a packet whole
pub IsWhole-push : (xs : List ℕ) (f : ℕ) → IsBegun xs → f < 2 ^ 64 → refusal xs f ≡ None → field f 62 1 ≡ 1 → IsWhole (xs ++ f ∷ [])
IsWhole-push [] f b small e t = (head_taken f 1 small e t, sym (last f 0 (sym (starts f e).last ∙ t)))
IsWhole-push (h ∷ []) f b small e t =
    absurd (omega (arith, last h 1 (sym (goes_on h [] f e).last ∙ t), (IsCount-told h).odd))
IsWhole-push (h ∷ a ∷ []) f b small e t =
    (b.0, sym (last h 2 (sym (goes_on h (a ∷ []) f e).last ∙ t)), b.1.0, payload_taken h (a ∷ []) f 1 small e t)
IsWhole-push (h ∷ a ∷ c ∷ []) f b small e t =
    absurd (omega (arith, last h 3 (sym (goes_on h (a ∷ c ∷ []) f e).last ∙ t), (IsCount-told h).odd))
IsWhole-push (h ∷ a ∷ c ∷ d ∷ []) f b small e t =
    (b.0, sym (last h 4 (sym (goes_on h (a ∷ c ∷ d ∷ []) f e).last ∙ t)), b.1.0, b.1.1.0, b.1.1.1.0, payload_taken h (a ∷ c ∷ d ∷ []) f 1 small e t)
IsWhole-push (h ∷ a ∷ c ∷ d ∷ g ∷ more) f b small e t = absurd (omega (arith, b.2, (IsCount-told h).most))

-- what is begun has few flits
pub length-begun : (xs : List ℕ) → IsBegun xs → length xs < 5
length-begun [] b = omega arith
length-begun (h ∷ rest) b = omega (arith, b.2, (IsCount-told h).most)

-- flits of zeros that end any packet
blank : IsAcceptedPayload 0 (2 ^ 61)
blank = IsAcceptedPayload-spelled 0 0 (2 ^ 61) (IsPayloadFlit-written 0 (2 ^ 61) 0 (omega arith) (omega arith) (omega arith))

blank_tail : IsAcceptedPayload 1 (2 ^ 62 + 2 ^ 61)
blank_tail = IsAcceptedPayload-spelled 1 0 (2 ^ 62 + 2 ^ 61) (IsPayloadFlit-written 0 (2 ^ 62 + 2 ^ 61) 1 (omega arith) (omega arith) (omega arith))

ProperlyBegins-whole : (xs : List ℕ) (y : ℕ) (ys : List ℕ) → IsWhole (xs ++ y ∷ ys) → ProperlyBegins xs
ProperlyBegins-whole xs y ys w =
    record { packet = packet_told (xs ++ y ∷ ys); rest = y ∷ ys; more = λ e. cc; spelled = Spells-whole (xs ++ y ∷ ys) w }

three_or_five : (n : ℕ) → IsCount n → 1 < n → (n ≡ 3) ⊎ (n ≡ 5)
three_or_five zero c h = absurd (omega arith)
three_or_five (suc zero) c h = absurd (omega arith)
three_or_five (suc (suc zero)) c h = absurd (omega (arith, c.odd))
three_or_five (suc (suc (suc zero))) c h = inl refl
three_or_five (suc (suc (suc (suc zero)))) c h = absurd (omega (arith, c.odd))
three_or_five (suc (suc (suc (suc (suc n))))) c h = inr (omega (arith, c.most))

-- what is begun properly begins a spelling
pub ProperlyBegins-begun : (h : ℕ) (rest : List ℕ) → IsBegun (h ∷ rest) → ProperlyBegins (h ∷ rest)
ProperlyBegins-begun h [] b =
    elim (three_or_five (flits_told h) (IsCount-told h) (omega (arith, b.2))) [
      | inl e ↦ ProperlyBegins-whole (h ∷ []) (2 ^ 61) ((2 ^ 62 + 2 ^ 61) ∷ []) (b.0, e, blank, blank_tail)
      | inr e ↦ ProperlyBegins-whole (h ∷ []) (2 ^ 61) ((2 ^ 61) ∷ (2 ^ 61) ∷ (2 ^ 62 + 2 ^ 61) ∷ []) (b.0, e, blank, blank, blank, blank_tail)
    ]
ProperlyBegins-begun h (a ∷ []) b =
    elim (three_or_five (flits_told h) (IsCount-told h) (omega (arith, b.2))) [
      | inl e ↦ ProperlyBegins-whole (h ∷ a ∷ []) (2 ^ 62 + 2 ^ 61) [] (b.0, e, b.1.0, blank_tail)
      | inr e ↦ ProperlyBegins-whole (h ∷ a ∷ []) (2 ^ 61) ((2 ^ 61) ∷ (2 ^ 62 + 2 ^ 61) ∷ []) (b.0, e, b.1.0, blank, blank, blank_tail)
    ]
ProperlyBegins-begun h (a ∷ c ∷ []) b =
    elim (three_or_five (flits_told h) (IsCount-told h) (omega (arith, b.2))) [
      | inl e ↦ absurd (omega (arith, b.2))
      | inr e ↦ ProperlyBegins-whole (h ∷ a ∷ c ∷ []) (2 ^ 61) ((2 ^ 62 + 2 ^ 61) ∷ []) (b.0, e, b.1.0, b.1.1.0, blank, blank_tail)
    ]
ProperlyBegins-begun h (a ∷ c ∷ d ∷ []) b =
    elim (three_or_five (flits_told h) (IsCount-told h) (omega (arith, b.2))) [
      | inl e ↦ absurd (omega (arith, b.2))
      | inr e ↦ ProperlyBegins-whole (h ∷ a ∷ c ∷ d ∷ []) (2 ^ 62 + 2 ^ 61) [] (b.0, e, b.1.0, b.1.1.0, b.1.1.1.0, blank_tail)
    ]
ProperlyBegins-begun h (a ∷ c ∷ d ∷ g ∷ more) b = absurd (omega (arith, b.2, (IsCount-told h).most))

-- a flit that is not seen to be a tail has no tail bit
pub no_tail : (f : ℕ) → (field f 62 1 ≡ 1 → IsTrue false) → field f 62 1 ≡ 0
no_tail f h =
    elim (zero_or_one (field f 62 1) (field_below f 62 1)) [
      | inl e ↦ e
      | inr e ↦ absurd (false≢true (h e))
    ]
