-- The lists of flits that an assembler takes are the spellings and what begins one.
use Rattle.std.proofs.Common.{◌≡◌, ◌⊎◌, ℕ, zero, suc, ◌+◌, ◌*◌, ◌/◌, ◌%◌, ◌^◌, ◌<◌, ◌≤◌, ◌∙◌, List, [], ◌∷◌, length, get_or, sym, ap, refl, subst, arith, inl}
use Rattle.std.proofs.Common.{inr}
use Rattle.std.specs.Prelude.{◌==◌, if◌then◌else◌}
use Rattle.packet.specs.declared.kinds.Code.{Code}
use Rattle.packet.specs.declared.kinds.Code.TheVariants as code
use Rattle.packet.specs.declared.kinds.Packet.{Packet}
use Rattle.packet.specs.Kinds.{code_of, IsReplyOf}
use Rattle.packet.specs.Flit.{field, Heading, IsHeadFlit, IsPayloadFlit, operation_told}
use Rattle.packet.specs.Numbers.{code_number}
use Rattle.packet.specs.Spelling.{values_of_op, values_of_reply, values_of, heading_of, IsSound, SpellsWith, Spells}
use Rattle.packet.specs.Refusal.{flits_of_request, flits_of_reply, flits_told}
use Rattle.packet.specs.Reading.{heading_told, code_numbered, op_with, reply_with, packet_with, value_at, packet_told, IsAcceptedHead, IsAcceptedPayload}
use Rattle.packet.proofs.Fields.{field_below}
use Rattle.packet.proofs.Spelled.{code_number_below}
use Rattle.packet.proofs.Told.{heading_told-head, heading_spelled, packet_told-spelled}

-- a whole packet, flit by flit
abbrev pub IsWhole : List ℕ → Type 0
IsWhole (h ∷ []) = IsAcceptedHead 1 h × (flits_told h ≡ 1)
IsWhole (h ∷ a ∷ b ∷ []) =
    IsAcceptedHead 0 h × (flits_told h ≡ 3) × IsAcceptedPayload 0 a × IsAcceptedPayload 1 b
IsWhole (h ∷ a ∷ b ∷ c ∷ d ∷ []) =
    IsAcceptedHead 0 h × (flits_told h ≡ 5) × IsAcceptedPayload 0 a × IsAcceptedPayload 0 b × IsAcceptedPayload 0 c × IsAcceptedPayload 1 d
IsWhole _ = ⊥

-- how many values and flits go together
pub data Counts (v w : ℕ) : List ℕ → ℕ → Type 0 where
  none : Counts v w [] 1
  one : Counts v w (v ∷ []) 3
  two : Counts v w (v ∷ w ∷ []) 5

counts-request : (c : Code) (v w : ℕ) → Counts v w (values_of_op (op_with c v w)) (flits_of_request (code_number c))
counts-request code.Load v w = none
counts-request code.Store v w = one
counts-request code.Swap v w = one
counts-request code.Cas v w = two
counts-request code.Add v w = one
counts-request code.And v w = one
counts-request code.Or v w = one
counts-request code.Xor v w = one
counts-request code.Max v w = one
counts-request code.Min v w = one

counts-reply : (c : Code) (v w : ℕ) → Counts v w (values_of_reply (reply_with c v)) (flits_of_reply (code_number c))
counts-reply code.Load v w = one
counts-reply code.Store v w = none
counts-reply code.Swap v w = one
counts-reply code.Cas v w = one
counts-reply code.Add v w = one
counts-reply code.And v w = one
counts-reply code.Or v w = one
counts-reply code.Xor v w = one
counts-reply code.Max v w = one
counts-reply code.Min v w = one

code_of-op_with : (c : Code) (v w : ℕ) → code_of (op_with c v w) ≡ c
code_of-op_with code.Load v w = refl
code_of-op_with code.Store v w = refl
code_of-op_with code.Swap v w = refl
code_of-op_with code.Cas v w = refl
code_of-op_with code.Add v w = refl
code_of-op_with code.And v w = refl
code_of-op_with code.Or v w = refl
code_of-op_with code.Xor v w = refl
code_of-op_with code.Max v w = refl
code_of-op_with code.Min v w = refl

IsReplyOf-reply_with : (c : Code) (v : ℕ) → IsReplyOf c (reply_with c v)
IsReplyOf-reply_with code.Load v = refl
IsReplyOf-reply_with code.Store v = refl
IsReplyOf-reply_with code.Swap v = refl
IsReplyOf-reply_with code.Cas v = refl
IsReplyOf-reply_with code.Add v = refl
IsReplyOf-reply_with code.And v = refl
IsReplyOf-reply_with code.Or v = refl
IsReplyOf-reply_with code.Xor v = refl
IsReplyOf-reply_with code.Max v = refl
IsReplyOf-reply_with code.Min v = refl

code_number-code_numbered : (n : ℕ) → n ≤ 9 → code_number (code_numbered n) ≡ n
code_number-code_numbered zero h = refl
code_number-code_numbered (suc zero) h = refl
code_number-code_numbered (suc (suc zero)) h = refl
code_number-code_numbered (suc (suc (suc zero))) h = refl
code_number-code_numbered (suc (suc (suc (suc zero)))) h = refl
code_number-code_numbered (suc (suc (suc (suc (suc zero))))) h = refl
code_number-code_numbered (suc (suc (suc (suc (suc (suc zero)))))) h = refl
code_number-code_numbered (suc (suc (suc (suc (suc (suc (suc zero))))))) h = refl
code_number-code_numbered (suc (suc (suc (suc (suc (suc (suc (suc zero)))))))) h = refl
code_number-code_numbered (suc (suc (suc (suc (suc (suc (suc (suc (suc zero))))))))) h = refl
code_number-code_numbered (suc (suc (suc (suc (suc (suc (suc (suc (suc (suc n)))))))))) h = absurd (omega arith)

-- the packet of a heading: it tells that heading, is sound, and brings as many values as the heading says
pub record IsPacketOf (told : Heading) (v w : ℕ) (p : Packet) : Type 0 where
  pub heading : heading_of p ≡ told
  pub sound : IsSound p
  pub counts : Counts v w (values_of p) (if told.class == 0 then flits_of_request told.operation else flits_of_reply told.operation)

IsPacketOf-request : (o d s g p v w : ℕ) → o ≤ 9
    → IsPacketOf (record { operation = o; class = 0; destination = d; source = s; tag = g; place = p }) v w
    (packet_with (record { operation = o; class = 0; destination = d; source = s; tag = g; place = p }) v w)
IsPacketOf-request o d s g p v w known =
    let c = code_numbered o in
    let n : code_number c ≡ o = code_number-code_numbered o known in
    let made : ℕ → Heading = λ (k : ℕ). record { operation = k; class = 0; destination = d; source = s; tag = g; place = p } in
    record {
      heading = ap made (ap code_number (code_of-op_with c v w) ∙ n);
      sound = tt;
      counts = subst (λ (k : ℕ). Counts v w (values_of_op (op_with c v w)) (flits_of_request k)) n (counts-request c v w);
    }

IsPacketOf-reply : (o d s g p v w : ℕ) → o ≤ 9
    → IsPacketOf (record { operation = o; class = 1; destination = d; source = s; tag = g; place = p }) v w
    (packet_with (record { operation = o; class = 1; destination = d; source = s; tag = g; place = p }) v w)
IsPacketOf-reply o d s g p v w known =
    let c = code_numbered o in
    let n : code_number c ≡ o = code_number-code_numbered o known in
    let made : ℕ → Heading = λ (k : ℕ). record { operation = k; class = 1; destination = d; source = s; tag = g; place = p } in
    record {
      heading = ap made n;
      sound = IsReplyOf-reply_with c v;
      counts = subst (λ (k : ℕ). Counts v w (values_of_reply (reply_with c v)) (flits_of_reply k)) n (counts-reply c v w);
    }

pub zero_or_one : (n : ℕ) → n < 2 → (n ≡ 0) ⊎ (n ≡ 1)
zero_or_one zero h = inl refl
zero_or_one (suc zero) h = inr refl
zero_or_one (suc (suc n)) h = absurd (omega arith)

pub IsPacketOf-told : (told : Heading) (v w : ℕ) → told.class < 2 → told.operation ≤ 9 → IsPacketOf told v w (packet_with told v w)
IsPacketOf-told told v w small known =
    elim (zero_or_one told.class small) [
      | inl e ↦ subst (λ (k : ℕ). IsPacketOf (record told { class = k }) v w (packet_with (record told { class = k }) v w)) (sym e)
          (IsPacketOf-request told.operation told.destination told.source told.tag told.place v w known)
      | inr e ↦ subst (λ (k : ℕ). IsPacketOf (record told { class = k }) v w (packet_with (record told { class = k }) v w)) (sym e)
          (IsPacketOf-reply told.operation told.destination told.source told.tag told.place v w known)
    ]

-- an accepted head flit tells its heading
pub IsHeadFlit-accepted : (tail h : ℕ) → IsAcceptedHead tail h → IsHeadFlit tail (heading_told h) h
IsHeadFlit-accepted tail h a =
    record {
      whole = a.whole;
      head_bit = a.head_bit;
      tail_bit = a.tail_bit;
      flit_bit = a.flit_bit;
      operation_low = omega (arith, field_below h 58 3);
      class = refl;
      destination = refl;
      source = refl;
      tag = refl;
      operation_high = omega (arith, field_below h 58 3);
      zeros = a.zeros;
      place = refl;
    }

-- the halves of a value
high_half : (a b v : ℕ) → v ≡ a * 2 ^ 32 + b → b < 2 ^ 32 → a ≡ v / 2 ^ 32
high_half a b v e small = omega arith

low_half : (a b v : ℕ) → v ≡ a * 2 ^ 32 + b → b < 2 ^ 32 → b ≡ v % 2 ^ 32
low_half a b v e small = omega arith

high-told : (tail a b : ℕ) → IsAcceptedPayload tail a → IsPayloadFlit tail ((field a 0 32 * 2 ^ 32 + field b 0 32) / 2 ^ 32) a
high-told tail a b s =
    subst (λ (k : ℕ). IsPayloadFlit tail k a) (high_half (field a 0 32) (field b 0 32) _ refl (field_below b 0 32)) s

low-told : (tail a b : ℕ) → IsAcceptedPayload tail b → IsPayloadFlit tail ((field a 0 32 * 2 ^ 32 + field b 0 32) % 2 ^ 32) b
low-told tail a b s =
    subst (λ (k : ℕ). IsPayloadFlit tail k b) (low_half (field a 0 32) (field b 0 32) _ refl (field_below b 0 32)) s

-- a whole packet is spelled with its values
spelled-counts : (xs vs : List ℕ) (n : ℕ) → IsWhole xs → flits_told (get_or xs 0 0) ≡ n → Counts (value_at xs 1) (value_at xs 3) vs n
    → SpellsWith (heading_told (get_or xs 0 0)) vs xs
spelled-counts (h ∷ []) vs n w e c =
    elim c as (λ us k _. flits_told h ≡ k → SpellsWith (heading_told h) us (h ∷ [])) [
      | none ↦ λ _. IsHeadFlit-accepted 1 h w.0
      | one ↦ λ e. absurd (omega (arith, w.1))
      | two ↦ λ e. absurd (omega (arith, w.1))
    ] e
spelled-counts (h ∷ a ∷ b ∷ []) vs n w e c =
    elim c as (λ us k _. flits_told h ≡ k → SpellsWith (heading_told h) us (h ∷ a ∷ b ∷ [])) [
      | none ↦ λ e. absurd (omega (arith, w.1))
      | one ↦ λ _. (IsHeadFlit-accepted 0 h w.0, high-told 0 a b w.2, low-told 1 a b w.3)
      | two ↦ λ e. absurd (omega (arith, w.1))
    ] e
spelled-counts (h ∷ a ∷ b ∷ f ∷ d ∷ []) vs n w e c =
    elim c as (λ us k _. flits_told h ≡ k → SpellsWith (heading_told h) us (h ∷ a ∷ b ∷ f ∷ d ∷ [])) [
      | none ↦ λ e. absurd (omega (arith, w.1))
      | one ↦ λ e. absurd (omega (arith, w.1))
      | two ↦ λ _. (IsHeadFlit-accepted 0 h w.0, high-told 0 a b w.2, low-told 0 a b w.3, high-told 0 f d w.4, low-told 1 f d w.5)
    ] e
spelled-counts xs vs n w e c = absurd w

known-whole : (xs : List ℕ) → IsWhole xs → operation_told (get_or xs 0 0) ≤ 9
known-whole (h ∷ []) w = w.0.operation
known-whole (h ∷ a ∷ b ∷ []) w = w.0.operation
known-whole (h ∷ a ∷ b ∷ c ∷ d ∷ []) w = w.0.operation
known-whole xs w = absurd w

-- the flits of a whole packet spell what they tell
pub Spells-whole : (xs : List ℕ) → IsWhole xs → Spells (packet_told xs) xs
Spells-whole xs w =
    let h = get_or xs 0 0 in
    let p = packet_told xs in
    let of = IsPacketOf-told (heading_told h) (value_at xs 1) (value_at xs 3) (field_below h 57 1) (known-whole xs w) in
    record {
      sound = of.sound;
      bits = subst (λ (t : Heading). SpellsWith t (values_of p) xs) (sym of.heading) (spelled-counts xs (values_of p) _ w refl of.counts);
    }

length-counts : (v w : ℕ) (vs : List ℕ) (n : ℕ) → Counts v w vs n → n ≡ 1 + 2 * length vs
length-counts v w vs n c = elim c as (λ us k _. k ≡ 1 + 2 * length us) [ none ↦ refl | one ↦ refl | two ↦ refl ]

IsAcceptedHead-spelled : (told : Heading) (tail h : ℕ) → IsHeadFlit tail told h → told.operation ≤ 9 → IsAcceptedHead tail h
IsAcceptedHead-spelled told tail h s known =
    record {
      whole = s.whole;
      head_bit = s.head_bit;
      tail_bit = s.tail_bit;
      flit_bit = s.flit_bit;
      operation = subst (λ (t : Heading). t.operation ≤ 9) (sym (heading_told-head told tail h s)) known;
      zeros = s.zeros;
    }

pub IsAcceptedPayload-spelled : (tail half n : ℕ) → IsPayloadFlit tail half n → IsAcceptedPayload tail n
IsAcceptedPayload-spelled tail half n s = subst (λ (k : ℕ). IsPayloadFlit tail k n) (sym s.payload) s

whole-counts : (told : Heading) (vs xs : List ℕ) → SpellsWith told vs xs → told.operation ≤ 9 → flits_told (get_or xs 0 0) ≡ 1 + 2 * length vs → IsWhole xs
whole-counts told [] (h ∷ []) s known e = (IsAcceptedHead-spelled told 1 h s known, e)
whole-counts told (v ∷ []) (h ∷ a ∷ b ∷ []) s known e =
    (IsAcceptedHead-spelled told 0 h s.0 known, e, IsAcceptedPayload-spelled 0 _ a s.1, IsAcceptedPayload-spelled 1 _ b s.2)
whole-counts told (v ∷ w ∷ []) (h ∷ a ∷ b ∷ c ∷ d ∷ []) s known e = (
  IsAcceptedHead-spelled told 0 h s.0 known,
  e,
  IsAcceptedPayload-spelled 0 _ a s.1,
  IsAcceptedPayload-spelled 0 _ b s.2,
  IsAcceptedPayload-spelled 0 _ c
      s.3,
  IsAcceptedPayload-spelled 1 _ d s.4,
)
whole-counts told vs xs s known e = absurd s

-- a spelling is a whole packet
pub IsWhole-spelled : (p : Packet) (xs : List ℕ) → Spells p xs → IsWhole xs
IsWhole-spelled p xs s =
    let h = get_or xs 0 0 in
    let told = heading_of p in
    let small : told.operation < 10 = code_number_below _ in
    let e : heading_told h ≡ told = heading_spelled told (values_of p) xs s.bits in
    let known : told.operation ≤ 9 = omega arith in
    let known' : operation_told h ≤ 9 = subst (λ (t : Heading). t.operation ≤ 9) (sym e) known in
    let of = IsPacketOf-told (heading_told h) (value_at xs 1) (value_at xs 3) (field_below h 57 1) known' in
    let n = length-counts _ _ _ _ of.counts in
    whole-counts told (values_of p) xs s.bits known (subst (λ (q : Packet). flits_told h ≡ 1 + 2 * length (values_of q)) (packet_told-spelled p xs s) n)
