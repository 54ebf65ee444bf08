-- What flits tell is what they spell.
use Rattle.std.proofs.Common.{◌≡◌, ℕ, ◌+◌, ◌*◌, ◌/◌, ◌%◌, ◌^◌, ◌∙◌, List, [], ◌∷◌, get_or, sym, ap, refl, arith}
use Rattle.packet.specs.declared.kinds.Op.{Op}
use Rattle.packet.specs.declared.kinds.Op.TheVariants.{Load, Store, Swap, Cas, Add, And, Or, Xor, Max, Min}
use Rattle.packet.specs.declared.kinds.Code.{Code}
use Rattle.packet.specs.declared.kinds.Code.TheVariants as code
use Rattle.packet.specs.declared.kinds.Reply.{Reply}
use Rattle.packet.specs.declared.kinds.Reply.TheVariants.{Old, Ok as Stored}
use Rattle.packet.specs.declared.kinds.Packet.{Packet}
use Rattle.packet.specs.declared.kinds.Packet.TheVariants.{Request, Response}
use Rattle.packet.specs.Kinds.{code_of, IsReplyOf}
use Rattle.packet.specs.Flit.{field, Heading, IsHeadFlit}
use Rattle.packet.specs.Numbers.{code_number}
use Rattle.packet.specs.Spelling.{values_of_op, values_of_reply, heading_of, SpellsWith, Spells}
use Rattle.packet.specs.Reading.{heading_told, code_numbered, op_with, reply_with, packet_with, value_at, packet_told}

pub code_numbered-code_number : (c : Code) → code_numbered (code_number c) ≡ c
code_numbered-code_number code.Load = refl
code_numbered-code_number code.Store = refl
code_numbered-code_number code.Swap = refl
code_numbered-code_number code.Cas = refl
code_numbered-code_number code.Add = refl
code_numbered-code_number code.And = refl
code_numbered-code_number code.Or = refl
code_numbered-code_number code.Xor = refl
code_numbered-code_number code.Max = refl
code_numbered-code_number code.Min = refl

same_heading : (a b : Heading) → a.operation ≡ b.operation → a.class ≡ b.class → a.destination ≡ b.destination → a.source ≡ b.source → a.tag ≡ b.tag
    → a.place ≡ b.place → a ≡ b
same_heading a b o c d s t p =
    ap (λ k. record a { operation = k }) o
    ∙ ap (λ k. record a { operation = b.operation; class = k }) c
    ∙ ap (λ k. record a { operation = b.operation; class = b.class; destination = k }) d
    ∙ ap (λ k. record a { operation = b.operation; class = b.class; destination = b.destination; source = k }) s
    ∙ ap (λ k. record b { tag = k; place = a.place }) t
    ∙ ap (λ k. record b { place = k }) p

-- the four bits of an operation, put together
joined : (n high low : ℕ) → low ≡ n % 8 → high ≡ n / 8 → high * 8 + low ≡ n
joined n high low e f = omega arith

pub heading_told-head : (told : Heading) (tail h : ℕ) → IsHeadFlit tail told h → heading_told h ≡ told
heading_told-head told t h s =
    same_heading (heading_told h) told (joined told.operation (field h 40 1) (field h 58 3) s.operation_low s.operation_high) s.class s.destination s.source
    s.tag s.place

pub heading_spelled : (told : Heading) (vs xs : List ℕ) → SpellsWith told vs xs → heading_told (get_or xs 0 0) ≡ told
heading_spelled told [] (h ∷ []) s = heading_told-head told 1 h s
heading_spelled told (v ∷ []) (h ∷ a ∷ b ∷ []) s = heading_told-head told 0 h s.0
heading_spelled told (v ∷ w ∷ []) (h ∷ a ∷ b ∷ c ∷ d ∷ []) s = heading_told-head told 0 h s.0
heading_spelled told vs xs s = absurd s

-- the halves of a value, put together
halves : (v high low : ℕ) → high ≡ v / 2 ^ 32 → low ≡ v % 2 ^ 32 → high * 2 ^ 32 + low ≡ v
halves v high low e f = omega arith

one_value : (told : Heading) (v : ℕ) (xs : List ℕ) → SpellsWith told (v ∷ []) xs → value_at xs 1 ≡ v
one_value told v (h ∷ a ∷ b ∷ []) s = halves v (field a 0 32) (field b 0 32) s.1.payload s.2.payload
one_value told v xs s = absurd s

first_value : (told : Heading) (v w : ℕ) (xs : List ℕ) → SpellsWith told (v ∷ w ∷ []) xs → value_at xs 1 ≡ v
first_value told v w (h ∷ a ∷ b ∷ c ∷ d ∷ []) s = halves v (field a 0 32) (field b 0 32) s.1.payload s.2.payload
first_value told v w xs s = absurd s

second_value : (told : Heading) (v w : ℕ) (xs : List ℕ) → SpellsWith told (v ∷ w ∷ []) xs → value_at xs 3 ≡ w
second_value told v w (h ∷ a ∷ b ∷ c ∷ d ∷ []) s = halves w (field c 0 32) (field d 0 32) s.3.payload s.4.payload
second_value told v w xs s = absurd s

op_told : (told : Heading) (op : Op) (xs : List ℕ) → SpellsWith told (values_of_op op) xs → op_with (code_of op) (value_at xs 1) (value_at xs 3) ≡ op
op_told told Load xs s = refl
op_told told (Store v) xs s = ap Store (one_value told v xs s)
op_told told (Swap v) xs s = ap Swap (one_value told v xs s)
op_told told (Cas e n) xs s =
    ap (λ k. Cas k (value_at xs 3)) (first_value told e n xs s) ∙ ap (λ k. Cas e k) (second_value told e n xs s)
op_told told (Add v) xs s = ap Add (one_value told v xs s)
op_told told (And v) xs s = ap And (one_value told v xs s)
op_told told (Or v) xs s = ap Or (one_value told v xs s)
op_told told (Xor v) xs s = ap Xor (one_value told v xs s)
op_told told (Max v) xs s = ap Max (one_value told v xs s)
op_told told (Min v) xs s = ap Min (one_value told v xs s)

reply_told : (told : Heading) (c : Code) (r : Reply) (xs : List ℕ) → IsReplyOf c r → SpellsWith told (values_of_reply r) xs → reply_with c (value_at xs 1) ≡ r
reply_told told code.Store Stored xs q s = refl
reply_told told code.Load (Old w) xs q s = ap Old (one_value told w xs s)
reply_told told code.Swap (Old w) xs q s = ap Old (one_value told w xs s)
reply_told told code.Cas (Old w) xs q s = ap Old (one_value told w xs s)
reply_told told code.Add (Old w) xs q s = ap Old (one_value told w xs s)
reply_told told code.And (Old w) xs q s = ap Old (one_value told w xs s)
reply_told told code.Or (Old w) xs q s = ap Old (one_value told w xs s)
reply_told told code.Xor (Old w) xs q s = ap Old (one_value told w xs s)
reply_told told code.Max (Old w) xs q s = ap Old (one_value told w xs s)
reply_told told code.Min (Old w) xs q s = ap Old (one_value told w xs s)
reply_told told c r xs q s = cc

-- the flits that spell a packet tell it
pub packet_told-spelled : (p : Packet) (xs : List ℕ) → Spells p xs → packet_told xs ≡ p
packet_told-spelled (Request r) xs s =
    let told = heading_of (Request r) in
    let v = value_at xs 1 in
    let w = value_at xs 3 in
    let request : Op → Packet = λ (o : Op). Request (record r { op = o }) in
    ap (λ k. packet_with k v w) (heading_spelled told (values_of_op r.op) xs s.bits)
    ∙ ap (λ c. request (op_with c v w)) (code_numbered-code_number (code_of r.op))
    ∙ ap request (op_told told r.op xs s.bits)
packet_told-spelled (Response r) xs s =
    let told = heading_of (Response r) in
    let v = value_at xs 1 in
    let w = value_at xs 3 in
    ap (λ k. packet_with k v w) (heading_spelled told (values_of_reply r.reply) xs s.bits)
    ∙ ap (λ c. Response (record r { code = c; reply = reply_with c v })) (code_numbered-code_number r.code)
    ∙ ap (λ a. Response (record r { reply = a })) (reply_told told r.code r.reply xs s.sound s.bits)

-- a list of flits spells at most one packet
pub one_packet : (p q : Packet) (xs : List ℕ) → Spells p xs → Spells q xs → p ≡ q
one_packet p q xs s t = sym (packet_told-spelled p xs s) ∙ packet_told-spelled q xs t
