-- The word that a request names stands in its head flit.
use Rattle.std.proofs.Common.{◌≡◌, ℕ, ◌<◌, List, [], ◌∷◌, ◌++◌, Option, Some, None, refl, sym, ap, subst, arith}
use Rattle.std.specs.Prelude.{IfSome}
use Rattle.torus.specs.declared.shape.Class.TheVariants as class
use Rattle.packet.specs.declared.heading.Head.{Head}
use Rattle.packet.specs.declared.kinds.Packet.TheVariants as packet
use Rattle.packet.specs.declared.kinds.Request.{Request}
use Rattle.packet.specs.declared.assembler.Offered.{Offered}
use Rattle.packet.specs.declared.assembler.Offered.TheVariants.{More, Whole, Refused}
use Rattle.packet.specs.Answer.{flits_left}
use Rattle.packet.specs.Flit.{Heading, field, class_numbered}
use Rattle.packet.specs.Flits.{head_of}
use Rattle.packet.specs.Spelling.{Spells, TellsPacket, IsTailShaped, heading_of, values_of}
use Rattle.packet.proofs.Shapes.{TellsPacket-spelled, IsTailShaped-spelled}
use Rattle.packet.proofs.Told.{heading_spelled}
use Rattle.home_bank.specs.BankAgent.{NamesWord}
use Rattle.home_bank.specs.Inside.{BeginsAtWord}

named_by : (h : ℕ) (flits : List ℕ) (r : Request) → NamesWord h → Spells (packet.Request r) (h ∷ flits) → r.word < 65536
named_by h flits r names s =
    let p = packet.Request r in
    let t : TellsPacket p h = TellsPacket-spelled p h flits s in
    let told : head_of h ≡ Some (record { destination = field h 51 6; class = class_numbered (field h 57 1) }) = rw (t.head_bit, t.flit_bit) refl in
    let low : class_numbered (field h 57 1) ≡ class.Request → field h 0 32 < 65536 =
    subst (λ (o : Option Head). IfSome o (λ head. head.class ≡ class.Request → field h 0 32 < 65536)) told names in
    let place : field h 0 32 ≡ r.word = ap (λ (x : Heading). x.place) (heading_spelled (heading_of p) (values_of p) (h ∷ flits) s.bits) in
    omega (arith, place, low t.class)

-- a request that came whole names a word that may be
pub request_word : (so_far : List ℕ) (flit : ℕ) (r : Request) → BeginsAtWord so_far → NamesWord flit → Spells (packet.Request r) (so_far ++ flit ∷ [])
    → r.word < 65536
request_word [] flit r begun names s = named_by flit [] r names s
request_word (h ∷ flits) flit r begun names s = named_by h (flits ++ flit ∷ []) r begun s

-- what is begun after an answer to such a flit
pub begun_after : (so_far : List ℕ) (flit : ℕ) (answer : Offered) → BeginsAtWord so_far → NamesWord flit → BeginsAtWord (flits_left answer so_far flit)
begun_after [] flit More begun names = names
begun_after (h ∷ flits) flit More begun names = begun
begun_after so_far flit (Whole p) begun names = tt
begun_after so_far flit (Refused k) begun names = begun

-- no flit after the head has the head bit
no_head : (so_far more : List ℕ) (flit : ℕ) → IsTailShaped (so_far ++ flit ∷ more) → field flit 63 1 ≡ 0
no_head [] more flit shaped = shaped.0
no_head (f ∷ so_far) more flit shaped = no_head so_far more flit shaped.2

-- the flits of a request for a word that may be are acceptable
pub acceptable : (r : Request) (so_far more : List ℕ) (flit : ℕ) → r.word < 65536 → Spells (packet.Request r) (so_far ++ flit ∷ more) → NamesWord flit
acceptable r [] more flit low s =
    let p = packet.Request r in
    let t : TellsPacket p flit = TellsPacket-spelled p flit more s in
    let told : head_of flit ≡ Some (record { destination = field flit 51 6; class = class_numbered (field flit 57 1) }) = rw (t.head_bit, t.flit_bit) refl in
    let place : field flit 0 32 ≡ r.word = ap (λ (x : Heading). x.place) (heading_spelled (heading_of p) (values_of p) (flit ∷ more) s.bits) in
    subst (λ (o : Option Head). IfSome o (λ head. head.class ≡ class.Request → field flit 0 32 < 65536)) (sym told) (λ is. omega (arith, place, low))
acceptable r (h ∷ so_far) more flit low s =
    let none : head_of flit ≡ None = rw (no_head so_far more flit (IsTailShaped-spelled (packet.Request r) h (so_far ++ flit ∷ more) s)) refl in
    subst (λ (o : Option Head). IfSome o (λ head. head.class ≡ class.Request → field flit 0 32 < 65536)) (sym none) tt
