-- Packets as the network has them: their ends tell their tiles, and their flits tell the packet.
use Rattle.std.proofs.Common.{◌≡◌, ◌≢◌, ⊎_elim, ℕ, ◌+◌, ◌*◌, ◌/◌, ◌<◌, ◌==◌, Bool, true, false, cond, List, [], ◌∷◌, map, refl, sym, ◌∙◌, ap, ap₂, subst}
use Rattle.std.proofs.Common.{arith, eq-eqb}
use Rattle.std.specs.Prelude.{filter, ◌&&◌, length}
use Rattle.std.proofs.lemmas.Bool.{cases_eq, ne_eqb}
use Rattle.std.proofs.lemmas.Nat.{div-mul-add}
use Rattle.torus.specs.Shape.{Shape, dims_of}
use Rattle.torus.specs.declared.shape.Class.{Class}
use Rattle.torus.specs.declared.shape.Class.TheVariants.{Request, Reply}
use Rattle.packet.specs.declared.kinds.Packet.{Packet}
use Rattle.packet.specs.declared.kinds.Packet.TheVariants as packet
use Rattle.packet.specs.declared.kinds.Request.{Request as Asking}
use Rattle.packet.specs.declared.kinds.Response.{Response as Telling}
use Rattle.packet.specs.Spelling.{Spells, IsSpellable}
use Rattle.packet.specs.Written.{IsOfWords}
use Rattle.packet.proofs.Spelled.{Spells-flits_of}
use Rattle.packet.proofs.Told.{one_packet}
use Rattle.channel_number.specs.Order.{channels_at_tile, class_place}
use Rattle.packet.proofs.Shapes.{length-spelled}
use Rattle.flit_buffer.specs.Channel.{rest}
use Rattle.wormhole.specs.Net.{Parcel}
use Rattle.wormhole.specs.Routes.{between}
use Rattle.packet.specs.Flits.{flits_of}
use Rattle.channel_number.specs.Ports.{injection_channel, ejection_channel}
use Rattle.core_laws.proofs.Projection.{parcel_of, request_parcel, response_parcel, first_flit}
use Rattle.core_laws.proofs.Stands.{asked_between, told_between}

pub spells : (p : Packet) → IsSpellable p → IsOfWords p → Spells p (flits_of p)
spells p a b = Spells-flits_of p a b

-- one number a tile and place, below the number of places
index_apart : (x y c m n : ℕ) → m < c → n < c → x * c + m ≡ y * c + n → x ≡ y
index_apart x y c m n lm ln h = sym (div-mul-add x c m lm) ∙ (ap (λ z. z / c) h ∙ div-mul-add y c n ln)

eqb_index : (x p c m : ℕ) → m < c → ((x * c + m) == (p * c + m)) ≡ (x == p)
eqb_index x p c m low = ⊎_elim
    (λ (same : x ≡ p). eq-eqb (x * c + m) (p * c + m) (ap (λ z. z * c + m) same) ∙ sym (eq-eqb x p same))
    (λ (other : x ≢ p). ne_eqb (x * c + m) (p * c + m) (λ e. other (index_apart x p c m m low low e)) ∙ sym (ne_eqb x p other))
    (cases_eq x p)

injection_low : (s : Shape) (class : Class) → 8 * dims_of s + class_place class < channels_at_tile s
injection_low s Request = omega arith
injection_low s Reply = omega arith

ejection_low : (s : Shape) (class : Class) → 8 * dims_of s + 2 + class_place class < channels_at_tile s
ejection_low s Request = omega arith
ejection_low s Reply = omega arith

pub source_seen : (s : Shape) (x p : ℕ) (class : Class) → (injection_channel s x class == injection_channel s p class) ≡ (x == p)
source_seen s x p class = eqb_index x p (channels_at_tile s) _ (injection_low s class)

pub destination_seen : (s : Shape) (x p : ℕ) (class : Class) → (ejection_channel s x class == ejection_channel s p class) ≡ (x == p)
destination_seen s x p class = eqb_index x p (channels_at_tile s) _ (ejection_low s class)

pub filter_of_map : {A B : Type 0} (f : A → B) (test : B → Bool) (seen : A → Bool) → ((a : A) → test (f a) ≡ seen a) → (xs : List A)
    → filter test (map f xs) ≡ map f (filter seen xs)
filter_of_map f test seen h [] = refl
filter_of_map {A} {B} f test seen h (x ∷ xs) =
    ap (λ (b : Bool). cond b (f x ∷ filter test (map f xs)) (filter test (map f xs))) (h x) ∙ at (seen x) (filter_of_map f test seen h xs)
  where
    at : (b : Bool) → filter test (map f xs) ≡ map f (filter seen xs)
        → cond b (f x ∷ filter test (map f xs)) (filter test (map f xs)) ≡ map f (cond b (x ∷ filter seen xs) (filter seen xs))
    at true e = ap (λ ys. f x ∷ ys) e
    at false e = e

pub request_ends : (s : Shape) (r : Asking)
    → ((request_parcel s r).source ≡ injection_channel s r.source Request) × ((request_parcel s r).destination ≡ ejection_channel s r.destination Request)
unfolding parcel_of
request_ends s r = (refl, refl)

pub response_ends : (s : Shape) (r : Telling)
    → ((response_parcel s r).source ≡ injection_channel s r.source Reply) × ((response_parcel s r).destination ≡ ejection_channel s r.destination Reply)
unfolding parcel_of
response_ends s r = (refl, refl)

-- the packets between the ends of two tiles are those of the tiles
pub between_requests : (s : Shape) (p b : ℕ) (rs : List Asking)
    → between (injection_channel s p Request) (ejection_channel s b Request) (map (request_parcel s) rs) ≡ map (request_parcel s) (asked_between p b rs)
between_requests s p b rs = filter_of_map (request_parcel s) _ (λ (r : Asking). r.source == p && r.destination == b) (λ r.
    let e = request_ends s r in
    ap₂ (λ (x y : ℕ). (x == injection_channel s p Request) && (y == ejection_channel s b Request)) e.0 e.1
    ∙ ap₂ (λ (x y : Bool). x && y) (source_seen s r.source p Request) (destination_seen s r.destination b Request)) rs

pub between_responses : (s : Shape) (b p : ℕ) (rs : List Telling)
    → between (injection_channel s b Reply) (ejection_channel s p Reply) (map (response_parcel s) rs) ≡ map (response_parcel s) (told_between b p rs)
between_responses s b p rs = filter_of_map (response_parcel s) _ (λ (r : Telling). r.source == b && r.destination == p) (λ r.
    let e = response_ends s r in
    ap₂ (λ (x y : ℕ). (x == injection_channel s b Reply) && (y == ejection_channel s p Reply)) e.0 e.1
    ∙ ap₂ (λ (x y : Bool). x && y) (source_seen s r.source b Reply) (destination_seen s r.destination p Reply)) rs

rebuilt : (xs : List ℕ) → 0 < length xs → xs ≡ first_flit xs ∷ rest xs
rebuilt [] h = absurd (omega arith)
rebuilt (x ∷ xs) h = refl

-- the flits of a packet, as the network has them
pub parcel_flits : (s : Shape) (p : Packet) → Spells p (flits_of p) → flits_of p ≡ (parcel_of s p).head ∷ (parcel_of s p).tail
unfolding parcel_of
parcel_flits s p h = rebuilt (flits_of p) (let len = length-spelled p (flits_of p) h in omega (arith, len))

-- one packet each
pub same_packet : (s : Shape) (p q : Packet) → Spells p (flits_of p) → Spells q (flits_of q) → parcel_of s p ≡ parcel_of s q → p ≡ q
same_packet s p q hp hq e =
    let flits : flits_of p ≡ flits_of q = parcel_flits s p hp ∙ (ap (λ (k : Parcel). k.head ∷ k.tail) e ∙ sym (parcel_flits s q hq)) in
    one_packet p q (flits_of q) (subst (Spells p) flits hp) hq

pub same_request : (r q : Asking) → packet.Request r ≡ packet.Request q → r ≡ q
same_request r q h = ap (λ (p : Packet). request_in p r) h
  where
    request_in : Packet → Asking → Asking
    request_in (packet.Request a) d = a
    request_in (packet.Response a) d = d

pub one_request : (s : Shape) (r q : Asking) → Spells (packet.Request r) (flits_of (packet.Request r)) → Spells (packet.Request q) (flits_of (packet.Request q))
    → request_parcel s r ≡ request_parcel s q → r ≡ q
one_request s r q hr hq e = same_request r q (same_packet s (packet.Request r) (packet.Request q) hr hq e)

pub same_response : (r q : Telling) → packet.Response r ≡ packet.Response q → r ≡ q
same_response r q h = ap (λ (p : Packet). response_in p r) h
  where
    response_in : Packet → Telling → Telling
    response_in (packet.Request a) d = d
    response_in (packet.Response a) d = a

pub one_response : (s : Shape) (r q : Telling) → Spells (packet.Response r) (flits_of (packet.Response r))
    → Spells (packet.Response q) (flits_of (packet.Response q)) → response_parcel s r ≡ response_parcel s q → r ≡ q
one_response s r q hr hq e = same_response r q (same_packet s (packet.Response r) (packet.Response q) hr hq e)
