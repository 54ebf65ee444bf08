-- Lists of requests and responses, and the flits that begin them.
use Rattle.std.proofs.Common.{◌≡◌, ℕ, zero, suc, ◌+◌, Bool, true, false, cond, List, [], ◌∷◌, ◌++◌, map, length, Some, refl, sym, ◌∙◌, ap, ap₂, arith, slice_get}
use Rattle.std.proofs.Common.{eq-eqb}
use Rattle.std.specs.Prelude.{filter, remove, ◌&&◌}
use Rattle.std.proofs.lemmas.Option.{same_Some}
use Rattle.packet.specs.declared.kinds.Packet.{Packet}
use Rattle.packet.specs.declared.kinds.Response.{Response as Telling}
use Rattle.packet.specs.Flit.{field}
use Rattle.packet.specs.Spelling.{Spells}
use Rattle.packet.proofs.Shapes.{TellsPacket-spelled, length-spelled}
use Rattle.home_bank.specs.declared.entry.Entry.{Entry}
use Rattle.packet.specs.Flits.{flits_of}
use Rattle.wormhole.specs.Net.{IsOn, EndsWithTail}
use Rattle.tile.specs.Tile.{Design}
use Rattle.core_laws.specs.Heads.{carries_route}
use Rattle.core_laws.proofs.Projection.{net_of, first_flit}
use Rattle.core_laws.proofs.ChannelFacts.{is_head_of}
use Rattle.core_laws.specs.Delivery.{response_made, responses_made}
use Rattle.core_laws.specs.Network.{last_response}
use Rattle.core_laws.proofs.Stands.{response_of_entry, responses_from, last_of}

-- one response more
pub responses_push : (b k : ℕ) (es : List Entry) (e : Entry)
    → responses_from b k (es ++ e ∷ []) ≡ responses_from b k es ++ response_of_entry b (k + length es) e ∷ []
responses_push b k [] e = ap (λ (n : ℕ). response_of_entry b n e ∷ []) (let z : k ≡ k + 0 = omega arith in z)
responses_push b k (x ∷ es) e = ap (λ rs. response_of_entry b k x ∷ rs)
    (responses_push b (k + 1) es e
    ∙ ap (λ (n : ℕ). responses_from b (k + 1) es ++ response_of_entry b n e ∷ []) (let z : k + 1 + length es ≡ k + length (x ∷ es) = omega arith in z))

pub last_push : (rs : List Telling) (q : Telling) → last_of (rs ++ q ∷ []) ≡ q ∷ []
last_push [] q = refl
last_push (r ∷ []) q = refl
last_push (r ∷ p ∷ rs) q = last_push (p ∷ rs) q

-- an element removed that doesn't pass
pub filter_removed : {A : Type 0} (test : A → Bool) (xs : List A) (k : ℕ) (x : A) → slice_get xs k ≡ Some x → test x ≡ false
    → filter test (remove xs k) ≡ filter test xs
filter_removed test [] k x h fails = cc
filter_removed test (y ∷ xs) zero x h fails = ap (λ (b : Bool). cond b (y ∷ filter test xs) (filter test xs)) (sym (ap test (same_Some y x h) ∙ fails))
filter_removed test (y ∷ xs) (suc k) x h fails = ap (λ zs. cond (test y) (y ∷ zs) zs) (filter_removed test xs k x h fails)

-- no packet is begun by an empty place
pub no_head : carries_route 0 ≡ false
unfolding field
no_head = refl

pub first_is_head : (p : Packet) → Spells p (flits_of p) → carries_route (first_flit (flits_of p)) ≡ true
first_is_head p h = at (flits_of p) h
  where
    at : (xs : List ℕ) → Spells p xs → carries_route (first_flit xs) ≡ true
    at [] h = absurd (none p h)
      where
        none : (p : Packet) → Spells p [] → ⊥
        none p h = let len = length-spelled p [] h in omega (arith, len)
    at (x ∷ xs) h =
        let tells = TellsPacket-spelled p x xs h in
        ap₂ (λ (a b : Bool). a && b) (eq-eqb (field x 63 1) 1 tells.head_bit) (eq-eqb (field x 61 1) 1 tells.flit_bit)

-- the responses to entries, as they are said of deliveries
pub made_from : (b place : ℕ) (entries : List Entry) → responses_made b place entries ≡ responses_from b place entries
made_from b place [] = refl
made_from b place (e ∷ entries) = ap (λ (rs : List Telling). response_made b place e ∷ rs) (made_from b (place + 1) entries)

-- the last of some responses
pub last_is : (rs : List Telling) (q : Telling) → last_of rs ≡ q ∷ [] → last_response rs ≡ Some q
last_is [] q h = absurd (cc)
last_is (r ∷ []) q h = ap Some (cc)
last_is (r ∷ p ∷ rs) q h = last_is (p ∷ rs) q h

-- the last of some responses is one of them
pub last_on : (rs : List Telling) (q : Telling) → last_of rs ≡ q ∷ [] → IsOn q rs
last_on [] q h = absurd (cc)
last_on (r ∷ []) q h = ([], [], h)
last_on (r ∷ p ∷ rs) q h = let on = last_on (p ∷ rs) q h in (r ∷ on.0, on.1, ap (λ xs. r ∷ xs) on.2)

pub one_of_map : {A B : Type 0} (f : A → B) (xs : List A) (y : B) → map f xs ≡ y ∷ [] → (x : A) × (xs ≡ x ∷ []) × (f x ≡ y)
one_of_map f [] y h = absurd (cc)
one_of_map f (x ∷ []) y h = (x, refl, cc)
one_of_map f (x ∷ z ∷ xs) y h = absurd (cc)

-- what follows a head doesn't begin with one
pub no_head_after : (d : Design) (flits : List ℕ) → EndsWithTail (net_of d) flits → carries_route (first_flit flits) ≡ false
no_head_after d [] h = no_head
no_head_after d (flit ∷ flits) h = sym (is_head_of d flit) ∙ h.0
