-- Sums by class, and how many flits the packets have.
use Rattle.std.proofs.Common.{◌≡◌, ℕ, ◌+◌, ◌*◌, ◌≤◌, zero, suc, Bool, true, false, List, [], ◌∷◌, length, map, ap, refl, arith}
use Rattle.std.specs.Prelude.{if◌then◌else◌}
use Rattle.std.specs.List.{sum_by}
use Rattle.std.proofs.Math.Nat.{mul-add}
use Rattle.std.proofs.lemmas.List.Sums.{sum_by-cons}
use Rattle.torus.specs.declared.shape.Class.{Class}
use Rattle.torus.specs.declared.shape.Class.TheVariants.{Request, Reply}
use Rattle.packet.specs.declared.kinds.Packet.TheVariants as packet
use Rattle.packet.specs.declared.kinds.Response.{Response as Telling}
use Rattle.packet.specs.Flits.{flits_of}
use Rattle.packet.specs.Written.{head_flit, flits_for}
use Rattle.packet.specs.Spelling.{heading_of, values_of_reply}
use Rattle.packet.specs.declared.kinds.Reply.{Reply as Value}
use Rattle.packet.specs.declared.kinds.Reply.TheVariants.{Old, Ok as Stored}
use Rattle.wormhole.specs.Net.{Parcel}
use Rattle.wormhole.specs.Weight.{sum_below}
use Rattle.home_bank.specs.declared.entry.Entry.{Entry}
use Rattle.core_laws.specs.Heads.{carries_route}
use Rattle.core_laws.proofs.Projection.{first_flit}
use Rattle.core_laws.proofs.Stands.{responses_from, last_of, unsent}
use Rattle.fair_rounds.specs.Chores.{unsent_of}
use Rattle.fair_rounds.proofs.KnownRuns.{of_class}

-- a weight of requests and one of replies
abbrev pub both : ℕ → ℕ → Class → ℕ
both a b Request = a
both a b Reply = b

pub both_parts : (a b : ℕ) (c : Class) → both a b c ≡ of_class Request a c + of_class Reply b c
both_parts a b Request = omega arith
both_parts a b Reply = omega arith

pub sum_both : (f g h : Parcel → ℕ) → ((p : Parcel) → f p ≡ g p + h p) → (ks : List Parcel) → sum_by f ks ≡ sum_by g ks + sum_by h ks
sum_both f g h parts [] = refl
sum_both f g h parts (k ∷ ks) =
    let rest = sum_both f g h parts ks in
    let here = parts k in
    let a = sum_by-cons f k ks in
    let b = sum_by-cons g k ks in
    let c = sum_by-cons h k ks in
    omega (arith, rest, here, a, b, c)

pub length_from : (b place : ℕ) (entries : List Entry) → length (responses_from b place entries) ≡ length entries
length_from b place [] = refl
length_from b place (e ∷ entries) = let rest = length_from b (place + 1) entries in omega (arith, rest)

-- a reply has at most 3 flits
pub reply_short : (r : Telling) → length (flits_of (packet.Response r)) ≤ 3
unfolding flits_of
reply_short r = by_value (head_flit (heading_of (packet.Response r))) r.reply
  where
    by_value : (h : ℕ) (v : Value) → length (flits_for h (values_of_reply v)) ≤ 3
    by_value h Stored = omega arith
    by_value h (Old w) = omega arith

one_of : (rs : List Telling) (flits : List ℕ) → map (λ r. flits_of (packet.Response r)) rs ≡ flits ∷ [] → (length rs ≡ 1) × (length flits ≤ 3)
one_of [] flits h = absurd (cc)
one_of (r ∷ []) flits h =
    let same : flits_of (packet.Response r) ≡ flits = cc in
    let short = reply_short r in
    let size = ap length same in
    (refl, omega (arith, short, size))
one_of (r ∷ q ∷ rs) flits h = absurd (cc)

-- the flits of a reply that isn't begun are at most 3
pub unsent_short : (t : ℕ) (b : List ℕ) (entries : List Entry)
    → (carries_route (first_flit b) ≡ true → map (λ r. flits_of (packet.Response r)) (last_of (responses_from t 0 entries)) ≡ b ∷ [])
    → unsent_of b ≤ 3 * length (unsent b (responses_from t 0 entries))
unsent_short t [] entries fresh = omega arith
unsent_short t (f ∷ fs) entries fresh = by_head (carries_route f) (last_of (responses_from t 0 entries)) fresh
  where
    by_head : (h : Bool) (last : List Telling) → (h ≡ true → map (λ r. flits_of (packet.Response r)) last ≡ (f ∷ fs) ∷ [])
        → (if h then length (f ∷ fs) else 0) ≤ 3 * length (if h then last else [])
    by_head false last is = omega arith
    by_head true last is = let one = one_of last (f ∷ fs) (is refl) in let size = one.0 in let short = one.1 in omega (arith, size, short)

pub sum_times : (n w : ℕ) (f : ℕ → ℕ) → sum_below n (λ x. w * f x) ≡ w * sum_below n f
sum_times zero w f = omega arith
sum_times (suc n) w f = let rest = sum_times n w f in let split = mul-add w (sum_below n f) (f n) in omega (arith, rest, split)
