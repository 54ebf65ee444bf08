-- Packets of one pair of ends, among the machine's and among the network's.
use Rattle.std.proofs.Common.{◌≡◌, ℕ, zero, suc, ◌+◌, ◌*◌, ◌<◌, Bool, true, false, cond, eqb, List, [], ◌∷◌, length, map, Some, inl, inr, refl, sym, ◌∙◌, ap}
use Rattle.std.proofs.Common.{arith, slice_get, eq-eqb}
use Rattle.std.specs.Prelude.{◌==◌, ◌&&◌, filter}
use Rattle.std.proofs.lemmas.Bool.{cases_eq, cases_lt, ne_eqb}
use Rattle.torus.specs.Shape.{Shape, dims_of}
use Rattle.torus.specs.declared.shape.Class.{Class}
use Rattle.torus.specs.declared.shape.Class.TheVariants.{Request, Reply}
use Rattle.packet.specs.declared.kinds.Request.{Request as Asking}
use Rattle.packet.specs.declared.kinds.Response.{Response as Telling}
use Rattle.channel_number.specs.Order.{channels_at_tile}
use Rattle.flit_buffer.proofs.ManyRings.{before}
use Rattle.wormhole.specs.Net.{Parcel}
use Rattle.wormhole.specs.Routes.{between}
use Rattle.channel_number.specs.Ports.{injection_channel, ejection_channel}
use Rattle.core_laws.proofs.Projection.{parcel_of, request_parcel, response_parcel}
use Rattle.core_laws.proofs.Stands.{asked_between, told_between}

-- two lists that are as long, with one more item each or not
kept_alike : {A B : Type 0} (b c : Bool) (x : A) (y : B) (xs : List A) (ys : List B) → b ≡ c → length xs ≡ length ys
    → length (cond b (x ∷ xs) xs) ≡ length (cond c (y ∷ ys) ys)
kept_alike true true x y xs ys e h = ap suc h
kept_alike false false x y xs ys e h = h
kept_alike true false x y xs ys e h = absurd (cc)
kept_alike false true x y xs ys e h = absurd (cc)

-- as many items pass a test as images pass one that agrees
length_alike : {A B : Type 0} (f : A → B) (p : B → Bool) (q : A → Bool) → ((x : A) → p (f x) ≡ q x) → (xs : List A)
    → length (filter p (map f xs)) ≡ length (filter q xs)
length_alike f p q agree [] = refl
length_alike f p q agree (x ∷ xs) = kept_alike (p (f x)) (q x) (f x) x (filter p (map f xs)) (filter q xs) (agree x) (length_alike f p q agree xs)

-- places of tiles are apart
same_tile : (c r t u : ℕ) → 0 < c → eqb (t * c + r) (u * c + r) ≡ eqb t u
same_tile c r t u some = elim (cases_eq t u) [
  | inl same ↦ eq-eqb (t * c + r) (u * c + r) (ap (λ z. z * c + r) same) ∙ sym (eq-eqb t u same)
  | inr other ↦ ne_eqb (t * c + r) (u * c + r) (λ e. elim (cases_lt t u) [
    | inl low ↦ (let b = before c t u low in absurd (omega arith))
    | inr high ↦ (let b = before c u t (omega arith) in absurd (omega arith))
  ]) ∙ sym (ne_eqb t u other)
]

module _ (s : Shape) where
  same_injection : (t u : ℕ) (class : Class) → (injection_channel s t class == injection_channel s u class) ≡ (t == u)
  same_injection t u Request = same_tile (channels_at_tile s) (8 * dims_of s + 0) t u (omega arith)
  same_injection t u Reply = same_tile (channels_at_tile s) (8 * dims_of s + 1) t u (omega arith)

  same_ejection : (t u : ℕ) (class : Class) → (ejection_channel s t class == ejection_channel s u class) ≡ (t == u)
  same_ejection t u Request = same_tile (channels_at_tile s) (8 * dims_of s + 2 + 0) t u (omega arith)
  same_ejection t u Reply = same_tile (channels_at_tile s) (8 * dims_of s + 2 + 1) t u (omega arith)

  same_pair : (a b c d : Bool) → a ≡ c → b ≡ d → (a && b) ≡ (c && d)
  same_pair a b c d e f = ap (λ z. z && b) e ∙ ap (λ z. c && z) f

  asked_alike : (p b : ℕ) (r : Asking)
      → ((request_parcel s r).source == injection_channel s p Request && (request_parcel s r).destination == ejection_channel s b Request)
      ≡ (r.source == p && r.destination == b)
  unfolding parcel_of
  asked_alike p b r = same_pair _ _ _ _ (same_injection r.source p Request) (same_ejection r.destination b Request)

  told_alike : (b p : ℕ) (r : Telling)
      → ((response_parcel s r).source == injection_channel s b Reply && (response_parcel s r).destination == ejection_channel s p Reply)
      ≡ (r.source == b && r.destination == p)
  unfolding parcel_of
  told_alike b p r = same_pair _ _ _ _ (same_injection r.source b Reply) (same_ejection r.destination p Reply)

  -- as many requests as packets of the pair
  pub asked_length : (p b : ℕ) (rs : List Asking)
      → length (between (injection_channel s p Request) (ejection_channel s b Request) (map (request_parcel s) rs)) ≡ length (asked_between p b rs)
  asked_length p b rs = length_alike (request_parcel s)
      (λ (k : Parcel). k.source == injection_channel s p Request && k.destination == ejection_channel s b Request)
      (λ (r : Asking). r.source == p && r.destination == b) (asked_alike p b) rs

  pub told_length : (b p : ℕ) (rs : List Telling)
      → length (between (injection_channel s b Reply) (ejection_channel s p Reply) (map (response_parcel s) rs)) ≡ length (told_between b p rs)
  told_length b p rs = length_alike (response_parcel s) (λ (k : Parcel). k.source == injection_channel s b Reply && k.destination == ejection_channel s p Reply)
      (λ (r : Telling). r.source == b && r.destination == p) (told_alike b p) rs

-- a list with no item
pub no_items : {A : Type 0} (xs : List A) → length xs ≡ 0 → xs ≡ []
no_items [] e = refl
no_items (x ∷ xs) e = absurd (omega arith)

-- where none passes, no item does
kept_none : {A : Type 0} (b : Bool) (x : A) (xs : List A) → cond b (x ∷ xs) xs ≡ [] → (b ≡ false) × (xs ≡ [])
kept_none true x xs e = absurd (cc)
kept_none false x xs e = (refl, e)

pub none_pass : {A : Type 0} (q : A → Bool) (xs : List A) (j : ℕ) (x : A) → filter q xs ≡ [] → slice_get xs j ≡ Some x → q x ≡ true → ⊥
none_pass q [] zero x e there passes = cc
none_pass q [] (suc j) x e there passes = cc
none_pass q (y ∷ ys) zero x e there passes =
    let none = kept_none (q y) y (filter q ys) e in
    let same : y ≡ x = cc in
    let no_pass : true ≡ false = sym passes ∙ ap q (sym same) ∙ none.0 in
    cc
none_pass q (y ∷ ys) (suc j) x e there passes = none_pass q ys j x (kept_none (q y) y (filter q ys) e).1 there passes
