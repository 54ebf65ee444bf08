-- The channels of a route, met by their places.
use Rattle.std.proofs.Common.{◌≡◌, ℕ, ◌&&◌, true, List, [], ◌∷◌, ◌++◌, map, refl, sym, ◌∙◌, ap, subst, ltb}
use Rattle.std.specs.Prelude.{All}
use Rattle.std.proofs.lemmas.Bool.{and_parts, ltb-true}
use Rattle.torus.specs.Shape.{Shape, IsAccepted}
use Rattle.torus.specs.declared.shape.Class.{Class}
use Rattle.torus.specs.declared.shape.Class.TheVariants.{Request, Reply}
use Rattle.dateline_route.specs.declared.channel.Channel.{Channel}
use Rattle.dateline_route.specs.declared.channel.Kind.{Kind}
use Rattle.dateline_route.specs.declared.channel.Kind.TheVariants.{Injection, Hop, Ejection}
use Rattle.dateline_route.specs.Route.{route_of}
use Rattle.dateline_route.specs.Next.{next_of}
use Rattle.dateline_route.specs.Walk.{IsChannel, Follows, WalksOn, IsWalk, input_of, kind_of}
use Rattle.dateline_route.proofs.Walks.{IsTrip, injection, ejection, route_walks, same_channel}
use Rattle.channel_number.specs.Order.{channel_index, channel_count}
use Rattle.wormhole.proofs.Lists.{all_on}
use Rattle.channel_number.specs.Order.{channel_at}
use Rattle.channel_number.specs.Ports.{is_injection, is_ejection, tile_after}
use Rattle.core_laws.specs.TorusNet.{same_class, joins_in, torus_channel_after}
use Rattle.channel_number.proofs.Decoding.{decoded, encoded}
use Rattle.channel_number.proofs.Leading.{leads_to_after}

pub injection_is : (kind : Kind) → is_injection kind ≡ true → kind ≡ Injection
injection_is Injection e = refl
injection_is (Hop d dir bit) e = cc
injection_is Ejection e = cc

pub ejection_is : (kind : Kind) → is_ejection kind ≡ true → kind ≡ Ejection
ejection_is Injection e = cc
ejection_is (Hop d dir bit) e = cc
ejection_is Ejection e = refl

class_is : (a b : Class) → same_class a b ≡ true → a ≡ b
class_is Request Request e = refl
class_is Request Reply e = cc
class_is Reply Request e = cc
class_is Reply Reply e = refl

-- two ends that packets go between: an injection and an ejection of one class
pub record AreEnds (s : Shape) (i j : ℕ) : Type 0 where
  pub trip : IsTrip s (channel_at s i).tile (channel_at s j).tile
  pub first : i ≡ channel_index s (injection (channel_at s i).tile (channel_at s i).class)
  pub last : j ≡ channel_index s (ejection (channel_at s j).tile (channel_at s i).class)

pub are_ends : (s : Shape) (i j : ℕ) → IsAccepted s → joins_in s i j ≡ true → AreEnds s i j
are_ends s i j h e =
    let x : Channel = channel_at s i in
    let y : Channel = channel_at s j in
    let p =
    and_parts ((ltb i (channel_count s) && is_injection x.kind) && (ltb j (channel_count s) && is_ejection y.kind)) (same_class x.class y.class) e in
    let q = and_parts (ltb i (channel_count s) && is_injection x.kind) (ltb j (channel_count s) && is_ejection y.kind) p.0 in
    let a = and_parts (ltb i (channel_count s)) (is_injection x.kind) q.0 in
    let b = and_parts (ltb j (channel_count s)) (is_ejection y.kind) q.1 in
    let d = decoded s i (ltb-true i (channel_count s) a.0) in
    let f = decoded s j (ltb-true j (channel_count s) b.0) in
    record {
      trip = record { accepted = h; from = d.0.tile; to = f.0.tile };
      first = sym d.1 ∙ ap (channel_index s) (same_channel x (injection x.tile x.class) refl refl (injection_is x.kind a.1));
      last = sym f.1
          ∙ ap (channel_index s) (same_channel y (ejection y.tile x.class) refl (sym (class_is x.class y.class p.1)) (ejection_is y.kind b.1));
    }

-- a channel of a route, where its place is met among the places of the route
pub record Met (s : Shape) (route : List Channel) (before : List ℕ) (x : ℕ) (after : List ℕ) : Type 0 where
  pub earlier : List Channel
  pub later : List Channel
  pub whole : route ≡ earlier ++ channel_at s x ∷ later
  pub front : map (channel_index s) earlier ≡ before
  pub back : map (channel_index s) later ≡ after
  pub channel : IsChannel s (channel_at s x)
  pub place : channel_index s (channel_at s x) ≡ x

-- a list of which the numbers fall apart falls apart
pub record Split (f : Channel → ℕ) (xs : List Channel) (before : List ℕ) (y : ℕ) (after : List ℕ) : Type 0 where
  pub earlier : List Channel
  pub channel : Channel
  pub later : List Channel
  pub whole : xs ≡ earlier ++ channel ∷ later
  pub here : f channel ≡ y
  pub front : map f earlier ≡ before
  pub back : map f later ≡ after

pub split : (f : Channel → ℕ) (xs : List Channel) (before : List ℕ) (y : ℕ) (after : List ℕ) → map f xs ≡ before ++ y ∷ after
    → Split f xs before y after
split f [] [] y after h = cc
split f [] (b ∷ before) y after h = cc
split f (x ∷ xs) [] y after h = record { earlier = []; channel = x; later = xs; whole = refl; here = cc; front = refl; back = cc }
split f (x ∷ xs) (b ∷ before) y after h =
    let r = split f xs before y after cc in
    let first : f x ≡ b = cc in
    record {
      earlier = x ∷ r.earlier;
      channel = r.channel;
      later = r.later;
      whole = ap (λ ys. x ∷ ys) r.whole;
      here = r.here;
      front = ap (λ m. m ∷ map f r.earlier) first ∙ ap (λ ms. b ∷ ms) r.front;
      back = r.back;
    }

pub met : (s : Shape) (route : List Channel) (before : List ℕ) (x : ℕ) (after : List ℕ) → All (IsChannel s) route
    → map (channel_index s) route ≡ before ++ x ∷ after → Met s route before x after
met s route before x after all e =
    let r = split (channel_index s) route before x after e in
    let inside : IsChannel s r.channel = all_on (IsChannel s) route r.channel all (r.earlier, r.later, r.whole) in
    let same : channel_at s x ≡ r.channel = ap (channel_at s) (sym r.here) ∙ encoded s r.channel inside in
    record {
      earlier = r.earlier;
      later = r.later;
      whole = r.whole ∙ ap (λ c. r.earlier ++ c ∷ r.later) (sym same);
      front = r.front;
      back = r.back;
      channel = subst (IsChannel s) (sym same) inside;
      place = ap (channel_index s) same ∙ r.here;
    }

-- where a walk goes on from one of its channels
walks_from : (s : Shape) (dst : ℕ) (x : Channel) (xs us : List Channel) (c : Channel) (vs : List Channel) → WalksOn s dst x xs
    → x ∷ xs ≡ us ++ c ∷ vs → WalksOn s dst c vs
walks_from s dst x xs [] c vs w e =
    let a : x ≡ c = cc in let b : xs ≡ vs = cc in subst (λ y. WalksOn s dst y vs) a (subst (λ ys. WalksOn s dst x ys) b w)
walks_from s dst x [] (u ∷ []) c vs w e = cc
walks_from s dst x [] (u ∷ v ∷ us) c vs w e = cc
walks_from s dst x (y ∷ ys) (u ∷ us) c vs w e = walks_from s dst y ys us c vs w.1 cc

pub goes_from : (s : Shape) (src dst : ℕ) (class : Class) (us : List Channel) (c : Channel) (vs : List Channel) → IsTrip s src dst
    → route_of s src dst class ≡ us ++ c ∷ vs → WalksOn s dst c vs
goes_from s src dst class us c vs trip e = at (route_of s src dst class) (route_walks s src dst class trip) e
  where
    at : (xs : List Channel) → IsWalk s src dst class xs → xs ≡ us ++ c ∷ vs → WalksOn s dst c vs
    at [] w e = absurd w
    at (x ∷ xs) w e = walks_from s dst x xs us c vs w.1 e

-- the channel that follows another is the router's choice
pub follows_is : (s : Shape) → IsAccepted s → (dst : ℕ) (x y : Channel) → IsChannel s x → Follows s dst x y → y ≡ torus_channel_after s x dst
follows_is s h dst x y c f =
    let tile : y.tile ≡ tile_after s x.tile x.kind = leads_to_after s h x.tile x.kind y.tile c.tile c.kind f.tile in
    same_channel y (torus_channel_after s x dst) tile f.class (sym f.choice ∙ ap (λ t. kind_of (next_of s t (input_of x.kind) dst)) tile)
