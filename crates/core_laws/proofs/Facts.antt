-- The network of a torus is one: its routes are walked, from end to end, and its numbers rise.
use Rattle.std.proofs.Common.{◌≡◌, ℕ, ◌<◌, ◌&&◌, ltb, Bool, true, false, List, [], ◌∷◌, ◌++◌, map, refl, sym, ◌∙◌, ap, subst, append_assoc}
use Rattle.std.specs.Prelude.{All}
use Rattle.std.specs.List.Sorted.{IsStrictlyIncreasing}
use Rattle.std.proofs.lemmas.List.{map-append}
use Rattle.std.proofs.lemmas.Bool.{and_parts}
use Rattle.torus.specs.Shape.{Shape, IsAccepted, dims_of}
use Rattle.torus.specs.declared.shape.Class.{Class}
use Rattle.dateline_route.specs.declared.channel.Channel.{Channel}
use Rattle.dateline_route.specs.Route.{route_of, hops_below}
use Rattle.dateline_route.specs.Walk.{IsChannel, WalksOn}
use Rattle.dateline_route.proofs.Ends.{channels, each_channel, each_hop}
use Rattle.dateline_route.proofs.Walks.{injection, ejection}
use Rattle.channel_number.specs.Order.{channel_index, channel_count}
use Rattle.channel_number.specs.Number.{number_of}
use Rattle.channel_number.proofs.Climb.{numbers_rise}
use Rattle.channel_number.proofs.Orders.{index_below}
use Rattle.wormhole.specs.Net.{IsNet, IsOn}
use Rattle.wormhole.proofs.Lists.{all_on}
use Rattle.channel_number.specs.Order.{channel_at}
use Rattle.channel_number.specs.Ports.{is_injection, is_ejection}
use Rattle.core_laws.specs.TorusNet.{same_class, joins_in, torus_channel_after, torus_net}
use Rattle.channel_number.proofs.Decoding.{decoded, encoded}
use Rattle.core_laws.proofs.Meeting.{AreEnds, are_ends, Met, met, split, goes_from, follows_is}
use Rattle.core_laws.proofs.Numbers.{rises_apart, number_below}

-- the route between two ends, as channels
abbrev pub path : Shape → ℕ → ℕ → List Channel
path s i j = route_of s (channel_at s i).tile (channel_at s j).tile (channel_at s i).class

-- the only injection and the only ejection of a route are its ends
only_injection : (s : Shape) (src dst : ℕ) (class : Class)
    → All (λ (x : Channel). is_injection x.kind ≡ true → x ≡ injection src class) (route_of s src dst class)
only_injection s src dst class =
    let P : Channel → Type 0 = λ x. is_injection x.kind ≡ true → x ≡ injection src class in
    each_channel s src dst class P (λ e. refl) (λ e. cc) (each_hop s src dst class P (dims_of s) (λ t d i dir low e. cc))

only_ejection : (s : Shape) (src dst : ℕ) (class : Class)
    → All (λ (x : Channel). is_ejection x.kind ≡ true → x ≡ ejection dst class) (route_of s src dst class)
only_ejection s src dst class =
    let P : Channel → Type 0 = λ x. is_ejection x.kind ≡ true → x ≡ ejection dst class in
    each_channel s src dst class P (λ e. cc) (λ e. refl) (each_hop s src dst class P (dims_of s) (λ t d i dir low e. cc))

-- a place on the route is met
on_path : (s : Shape) (i j x : ℕ) (before after : List ℕ) → AreEnds s i j → map (channel_index s) (path s i j) ≡ before ++ x ∷ after
    → Met s (path s i j) before x after
on_path s i j x before after ends e =
    met s (path s i j) before x after (channels s ends.trip.accepted (channel_at s i).tile (channel_at s j).tile ends.trip.from ends.trip.to
    (channel_at s i).class) e

-- the last channel of a walk is an ejection; after any other comes the router's choice
walks_on : (s : Shape) → IsAccepted s → (dst : ℕ) (c : Channel) (vs : List Channel) → IsChannel s c → is_ejection c.kind ≡ false
    → WalksOn s dst c vs
    → (rest : List Channel) × (vs ≡ torus_channel_after s c dst ∷ rest)
walks_on s h dst c [] inside other w = let e : is_ejection c.kind ≡ true = ap is_ejection w in cc
walks_on s h dst c (y ∷ ys) inside other w = (ys, ap (λ z. z ∷ ys) (follows_is s h dst c y inside w.0))

-- the numbers of a channel of the route and of a later one
rise : (s : Shape) (i j x y : ℕ) (before between after : List ℕ) → AreEnds s i j
    → map (channel_index s) (path s i j) ≡ before ++ (x ∷ (between ++ y ∷ after))
    → number_of s (channel_at s x) < number_of s (channel_at s y)
rise s i j x y before between after ends e =
    let src : ℕ = (channel_at s i).tile in
    let dst : ℕ = (channel_at s j).tile in
    let class : Class = (channel_at s i).class in
    let f : Channel → ℕ = number_of s in
    let m = on_path s i j x before (between ++ y ∷ after) ends e in
    let c : Channel = channel_at s x in
    let r = split (channel_index s) m.later between y after m.back in
    let route : path s i j ≡ m.earlier ++ (c ∷ (r.earlier ++ r.channel ∷ r.later)) = m.whole ∙ ap (λ cs. m.earlier ++ c ∷ cs) r.whole in
    let on : IsOn r.channel (path s i j) =
    (m.earlier ++ c ∷ r.earlier, r.later, route ∙ sym (append_assoc m.earlier (c ∷ r.earlier) (r.channel ∷ r.later))) in
    let inside : IsChannel s r.channel =
    all_on (IsChannel s) (path s i j) r.channel (channels s ends.trip.accepted src dst ends.trip.from ends.trip.to class) on in
    let same : r.channel ≡ channel_at s y = sym (encoded s r.channel inside) ∙ ap (channel_at s) r.here in
    let numbers : map f (path s i j) ≡ map f m.earlier ++ (f c ∷ (map f r.earlier ++ f r.channel ∷ map f r.later)) =
    ap (map f) route
    ∙ (map-append f m.earlier (c ∷ (r.earlier ++ r.channel ∷ r.later)) ∙ ap (λ ns. map f m.earlier ++ f c ∷ ns)
    (map-append f r.earlier (r.channel ∷ r.later))) in
    let up = numbers_rise s ends.trip.accepted src dst ends.trip.from ends.trip.to class in
    let risen : f c < f r.channel =
    rises_apart (map f m.earlier) (f c) (map f r.earlier) (f r.channel) (map f r.later) (subst (λ ns. IsStrictlyIncreasing ns) numbers up) in
    subst (λ z. f c < f z) same risen

-- what packets go between are injections and ejections
ends_are : (s : Shape) (depth i j : ℕ) → joins_in s i j ≡ true → ((torus_net s depth).injects i ≡ true) × ((torus_net s depth).ejects j ≡ true)
ends_are s depth i j e =
    let x : Channel = channel_at s i in
    let y : Channel = channel_at s j in
    let from : Bool = ltb i (channel_count s) && is_injection x.kind in
    let to : Bool = ltb j (channel_count s) && is_ejection y.kind in
    let both = and_parts from to (and_parts (from && to) (same_class x.class y.class) e).0 in
    ((and_parts (ltb i (channel_count s)) (is_injection x.kind) both.0).1, (and_parts (ltb j (channel_count s)) (is_ejection y.kind) both.1).1)

pub is_net : (s : Shape) (depth : ℕ) → IsAccepted s → IsNet (torus_net s depth)
is_net s depth h = record {
  senders = λ i j e. (ends_are s depth i j e).0;
  receivers = λ i j e. (ends_are s depth i j e).1;
  begins = λ i j e. let ends = are_ends s i j h e in
      let hops : List Channel =
      hops_below s (channel_at s i).tile (channel_at s j).tile (channel_at s i).class (dims_of s) ++ ejection (channel_at s j).tile
      (channel_at s i).class ∷ [] in
      (map (channel_index s) hops, ap (λ m. m ∷ map (channel_index s) hops) (sym ends.first));
  ends = λ i j e. let ends = are_ends s i j h e in
      let start : Channel = injection (channel_at s i).tile (channel_at s i).class in
      let last : Channel = ejection (channel_at s j).tile (channel_at s i).class in
      let hops : List Channel = hops_below s (channel_at s i).tile (channel_at s j).tile (channel_at s i).class (dims_of s) in
      let front : List ℕ = map (channel_index s) (start ∷ hops) in
      (front, map-append (channel_index s) (start ∷ hops) (last ∷ []) ∙ ap (λ m. front ++ m ∷ []) (sym ends.last));
  ejects = λ i j x e on yes. let ends = are_ends s i j h e in
      let m = on_path s i j x on.0 on.1 ends on.2 in
      let only =
      all_on (λ (x : Channel). is_ejection x.kind ≡ true → x ≡ ejection (channel_at s j).tile (channel_at s i).class) (path s i j) (channel_at s x)
      (only_ejection s (channel_at s i).tile (channel_at s j).tile (channel_at s i).class) (m.earlier, m.later, m.whole) in
      sym m.place ∙ (ap (channel_index s) (only yes) ∙ sym ends.last);
  injects = λ i j x e on yes. let ends = are_ends s i j h e in
      let m = on_path s i j x on.0 on.1 ends on.2 in
      let only =
      all_on (λ (x : Channel). is_injection x.kind ≡ true → x ≡ injection (channel_at s i).tile (channel_at s i).class) (path s i j) (channel_at s x)
      (only_injection s (channel_at s i).tile (channel_at s j).tile (channel_at s i).class) (m.earlier, m.later, m.whole) in
      sym m.place ∙ (ap (channel_index s) (only yes) ∙ sym ends.first);
  walks = λ i j x before after e other route. let ends = are_ends s i j h e in
      let m = on_path s i j x before after ends route in
      let w =
      walks_on s h (channel_at s j).tile (channel_at s x) m.later m.channel other
      (goes_from s (channel_at s i).tile (channel_at s j).tile (channel_at s i).class m.earlier (channel_at s x) m.later ends.trip m.whole) in
      (map (channel_index s) w.0, sym m.back ∙ ap (map (channel_index s)) w.1);
  rises = λ i j x y before between after e route. let ends = are_ends s i j h e in
      rise s i j x y before between after ends (route ∙ append_assoc before (x ∷ between) (y ∷ after));
  within = λ i j x e on. let ends = are_ends s i j h e in
      let m = on_path s i j x on.0 on.1 ends on.2 in
      subst (λ z. z < channel_count s) m.place (index_below s (channel_at s x) m.channel);
  bounded = λ x low. let d = decoded s x low in number_below s h (channel_at s x).tile (channel_at s x).class (channel_at s x).kind d.0.kind;
}
