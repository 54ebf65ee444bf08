-- The injections and ejections of tiles, and their numbers.
use Rattle.std.proofs.Common.{◌≡◌, ℕ, ◌+◌, ◌*◌, ◌<◌, ◌≤◌, true, length, refl, sym, ◌∙◌, ap, arith}
use Rattle.std.specs.Prelude.{sum}
use Rattle.std.proofs.lemmas.List.{length-map}
use Rattle.torus.specs.Shape.{Shape, IsAccepted, tiles_of}
use Rattle.torus.specs.declared.shape.Class.{Class}
use Rattle.torus.specs.declared.shape.Class.TheVariants.{Request, Reply}
use Rattle.dateline_route.specs.declared.channel.Channel.{Channel}
use Rattle.dateline_route.specs.Route.{route_of}
use Rattle.dateline_route.specs.Walk.{IsChannel}
use Rattle.dateline_route.proofs.Walks.{injection, ejection, same_channel}
use Rattle.dateline_route.proofs.Lengths.{route_short}
use Rattle.channel_number.specs.Order.{channel_index, channel_count}
use Rattle.channel_number.specs.Number.{number_of}
use Rattle.channel_number.proofs.Orders.{index_below, one_index}
use Rattle.channel_number.specs.Order.{channel_at}
use Rattle.channel_number.specs.Ports.{is_injection, is_ejection, injection_channel, ejection_channel}
use Rattle.core_laws.specs.TorusNet.{torus_net}
use Rattle.core_laws.specs.Ends.{IsInjection, IsEjection, AreTorusEnds}
use Rattle.channel_number.proofs.Decoding.{decoded, encoded}
use Rattle.core_laws.proofs.Meeting.{injection_is, ejection_is, are_ends}

injection_inside : (s : Shape) (t : ℕ) (class : Class) → t < tiles_of s → IsChannel s (injection t class)
injection_inside s t class low = record { tile = low; kind = tt }

ejection_inside : (s : Shape) (t : ℕ) (class : Class) → t < tiles_of s → IsChannel s (ejection t class)
ejection_inside s t class low = record { tile = low; kind = tt }

pub is_injection_at : (s : Shape) (x : ℕ) → x < channel_count s → is_injection (channel_at s x).kind ≡ true → IsInjection s x
is_injection_at s x low e =
    let d = decoded s x low in
    let c : Channel = channel_at s x in
    record {
      tile = c.tile;
      class = c.class;
      here = d.0.tile;
      same = sym d.1 ∙ ap (channel_index s)
          (same_channel c (injection c.tile c.class) refl refl (injection_is c.kind e));
    }

pub is_ejection_at : (s : Shape) (x : ℕ) → x < channel_count s → is_ejection (channel_at s x).kind ≡ true → IsEjection s x
is_ejection_at s x low e =
    let d = decoded s x low in
    let c : Channel = channel_at s x in
    record {
      tile = c.tile;
      class = c.class;
      here = d.0.tile;
      same = sym d.1 ∙ ap (channel_index s)
          (same_channel c (ejection c.tile c.class) refl refl (ejection_is c.kind e));
    }

pub ends_are : (s : Shape) (depth t : ℕ) (class : Class) → t < tiles_of s → AreTorusEnds (torus_net s depth) s t class
ends_are s depth t class low =
    let a = injection_inside s t class low in
    let b = ejection_inside s t class low in
    let e : channel_at s (injection_channel s t class) ≡ injection t class = encoded s (injection t class) a in
    let f : channel_at s (ejection_channel s t class) ≡ ejection t class = encoded s (ejection t class) b in
    record {
      injection_here = index_below s (injection t class) a;
      ejection_here = index_below s (ejection t class) b;
      injects = ap (λ (c : Channel). is_injection c.kind) e;
      ejects = ap (λ (c : Channel). is_ejection c.kind) f;
      leads = ap (λ (c : Channel). is_ejection c.kind) e;
      leaves = ap (λ (c : Channel). is_injection c.kind) f;
    }

-- each tile has its own ends
pub one_injection : (s : Shape) (t u : ℕ) (class other : Class) → t < tiles_of s → u < tiles_of s
    → injection_channel s t class ≡ injection_channel s u other → (t ≡ u) × (class ≡ other)
one_injection s t u class other low high e =
    let same = one_index s (injection t class) (injection u other) (injection_inside s t class low) (injection_inside s u other high) e in
    (ap (λ (c : Channel). c.tile) same, ap (λ (c : Channel). c.class) same)

pub one_ejection : (s : Shape) (t u : ℕ) (class other : Class) → t < tiles_of s → u < tiles_of s
    → ejection_channel s t class ≡ ejection_channel s u other → (t ≡ u) × (class ≡ other)
one_ejection s t u class other low high e =
    let same = one_index s (ejection t class) (ejection u other) (ejection_inside s t class low) (ejection_inside s u other high) e in
    (ap (λ (c : Channel). c.tile) same, ap (λ (c : Channel). c.class) same)

-- replies are numbered above requests
pub replies_above : (s : Shape) (depth t u : ℕ) → t < tiles_of s → u < tiles_of s
    → (torus_net s depth).number (ejection_channel s t Request) < (torus_net s depth).number (injection_channel s u Reply)
replies_above s depth t u low high =
    let e : number_of s (channel_at s (ejection_channel s t Request)) ≡ 0 + 1 + 2 * sum s.radices =
    ap (number_of s) (encoded s (ejection t Request) (ejection_inside s t Request low)) in
    let f : number_of s (channel_at s (injection_channel s u Reply)) ≡ 2 + 2 * sum s.radices =
    ap (number_of s) (encoded s (injection u Reply) (injection_inside s u Reply high)) in
    omega arith

-- routes are short
pub few_channels : (s : Shape) (depth i j : ℕ) → IsAccepted s → (torus_net s depth).joins i j ≡ true → length ((torus_net s depth).route i j) ≤ 10
few_channels s depth i j h e =
    let ends = are_ends s i j h e in
    let src : ℕ = (channel_at s i).tile in
    let dst : ℕ = (channel_at s j).tile in
    let short = route_short s h src dst ends.trip.from ends.trip.to (channel_at s i).class in
    let same = length-map (route_of s src dst (channel_at s i).class) (channel_index s) in
    omega arith
