-- Each channel is at one input of the router to which it leads, and at one output of the router that it leaves.
use Rattle.std.proofs.Common.{◌≡◌, ⊎_elim, ℕ, ◌+◌, ◌-◌, ◌*◌, ◌/◌, ◌%◌, ◌<◌, ◌≤◌, Bool, true, false, cond, refl, sym, ◌∙◌, ap, subst, arith, ltb, lt-ltb}
use Rattle.std.specs.Prelude.{◌==◌}
use Rattle.std.proofs.lemmas.Nat.{mod_below, div_below, div-add-mod', div-mul-add, mod-mul-add, mul-add-lt}
use Rattle.std.proofs.lemmas.Bool.{cases_lt, le-ltb}
use Rattle.std.proofs.Math.Nat.{mul_comm}
use Rattle.torus.specs.Shape.{Shape, IsAccepted, dims_of, tiles_of}
use Rattle.torus.specs.declared.shape.Dir.{Dir}
use Rattle.dateline_route.specs.declared.channel.Kind.{Kind}
use Rattle.dateline_route.specs.declared.channel.Kind.TheVariants.{Injection, Hop, Ejection}
use Rattle.channel_number.specs.Order.{dir_at, channels_at_tile, channel_count, channel_at}
use Rattle.channel_number.specs.Ports.{port_count, hop_source, tile_after, is_injection, is_ejection, input_channel, output_channel, input_router, input_port}
use Rattle.channel_number.specs.Ports.{output_router, output_port, IsInput, HasInput, IsOutput, HasOutput}
use Rattle.channel_number.proofs.Decoding.{kind_by}
use Rattle.channel_number.proofs.Arrivals.{hop_from_source, source_of_hop}

-- the kind of the channel of a place
abbrev kind_of_place : Shape → ℕ → Kind
kind_of_place s p = kind_by (ltb p (8 * dims_of s)) (ltb p (8 * dims_of s + 2)) p

kind_hop : (s : Shape) (p : ℕ) → p < 8 * dims_of s
    → kind_by (ltb p (8 * dims_of s)) (ltb p (8 * dims_of s + 2)) p ≡ Hop (p / 8) (dir_at (p / 4 % 2)) (p % 2 == 1)
kind_hop s p low = ap (λ (b : Bool). kind_by b (ltb p (8 * dims_of s + 2)) p) (lt-ltb p (8 * dims_of s) low)

kind_injection : (s : Shape) (p : ℕ) → 8 * dims_of s ≤ p → p < 8 * dims_of s + 2 → kind_by (ltb p (8 * dims_of s)) (ltb p (8 * dims_of s + 2)) p ≡ Injection
kind_injection s p over low =
    ap (λ (b : Bool). kind_by b (ltb p (8 * dims_of s + 2)) p) (le-ltb p (8 * dims_of s) over)
    ∙ ap (λ (b : Bool). kind_by false b p) (lt-ltb p (8 * dims_of s + 2) low)

kind_ejection : (s : Shape) (p : ℕ) → 8 * dims_of s + 2 ≤ p → kind_by (ltb p (8 * dims_of s)) (ltb p (8 * dims_of s + 2)) p ≡ Ejection
kind_ejection s p over =
    let more : 8 * dims_of s ≤ p = omega arith in
    ap (λ (b : Bool). kind_by b (ltb p (8 * dims_of s + 2)) p) (le-ltb p (8 * dims_of s) more)
    ∙ ap (λ (b : Bool). kind_by false b p) (le-ltb p (8 * dims_of s + 2) over)

-- the channel of a tile's place: its index, and what it is
record IsPlaced (s : Shape) (u p x : ℕ) : Type 0 where
  below : x < channel_count s
  tile : x / channels_at_tile s ≡ u
  place : x % channels_at_tile s ≡ p
  kind : (channel_at s x).kind ≡ kind_by (ltb p (8 * dims_of s)) (ltb p (8 * dims_of s + 2)) p

placed : (s : Shape) (u p : ℕ) → u < tiles_of s → p < channels_at_tile s → IsPlaced s u p (u * channels_at_tile s + p)
placed s u p low small =
    let per : ℕ = channels_at_tile s in
    let turned = mul-add-lt u per p (tiles_of s) low small in
    let place : (u * per + p) % per ≡ p = mod-mul-add u per p small in
    record {
      below = omega (arith, turned, mul_comm (tiles_of s) per);
      tile = div-mul-add u per p small;
      place = place;
      kind = ap (λ m. kind_by (ltb m (8 * dims_of s)) (ltb m (8 * dims_of s + 2)) m) place;
    }

-- an input's channel
record IsInputAt (s : Shape) (t i x : ℕ) : Type 0 where
  below : x < channel_count s
  leads : is_ejection (channel_at s x).kind ≡ false
  router : input_router s x ≡ t
  port : input_port s x ≡ i

hop_input : (s : Shape) → IsAccepted s → (t i : ℕ) → t < tiles_of s → i < 8 * dims_of s
    → IsInputAt s t i (hop_source s t (i / 8) (dir_at (i / 4 % 2)) * channels_at_tile s + i)
hop_input s h t i low small =
    let d : ℕ = i / 8 in
    let dir : Dir = dir_at (i / 4 % 2) in
    let u : ℕ = hop_source s t d dir in
    let inside : d < dims_of s = omega arith in
    let back = hop_from_source s h t d dir low inside in
    let at = placed s u i back.0 (omega arith) in
    let kind = at.kind ∙ kind_hop s i small in
    record {
      below = at.below;
      leads = ap is_ejection kind;
      router = ap (λ k. tile_after s ((u * channels_at_tile s + i) / channels_at_tile s) k) kind
          ∙ (ap (λ v. tile_after s v (Hop d dir (i % 2 == 1))) at.tile ∙ back.1);
      port = at.place;
    }

injection_input : (s : Shape) (t i : ℕ) → t < tiles_of s → 8 * dims_of s ≤ i → i < 8 * dims_of s + 2 → IsInputAt s t i (t * channels_at_tile s + i)
injection_input s t i low over small =
    let at = placed s t i low (omega arith) in
    let kind = at.kind ∙ kind_injection s i over small in
    record {
      below = at.below;
      leads = ap is_ejection kind;
      router = ap (λ k. tile_after s ((t * channels_at_tile s + i) / channels_at_tile s) k) kind ∙ at.tile;
      port = at.place;
    }

pub is_input : (s : Shape) → IsAccepted s → (t i : ℕ) → t < tiles_of s → i < port_count (dims_of s) → IsInput s t i
is_input s h t i low small =
    let a : ℕ = hop_source s t (i / 8) (dir_at (i / 4 % 2)) * channels_at_tile s + i in
    let b : ℕ = t * channels_at_tile s + i in
    let at : IsInputAt s t i (input_channel s t i) = ⊎_elim
    (λ (hop : i < 8 * dims_of s). subst (IsInputAt s t i) (sym (ap (λ (c : Bool). cond c a b) (lt-ltb i (8 * dims_of s) hop))) (hop_input s h t i low hop))
    (λ (over : 8 * dims_of s ≤ i). subst (IsInputAt s t i) (sym (ap (λ (c : Bool). cond c a b) (le-ltb i (8 * dims_of s) over)))
    (injection_input s t i low over small))
    (cases_lt i (8 * dims_of s)) in
    record { below = at.below; leads = at.leads; router = at.router; port = at.port }

-- a channel that leads to a router
input_back : (s : Shape) → IsAccepted s → (x u p : ℕ) → u < tiles_of s → p < channels_at_tile s → x / channels_at_tile s ≡ u → x % channels_at_tile s ≡ p
    → u * channels_at_tile s + p ≡ x
    → is_ejection (channel_at s x).kind ≡ false → HasInput s x
input_back s h x u p low small tile place whole leads = ⊎_elim
    (λ (hop : p < 8 * dims_of s).
    let d : ℕ = p / 8 in
    let dir : Dir = dir_at (p / 4 % 2) in
    let inside : d < dims_of s = omega arith in
    let back = source_of_hop s h u d dir low inside in
    let t : ℕ = tile_after s u (Hop d dir (p % 2 == 1)) in
    let kind : (channel_at s x).kind ≡ Hop d dir (p % 2 == 1) = ap (kind_of_place s) place ∙ kind_hop s p hop in
    let router : input_router s x ≡ t = ap (λ k. tile_after s (x / channels_at_tile s) k) kind ∙ ap (λ v. tile_after s v (Hop d dir (p % 2 == 1))) tile in
    let channel : input_channel s t p ≡ x =
    ap (λ (c : Bool). cond c (hop_source s t d dir * channels_at_tile s + p) (t * channels_at_tile s + p)) (lt-ltb p (8 * dims_of s) hop)
    ∙ (ap (λ v. v * channels_at_tile s + p) back.1 ∙ whole) in
    record {
      tile = subst (λ v. v < tiles_of s) (sym router) back.0;
      port = subst (λ v. v < port_count (dims_of s)) (sym place) (omega arith);
      same = ap (λ v. input_channel s v (x % channels_at_tile s)) router ∙ (ap (input_channel s t) place ∙ channel);
    })
    (λ (over : 8 * dims_of s ≤ p). ⊎_elim
    (λ (first : p < 8 * dims_of s + 2).
    let kind : (channel_at s x).kind ≡ Injection = ap (kind_of_place s) place ∙ kind_injection s p over first in
    let router : input_router s x ≡ u = ap (λ k. tile_after s (x / channels_at_tile s) k) kind ∙ tile in
    let channel : input_channel s u p ≡ x =
    ap (λ (c : Bool). cond c (hop_source s u (p / 8) (dir_at (p / 4 % 2)) * channels_at_tile s + p) (u * channels_at_tile s + p))
    (le-ltb p (8 * dims_of s) over) ∙ whole in
    record {
      tile = subst (λ v. v < tiles_of s) (sym router) low;
      port = subst (λ v. v < port_count (dims_of s)) (sym place) first;
      same = ap (λ v. input_channel s v (x % channels_at_tile s)) router ∙ (ap (input_channel s u) place ∙ channel);
    })
    (λ (last : 8 * dims_of s + 2 ≤ p). let e : is_ejection (channel_at s x).kind ≡ true =
    ap is_ejection (ap (kind_of_place s) place ∙ kind_ejection s p last) in cc)
    (cases_lt p (8 * dims_of s + 2)))
    (cases_lt p (8 * dims_of s))

pub has_input : (s : Shape) → IsAccepted s → (x : ℕ) → x < channel_count s → is_ejection (channel_at s x).kind ≡ false → HasInput s x
has_input s h x low leads =
    let per : ℕ = channels_at_tile s in
    let some : 0 < per = omega arith in
    input_back s h x (x / per) (x % per) (div_below x per (tiles_of s) some low) (mod_below x per some) refl refl (div-add-mod' x per) leads

-- an output's channel
record IsOutputAt (s : Shape) (t o x : ℕ) : Type 0 where
  below : x < channel_count s
  leaves : is_injection (channel_at s x).kind ≡ false
  router : output_router s x ≡ t
  port : output_port s x ≡ o

hop_output : (s : Shape) (t o : ℕ) → t < tiles_of s → o < 8 * dims_of s → IsOutputAt s t o (t * channels_at_tile s + o)
hop_output s t o low small =
    let at = placed s t o low (omega arith) in
    record {
      below = at.below;
      leaves = ap is_injection (at.kind ∙ kind_hop s o small);
      router = at.tile;
      port = ap (λ p. cond (ltb p (8 * dims_of s)) p (p - 2)) at.place ∙ ap (λ (c : Bool). cond c o (o - 2)) (lt-ltb o (8 * dims_of s) small);
    }

ejection_output : (s : Shape) (t o : ℕ) → t < tiles_of s → 8 * dims_of s ≤ o → o < 8 * dims_of s + 2 → IsOutputAt s t o (t * channels_at_tile s + (o + 2))
ejection_output s t o low over small =
    let at = placed s t (o + 2) low (omega arith) in
    let back : (o + 2) - 2 ≡ o = omega arith in
    record {
      below = at.below;
      leaves = ap is_injection (at.kind ∙ kind_ejection s (o + 2) (omega arith));
      router = at.tile;
      port = ap (λ p. cond (ltb p (8 * dims_of s)) p (p - 2)) at.place
          ∙ (ap (λ (c : Bool). cond c (o + 2) ((o + 2) - 2)) (le-ltb (o + 2) (8 * dims_of s) (omega arith)) ∙ back);
    }

pub is_output : (s : Shape) (t o : ℕ) → t < tiles_of s → o < port_count (dims_of s) → IsOutput s t o
is_output s t o low small =
    let a : ℕ = t * channels_at_tile s + o in
    let b : ℕ = t * channels_at_tile s + (o + 2) in
    let at : IsOutputAt s t o (output_channel s t o) = ⊎_elim
    (λ (hop : o < 8 * dims_of s). subst (IsOutputAt s t o) (sym (ap (λ (c : Bool). cond c a b) (lt-ltb o (8 * dims_of s) hop))) (hop_output s t o low hop))
    (λ (over : 8 * dims_of s ≤ o). subst (IsOutputAt s t o) (sym (ap (λ (c : Bool). cond c a b) (le-ltb o (8 * dims_of s) over)))
    (ejection_output s t o low over small))
    (cases_lt o (8 * dims_of s)) in
    record { below = at.below; leaves = at.leaves; router = at.router; port = at.port }

pub has_output : (s : Shape) (x : ℕ) → x < channel_count s → is_injection (channel_at s x).kind ≡ false → HasOutput s x
has_output s x low leaves =
    let per : ℕ = channels_at_tile s in
    let some : 0 < per = omega arith in
    let u : ℕ = x / per in
    let p : ℕ = x % per in
    let n : ℕ = 8 * dims_of s in
    let small : p < per = mod_below x per some in
    let tile : u < tiles_of s = div_below x per (tiles_of s) some low in
    let whole : u * per + p ≡ x = div-add-mod' x per in
    ⊎_elim
    (λ (hop : p < n).
    let port : output_port s x ≡ p = ap (λ (c : Bool). cond c p (p - 2)) (lt-ltb p n hop) in
    record {
      tile = tile;
      port = subst (λ v. v < port_count (dims_of s)) (sym port) (omega arith);
      same = ap (output_channel s u) port ∙ (ap (λ (c : Bool). cond c (u * per + p) (u * per + (p + 2))) (lt-ltb p n hop) ∙ whole);
    })
    (λ (over : n ≤ p). ⊎_elim
    (λ (first : p < n + 2). let e : is_injection (channel_at s x).kind ≡ true = ap is_injection (kind_injection s p over first) in cc)
    (λ (last : n + 2 ≤ p).
    let port : output_port s x ≡ p - 2 = ap (λ (c : Bool). cond c p (p - 2)) (le-ltb p n over) in
    let again : u * per + ((p - 2) + 2) ≡ u * per + p = omega arith in
    record {
      tile = tile;
      port = subst (λ v. v < port_count (dims_of s)) (sym port) (omega arith);
      same = ap (output_channel s u) port
          ∙ (ap (λ (c : Bool). cond c (u * per + (p - 2)) (u * per + ((p - 2) + 2))) (le-ltb (p - 2) n (omega arith)) ∙ (again ∙ whole));
    })
    (cases_lt p (n + 2)))
    (cases_lt p n)

-- no two inputs are at one channel, and no two outputs
pub inputs_apart : (s : Shape) → IsAccepted s → (t i u j : ℕ) → t < tiles_of s → i < port_count (dims_of s) → u < tiles_of s → j < port_count (dims_of s)
    → input_channel s t i ≡ input_channel s u j → (t ≡ u) × (i ≡ j)
inputs_apart s h t i u j low small high little e =
    let a = is_input s h t i low small in
    let b = is_input s h u j high little in
    (sym a.router ∙ (ap (input_router s) e ∙ b.router), sym a.port ∙ (ap (input_port s) e ∙ b.port))

pub outputs_apart : (s : Shape) (t o u p : ℕ) → t < tiles_of s → o < port_count (dims_of s) → u < tiles_of s → p < port_count (dims_of s)
    → output_channel s t o ≡ output_channel s u p → (t ≡ u) × (o ≡ p)
outputs_apart s t o u p low small high little e =
    let a = is_output s t o low small in
    let b = is_output s u p high little in
    (sym a.router ∙ (ap (output_router s) e ∙ b.router), sym a.port ∙ (ap (output_port s) e ∙ b.port))
