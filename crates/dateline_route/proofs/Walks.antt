-- The route is the walk that `next` makes.
use Rattle.std.proofs.Common.{◌≡◌, ◌≢◌, ℕ, ◌+◌, ◌<◌, ◌≤◌, zero, suc, Bool, false, List, [], ◌∷◌, ◌++◌, map, refl, sym, ◌∙◌, ap, subst, arith, append_assoc}
use Rattle.std.specs.Prelude.{◌↔◌, ◌==◌, ◌||◌, ◌&&◌}
use Rattle.std.specs.List.{range_with_len}
use Rattle.std.proofs.lemmas.List.FromFn.{map-range_with_len_more}
use Rattle.std.proofs.lemmas.List.{append-nil}
use Rattle.std.proofs.lemmas.Bool.{eq-eqb, ne_eqb}
use Rattle.std.proofs.Math.Bool.{or_comm}
use Rattle.torus.specs.Shape.{Shape, IsAccepted, IsNeighbour, dims_of, tiles_of, radix_of, dateline_of, digit_of}
use Rattle.torus.specs.declared.shape.Class.{Class}
use Rattle.torus.specs.declared.shape.Dir.{Dir}
use Rattle.torus.proofs.Hops.{IsMoved, digit_below, one_neighbour}
use Rattle.dateline_route.specs.declared.channel.Channel.{Channel}
use Rattle.dateline_route.specs.declared.channel.Kind.{Kind}
use Rattle.dateline_route.specs.declared.channel.Kind.TheVariants.{Injection, Hop, Ejection}
use Rattle.dateline_route.specs.declared.channel.Input.{Input}
use Rattle.dateline_route.specs.declared.channel.Output.TheVariants.{Hop as To}
use Rattle.dateline_route.specs.Ring.{hops_by, shorter_way, digit_after, is_crossed}
use Rattle.dateline_route.specs.Next.{next_of, came_on_one, is_dateline_hop, hop_to}
use Rattle.dateline_route.specs.Route.{with_digit, corrected, hop_of, hops_in, way_in, dimension_hops, hops_below, route_of}
use Rattle.dateline_route.specs.Walk.{LeadsTo, Follows, WalksOn, IsWalk, input_of, kind_of}
use Rattle.dateline_route.proofs.First.{next_hops, next_ejects}
use Rattle.dateline_route.proofs.Rings.{IsShorter, shorter, shorter_way-is, shorter_stays, apart_before, hops_by_below, one_hop-digit_after}
use Rattle.dateline_route.proofs.Rings.{digit_after_below, digit_after-hops_by}
use Rattle.dateline_route.proofs.Dimensions.{IsAfter, crossed_in, crossed_more, after_none, after_is, hops_below_more, corrected_more}
use Rattle.dateline_route.proofs.Tiles.{IsCorrected, corrected_is, corrected_all, with_digit_moved, moved_hop}

-- the last of some channels
abbrev pub last : Channel → List Channel → Channel
last x [] = x
last x (y ∷ ys) = last y ys

-- each channel follows the one before it
abbrev pub Chain : Shape → ℕ → Channel → List Channel → Type 0
Chain s dst x [] = Unit {0}
Chain s dst x (y ∷ ys) = Follows s dst x y × Chain s dst y ys

pub last-snoc : (x : Channel) (ys : List Channel) (z : Channel) → last x (ys ++ z ∷ []) ≡ z
last-snoc x [] z = refl
last-snoc x (y ∷ ys) z = last-snoc y ys z

pub chain_snoc : (s : Shape) (dst : ℕ) (x : Channel) (ys : List Channel) (z : Channel) → Chain s dst x ys → Follows s dst (last x ys) z
    → Chain s dst x (ys ++ z ∷ [])
chain_snoc s dst x [] z c f = (f, tt)
chain_snoc s dst x (y ∷ ys) z c f = (c.0, chain_snoc s dst y ys z c.1 f)

pub walks_on : (s : Shape) (dst : ℕ) (x : Channel) (ys : List Channel) (z : Channel) → Chain s dst x ys → Follows s dst (last x ys) z → z.kind ≡ Ejection
    → WalksOn s dst x (ys ++ z ∷ [])
walks_on s dst x [] z c f e = (f, e)
walks_on s dst x (y ∷ ys) z c f e = (c.0, walks_on s dst y ys z c.1 f e)

-- a packet that took these channels is now at tile t, and came in dimension d on bit b
pub record Here (s : Shape) (dst : ℕ) (first : Channel) (xs : List Channel) (t : ℕ) (class : Class) (d : ℕ) (b : Bool) : Type 0 where
  pub chain : Chain s dst first xs
  pub tile : LeadsTo s (last first xs).tile (last first xs).kind t
  pub class_is : (last first xs).class ≡ class
  pub bit : came_on_one (input_of (last first xs).kind) d ≡ b
  pub later : (e : ℕ) → d < e → came_on_one (input_of (last first xs).kind) e ≡ false

bit_at : (d : ℕ) (b : Bool) → ((d == d) && b) ≡ b
bit_at d b = (rw (eq-eqb d d refl) refl)

bit_elsewhere : (d e : ℕ) (b : Bool) → d < e → ((d == e) && b) ≡ false
bit_elsewhere d e b less = (rw (ne_eqb d e (λ same. omega arith)) refl)

-- one hop more
here_hop : (s : Shape) (dst : ℕ) (first : Channel) (xs : List Channel) (t : ℕ) (class : Class) (d : ℕ) (b bit : Bool) (dir : Dir) (u : ℕ) →
    Here s dst first xs t class d b → ((came : Input) → came_on_one came d ≡ b → next_of s t came dst ≡ To d dir bit) → IsNeighbour s t d dir u →
    Here s dst first (xs ++ record { tile = t; class = class; kind = Hop d dir bit } ∷ []) u class d bit
here_hop s dst first xs t class d b bit dir u h next n =
    let y : Channel = record { tile = t; class = class; kind = Hop d dir bit } in
    let follows : Follows s dst (last first xs) y = record {
      tile = h.tile;
      choice = ap kind_of (next (input_of (last first xs).kind) h.bit);
      class = sym h.class_is;
    } in
    let same : y ≡ last first (xs ++ y ∷ []) = sym (last-snoc first xs y) in
    let Leads : Channel → Type 0 = λ z. LeadsTo s z.tile z.kind u in
    let Bit : Channel → Type 0 = λ z. came_on_one (input_of z.kind) d ≡ bit in
    let Later : Channel → Type 0 = λ z. (e : ℕ) → d < e → came_on_one (input_of z.kind) e ≡ false in
    record {
      chain = chain_snoc s dst first xs y h.chain follows;
      tile = subst Leads same n;
      class_is = ap (λ (z : Channel). z.class) (sym same);
      bit = subst Bit same (bit_at d bit);
      later = subst Later same (λ e less. bit_elsewhere d e bit less);
    }

-- a packet in dimension d, on its way from tile t in direction dir
pub record InDimension (s : Shape) (src dst d t : ℕ) (dir : Dir) : Type 0 where
  pub accepted : IsAccepted s
  pub to : dst < tiles_of s
  pub low : d < dims_of s
  pub start : IsCorrected s src dst d t
  pub way : IsShorter (radix_of s d) (digit_of s t d) (digit_of s dst d) dir

abbrev pub tile_at : Shape → ℕ → Dir → ℕ → ℕ → ℕ
tile_at s t dir d i = with_digit s t d (digit_after dir (radix_of s d) (digit_of s t d) i)

pub after_at : (s : Shape) (src dst d t : ℕ) (dir : Dir) (i : ℕ) → InDimension s src dst d t dir → i ≤ radix_of s d → IsAfter s t dir d i (tile_at s t dir d i)
after_at s src dst d t dir i r few =
    let x : ℕ = digit_of s t d in
    let here : x < radix_of s d = digit_below s r.accepted t d r.low in
    record {
      moved = with_digit_moved s r.accepted t d (digit_after dir (radix_of s d) x i) r.start.tile r.low
          (digit_after_below dir (radix_of s d) x i here few);
    }

hop_further : (s : Shape) (src dst d t : ℕ) (dir : Dir) (i : ℕ) → InDimension s src dst d t dir → i < radix_of s d
    → IsNeighbour s (tile_at s t dir d i) d dir (tile_at s t dir d (i + 1))
hop_further s src dst d t dir i r few =
    let k : ℕ = radix_of s d in
    let x : ℕ = digit_of s t d in
    let a : IsAfter s t dir d i (tile_at s t dir d i) = after_at s src dst d t dir i r (omega arith) in
    let b : IsAfter s t dir d (i + 1) (tile_at s t dir d (i + 1)) = after_at s src dst d t dir (i + 1) r (omega arith) in
    let P : ℕ → Type 0 = λ y. IsMoved s t d y (tile_at s t dir d (i + 1)) in
    moved_hop s t d (digit_after dir k x i) (tile_at s t dir d i) (tile_at s t dir d (i + 1)) dir a.moved
    (subst P (sym (one_hop-digit_after dir k x i (digit_below s r.accepted t d r.low) few)) b.moved)

-- there `next` goes on in the same way
next_in_dimension : (s : Shape) (src dst d t : ℕ) (dir : Dir) (i : ℕ) → InDimension s src dst d t dir
    → i < hops_by dir (radix_of s d) (digit_of s t d) (digit_of s dst d) →
    (came : Input) → came_on_one came d ≡ crossed_in s t dir d i →
    next_of s (tile_at s t dir d i) came dst ≡ To d dir (is_crossed dir (radix_of s d) (dateline_of s d) (digit_of s t d) i)
next_in_dimension s src dst d t dir i r few came bit =
    let k : ℕ = radix_of s d in
    let x : ℕ = digit_of s t d in
    let y : ℕ = digit_of s dst d in
    let u : ℕ = tile_at s t dir d i in
    let here : x < k = digit_below s r.accepted t d r.low in
    let there : y < k = digit_below s r.accepted dst d r.low in
    let short : i ≤ k = omega (arith, hops_by_below dir k x y here there) in
    let a : IsAfter s t dir d i u = after_at s src dst d t dir i r short in
    let now : digit_of s u d ≡ digit_after dir k x i = a.moved.moved in
    let same : (e : ℕ) → e < d → digit_of s u e ≡ digit_of s dst e =
    λ e less. (let other : e ≢ d = omega arith in let inside : e < dims_of s = omega (arith, r.low) in a.moved.kept e inside other ∙ r.start.below e less) in
    let differ : digit_of s u d ≢ y = λ equal. apart_before dir k x y i here there few (sym now ∙ equal) in
    let way : shorter_way k (digit_of s u d) y ≡ dir =
    ap (λ n. shorter_way k n y) now ∙ shorter_way-is k (digit_after dir k x i) y dir (shorter_stays dir k x y i here there r.way few) in
    let crossed : (is_dateline_hop s u d dir || came_on_one came d) ≡ is_crossed dir k (dateline_of s d) x i =
    ap (λ b. is_dateline_hop s u d dir || b) bit ∙ or_comm (is_dateline_hop s u d dir) (crossed_in s t dir d i) ∙ crossed_more s t d i u dir a in
    next_hops s u came dst d r.low same differ ∙ ap (hop_to s u came d) way ∙ ap (To d dir) crossed

-- the hops of a dimension, one by one
abbrev pub AfterHops : Shape → ℕ → Channel → List Channel → ℕ → Dir → Class → ℕ → ℕ → Type 0
AfterHops s dst first before t dir class d i =
    Here s dst first (before ++ map (hop_of s t dir d class) (range_with_len 0 i)) (tile_at s t dir d i) class d (crossed_in s t dir d i)

dimension_walks : (s : Shape) (src dst d t : ℕ) (dir : Dir) (first : Channel) (before : List Channel) (class : Class) (i : ℕ) → InDimension s src dst d t dir →
    Here s dst first before t class d false → i ≤ hops_by dir (radix_of s d) (digit_of s t d) (digit_of s dst d) → AfterHops s dst first before t dir class d i
dimension_walks s src dst d t dir first before class zero r h few =
    let still : t ≡ tile_at s t dir d 0 =
    after_is s r.accepted t d 0 t dir r.start.tile r.low (omega arith) (after_none s r.accepted t d dir r.start.tile r.low) in
    let P : ℕ → Type 0 = λ u. Here s dst first (before ++ []) u class d false in
    let Q : List Channel → Type 0 = λ xs. Here s dst first xs t class d false in
    subst P still (subst Q (sym (append-nil before)) h)
dimension_walks s src dst d t dir first before class (suc i) r h few =
    let k : ℕ = radix_of s d in
    let x : ℕ = digit_of s t d in
    let f : ℕ → Channel = hop_of s t dir d class in
    let so_far : AfterHops s dst first before t dir class d i = dimension_walks s src dst d t dir first before class i r h (omega arith) in
    let short : i < k = omega (arith, hops_by_below dir k x (digit_of s dst d) (digit_below s r.accepted t d r.low) (digit_below s r.accepted dst d r.low)) in
    let more : Here s dst first ((before ++ map f (range_with_len 0 i)) ++ f i ∷ []) (tile_at s t dir d (i + 1)) class d (crossed_in s t dir d (i + 1)) =
    here_hop s dst first (before ++ map f (range_with_len 0 i)) (tile_at s t dir d i) class d (crossed_in s t dir d i) (is_crossed dir k (dateline_of s d) x i)
    dir (tile_at s t dir d (i + 1))
    so_far (next_in_dimension s src dst d t dir i r (omega arith)) (hop_further s src dst d t dir i r short) in
    let list : (before ++ map f (range_with_len 0 i)) ++ f i ∷ [] ≡ before ++ map f (range_with_len 0 (i + 1)) =
    append_assoc before (map f (range_with_len 0 i)) (f i ∷ []) ∙ ap (λ xs. before ++ xs) (sym (map-range_with_len_more f 0 i i (omega arith))) in
    let P : List Channel → Type 0 = λ xs. Here s dst first xs (tile_at s t dir d (i + 1)) class d (crossed_in s t dir d (i + 1)) in
    let Q : ℕ → Type 0 = λ m. AfterHops s dst first before t dir class d m in
    let next : i + 1 ≡ suc i = omega arith in
    subst Q next (subst P list more)

-- a packet from tile src for tile dst
pub record IsTrip (s : Shape) (src dst : ℕ) : Type 0 where
  pub accepted : IsAccepted s
  pub from : src < tiles_of s
  pub to : dst < tiles_of s

pub in_dimension : (s : Shape) (src dst d : ℕ) → IsTrip s src dst → d < dims_of s
    → InDimension s src dst d (corrected s src dst d) (way_in s (corrected s src dst d) dst d)
in_dimension s src dst d trip low = record {
  accepted = trip.accepted;
  to = trip.to;
  low = low;
  start = corrected_is s trip.accepted src dst d trip.from trip.to (omega arith);
  way = shorter (radix_of s d) (digit_of s (corrected s src dst d) d) (digit_of s dst d);
}

abbrev pub injection : ℕ → Class → Channel
injection t class = record { tile = t; class = class; kind = Injection }

abbrev pub ejection : ℕ → Class → Channel
ejection t class = record { tile = t; class = class; kind = Ejection }

-- on to the next dimension
next_dimension : (s : Shape) (dst : ℕ) (first : Channel) (xs : List Channel) (t : ℕ) (class : Class) (d : ℕ) (b : Bool) → Here s dst first xs t class d b
    → Here s dst first xs t class (d + 1) false
next_dimension s dst first xs t class d b h = record {
  chain = h.chain;
  tile = h.tile;
  class_is = h.class_is;
  bit = h.later (d + 1) (omega arith);
  later = λ e less. h.later e (omega arith);
}

-- the hops below a dimension, one dimension after another
hops_walk : (s : Shape) (src dst : ℕ) (class : Class) (d : ℕ) → IsTrip s src dst → d ≤ dims_of s
    → Here s dst (injection src class) (hops_below s src dst class d) (corrected s src dst d) class d false
hops_walk s src dst class zero trip low = record {
  chain = tt;
  tile = refl;
  class_is = refl;
  bit = refl;
  later = λ e less. refl;
}
hops_walk s src dst class (suc d) trip low =
    let inside : d < dims_of s = omega arith in
    let t : ℕ = corrected s src dst d in
    let first : Channel = injection src class in
    let k : ℕ = radix_of s d in
    let x : ℕ = digit_of s t d in
    let y : ℕ = digit_of s dst d in
    let dir : Dir = way_in s t dst d in
    let r : InDimension s src dst d t dir = in_dimension s src dst d trip inside in
    let before : Here s dst first (hops_below s src dst class d) t class d false = hops_walk s src dst class d trip (omega arith) in
    let after = next_dimension s dst first (hops_below s src dst class d ++ dimension_hops s t dst class d) (tile_at s t dir d (hops_in s t dst d)) class d
    (crossed_in s t dir d (hops_in s t dst d))
    (dimension_walks s src dst d t dir first (hops_below s src dst class d) class (hops_in s t dst d) r before (omega arith)) in
    let leads : tile_at s t dir d (hops_in s t dst d) ≡ corrected s src dst (d + 1) =
    ap (with_digit s t d) (digit_after-hops_by dir k x y (digit_below s trip.accepted t d inside) (digit_below s trip.accepted dst d inside))
    ∙ sym (corrected_more s src dst d) in
    let P : List Channel → Type 0 = λ xs. Here s dst first xs (tile_at s t dir d (hops_in s t dst d)) class (d + 1) false in
    let Q : ℕ → Type 0 = λ u. Here s dst first (hops_below s src dst class (d + 1)) u class (d + 1) false in
    let R : ℕ → Type 0 = λ m. Here s dst first (hops_below s src dst class m) (corrected s src dst m) class m false in
    let next : d + 1 ≡ suc d = omega arith in
    subst R next (subst Q leads (subst P (sym (hops_below_more s src dst class d)) after))

-- at the destination the packet is ejected
pub route_walks : (s : Shape) (src dst : ℕ) (class : Class) → IsTrip s src dst → IsWalk s src dst class (route_of s src dst class)
route_walks s src dst class trip =
    let n : ℕ = dims_of s in
    let first : Channel = injection src class in
    let hops : List Channel = hops_below s src dst class n in
    let h : Here s dst first hops (corrected s src dst n) class n false = hops_walk s src dst class n trip (omega arith) in
    let P : ℕ → Type 0 = λ u. LeadsTo s (last first hops).tile (last first hops).kind u in
    let follows : Follows s dst (last first hops) (ejection dst class) = record {
      tile = subst P (corrected_all s trip.accepted src dst trip.from trip.to) h.tile;
      choice = ap kind_of (next_ejects s dst (input_of (last first hops).kind) dst (λ e low. refl));
      class = sym h.class_is;
    } in
    (refl, walks_on s dst first hops (ejection dst class) h.chain follows refl)

-- two tiles to which one channel leads are one
leads_to_one : (s : Shape) → IsAccepted s → (t : ℕ) (kind : Kind) (u v : ℕ) → LeadsTo s t kind u → LeadsTo s t kind v → u ≡ v
leads_to_one s h t Injection u v a b = a ∙ sym b
leads_to_one s h t (Hop d dir bit) u v a b = one_neighbour s h t d u v dir a b
leads_to_one s h t Ejection u v a b = absurd a

ejection_ends : (s : Shape) (t : ℕ) (kind : Kind) (u : ℕ) → kind ≡ Ejection → LeadsTo s t kind u → ⊥
ejection_ends s t kind u e l = let P : Kind → Type 0 = λ k. LeadsTo s t k u in subst P e l

pub same_channel : (x y : Channel) → x.tile ≡ y.tile → x.class ≡ y.class → x.kind ≡ y.kind → x ≡ y
same_channel x y tile class kind =
    let channel : ℕ → Class → Kind → Channel = λ t c k. record { tile = t; class = c; kind = k } in
    ap (λ t. channel t x.class x.kind) tile ∙ ap (λ c. channel y.tile c x.kind) class ∙ ap (channel y.tile y.class) kind

one_follows : (s : Shape) → IsAccepted s → (dst : ℕ) (x y z : Channel) → Follows s dst x y → Follows s dst x z → y ≡ z
one_follows s h dst x y z a b =
    let tile : y.tile ≡ z.tile = leads_to_one s h x.tile x.kind y.tile z.tile a.tile b.tile in
    same_channel y z tile (a.class ∙ sym b.class) (sym a.choice ∙ ap (λ t. kind_of (next_of s t (input_of x.kind) dst)) tile ∙ b.choice)

one_way_on : (s : Shape) → IsAccepted s → (dst : ℕ) (x : Channel) (ys zs : List Channel) → WalksOn s dst x ys → WalksOn s dst x zs → ys ≡ zs
one_way_on s h dst x [] [] a b = refl
one_way_on s h dst x [] (z ∷ zs) a b = absurd (ejection_ends s x.tile x.kind z.tile a b.0.tile)
one_way_on s h dst x (y ∷ ys) [] a b = absurd (ejection_ends s x.tile x.kind y.tile b a.0.tile)
one_way_on s h dst x (y ∷ ys) (z ∷ zs) a b =
    let head : y ≡ z = one_follows s h dst x y z a.0 b.0 in
    let P : Channel → Type 0 = λ w. WalksOn s dst w zs in
    ap (λ w. w ∷ ys) head ∙ ap (λ ws. z ∷ ws) (one_way_on s h dst z ys zs (let Q : Channel → Type 0 = λ w. WalksOn s dst w ys in subst Q head a.1) b.1)

-- there is one walk
pub one_walk : (s : Shape) → IsAccepted s → (src dst : ℕ) (class : Class) (xs ys : List Channel) → IsWalk s src dst class xs → IsWalk s src dst class ys
    → xs ≡ ys
one_walk s h src dst class [] ys a b = absurd a
one_walk s h src dst class (x ∷ xs) [] a b = absurd b
one_walk s h src dst class (x ∷ xs) (y ∷ ys) a b =
    let head : x ≡ y = a.0 ∙ sym b.0 in
    let P : Channel → Type 0 = λ w. WalksOn s dst w xs in
    ap (λ w. w ∷ xs) head ∙ ap (λ ws. y ∷ ws) (one_way_on s h dst y xs ys (subst P head a.1) b.1)

pub walk_is_route : (s : Shape) → IsAccepted s → (src dst : ℕ) → src < tiles_of s → dst < tiles_of s → (class : Class) (xs : List Channel)
    → IsWalk s src dst class xs ↔ (xs ≡ route_of s src dst class)
walk_is_route s h src dst from to class xs =
    let whole : IsWalk s src dst class (route_of s src dst class) = route_walks s src dst class (record { accepted = h; from = from; to = to }) in
    let P : List Channel → Type 0 = λ ys. IsWalk s src dst class ys in
    ((λ walk. one_walk s h src dst class xs (route_of s src dst class) walk whole), (λ same. subst P (sym same) whole))
