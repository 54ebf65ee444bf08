-- What each channel of a route is.
use Rattle.std.proofs.Common.{◌≡◌, ◌≢◌, ℕ, ◌+◌, ◌<◌, zero, suc, Bool, List, [], ◌∷◌, ◌++◌, length, map, refl, sym, ◌∙◌, ap, subst, arith}
use Rattle.std.specs.Prelude.{All, slice_index_or}
use Rattle.std.specs.List.{range_with_len, AllAdjacentBelow}
use Rattle.std.proofs.lemmas.List.Elements.{All-append, All-cons, All-nil}
use Rattle.torus.specs.Shape.{Shape, IsAccepted, dims_of, tiles_of, radix_of, digit_of}
use Rattle.torus.specs.declared.shape.Class.{Class}
use Rattle.torus.specs.declared.shape.Dir.{Dir}
use Rattle.torus.specs.declared.shape.Dir.TheVariants.{Plus, Minus}
use Rattle.torus.proofs.Hops.{digit_below}
use Rattle.dateline_route.specs.declared.channel.Channel.{Channel}
use Rattle.dateline_route.specs.declared.channel.Kind.{Kind}
use Rattle.dateline_route.specs.declared.channel.Kind.TheVariants.{Injection, Hop, Ejection}
use Rattle.dateline_route.specs.Ring.{shorter_way}
use Rattle.dateline_route.specs.Route.{corrected, hop_of, hops_in, way_in, dimension_hops, hops_below, route_of}
use Rattle.dateline_route.specs.Walk.{LeadsTo, Follows, WalksOn, IsChannel, IsHop, IsInside}
use Rattle.dateline_route.proofs.Dimensions.{hops_below_more}
use Rattle.dateline_route.proofs.Walks.{injection, ejection, route_walks}

every : (P : Channel → Type 0) (f : ℕ → Channel) → ((i : ℕ) → P (f i)) → (is : List ℕ) → All P (map f is)
every P f all [] = All-nil P
every P f all (i ∷ is) = All-cons P (f i) (map f is) (all i) (every P f all is)

-- what holds of each hop in each dimension, the way that the route goes there
pub each_way : (s : Shape) (src dst : ℕ) (class : Class) (P : Channel → Type 0) (n : ℕ) → ((t d i : ℕ) → d < n → P (hop_of s t (way_in s t dst d) d class i))
    → All P (hops_below s src dst class n)
each_way s src dst class P zero all = All-nil P
each_way s src dst class P (suc n) all =
    let t : ℕ = corrected s src dst n in
    let before : All P (hops_below s src dst class n) = each_way s src dst class P n (λ u d i low. all u d i (omega arith)) in
    let more : All P (dimension_hops s t dst class n) =
    every P (hop_of s t (way_in s t dst n) n class) (λ i. all t n i (omega arith)) (range_with_len 0 (hops_in s t dst n)) in
    let Q : List Channel → Type 0 = λ xs. All P xs in
    let R : ℕ → Type 0 = λ m. All P (hops_below s src dst class m) in
    let next : n + 1 ≡ suc n = omega arith in
    subst R next (subst Q (sym (hops_below_more s src dst class n)) (All-append P (hops_below s src dst class n) (dimension_hops s t dst class n) before more))

-- and by any way
pub each_hop : (s : Shape) (src dst : ℕ) (class : Class) (P : Channel → Type 0) (n : ℕ) → ((t d i : ℕ) (dir : Dir) → d < n → P (hop_of s t dir d class i))
    → All P (hops_below s src dst class n)
each_hop s src dst class P n all = each_way s src dst class P n (λ t d i low. all t d i (way_in s t dst d) low)

-- and of the injection and the ejection, holds of the whole route
pub each_channel : (s : Shape) (src dst : ℕ) (class : Class) (P : Channel → Type 0) → P (injection src class) → P (ejection dst class)
    → All P (hops_below s src dst class (dims_of s)) → All P (route_of s src dst class)
each_channel s src dst class P first last hops =
    let hops' : List Channel = hops_below s src dst class (dims_of s) in
    All-cons P (injection src class) (hops' ++ ejection dst class ∷ []) first
    (All-append P hops' (ejection dst class ∷ []) hops (All-cons P (ejection dst class) [] last (All-nil P)))

abbrev pub Between : Shape → ℕ → ℕ → Class → List Channel → Type 0
Between s src dst class hops = route_of s src dst class ≡ injection src class ∷ hops ++ ejection dst class ∷ []

pub ends : (s : Shape) → IsAccepted s → (src dst : ℕ) → src < tiles_of s → dst < tiles_of s → (class : Class) →
    (hops : List Channel) × All (λ x. IsHop x.kind) hops × (route_of s src dst class ≡ injection src class ∷ hops ++ ejection dst class ∷ [])
ends s h src dst from to class =
    (hops_below s src dst class (dims_of s), each_hop s src dst class (λ x. IsHop x.kind) (dims_of s) (λ t d i dir low. tt), refl)

pub classes : (s : Shape) → IsAccepted s → (src dst : ℕ) → src < tiles_of s → dst < tiles_of s → (class : Class)
    → All (λ x. x.class ≡ class) (route_of s src dst class)
classes s h src dst from to class =
    let P : Channel → Type 0 = λ x. x.class ≡ class in
    each_channel s src dst class P refl refl (each_hop s src dst class P (dims_of s) (λ t d i dir low. refl))

kinds : (s : Shape) (src dst : ℕ) (class : Class) → All (λ x. IsInside s x.kind) (route_of s src dst class)
kinds s src dst class =
    let P : Channel → Type 0 = λ x. IsInside s x.kind in
    each_channel s src dst class P tt tt (each_hop s src dst class P (dims_of s) (λ t d i dir low. low))

next_tile : (s : Shape) (t : ℕ) (kind : Kind) (u : ℕ) → t < tiles_of s → LeadsTo s t kind u → u < tiles_of s
next_tile s t Injection u low l = omega arith
next_tile s t (Hop d dir bit) u low l = l.tile
next_tile s t Ejection u low l = absurd l

tiles_on : (s : Shape) (dst : ℕ) (x : Channel) (xs : List Channel) → WalksOn s dst x xs → x.tile < tiles_of s → All (λ y. y.tile < tiles_of s) (x ∷ xs)
tiles_on s dst x [] w low = All-cons (λ y. y.tile < tiles_of s) x [] low (All-nil (λ y. y.tile < tiles_of s))
tiles_on s dst x (y ∷ ys) w low =
    All-cons (λ z. z.tile < tiles_of s) x (y ∷ ys) low (tiles_on s dst y ys w.1 (next_tile s x.tile x.kind y.tile low w.0.tile))

pub channels : (s : Shape) → IsAccepted s → (src dst : ℕ) → src < tiles_of s → dst < tiles_of s → (class : Class) → All (IsChannel s) (route_of s src dst class)
channels s h src dst from to class =
    let walk = route_walks s src dst class (record { accepted = h; from = from; to = to }) in
    let tiles = tiles_on s dst (injection src class) (hops_below s src dst class (dims_of s) ++ ejection dst class ∷ []) walk.1 from in
    let inside = kinds s src dst class in
    λ k d low. record { tile = tiles k d low; kind = inside k d low }

follows_on : (s : Shape) (dst : ℕ) (x : Channel) (xs : List Channel) → WalksOn s dst x xs → (k : ℕ) (d : Channel) → k < length xs →
    Follows s dst (slice_index_or (x ∷ xs) k d) (slice_index_or (x ∷ xs) (suc k) d)
follows_on s dst x [] w k d low = absurd (omega arith)
follows_on s dst x (y ∷ ys) w zero d low = w.0
follows_on s dst x (y ∷ ys) w (suc k) d low = follows_on s dst y ys w.1 k d (omega arith)

-- each next channel of a route is the choice of the router between
pub chosen : (s : Shape) → IsAccepted s → (src dst : ℕ) → src < tiles_of s → dst < tiles_of s → (class : Class) →
    AllAdjacentBelow (Follows s dst) (route_of s src dst class) (length (route_of s src dst class))
chosen s h src dst from to class k d low =
    let walk = route_walks s src dst class (record { accepted = h; from = from; to = to }) in
    let rest : List Channel = hops_below s src dst class (dims_of s) ++ ejection dst class ∷ [] in
    let route : List Channel = injection src class ∷ rest in
    let P : ℕ → Type 0 = λ m. Follows s dst (slice_index_or route k d) (slice_index_or route m d) in
    let next : suc k ≡ k + 1 = omega arith in
    subst P next (follows_on s dst (injection src class) rest walk.1 k d (omega arith))

pub meets : (s : Shape) → IsAccepted s → (src dst : ℕ) → src < tiles_of s → dst < tiles_of s → (class : Class) →
    AllAdjacentBelow (λ x y. LeadsTo s x.tile x.kind y.tile) (route_of s src dst class) (length (route_of s src dst class))
meets s h src dst from to class k d low = (chosen s h src dst from to class k d low).tile

-- between two digits a tie goes plus
two_go_plus : (x y : ℕ) → x < 2 → y < 2 → shorter_way 2 x y ≡ Plus
two_go_plus zero zero here there = refl
two_go_plus zero (suc zero) here there = refl
two_go_plus (suc zero) zero here there = refl
two_go_plus (suc zero) (suc zero) here there = refl
two_go_plus zero (suc (suc y)) here there = absurd (omega arith)
two_go_plus (suc zero) (suc (suc y)) here there = absurd (omega arith)
two_go_plus (suc (suc x)) y here there = absurd (omega arith)

way_of_two : (s : Shape) → IsAccepted s → (t dst d : ℕ) → d < dims_of s → radix_of s d ≡ 2 → way_in s t dst d ≡ Plus
way_of_two s h t dst d low two =
    let x : ℕ = digit_of s t d in
    let y : ℕ = digit_of s dst d in
    ap (λ k. shorter_way k x y) two ∙ two_go_plus x y (subst (λ k. x < k) two (digit_below s h t d low)) (subst (λ k. y < k) two (digit_below s h dst d low))

no_minus : (s : Shape) → IsAccepted s → (t dst d e i : ℕ) (class : Class) (bit : Bool) → d < dims_of s → radix_of s e ≡ 2
    → (hop_of s t (way_in s t dst d) d class i).kind ≢ Hop e Minus bit
no_minus s h t dst d e i class bit low two same =
    let dimension : d ≡ e = cc in
    let minus : way_in s t dst d ≡ Minus = cc in
    let plus : way_in s t dst d ≡ Plus = way_of_two s h t dst d low (ap (radix_of s) dimension ∙ two) in
    cc

-- no route takes a minus channel of a dimension of radix 2
pub pluses : (s : Shape) → IsAccepted s → (src dst : ℕ) (class : Class) (e : ℕ) (bit : Bool) → radix_of s e ≡ 2
    → All (λ x. x.kind ≢ Hop e Minus bit) (route_of s src dst class)
pluses s h src dst class e bit two =
    let P : Channel → Type 0 = λ x. x.kind ≢ Hop e Minus bit in
    each_channel s src dst class P (λ same. cc) (λ same. cc) (each_way s src dst class P (dims_of s) (λ t d i low. no_minus s h t dst d e i class bit low two))
