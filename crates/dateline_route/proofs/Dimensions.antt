-- The hops of one dimension, one by one.
use Rattle.std.proofs.Common.{◌≡◌, ℕ, ◌+◌, ◌<◌, ◌≤◌, suc, Bool, List, [], ◌∷◌, ◌++◌, length, map, refl, sym, ◌∙◌, ap, subst, arith, append_assoc, length-append}
use Rattle.std.specs.Prelude.{◌==◌, ◌||◌}
use Rattle.std.specs.List.{list_any, flat_map, range_with_len}
use Rattle.std.proofs.lemmas.List.Folds.{list_any-append}
use Rattle.std.proofs.lemmas.List.FromFn.{length-map-range_with_len, map-range_with_len_more}
use Rattle.std.proofs.lemmas.List.{append-nil}
use Rattle.std.proofs.lemmas.Grind.{flat_map-append}
use Rattle.std.proofs.Math.Bool.{or-false}
use Rattle.torus.specs.Shape.{Shape, IsAccepted, IsNeighbour, dims_of, tiles_of, radix_of, dateline_of, digit_of, one_hop}
use Rattle.torus.specs.declared.shape.Class.{Class}
use Rattle.torus.specs.declared.shape.Dir.{Dir}
use Rattle.torus.proofs.Hops.{IsMoved, digit_below}
use Rattle.dateline_route.specs.declared.channel.Channel.{Channel}
use Rattle.dateline_route.specs.declared.channel.Kind.TheVariants.{Hop}
use Rattle.dateline_route.specs.Ring.{hops_by, shorter_way, digit_after, dateline_out_of}
use Rattle.dateline_route.specs.Next.{is_dateline_hop}
use Rattle.dateline_route.specs.Route.{with_digit, hop_of, way_in, dimension_hops, corrected, hops_below}
use Rattle.dateline_route.proofs.Rings.{way_between, range_more, IsShorter, shorter, shorter_hops, one_hop-digit_after, digit_after-zero, digit_after_below}
use Rattle.dateline_route.proofs.Rings.{hops_by_below, digit_after-hops_by}
use Rattle.dateline_route.proofs.Tiles.{with_digit_moved, moved_is, hop_moves}

-- tile u is where i hops in dimension d lead from tile t
pub record IsAfter (s : Shape) (t : ℕ) (dir : Dir) (d i u : ℕ) : Type 0 where
  pub moved : IsMoved s t d (digit_after dir (radix_of s d) (digit_of s t d) i) u

-- whether one of the first n hops is the dateline hop
abbrev pub crossed_in : Shape → ℕ → Dir → ℕ → ℕ → Bool
crossed_in s t dir d n = list_any (λ j. digit_after dir (radix_of s d) (digit_of s t d) j == dateline_out_of dir (radix_of s d) (dateline_of s d))
    (range_with_len 0 n)

pub after_none : (s : Shape) → IsAccepted s → (t d : ℕ) (dir : Dir) → t < tiles_of s → d < dims_of s → IsAfter s t dir d 0 t
after_none s h t d dir below low = record {
  moved = record {
    tile = below;
    moved = sym (digit_after-zero dir (radix_of s d) (digit_of s t d) (digit_below s h t d low));
    kept = λ e inside other. refl;
  };
}

-- one hop further
pub after_more : (s : Shape) → IsAccepted s → (t d i u v : ℕ) (dir : Dir) → d < dims_of s → i < radix_of s d → IsAfter s t dir d i u → IsNeighbour s u d dir v
    → IsAfter s t dir d (i + 1) v
after_more s h t d i u v dir low few a n =
    let k : ℕ = radix_of s d in
    let x : ℕ = digit_of s t d in
    let m : IsMoved s t d (one_hop dir k (digit_after dir k x i)) v = hop_moves s h t d (digit_after dir k x i) u v dir a.moved n in
    let P : ℕ → Type 0 = λ y. IsMoved s t d y v in
    record { moved = subst P (one_hop-digit_after dir k x i (digit_below s h t d low) few) m }

-- the tile where hop i leaves
pub after_is : (s : Shape) → IsAccepted s → (t d i u : ℕ) (dir : Dir) → t < tiles_of s → d < dims_of s → i ≤ radix_of s d → IsAfter s t dir d i u →
    u ≡ with_digit s t d (digit_after dir (radix_of s d) (digit_of s t d) i)
after_is s h t d i u dir below low few a =
    let y : ℕ = digit_after dir (radix_of s d) (digit_of s t d) i in
    moved_is s h t d y u (with_digit s t d y) a.moved
    (with_digit_moved s h t d y below low (digit_after_below dir (radix_of s d) (digit_of s t d) i (digit_below s h t d low) few))

-- the tile where they end
pub after_all : (s : Shape) → IsAccepted s → (t dst d u : ℕ) (dir : Dir) → t < tiles_of s → d < dims_of s →
    IsAfter s t dir d (hops_by dir (radix_of s d) (digit_of s t d) (digit_of s dst d)) u → u ≡ with_digit s t d (digit_of s dst d)
after_all s h t dst d u dir below low a =
    let k : ℕ = radix_of s d in
    let x : ℕ = digit_of s t d in
    let y : ℕ = digit_of s dst d in
    let here : x < k = digit_below s h t d low in
    let there : y < k = digit_below s h dst d low in
    let short : hops_by dir k x y < k = hops_by_below dir k x y here there in
    after_is s h t d (hops_by dir k x y) u dir below low (omega arith) a ∙ ap (with_digit s t d) (digit_after-hops_by dir k x y here there)

-- whether the dateline is crossed, one hop further
pub crossed_more : (s : Shape) (t d i u : ℕ) (dir : Dir) → IsAfter s t dir d i u
    → (crossed_in s t dir d i || is_dateline_hop s u d dir) ≡ crossed_in s t dir d (i + 1)
crossed_more s t d i u dir a =
    let k : ℕ = radix_of s d in
    let out : ℕ = dateline_out_of dir k (dateline_of s d) in
    let p : ℕ → Bool = λ j. digit_after dir k (digit_of s t d) j == out in
    sym (ap (list_any p) (range_more 0 i i (omega arith)) ∙ list_any-append p (range_with_len 0 i) (i ∷ [])
    ∙ ap (λ b. crossed_in s t dir d i || b) (or-false (p i) ∙ ap (λ y. y == out) (sym a.moved.moved)))

-- the channel of hop i
pub hop_is : (s : Shape) → IsAccepted s → (t d i u : ℕ) (dir : Dir) (class : Class) (bit : Bool) → t < tiles_of s → d < dims_of s → i ≤ radix_of s d
    → IsAfter s t dir d i u →
    bit ≡ crossed_in s t dir d (i + 1) → record { tile = u; class = class; kind = Hop d dir bit } ≡ hop_of s t dir d class i
hop_is s h t d i u dir class bit below low few a crossed =
    let channel : ℕ → Bool → Channel = λ v b. record { tile = v; class = class; kind = Hop d dir b } in
    ap (λ v. channel v bit) (after_is s h t d i u dir below low few a)
    ∙ ap (channel (with_digit s t d (digit_after dir (radix_of s d) (digit_of s t d) i))) crossed

-- they are at most four, and fewer than the digits of the ring
pub few_hops : (dir : Dir) (k x y : ℕ) → IsShorter k x y dir → x < k → y < k → k ≤ 8 → (hops_by dir k x y ≤ 4) × (hops_by dir k x y < k)
few_hops dir k x y h here there small =
    let half : hops_by dir k x y + hops_by dir k x y ≤ k = shorter_hops k x y dir here there h in
    (omega arith, omega arith)

pub is_shorter : (dir : Dir) (k x y : ℕ) → dir ≡ shorter_way k x y → IsShorter k x y dir
is_shorter dir k x y way = let P : Dir → Type 0 = λ w. IsShorter k x y w in subst P (sym way) (shorter k x y)

hops_at : (dir : Dir) (k l x v y w : ℕ) → k ≡ l → x ≡ v → y ≡ w → hops_by dir k x y ≡ hops_by dir l v w
hops_at dir k l x v y w k_is x_is y_is = ap (λ n. hops_by dir n x y) k_is ∙ ap (λ n. hops_by dir l n y) x_is ∙ ap (λ n. hops_by dir l v n) y_is

-- in what follows k, x, y are the radix, and the digits of the two tiles, as the code has them
pub hops_few : (s : Shape) → IsAccepted s → (t dst d : ℕ) → d < dims_of s → (dir : Dir) (k x y n : ℕ) →
    k ≡ radix_of s d → x ≡ digit_of s t d → y ≡ digit_of s dst d → dir ≡ shorter_way k x y → n ≡ hops_by dir k x y → (n ≤ 4) × (n < radix_of s d)
hops_few s h t dst d low dir k x y n k_is x_is y_is way n_is =
    let way' = way_between dir k (radix_of s d) x (digit_of s t d) y (digit_of s dst d) way k_is x_is y_is in
    let few = few_hops dir (radix_of s d) (digit_of s t d) (digit_of s dst d) (is_shorter dir (radix_of s d) (digit_of s t d) (digit_of s dst d) way')
    (digit_below s h t d low) (digit_below s h dst d low) (h.radix_high d low) in
    let same = n_is ∙ hops_at dir k (radix_of s d) x (digit_of s t d) y (digit_of s dst d) k_is x_is y_is in
    let P : ℕ → Type 0 = λ m. (m ≤ 4) × (m < radix_of s d) in
    subst P (sym same) few

-- all of them
pub hops_end : (s : Shape) (t dst : ℕ) (class : Class) (d : ℕ) (old : List Channel) (dir : Dir) (k x y n : ℕ) →
    k ≡ radix_of s d → x ≡ digit_of s t d → y ≡ digit_of s dst d → dir ≡ shorter_way k x y → n ≡ hops_by dir k x y →
    old ++ map (hop_of s t dir d class) (range_with_len 0 n) ≡ old ++ dimension_hops s t dst class d
hops_end s t dst class d old dir k x y n k_is x_is y_is way n_is =
    let way' : dir ≡ way_in s t dst d = way_between dir k (radix_of s d) x (digit_of s t d) y (digit_of s dst d) way k_is x_is y_is in
    let same : n ≡ hops_by dir (radix_of s d) (digit_of s t d) (digit_of s dst d) =
    n_is ∙ hops_at dir k (radix_of s d) x (digit_of s t d) y (digit_of s dst d) k_is x_is y_is in
    ap (λ m. old ++ map (hop_of s t dir d class) (range_with_len 0 m)) same
    ∙ ap (λ w. old ++ map (hop_of s t w d class) (range_with_len 0 (hops_by w (radix_of s d) (digit_of s t d) (digit_of s dst d)))) way'

-- the tile where it ends
pub hops_lead : (s : Shape) → IsAccepted s → (t dst d u : ℕ) → t < tiles_of s → d < dims_of s → (dir : Dir) (k x y n : ℕ) →
    k ≡ radix_of s d → x ≡ digit_of s t d → y ≡ digit_of s dst d → n ≡ hops_by dir k x y → IsAfter s t dir d n u → u ≡ with_digit s t d (digit_of s dst d)
hops_lead s h t dst d u below low dir k x y n k_is x_is y_is n_is a =
    let same : n ≡ hops_by dir (radix_of s d) (digit_of s t d) (digit_of s dst d) =
    n_is ∙ hops_at dir k (radix_of s d) x (digit_of s t d) y (digit_of s dst d) k_is x_is y_is in
    let P : ℕ → Type 0 = λ m. IsAfter s t dir d m u in
    after_all s h t dst d u dir below low (subst P same a)

pub length-pushed : {X : Type 0} (f : ℕ → X) (xs ys : List X) (n : ℕ) → ys ≡ xs ++ map f (range_with_len 0 n) → length ys ≡ length xs + n
length-pushed f xs ys n e = ap length e ∙ length-append xs (map f (range_with_len 0 n)) ∙ ap (λ m. length xs + m) (length-map-range_with_len f 0 n)

-- the list of one hop more
pub made_more : {X : Type 0} (f : ℕ → X) (old xs ys : List X) (n : ℕ) (x : X) → xs ≡ old ++ map f (range_with_len 0 n) → ys ≡ xs ++ x ∷ [] → x ≡ f n
    → ys ≡ old ++ map f (range_with_len 0 (n + 1))
made_more f old xs ys n x before after e =
    after ∙ ap (λ zs. zs ++ x ∷ []) before ∙ ap (λ z. (old ++ map f (range_with_len 0 n)) ++ z ∷ []) e
    ∙ append_assoc old (map f (range_with_len 0 n)) (f n ∷ []) ∙ ap (λ zs. old ++ zs) (sym (map-range_with_len_more f 0 n n (omega arith)))

-- the hops of one dimension more
pub hops_below_more : (s : Shape) (src dst : ℕ) (class : Class) (d : ℕ)
    → hops_below s src dst class (d + 1) ≡ hops_below s src dst class d ++ dimension_hops s (corrected s src dst d) dst class d
hops_below_more s src dst class d =
    let each : ℕ → List Channel = λ e. dimension_hops s (corrected s src dst e) dst class e in
    ap (flat_map each) (range_more 0 d d (omega arith)) ∙ flat_map-append each (range_with_len 0 d) (d ∷ [])
    ∙ ap (λ hops. hops_below s src dst class d ++ hops) (append-nil (each d))

pub corrected_more : (s : Shape) (src dst d : ℕ) → corrected s src dst (d + 1) ≡ with_digit s (corrected s src dst d) d (digit_of s dst d)
corrected_more s src dst d = let next : d + 1 ≡ suc d = omega arith in ap (corrected s src dst) next

-- the channels so far, after the hops of one dimension more
pub channels_more : (s : Shape) (src dst : ℕ) (class : Class) (d t : ℕ) (first : Channel) (old new : List Channel) → t ≡ corrected s src dst d →
    old ≡ first ∷ hops_below s src dst class d → new ≡ old ++ dimension_hops s t dst class d → new ≡ first ∷ hops_below s src dst class (d + 1)
channels_more s src dst class d t first old new t_is old_is new_is =
    new_is ∙ ap (λ u. old ++ dimension_hops s u dst class d) t_is ∙ ap (λ xs. xs ++ dimension_hops s (corrected s src dst d) dst class d) old_is
    ∙ ap (λ hops. first ∷ hops) (sym (hops_below_more s src dst class d))

pub tile_more : (s : Shape) (src dst d t u : ℕ) → t ≡ corrected s src dst d → u ≡ with_digit s t d (digit_of s dst d) → u ≡ corrected s src dst (d + 1)
tile_more s src dst d t u t_is u_is = u_is ∙ ap (λ v. with_digit s v d (digit_of s dst d)) t_is ∙ sym (corrected_more s src dst d)
