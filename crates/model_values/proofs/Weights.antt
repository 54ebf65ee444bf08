-- What is left of a search gets less with each table that it looks at.
use Rattle.std.proofs.Common.{◌≡◌, ℕ, zero, suc, ◌+◌, ◌<◌, ◌≤◌, Bool, true, false, List, [], ◌∷◌, ◌++◌, length, refl, sym, ap, subst, ◌∙◌, arith}
use Rattle.std.specs.Prelude.{slice_index, if◌then◌else◌}
use Rattle.std.proofs.lemmas.List.{length-take-le, length_push}
use Rattle.model_values.specs.declared.question.Unordered.{Unordered}
use Rattle.model_values.specs.Answers.{IsSplit, IsTurned}
use Rattle.model_values.specs.Known.{HasSpreadOrder, IsOpenPair, unknown}
use Rattle.model_values.proofs.Split.{IsPathOf, less_to, path_spread, split_below, split_fewer, turned_fewer, turned_below}

-- how many tables a search of so many unknown pairs looks at, at most
abbrev pub weight : ℕ → ℕ
weight zero = 1
weight (suc u) = suc (weight u + weight u)

-- and the second side of a split among so many
abbrev pub side_weight : ℕ → ℕ
side_weight zero = 0
side_weight (suc u) = weight u

-- the second sides of the splits below a level
abbrev pub sides_weight : ℕ → List ℕ → ℕ
sides_weight zero table = 0
sides_weight (suc i) table = side_weight (unknown i table) + sides_weight i table

-- what is left of a search
abbrev pub left_of : Bool → List (ℕ × ℕ) → List ℕ → ℕ
left_of more path table =
    if more then sides_weight (length path) table + weight (unknown (length path) table) else 0

pub weight_some : (u : ℕ) → 1 ≤ weight u
weight_some zero = omega arith
weight_some (suc u) = omega arith

weight_less : (u v : ℕ) → u ≤ v → weight u ≤ weight v
weight_less zero v low = weight_some v
weight_less (suc u) zero low = absurd (omega (arith, low))
weight_less (suc u) (suc v) low = let rest = weight_less u v (omega (arith, low)) in omega (arith, rest)

side_less : (u v : ℕ) → u ≤ v → side_weight u ≤ side_weight v
side_less zero v low = omega arith
side_less (suc u) zero low = absurd (omega (arith, low))
side_less (suc u) (suc v) low = weight_less u v (omega (arith, low))

-- a side is less than what it is a side of
side_under : (u v : ℕ) → u < v → weight u ≤ side_weight v
side_under u zero low = absurd (omega (arith, low))
side_under u (suc v) low = weight_less u v (omega (arith, low))

both_under : (u v : ℕ) → u < v → side_weight v + weight u < weight v
both_under u zero low = absurd (omega (arith, low))
both_under u (suc v) low = let rest = weight_less u v (omega (arith, low)) in omega (arith, rest)

sides_less : (l : ℕ) (old new : List ℕ) → ((i : ℕ) → i < l → unknown i new ≤ unknown i old) → sides_weight l new ≤ sides_weight l old
sides_less zero old new less = omega arith
sides_less (suc l) old new less =
    let here = side_less (unknown l new) (unknown l old) (less l (omega arith)) in
    let rest = sides_less l old new (λ i low. less i (omega (arith, low))) in
    omega (arith, here, rest)

-- a split leaves less
pub left_split : (q : Unordered) (x y : ℕ) (path next : List (ℕ × ℕ)) (t s u : List ℕ) → length path + 1 < 18446744073709551615
    → IsPathOf q t path → HasSpreadOrder q (length path) t s → IsOpenPair q.operations.now s (length path) (x, y)
    → IsSplit (length q.operations.now) x y path s next u → left_of true next u < left_of true path t
left_split q x y path next t s u small p spread o g =
    let l : ℕ = length path in
    let long : length next ≡ suc l = ap length g.grown ∙ grown in
    let same = split_below (length q.operations.now) x y path next s u small g in
    let to-s : (i : ℕ) → i ≤ l → unknown i s ≤ unknown i t = less_to l t s spread.noted.size spread.noted.kept in
    let to-u : (i : ℕ) → i ≤ l → unknown i u ≤ unknown i s = less_to l s u same.size (λ k low. same.kept k (omega (arith, low))) in
    let fewer : unknown (l + 1) u < unknown l s = split_fewer q x y path next s u (path_spread q t s path spread p) o g in
    let top = to-s l (omega arith) in
    let stay = to-u l (omega arith) in
    let below : sides_weight l u ≤ sides_weight l t =
    sides_less l t u (λ i low. (let one = to-s i (omega (arith, low)) in let two = to-u i (omega (arith, low)) in omega (arith, one, two))) in
    let side = side_less (unknown l u) (unknown l t) (omega (arith, top, stay)) in
    let e : l + 1 ≡ suc l = omega arith in
    let now : weight (unknown (suc l) u) ≡ weight (unknown (l + 1) u) = ap (λ z. weight (unknown z u)) (sym e) in
    let both = both_under (unknown (l + 1) u) (unknown l t) (omega (arith, fewer, top)) in
    subst (λ z. sides_weight z u + weight (unknown z u) < sides_weight l t + weight (unknown l t)) (sym long)
    (omega (arith, below, side, now, both))
  where
    grown : length (path ++ (x, y) ∷ []) ≡ suc (length path)
    grown = let more = length_push path (x, y) in omega (arith, more)

-- turning back leaves less
pub left_turned : (q : Unordered) (path next : List (ℕ × ℕ)) (t s u : List ℕ) → length path < 18446744073709551615
    → IsPathOf q t path → HasSpreadOrder q (length path) t s → IsTurned (length q.operations.now) path s next u
    → left_of true next u < left_of true path t
left_turned q path next t s u small p spread g =
    let last : ℕ = g.last in
    let long : length next ≡ last = ap length g.shorter ∙ length-take-le last path (omega (arith, g.behind)) in
    let to-s : (i : ℕ) → i ≤ length path → unknown i s ≤ unknown i t = less_to (length path) t s spread.noted.size spread.noted.kept in
    let same = turned_below (length q.operations.now) last s g.kept (omega (arith, small, g.behind)) g.forgot in
    let stay : (k : ℕ) → slice_index s k ≤ last → slice_index u k ≡ slice_index s k =
    λ k low. (let one = same.kept k (omega (arith, low)) in g.noted.noted.kept k (omega (arith, one, low)) ∙ one) in
    let to-u : (i : ℕ) → i ≤ last → unknown i u ≤ unknown i s = less_to last s u (g.noted.noted.size ∙ g.forgot.size) stay in
    let fewer : unknown last u < unknown last s = turned_fewer q path next s u small (path_spread q t s path spread p) g in
    let top = to-s last (omega (arith, g.behind)) in
    let below : sides_weight last u ≤ sides_weight last t =
    sides_less last t u (λ i low. (let one = to-s i (omega (arith, low, g.behind)) in let two = to-u i (omega (arith, low)) in omega (arith, one, two))) in
    let side = side_under (unknown last u) (unknown last t) (omega (arith, fewer, top)) in
    let some = weight_some (unknown (length path) t) in
    let e : length path ≡ suc last = omega (arith, g.behind) in
    let whole : sides_weight (length path) t ≡ side_weight (unknown last t) + sides_weight last t = ap (λ z. sides_weight z t) e in
    subst (λ z. sides_weight z u + weight (unknown z u) < sides_weight (length path) t + weight (unknown (length path) t)) (sym long)
    (omega (arith, below, side, some, whole))

-- where there is none, nothing is left
pub left_ended : (path : List (ℕ × ℕ)) (t : List ℕ) (next : List (ℕ × ℕ)) (u : List ℕ) → left_of false next u < left_of true path t
left_ended path t next u = let some = weight_some (unknown (length path) t) in omega (arith, some)

pub left_back : (q : Unordered) (path next : List (ℕ × ℕ)) (t s u : List ℕ) (more back : Bool) → length path < 18446744073709551615 → more ≡ true
    → IsPathOf q t path → HasSpreadOrder q (length path) t s → (back ≡ true → IsTurned (length q.operations.now) path s next u)
    → left_of back next u < left_of more path t
left_back q path next t s u true true small go p spread turned = left_turned q path next t s u small p spread (turned refl)
left_back q path next t s u true false small go p spread turned = left_ended path t next u
left_back q path next t s u false back small go p spread turned = absurd (let no : false ≡ true = go in cc)

pub left_on : (q : Unordered) (x y : ℕ) (path next : List (ℕ × ℕ)) (t s u : List ℕ) (more : Bool) → length path + 1 < 18446744073709551615
    → more ≡ true → IsPathOf q t path → HasSpreadOrder q (length path) t s → IsOpenPair q.operations.now s (length path) (x, y)
    → IsSplit (length q.operations.now) x y path s next u → left_of more next u < left_of more path t
left_on q x y path next t s u true small go p spread o g = left_split q x y path next t s u small p spread o g
left_on q x y path next t s u false small go p spread o g = absurd (let no : false ≡ true = go in cc)
