-- What is left to do of a search gets less with each step.
use Rattle.std.proofs.Common.{◌≡◌, ℕ, ◌+◌, ◌-◌, ◌*◌, ◌<◌, ◌≤◌, List, [], ◌∷◌, ◌++◌, length, set}
use Rattle.std.proofs.Common.{take, refl, sym, ◌∙◌, ap, subst, arith}
use Rattle.std.specs.List.{count_by, sum_by}
use Rattle.std.proofs.lemmas.List.{take_more, take_all}
use Rattle.std.proofs.lemmas.List.Sums.{sum_by-set, sum_by_push}
use Rattle.rising.specs.declared.search.Look.{Look}
use Rattle.rising.specs.declared.search.Mark.{Mark}
use Rattle.rising.specs.declared.search.Mark.TheVariants.{New, Open, Done}
use Rattle.rising.specs.Search.{node_mark, path_look, is_unvisited}
use Rattle.rising.proofs.Written.{new_less, new_same}

-- what is left to do: the new nodes, and the ejection nodes to look at on the path
abbrev pub left : ℕ → List Mark → List Look → ℕ
left n marks path = (n + 2) * count_by is_unvisited marks + sum_by (λ (look : Look). n + 1 - look.column) path

pub less_advanced : (n : ℕ) (marks : List Mark) (path : List Look) (last x to more : ℕ) → last + 1 ≡ length path
    → path_look path last ≡ record { node = x; column = to } → to < n → to < more
    → left n marks (set path last (record { node = x; column = more })) < left n marks path
less_advanced n marks path last x to more e at low high =
    let v : Look = record { node = x; column = more } in
    let s = sum_by-set (λ (look : Look). n + 1 - look.column) path last v (record { node = 0; column = 0 }) (omega arith) in
    let a : n + 1 - (path_look path last).column ≡ n + 1 - to = ap (λ (look : Look). n + 1 - look.column) at in
    let less : sum_by (λ (look : Look). n + 1 - look.column) (set path last v) < sum_by (λ (look : Look). n + 1 - look.column) path = omega arith in
    omega (arith, less)

pub less_pushed : (n : ℕ) (marks : List Mark) (path : List Look) (y k to : ℕ) → y < length marks → node_mark marks y ≡ New
    → left n (set marks y (Open k)) (path ++ record { node = y; column = to } ∷ []) < left n marks path
less_pushed n marks path y k to low e =
    let fewer = new_less marks y (Open k) low e refl in
    let s = sum_by_push (λ (look : Look). n + 1 - look.column) path (record { node = y; column = to }) in
    step n (count_by is_unvisited (set marks y (Open k))) (count_by is_unvisited marks) (sum_by (λ (look : Look). n + 1 - look.column) path)
    (sum_by (λ (look : Look). n + 1 - look.column) (path ++ record { node = y; column = to } ∷ [])) to fewer s
  where
    step : (n a b c d to : ℕ) → a + 1 ≡ b → d ≡ c + (n + 1 - to) → (n + 2) * a + d < (n + 2) * b + c
    step n a b c d to e f =
        let more : (n + 2) * b ≡ (n + 2) * a + (n + 2) = ap (λ z. (n + 2) * z) (sym e) ∙ times (n + 2) a in
        omega arith
      where
        times : (m a : ℕ) → m * (a + 1) ≡ m * a + m
        times m a = grind arith

pub less_popped : (n : ℕ) (marks : List Mark) (path : List Look) (last x to h k : ℕ) → last + 1 ≡ length path
    → path_look path last ≡ record { node = x; column = to } → to ≤ n → x < length marks → node_mark marks x ≡ Open k
    → left n (set marks x (Done h)) (take last path) < left n marks path
less_popped n marks path last x to h k e at low inside open_x =
    let f : Look → ℕ = λ look. n + 1 - look.column in
    let same = new_same marks x (Done h) inside (ap is_unvisited open_x) refl in
    let whole : path ≡ take last path ++ path_look path last ∷ [] =
    sym (take_all (last + 1) path (omega arith)) ∙ take_more path last (record { node = 0; column = 0 }) (omega arith) in
    let s : sum_by f path ≡ sum_by f (take last path) + f (path_look path last) = ap (sum_by f) whole ∙ sum_by_push f (take last path) (path_look path last) in
    let a : f (path_look path last) ≡ n + 1 - to = ap f at in
    let less : sum_by f (take last path) < sum_by f path = omega arith in
    let one : (n + 2) * count_by is_unvisited (set marks x (Done h)) ≡ (n + 2) * count_by is_unvisited marks = ap (λ z. (n + 2) * z) same in
    omega (arith, less, one)

pub less_pushed_at : (n : ℕ) (marks : List Mark) (path : List Look) (y k to : ℕ) (next : List Look) → y < length marks → node_mark marks y ≡ New
    → next ≡ path ++ record { node = y; column = to } ∷ [] → left n (set marks y (Open k)) next < left n marks path
less_pushed_at n marks path y k to next low e same =
    subst (λ z. left n (set marks y (Open k)) z < left n marks path) (sym same) (less_pushed n marks path y k to low e)

pub less_popped_at : (n : ℕ) (marks : List Mark) (path : List Look) (last x to h k : ℕ) (next : List Look) → last + 1 ≡ length path
    → path_look path last ≡ record { node = x; column = to } → to ≤ n → x < length marks → node_mark marks x ≡ Open k → next ≡ take last path
    → left n (set marks x (Done h)) next < left n marks path
less_popped_at n marks path last x to h k next e at low inside open_x same =
    subst (λ z. left n (set marks x (Done h)) z < left n marks path) (sym same) (less_popped n marks path last x to h k e at low inside open_x)
