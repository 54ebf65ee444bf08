-- Marks and links of a search, once one is written.
use Rattle.std.proofs.Common.{◌≡◌, ◌≢◌, inl, inr, ℕ, zero, suc, ◌+◌, ◌<◌, ◌≤◌, true, false, cond, List, [], ◌∷◌, length, get_or, set}
use Rattle.std.proofs.Common.{sym, ◌∙◌, ap, arith}
use Rattle.std.specs.List.{count_by}
use Rattle.std.proofs.lemmas.Bool.{cases_eq}
use Rattle.std.proofs.lemmas.List.{get_or-set_same, get_or-set_other}
use Rattle.std.proofs.lemmas.List.Sums.{sum_by-set}
use Rattle.rising.specs.declared.search.Look.{Look}
use Rattle.rising.specs.declared.search.Mark.{Mark}
use Rattle.rising.specs.declared.search.Mark.TheVariants.{New, Open, Done}
use Rattle.rising.specs.Search.{node_mark, path_look, is_unvisited, IsFinishedBelow, StayFinished}

-- a link's mark isn't that of something done with
abbrev pub NotDone : List Mark → ℕ → Type 0
NotDone marks y = (h : ℕ) → node_mark marks y ≡ Done h → ⊥

-- a write of a mark leaves what is done with
pub stay_done : (marks : List Mark) (y : ℕ) (v : Mark) → NotDone marks y → StayFinished marks (set marks y v)
stay_done marks y v other x h e =
    elim (cases_eq x y) [
      | inl same ↦ absurd (other h (ap (node_mark marks) (sym same) ∙ e))
      | inr apart ↦ get_or-set_other marks y x v New apart ∙ e
    ]

pub below_kept : (old new : List Mark) (x low high : ℕ) → StayFinished old new → low ≤ high → IsFinishedBelow old x low → IsFinishedBelow new x high
below_kept old new x low high stay more b = let l = b.2 in (b.0, stay x b.0 b.1, omega arith)

-- the mark at a place, once one is written
pub data MarkedAt (marks : List Mark) (y : ℕ) (v : Mark) (x : ℕ) : Type 0 where
  here : x ≡ y → node_mark (set marks y v) x ≡ v → MarkedAt marks y v x
  there : x ≢ y → node_mark (set marks y v) x ≡ node_mark marks x → MarkedAt marks y v x

pub marked_at : (marks : List Mark) (y : ℕ) (v : Mark) (x : ℕ) → y < length marks → MarkedAt marks y v x
marked_at marks y v x low =
    elim (cases_eq x y) [
      | inl same ↦ here same (ap (node_mark (set marks y v)) same ∙ get_or-set_same marks y v New low)
      | inr apart ↦ there apart (get_or-set_other marks y x v New apart)
    ]

-- the link at a place, once one is written
pub links_kept : (path : List Look) (last : ℕ) (v : Look) (k : ℕ) → k ≢ last → path_look (set path last v) k ≡ path_look path k
links_kept path last v k apart = get_or-set_other path last k v (record { node = 0; column = 0 }) apart

pub nodes_kept : (path : List Look) (last x to more : ℕ) → last < length path → path_look path last ≡ record { node = x; column = to }
    → (k : ℕ) → (path_look (set path last (record { node = x; column = more })) k).node ≡ (path_look path k).node
nodes_kept path last x to more low e k =
    let v : Look = record { node = x; column = more } in
    elim (cases_eq k last) [
      | inl same ↦ (let one : path_look (set path last v) last ≡ v = get_or-set_same path last v (record { node = 0; column = 0 }) low in
          ap (λ z. (path_look (set path last v) z).node) same
          ∙ (ap (λ (l : Look). l.node) one ∙ (sym (ap (λ (l : Look). l.node) e) ∙ ap (λ z. (path_look path z).node) (sym same))))
      | inr apart ↦ ap (λ (l : Look). l.node) (links_kept path last v k apart)
    ]

-- the number of new nodes, once one is marked
pub new_less : (marks : List Mark) (y : ℕ) (v : Mark) → y < length marks → node_mark marks y ≡ New → is_unvisited v ≡ false
    → count_by is_unvisited (set marks y v) + 1 ≡ count_by is_unvisited marks
new_less marks y v low e f =
    let s = sum_by-set (λ (m : Mark). cond (is_unvisited m) 1 0) marks y v New low in
    let a : cond {A = ℕ} (is_unvisited (get_or marks y New)) 1 0 ≡ 1 = ap (λ (m : Mark). cond {A = ℕ} (is_unvisited m) 1 0) e in
    let b : cond {A = ℕ} (is_unvisited v) 1 0 ≡ 0 = ap (λ b. cond {A = ℕ} b 1 0) f in
    omega arith

pub new_same : (marks : List Mark) (y : ℕ) (v : Mark) → y < length marks → is_unvisited (node_mark marks y) ≡ false → is_unvisited v ≡ false
    → count_by is_unvisited (set marks y v) ≡ count_by is_unvisited marks
new_same marks y v low e f =
    let s = sum_by-set (λ (m : Mark). cond (is_unvisited m) 1 0) marks y v New low in
    let a : cond {A = ℕ} (is_unvisited (get_or marks y New)) 1 0 ≡ 0 = ap (λ b. cond {A = ℕ} b 1 0) e in
    let b : cond {A = ℕ} (is_unvisited v) 1 0 ≡ 0 = ap (λ b. cond {A = ℕ} b 1 0) f in
    omega arith

-- an open node is among those that have marks
pub open_inside : (marks : List Mark) (x k : ℕ) → node_mark marks x ≡ Open k → x < length marks
open_inside [] x k f = cc
open_inside (m ∷ marks) zero k f = omega arith
open_inside (m ∷ marks) (suc x) k f = let r = open_inside marks x k f in omega arith

-- and so is one that is done with
pub done_inside : (marks : List Mark) (x h : ℕ) → node_mark marks x ≡ Done h → x < length marks
done_inside [] x h f = cc
done_inside (m ∷ marks) zero h f = omega arith
done_inside (m ∷ marks) (suc x) h f = let r = done_inside marks x h f in omega arith

-- what was new is no more
pub is_begun : (marks : List Mark) (y : ℕ) (v : Mark) (x : ℕ) → y < length marks → is_unvisited v ≡ false → (node_mark marks x ≡ New → ⊥)
    → node_mark (set marks y v) x ≡ New → ⊥
is_begun marks y v x low e other f =
    elim (marked_at marks y v x low) [
      | here same m ↦ (let bad : true ≡ false = ap is_unvisited (sym f ∙ m) ∙ e in cc)
      | there apart m ↦ other (sym m ∙ f)
    ]

pub begins : (marks : List Mark) (y : ℕ) → y < length marks → node_mark (set marks y (Open 0)) y ≡ New → ⊥
begins marks y low f = let m : node_mark (set marks y (Open 0)) y ≡ Open 0 = get_or-set_same marks y (Open 0) New low in let bad : New ≡ Open 0 = sym f ∙ m in cc

pub not_done_new : (marks : List Mark) (y : ℕ) → node_mark marks y ≡ New → NotDone marks y
not_done_new marks y e h d = let bad : New ≡ Done h = sym e ∙ d in cc

pub not_done_open : (marks : List Mark) (y k : ℕ) → node_mark marks y ≡ Open k → NotDone marks y
not_done_open marks y k e h d = let bad : Open k ≡ Done h = sym e ∙ d in cc

-- what is done with stays so, over two steps
pub stay_on : (old now new : List Mark) → StayFinished old now → StayFinished now new → StayFinished old new
stay_on old now new f k x h e = k x h (f x h e)
