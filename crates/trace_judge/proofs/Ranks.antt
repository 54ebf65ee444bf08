-- The loops that let nodes go.
use Rattle.std.proofs.Common.{◌≡◌, ◌≢◌, ◌⊎◌, inl, inr, ⊎_elim, ℕ, zero, suc, ◌+◌, ◌<◌, ◌≤◌, Bool, true, false, cond, List, [], ◌∷◌, ◌++◌, length, Option, Some, None, refl, sym, ◌∙◌, ap, subst}
use Rattle.std.proofs.Common.{arith, slice_get, set, take, add-one, Vec}
use Rattle.std.proofs.lemmas.Bool.{cases_eq}
use Rattle.std.proofs.lemmas.List.{length-take-le, take_all, map_push}
use Rattle.trace_laws.specs.declared.opened.Branch.{Branch}
use Rattle.trace_laws.specs.declared.opened.Node.{Node}
use Rattle.trace_laws.proofs.Lists.{get_within, within_length, set_get_same, get_set_other, get_append_left, get_push, take_push}
use Rattle.trace_judge.specs.Marks.{AreNodes}
use Rattle.trace_judge.specs.Sets.{lists_of}
use Rattle.trace_judge.specs.Kept.{rank, renumbered, marked_nodes, renumbered_all, AreEnds, Keeps, ClosesAt, AreRanks}

-- one node is marked
pub one_keeps : (marks : List Bool) (i : ℕ) → Keeps marks (set marks i true)
one_keeps marks i = λ j h. ⊎_elim {C = slice_get (set marks i true) j ≡ Some true}
    (λ (e : j ≡ i). ap (λ (n : ℕ). slice_get (set marks i true) n) e
    ∙ set_get_same marks i true true (ap (λ (n : ℕ). slice_get marks n) (sym e) ∙ h))
    (λ (ne : j ≢ i). get_set_other marks i j true ne ∙ h)
    (cases_eq j i)

pub one_end : (marks : List Bool) (last : Option ℕ) (i : ℕ) → last ≡ Some i → i < length marks
    → (j : ℕ) → last ≡ Some j → slice_get (set marks i true) j ≡ Some true
one_end marks last i is l j e =
    let same : i ≡ j = cc in
    let there = within_length marks i l in
    ap (λ (n : ℕ). slice_get (set marks i true) n) (sym same) ∙ set_get_same marks i there.0 true there.1

pub one_only : (marks : List Bool) (last : Option ℕ) (i : ℕ) → last ≡ Some i → (j : ℕ)
    → slice_get (set marks i true) j ≡ Some true → (slice_get marks j ≡ Some true) ⊎ (last ≡ Some j)
one_only marks last i is j h = ⊎_elim {C = (slice_get marks j ≡ Some true) ⊎ (last ≡ Some j)}
    (λ (e : j ≡ i). inr (is ∙ ap (λ (n : ℕ). Some n) (sym e)))
    (λ (ne : j ≢ i). inl (sym (get_set_other marks i j true ne) ∙ h))
    (cases_eq j i)

-- those of branches, up to n
pub record Ending (branches : List Branch) (old : List Bool) (n : ℕ) (new : List Bool) : Type 0 where
  pub sized : length new ≡ length old
  pub kept : Keeps old new
  pub ends : (j i : ℕ) (b : Branch) → j < n → slice_get branches j ≡ Some b → b.trail ≡ Some i
      → slice_get new i ≡ Some true

pub ending_none : (branches : List Branch) (old : List Bool) → Ending branches old 0 old
ending_none branches old = record { sized = refl; kept = λ i h. h; ends = λ j i b l h e. absurd (omega arith) }

pub ending_more : (branches : List Branch) (old new later : List Bool) (n : ℕ) (b : Branch)
    → slice_get branches n ≡ Some b → length later ≡ length new → Keeps new later
    → ((i : ℕ) → b.trail ≡ Some i → slice_get later i ≡ Some true)
    → Ending branches old n new → Ending branches old (n + 1) later
ending_more branches old new later n b at same keeps end was = record {
  sized = same ∙ was.sized;
  kept = λ i h. keeps i (was.kept i h);
  ends = λ j i c l h e. ⊎_elim {C = slice_get later i ≡ Some true}
      (λ (f : j ≡ n).
      let here : slice_get branches n ≡ Some c = ap (λ (m : ℕ). slice_get branches m) (sym f) ∙ h in
      let one : b ≡ c = cc in
      end i (ap (λ (x : Branch). x.trail) one ∙ e))
      (λ (ne : j ≢ n). keeps i (was.ends j i c (omega arith) h e))
      (cases_eq j n);
}

pub ending_all : (branches : List Branch) (old : List Bool) (n : ℕ) (new : List Bool) → length branches ≤ n
    → Ending branches old n new → AreEnds new branches
ending_all branches old n new all was = λ i b h e.
    let l = get_within branches h.0 b h.1 in was.ends h.0 i b (omega arith) h.1 e

-- those of words, up to n
pub record WordsEnd {A : Type 0} (words : List (Vec Branch A)) (old : List Bool) (n : ℕ) (new : List Bool) : Type 0 where
  pub sized : length new ≡ length old
  pub ends : (w : ℕ) → w < n → AreEnds new (lists_of words w)

pub words_end_more : {A : Type 0} (words : List (Vec Branch A)) (old new later : List Bool) (n : ℕ) (shown : List Branch)
    → shown ≡ lists_of words n → length later ≡ length new → Keeps new later → AreEnds later shown
    → WordsEnd {A = A} words old n new → WordsEnd {A = A} words old (n + 1) later
words_end_more {A} words old new later n shown is same keeps ends was = record {
  sized = same ∙ was.sized;
  ends = λ w l. ⊎_elim {C = AreEnds later (lists_of words w)}
      (λ (e : w ≡ n). subst (λ (v : ℕ). AreEnds later (lists_of words v)) (sym e)
      (subst (λ (bs : List Branch). AreEnds later bs) is ends))
      (λ (ne : w ≢ n). λ i b h e. keeps i (was.ends w (omega arith) i b h e))
      (cases_eq w n);
}

-- a node is marked with the one that leads back to it
pub closes_marked : (old new : List Bool) (nodes : List Node) (i : ℕ) (node : Node) → slice_get nodes i ≡ Some node
    → ((j : ℕ) → node.before ≡ Some j → slice_get new j ≡ Some true) → ClosesAt new nodes i
closes_marked old new nodes i node at end = λ j n h there e.
    let same : node ≡ n = cc in end j (ap (λ (x : Node). x.before) same ∙ e)

pub above_same : (old new : List Bool) (i : ℕ) (before : Option ℕ)
    → ((j : ℕ) → before ≡ Some j → j < i)
    → ((p : ℕ) → slice_get new p ≡ Some true → (slice_get old p ≡ Some true) ⊎ (before ≡ Some p))
    → (p : ℕ) → i ≤ p → slice_get new p ≡ Some true → slice_get old p ≡ Some true
above_same old new i before low only p far h = ⊎_elim {C = slice_get old p ≡ Some true}
    (λ was. was)
    (λ (e : before ≡ Some p). absurd (let l = low p e in omega arith))
    (only p h)

-- from node i on
pub record Closes (nodes : List Node) (old : List Bool) (i : ℕ) (new : List Bool) : Type 0 where
  pub sized : length new ≡ length old
  pub low : i ≤ length nodes
  pub kept : Keeps old new
  pub closed : (p : ℕ) → i ≤ p → ClosesAt new nodes p

pub closes_none : (nodes : List Node) (old : List Bool) → length old ≡ length nodes → Closes nodes old (length nodes) old
closes_none nodes old same = record {
  sized = refl;
  low = omega arith;
  kept = λ i h. h;
  closed = λ p far j n h there e. absurd (let l = get_within nodes p n there in omega arith);
}

pub closes_more : (nodes : List Node) (old new later : List Bool) (i before : ℕ) → i ≡ before + 1
    → length later ≡ length new → Keeps new later
    → ((p : ℕ) → before ≤ p → slice_get later p ≡ Some true → slice_get new p ≡ Some true)
    → ClosesAt later nodes before → Closes nodes old i new → Closes nodes old before later
closes_more nodes old new later i before is same keeps above here was = record {
  sized = same ∙ was.sized;
  low = let l = was.low in omega arith;
  kept = λ p h. keeps p (was.kept p h);
  closed = λ p far. ⊎_elim {C = ClosesAt later nodes p}
      (λ (e : p ≡ before). subst (λ (n : ℕ). ClosesAt later nodes n) (sym e) here)
      (λ (ne : p ≢ before). λ j n h there e. keeps j (was.closed p (omega arith) j n (above p far h) there e))
      (cases_eq p before);
}

-- ranks, up to place i
pub rank_more : (marks : List Bool) (i : ℕ) (m : Bool) → slice_get marks i ≡ Some m
    → rank marks (i + 1) ≡ rank marks i + cond m 1 0
rank_more marks i m h = ap (rank marks) (add-one i) ∙ by marks i h
  where
    nothing : (ms : List Bool) → rank ms zero ≡ 0
    nothing [] = refl
    nothing (x ∷ ms) = refl

    first : (x : Bool) (ms : List Bool) → rank (x ∷ ms) (suc zero) ≡ rank (x ∷ ms) zero + cond x 1 0
    first true ms = let z = nothing ms in omega arith
    first false ms = let z = nothing ms in omega arith

    by : (ms : List Bool) (k : ℕ) → slice_get ms k ≡ Some m → rank ms (suc k) ≡ rank ms k + cond m 1 0
    by [] k h = cc
    by (x ∷ ms) zero h =
        let e : x ≡ m = cc in
        subst (λ (b : Bool). rank (x ∷ ms) (suc zero) ≡ rank (x ∷ ms) zero + cond b 1 0) e (first x ms)
    by (x ∷ ms) (suc k) h = let r = by ms k h in omega arith

pub record Ranking (marks : List Bool) (i : ℕ) (ranks : List ℕ) (count : ℕ) : Type 0 where
  pub sized : length ranks ≡ i
  pub count_is : count ≡ rank marks i
  pub small : count ≤ i
  pub are : (j : ℕ) → j < i → slice_get ranks j ≡ Some (rank marks j)

pub ranking_none : (marks : List Bool) (ranks : List ℕ) → ranks ≡ [] → Ranking marks 0 ranks 0
ranking_none marks ranks none = record {
  sized = ap (λ (rs : List ℕ). length rs) none;
  count_is = sym (nothing marks);
  small = omega arith;
  are = λ j l. absurd (omega arith);
}
  where
    nothing : (ms : List Bool) → rank ms 0 ≡ 0
    nothing [] = refl
    nothing (x ∷ ms) = refl

pub ranking_more : (marks : List Bool) (i : ℕ) (ranks later : List ℕ) (count more : ℕ) (m : Bool)
    → slice_get marks i ≡ Some m → later ≡ ranks ++ count ∷ [] → more ≡ count + cond m 1 0
    → Ranking marks i ranks count → Ranking marks (i + 1) later more
ranking_more marks i ranks later count more m at is counted was =
    let last : length ranks ≡ i = was.sized in
    record {
      sized = ap (λ (rs : List ℕ). length rs) is ∙ (let e = longer ranks count in omega arith);
      count_is = let c = was.count_is in let r = rank_more marks i m at in omega arith;
      small = let s = was.small in let b = one m in omega arith;
      are = λ j l. ⊎_elim {C = slice_get later j ≡ Some (rank marks j)}
          (λ (e : j ≡ i). ap (λ (rs : List ℕ). slice_get rs j) is
          ∙ (ap (λ (n : ℕ). slice_get (ranks ++ count ∷ []) n) (e ∙ sym last)
          ∙ (get_push ranks count ∙ ap (λ (n : ℕ). Some n) (was.count_is ∙ ap (rank marks) (sym e)))))
          (λ (ne : j ≢ i). ap (λ (rs : List ℕ). slice_get rs j) is
          ∙ get_append_left ranks (count ∷ []) j (rank marks j) (was.are j (omega arith)))
          (cases_eq j i);
    }
  where
    longer : (rs : List ℕ) (x : ℕ) → length (rs ++ x ∷ []) ≡ length rs + 1
    longer [] x = omega arith
    longer (r ∷ rs) x = let e = longer rs x in omega arith

    one : (b : Bool) → cond b 1 0 ≤ 1
    one true = omega arith
    one false = omega arith

pub ranking_all : (marks : List Bool) (i : ℕ) (ranks : List ℕ) (count : ℕ) → i ≡ length marks
    → Ranking marks i ranks count → AreRanks ranks marks
ranking_all marks i ranks count all was = (was.sized ∙ all, λ j l. was.are j (omega arith))

-- the new number of a node
pub number_of : (ranks : List ℕ) (marks : List Bool) (last : Option ℕ) (i n : ℕ) → last ≡ Some i
    → slice_get ranks i ≡ Some n → AreRanks ranks marks → Some n ≡ renumbered marks last
number_of ranks marks last i n is at are =
    let l = get_within ranks i n at in
    let e = are.0 in
    let here : slice_get ranks i ≡ Some (rank marks i) = are.1 i (omega arith) in
    sym at ∙ (here ∙ ap (λ (x : Option ℕ). renumbered marks x) (sym is))

pub number_none : (marks : List Bool) (last : Option ℕ) → last ≡ None → None ≡ renumbered marks last
number_none marks last is = ap (λ (x : Option ℕ). renumbered marks x) (sym is)

-- one more node
marked_push : (all marks : List Bool) (nodes : List Node) (m : Bool) (n : Node) → length marks ≡ length nodes
    → marked_nodes all (marks ++ m ∷ []) (nodes ++ n ∷ [])
    ≡ marked_nodes all marks nodes ++ cond m (record { call = n.call; before = renumbered all n.before } ∷ []) []
marked_push all [] [] true n e = refl
marked_push all [] [] false n e = refl
marked_push all [] (x ∷ nodes) m n e = absurd (omega arith)
marked_push all (x ∷ marks) [] m n e = absurd (omega arith)
marked_push all (true ∷ marks) (x ∷ nodes) m n e =
    ap (λ (ns : List Node). record { call = x.call; before = renumbered all x.before } ∷ ns) (marked_push all marks nodes m n (omega arith))
marked_push all (false ∷ marks) (x ∷ nodes) m n e = marked_push all marks nodes m n (omega arith)

pub marked_more : (marks : List Bool) (nodes kept later : List Node) (i : ℕ) (m : Bool) (n : Node)
    → length marks ≡ length nodes → slice_get marks i ≡ Some m → slice_get nodes i ≡ Some n
    → kept ≡ marked_nodes marks (take i marks) (take i nodes)
    → later ≡ kept ++ cond m (record { call = n.call; before = renumbered marks n.before } ∷ []) []
    → later ≡ marked_nodes marks (take (i + 1) marks) (take (i + 1) nodes)
marked_more marks nodes kept later i m n sized at there was is =
    let l = get_within nodes i n there in
    let a : length (take i marks) ≡ i = length-take-le i marks (omega arith) in
    let b : length (take i nodes) ≡ i = length-take-le i nodes (omega arith) in
    let more : List Node = cond m (record { call = n.call; before = renumbered marks n.before } ∷ []) [] in
    is ∙ (ap (λ (ns : List Node). ns ++ more) was
    ∙ (sym (marked_push marks (take i marks) (take i nodes) m n (a ∙ sym b))
    ∙ (ap (λ (ns : List Node). marked_nodes marks (take i marks ++ m ∷ []) ns) (sym (take_push nodes i n there))
    ∙ (ap (λ (ms : List Bool). marked_nodes marks ms (take (suc i) nodes)) (sym (take_push marks i m at))
    ∙ ap (λ (k : ℕ). marked_nodes marks (take k marks) (take k nodes)) (sym (add-one i))))))

pub marked_all : (marks : List Bool) (nodes kept : List Node) (i : ℕ) → length marks ≡ length nodes → length nodes ≤ i
    → kept ≡ marked_nodes marks (take i marks) (take i nodes) → kept ≡ marked_nodes marks marks nodes
marked_all marks nodes kept i sized all was =
    was ∙ (ap (λ (ns : List Node). marked_nodes marks (take i marks) ns) (take_all i nodes all)
    ∙ ap (λ (ms : List Bool). marked_nodes marks ms nodes) (take_all i marks (omega arith)))

-- one more branch
pub renumbered_more : (marks : List Bool) (branches later more : List Branch) (i : ℕ) (b : Branch) (trail : Option ℕ)
    → slice_get branches i ≡ Some b → later ≡ renumbered_all marks (take i branches)
    → trail ≡ renumbered marks b.trail → more ≡ later ++ record { config = b.config; trail = trail } ∷ []
    → more ≡ renumbered_all marks (take (i + 1) branches)
renumbered_more marks branches later more i b trail at was number is =
    let f : Branch → Branch = λ c. record { config = c.config; trail = renumbered marks c.trail } in
    is ∙ (ap (λ (bs : List Branch). bs ++ record { config = b.config; trail = trail } ∷ []) was
    ∙ (ap (λ (t : Option ℕ). renumbered_all marks (take i branches) ++ record { config = b.config; trail = t } ∷ []) number
    ∙ (sym (map_push f (take i branches) b)
    ∙ (ap (λ (bs : List Branch). renumbered_all marks bs) (sym (take_push branches i b at))
    ∙ ap (λ (k : ℕ). renumbered_all marks (take k branches)) (sym (add-one i))))))

-- the node before one has a rank
pub number_low : (nodes : List Node) (marks : List Bool) (ranks : List ℕ) (i : ℕ) (n : Node) → length marks ≡ length nodes
    → AreNodes nodes → AreRanks ranks marks → slice_get nodes i ≡ Some n
    → (j : ℕ) → n.before ≡ Some j → j < length ranks
number_low nodes marks ranks i n sized back are at j e =
    let b = back i j n at e in let l = get_within nodes i n at in let r = are.0 in omega arith

-- a node under its new number
pub node_renumbered : (marks : List Bool) (kept later : List Node) (n : Node) (number : Option ℕ)
    → later ≡ kept ++ record { call = n.call; before = number } ∷ [] → number ≡ renumbered marks n.before
    → later ≡ kept ++ cond true (record { call = n.call; before = renumbered marks n.before } ∷ []) []
node_renumbered marks kept later n number is e =
    is ∙ ap (λ (b : Option ℕ). kept ++ record { call = n.call; before = b } ∷ []) e

-- one more list
pub length_pushed : {X A : Type 0} (words later : List (Vec X A)) (v : Vec X A) → later ≡ words ++ v ∷ []
    → length later ≡ length words + 1
length_pushed {X} {A} words later v is = ap (λ (vs : List (Vec X A)). length vs) is ∙ longer words
  where
    longer : (vs : List (Vec X A)) → length (vs ++ v ∷ []) ≡ length vs + 1
    longer [] = omega arith
    longer (x ∷ vs) = let e = longer vs in omega arith

pub lists_pushed : {X A : Type 0} (words later : List (Vec X A)) (v : Vec X A) (w : ℕ) → later ≡ words ++ v ∷ []
    → w ≡ length words → lists_of later w ≡ v.items
lists_pushed {X} {A} words later v w is e =
    ap (λ (vs : List (Vec X A)). lists_of vs w) is ∙ (ap (λ (n : ℕ). lists_of (words ++ v ∷ []) n) e ∙ last words)
  where
    last : (vs : List (Vec X A)) → lists_of (vs ++ v ∷ []) (length vs) ≡ v.items
    last [] = refl
    last (x ∷ vs) = last vs

pub lists_before : {X A : Type 0} (words later : List (Vec X A)) (v : Vec X A) (w : ℕ) → later ≡ words ++ v ∷ []
    → w < length words → lists_of later w ≡ lists_of words w
lists_before {X} {A} words later v w is l = ap (λ (vs : List (Vec X A)). lists_of vs w) is ∙ before words w l
  where
    before : (vs : List (Vec X A)) (n : ℕ) → n < length vs → lists_of (vs ++ v ∷ []) n ≡ lists_of vs n
    before [] n m = absurd (omega arith)
    before (x ∷ vs) zero m = refl
    before (x ∷ vs) (suc n) m = before vs n (omega arith)

-- what leads to marked nodes does so still
pub ends_keep : (old new : List Bool) (branches : List Branch) → Keeps old new → AreEnds old branches → AreEnds new branches
ends_keep old new branches keeps ends = λ i b h e. keeps i (ends i b h e)
