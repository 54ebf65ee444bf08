-- The way back from a node, marked.
use Rattle.std.proofs.Common.{◌≡◌, ◌≢◌, ◌⊎◌, inl, inr, ⊎_elim, ℕ, zero, suc, ◌+◌, ◌<◌, ◌≤◌, Bool, true, false, List, [], ◌∷◌, ◌++◌, length, Option, Some}
use Rattle.std.proofs.Common.{None, refl, sym, ◌∙◌, ap, subst, arith, slice_get, set, length-set, append-nil, append_assoc, take, replicate, cond, add-one}
use Rattle.std.proofs.Common.{get_or}
use Rattle.std.proofs.lemmas.List.{length-take-le, take_all, length-replicate}
use Rattle.std.proofs.lemmas.Bool.{cases_eq}
use Rattle.trace_laws.specs.declared.opened.Node.{Node}
use Rattle.trace_laws.specs.Configs.{IsIn}
use Rattle.trace_laws.specs.declared.event.Call.{Call}
use Rattle.trace_laws.specs.declared.opened.Branch.{Branch}
use Rattle.trace_laws.specs.Searches.{IsTrail, Picks, order_of}
use Rattle.trace_laws.proofs.Trails.{put, put_same, put_other, order_push}
use Rattle.trace_laws.proofs.Lists.{take_push, get_push_cases, get_append_left, get_push, get_within, set_get_same, get_set_other, within_length}
use Rattle.trace_judge.specs.Marks.{AreNodes, IsBelow, AreMarked}

-- what is marked so far: the trail's beginning, of which the rest leads back from next
pub record Marking (nodes : List Node) (last : Option ℕ) (old : List Bool) (next : Option ℕ)
    (new : List Bool) : Type 0 where
  pub done : List ℕ
  pub goes : (rest : List ℕ) → IsTrail nodes next rest → IsTrail nodes last (done ++ rest)
  pub sized : length new ≡ length old
  pub marked : AreMarked old done new
  pub below : IsBelow nodes next

pub marking_none : (nodes : List Node) (last : Option ℕ) (old : List Bool) → IsBelow nodes last
    → Marking nodes last old last old
marking_none nodes last old below = record {
  done = [];
  goes = λ rest is. is;
  sized = refl;
  marked = record {
    marked = λ i h. absurd (let e : None ≡ Some i = h.1 in cc);
    kept = λ i h. h;
    only = λ i h. inl h;
  };
  below = below;
}

in_push : (xs : List ℕ) (y i : ℕ) → IsIn (xs ++ y ∷ []) i → IsIn xs i ⊎ (y ≡ i)
in_push xs y i h = ⊎_elim (λ l. inl (h.0, l)) (λ (r : (h.0 ≡ length xs) × (y ≡ i)). inr r.1)
    (get_push_cases xs y h.0 i h.1)

pub marking_more : (nodes : List Node) (last : Option ℕ) (old : List Bool) (i : ℕ) (new : List Bool) (node : Node)
    → AreNodes nodes → length old ≡ length nodes
    → slice_get nodes i ≡ Some node → Marking nodes last old (Some i) new
    → Marking nodes last old node.before (set new i true)
marking_more nodes last old i new node back sized at was =
    let l : i < length new = let m = get_within nodes i node at in let s = was.sized in omega arith in
    let there = within_length new i l in
    record {
      done = was.done ++ i ∷ [];
      goes = λ rest is. subst (λ (ns : List ℕ). IsTrail nodes last ns) (sym (append_assoc was.done (i ∷ []) rest))
          (was.goes (i ∷ rest) (node, refl, at, is));
      sized = length-set new i true ∙ was.sized;
      marked = record {
        marked = λ j h. ⊎_elim {C = slice_get (set new i true) j ≡ Some true}
            (λ (e : j ≡ i). ap (λ (n : ℕ). slice_get (set new i true) n) e ∙ set_get_same new i there.0 true there.1)
            (λ (ne : j ≢ i). get_set_other new i j true ne ∙ ⊎_elim {C = slice_get new j ≡ Some true}
            (λ l. was.marked.marked j l)
            (λ (r : i ≡ j). absurd (ne (sym r)))
            (in_push was.done i j h))
            (cases_eq j i);
        kept = λ j h. ⊎_elim {C = slice_get (set new i true) j ≡ Some true}
            (λ (e : j ≡ i). ap (λ (n : ℕ). slice_get (set new i true) n) e ∙ set_get_same new i there.0 true there.1)
            (λ (ne : j ≢ i). get_set_other new i j true ne ∙ was.marked.kept j h)
            (cases_eq j i);
        only = λ j h. ⊎_elim {C = (slice_get old j ≡ Some true) ⊎ IsIn (was.done ++ i ∷ []) j}
            (λ (e : j ≡ i). inr (length was.done, get_push was.done i ∙ ap (λ (n : ℕ). Some n) (sym e)))
            (λ (ne : j ≢ i). ⊎_elim {C = (slice_get old j ≡ Some true) ⊎ IsIn (was.done ++ i ∷ []) j}
            (λ l. inl l)
            (λ (r : IsIn was.done j). inr (r.0, get_append_left was.done (i ∷ []) r.0 j r.1))
            (was.marked.only j (sym (get_set_other new i j true ne) ∙ h)))
            (cases_eq j i);
      };
      below = λ j e. let b = back i j node at e in let m = get_within nodes i node at in omega arith;
    }

pub marking_all : (nodes : List Node) (last : Option ℕ) (old : List Bool) (next : Option ℕ) (new : List Bool)
    → next ≡ None → Marking nodes last old next new
    → (trail : List ℕ) × IsTrail nodes last trail × AreMarked old trail new
marking_all nodes last old next new none was =
    (was.done, subst (λ (ns : List ℕ). IsTrail nodes last ns) (append-nil was.done) (was.goes [] none), was.marked)

-- the measure: how far back
abbrev pub way_left : Option ℕ → ℕ
way_left None = 0
way_left (Some i) = i + 1

-- the picked branches of the words so far
abbrev pub PicksSoFar : (ℕ → Branch) → ℕ → (ℕ → List Branch) → List Node → List Bool → Type 0
PicksSoFar pick w sets nodes marks = (trails : ℕ → List ℕ) × Picks w sets nodes pick trails marks

-- the first of some branches
abbrev pub first_of : List Branch → Branch
first_of [] = record { config = record { word = 0; taken = 0 }; trail = None }
first_of (b ∷ bs) = b

pub first_in : (bs : List Branch) (b : Branch) → IsIn bs b → IsIn bs (first_of bs)
first_in [] b h = absurd (let e : None ≡ Some b = h.1 in cc)
first_in (c ∷ bs) b h = (zero, refl)

pub first_is : (bs : List Branch) (b : Branch) → 0 < length bs → b ≡ get_or bs 0 b → first_of bs ≡ b
first_is [] b l e = absurd (omega arith)
first_is (c ∷ bs) b l e = sym e

pub no_false : (n i : ℕ) → slice_get (replicate n false) i ≡ Some true → ⊥
no_false zero i h = cc
no_false (suc n) zero h = cc
no_false (suc n) (suc i) h = no_false n i h

pub picks_none : (pick : ℕ → Branch) (sets : ℕ → List Branch) (nodes : List Node) (n : ℕ) (marks : List Bool)
    → marks ≡ replicate n false → n ≡ length nodes → PicksSoFar pick 0 sets nodes marks
picks_none pick sets nodes n marks e same = (
  (λ w. []),
  record {
    sized = ap (λ (ms : List Bool). length ms) e ∙ (length-replicate n false ∙ same);
    picked = λ w l. absurd (omega arith);
    trailed = λ w l. absurd (omega arith);
    marked = λ w i l h. absurd (omega arith);
    only = λ i h. absurd (no_false n i (ap (λ (ms : List Bool). slice_get ms i) (sym e) ∙ h));
  },
)

pub picks_more : (pick : ℕ → Branch) (w : ℕ) (sets : ℕ → List Branch) (nodes : List Node) (marks later : List Bool)
    (trail : List ℕ)
    → IsIn (sets w) (pick w)
    → IsTrail nodes (pick w).trail trail → AreMarked marks trail later → length later ≡ length marks
    → PicksSoFar pick w sets nodes marks → PicksSoFar pick (w + 1) sets nodes later
picks_more pick w sets nodes marks later trail in' is new same was =
    let trails : ℕ → List ℕ = was.0 in
    let old : Picks w sets nodes pick trails marks = was.1 in (
      put trails w trail,
      record {
        sized = same ∙ old.sized;
        picked = λ v l. ⊎_elim {C = IsIn (sets v) (pick v)}
            (λ (e : v ≡ w). subst (λ (u : ℕ). IsIn (sets u) (pick u)) (sym e) in')
            (λ (ne : v ≢ w). old.picked v (omega arith))
            (cases_eq v w);
        trailed = λ v l. ⊎_elim {C = IsTrail nodes (pick v).trail (put trails w trail v)}
            (λ (e : v ≡ w). subst (λ (t : List ℕ). IsTrail nodes (pick v).trail t)
            (sym (put_same trails w trail v e)) (subst (λ (u : ℕ). IsTrail nodes (pick u).trail trail) (sym e) is))
            (λ (ne : v ≢ w). subst (λ (t : List ℕ). IsTrail nodes (pick v).trail t)
            (sym (put_other trails w trail v ne)) (old.trailed v (omega arith)))
            (cases_eq v w);
        marked = λ v i l h. ⊎_elim {C = slice_get later i ≡ Some true}
            (λ (e : v ≡ w). new.marked i (subst (λ (t : List ℕ). IsIn t i) (put_same trails w trail v e) h))
            (λ (ne : v ≢ w). new.kept i
            (old.marked v i (omega arith) (subst (λ (t : List ℕ). IsIn t i) (put_other trails w trail v ne) h)))
            (cases_eq v w);
        only = λ i h. ⊎_elim {C = (v : ℕ) × (v < w + 1) × IsIn (put trails w trail v) i}
            (λ before.
            let r = old.only i before in
            let l = r.1 in
            let ne : r.0 ≢ w = omega arith in
            (r.0, omega arith, subst (λ (t : List ℕ). IsIn t i) (sym (put_other trails w trail r.0 ne)) r.2))
            (λ (here : IsIn trail i).
            (w, omega arith, subst (λ (t : List ℕ). IsIn t i) (sym (put_same trails w trail w refl)) here))
            (new.only i h);
      },
    )

-- the operations of the marked nodes so far
pub collected_more : (nodes : List Node) (marks : List Bool) (i : ℕ) (m : Bool) (n : Node) (order later : List Call)
    → length marks ≡ length nodes → slice_get marks i ≡ Some m → slice_get nodes i ≡ Some n
    → order ≡ order_of (take i nodes) (take i marks) → later ≡ order ++ cond m (n.call ∷ []) []
    → later ≡ order_of (take (i + 1) nodes) (take (i + 1) marks)
collected_more nodes marks i m n order later sized at there was is =
    let l = get_within nodes i n there in
    let a : length (take i marks) ≡ i = length-take-le i marks (omega arith) in
    let b : length (take i nodes) ≡ i = length-take-le i nodes (omega arith) in
    is ∙ (ap (λ (cs : List Call). cs ++ cond m (n.call ∷ []) []) was
    ∙ (sym (order_push (take i nodes) n (take i marks) m (a ∙ sym b))
    ∙ (ap (λ (ns : List Node). order_of ns (take i marks ++ m ∷ [])) (sym (take_push nodes i n there))
    ∙ (ap (λ (ms : List Bool). order_of (take (suc i) nodes) ms) (sym (take_push marks i m at))
    ∙ ap (λ (k : ℕ). order_of (take k nodes) (take k marks)) (sym (add-one i))))))

pub collected_all : (nodes : List Node) (marks : List Bool) (i : ℕ) (order : List Call)
    → length marks ≡ length nodes → length nodes ≤ i → order ≡ order_of (take i nodes) (take i marks)
    → order ≡ order_of nodes marks
collected_all nodes marks i order sized all was =
    was ∙ (ap (λ (ns : List Node). order_of ns (take i marks)) (take_all i nodes all) ∙ ap
    (λ (ms : List Bool). order_of nodes ms) (take_all i marks (omega arith)))
