-- The branch in which an operation has taken effect, among those that are picked.
use Rattle.std.proofs.Common.{◌≡◌, ◌≢◌, ◌⊎◌, ⊎_elim, ℕ, zero, suc, ◌<◌, Bool, true, false, List, [], ◌∷◌, ◌++◌, length, Option, Some}
use Rattle.std.proofs.Common.{refl, sym, ◌∙◌, ap, subst, arith, slice_get}
use Rattle.std.proofs.lemmas.Bool.{cases_eq, cases_Bool}
use Rattle.trace_laws.specs.declared.opened.Open.{Open}
use Rattle.trace_laws.specs.declared.opened.Branch.{Branch}
use Rattle.trace_laws.specs.declared.opened.Node.{Node}
use Rattle.trace_laws.specs.Configs.{IsIn, effect}
use Rattle.trace_laws.specs.Searches.{IsTrail, Picks}
use Rattle.trace_laws.proofs.Lists.{get_push_cases, get_append_left, get_push, get_within}
use Rattle.trace_laws.proofs.Trails.{put, put_same, put_other, trail_below, trail_old}

-- the branch in which an operation has taken effect
abbrev pub grown : List Node → Branch → ℕ → Open → Branch
grown nodes b s o = record { config = effect b.config s o; trail = Some (length nodes) }

abbrev pub node_of : Branch → Open → Node
node_of b o = record { call = o.call; before = b.trail }

-- a trail that begins with a new node
pub new_trail : (nodes : List Node) (node : Node) (trail : List ℕ)
    → IsTrail (nodes ++ node ∷ []) (Some (length nodes)) trail
    → (rest : List ℕ) × (trail ≡ length nodes ∷ rest) × IsTrail (nodes ++ node ∷ []) node.before rest
new_trail nodes node [] is = cc
new_trail nodes node (i ∷ trail) is =
    let e : length nodes ≡ i = let h = is.1 in cc in
    let at : slice_get (nodes ++ node ∷ []) i ≡ Some node = ap (λ (j : ℕ). slice_get (nodes ++ node ∷ []) j) (sym e)
    ∙ get_push nodes node in
    let same : is.0 ≡ node = let h = is.2 in cc in (
      trail,
      ap (λ (j : ℕ). j ∷ trail) (sym e),
      subst
          (λ (n : Node). IsTrail (nodes ++ node ∷ []) n.before trail) same is.3,
    )

pub length-node_push : (ns : List Node) (n : Node) → length (ns ++ n ∷ []) ≡ suc (length ns)
length-node_push [] n = refl
length-node_push (m ∷ ns) n = ap suc (length-node_push ns n)

pub get_init : {A : Type 0} (xs : List A) (y : A) (k : ℕ) (x : A) → k < length xs
    → slice_get (xs ++ y ∷ []) k ≡ Some x → slice_get xs k ≡ Some x
get_init xs y k x l h = ⊎_elim
    (λ old. old)
    (λ (r : (k ≡ length xs) × (y ≡ x)). absurd (let e = r.0 in omega arith))
    (get_push_cases xs y k x h)

-- Where all that are picked were there before, the last node is not marked.
pub picks_old : (words : ℕ) (sets later : ℕ → List Branch) (nodes : List Node) (node : Node) (pick : ℕ → Branch)
    (trails : ℕ → List ℕ) (marks init : List Bool) (m : Bool)
    → ((i j : ℕ) (n : Node) → slice_get nodes i ≡ Some n → n.before ≡ Some j → j < i)
    → ((w i : ℕ) (b : Branch) → w < words → IsIn (sets w) b → b.trail ≡ Some i → i < length nodes)
    → marks ≡ init ++ m ∷ [] → length init ≡ length nodes → ((v : ℕ) → v < words → IsIn (sets v) (pick v))
    → Picks words later (nodes ++ node ∷ []) pick trails marks
    → Picks words sets nodes pick trails init × (m ≡ false)
picks_old words sets later nodes node pick trails marks init m back inside e sized old picks =
    let trailed : (v : ℕ) → v < words → IsTrail nodes (pick v).trail (trails v) =
    λ v l. trail_old nodes node back (trails v) (pick v).trail (λ i h. inside v i (pick v) l (old v l) h)
    (picks.trailed v l) in
    let below : (v i : ℕ) → v < words → IsIn (trails v) i → i < length init =
    λ v i l at. let r = trail_below nodes back (trails v) (pick v).trail (length nodes) (trailed v l)
    (λ j h. inside v j (pick v) l (old v l) h) i at in omega arith in (
      record {
        sized = sized;
        picked = old;
        trailed = trailed;
        marked = λ v i l at. get_init init m i true (below v i l at)
            (ap (λ (ms : List Bool). slice_get ms i) (sym e) ∙ picks.marked v i l at);
        only = λ i h. picks.only i
            (ap (λ (ms : List Bool). slice_get ms i) e ∙ get_append_left init (m ∷ []) i true h);
      },
      ⊎_elim
          (λ (yes : m ≡ true).
          let at : slice_get marks (length init) ≡ Some true = ap (λ (ms : List Bool). slice_get ms (length init)) e
          ∙ (get_push init m ∙ ap (λ (x : Bool). Some x) yes) in
          let r = picks.only (length init) at in
          absurd (let l = below r.0 (length init) r.1 r.2 in omega arith))
          (λ (no : m ≡ false). no)
          (cases_Bool m),
    )

-- Where the one that is picked for word w goes on by the last node, that is marked, and the others' marks are those of its beginning.
pub picks_new : (words : ℕ) (sets later : ℕ → List Branch) (nodes : List Node) (node : Node) (pick : ℕ → Branch)
    (trails : ℕ → List ℕ) (marks init : List Bool) (m : Bool) (w : ℕ) (b : Branch)
    → ((i j : ℕ) (n : Node) → slice_get nodes i ≡ Some n → n.before ≡ Some j → j < i)
    → ((w i : ℕ) (b : Branch) → w < words → IsIn (sets w) b → b.trail ≡ Some i → i < length nodes)
    → marks ≡ init ++ m ∷ [] → length init ≡ length nodes → w < words → IsIn (sets w) b → b.trail ≡ node.before
    → (pick w).trail ≡ Some (length nodes)
    → ((v : ℕ) → v < words → v ≢ w → IsIn (sets v) (pick v))
    → Picks words later (nodes ++ node ∷ []) pick trails marks
    → (rest : List ℕ) × Picks words sets nodes (put pick w b) (put trails w rest) init × (m ≡ true)
picks_new words sets later nodes node pick trails marks init m w b back inside e sized there in' leads new old picks =
    let trail = new_trail nodes node (trails w)
    (subst (λ (last : Option ℕ). IsTrail (nodes ++ node ∷ []) last (trails w)) new (picks.trailed w there)) in
    let rest : List ℕ = trail.0 in
    let pick' : ℕ → Branch = put pick w b in
    let trails' : ℕ → List ℕ = put trails w rest in
    let picked : (v : ℕ) → v < words → IsIn (sets v) (pick' v) = λ v l. ⊎_elim {C = IsIn (sets v) (pick' v)}
    (λ (here : v ≡ w). subst (λ (c : Branch). IsIn (sets v) c) (sym (put_same pick w b v here))
    (subst (λ (u : ℕ). IsIn (sets u) b) (sym here) in'))
    (λ (ne : v ≢ w). subst (λ (c : Branch). IsIn (sets v) c) (sym (put_other pick w b v ne)) (old v l ne))
    (cases_eq v w) in
    let is_trail : (v : ℕ) → v < words → IsTrail (nodes ++ node ∷ []) (pick' v).trail
    (trails' v) = λ v l. ⊎_elim {C = IsTrail (nodes ++ node ∷ []) (pick' v).trail (trails' v)}
    (λ (here : v ≡ w).
    subst (λ (c : Branch). IsTrail (nodes ++ node ∷ []) c.trail (trails' v)) (sym (put_same pick w b v here))
    (subst (λ (is : List ℕ). IsTrail (nodes ++ node ∷ []) b.trail is) (sym (put_same trails w rest v here))
    (subst (λ (last : Option ℕ). IsTrail (nodes ++ node ∷ []) last rest) (sym leads) trail.2)))
    (λ (ne : v ≢ w).
    subst (λ (c : Branch). IsTrail (nodes ++ node ∷ []) c.trail (trails' v)) (sym (put_other pick w b v ne))
    (subst (λ (is : List ℕ). IsTrail (nodes ++ node ∷ []) (pick v).trail is) (sym (put_other trails w rest v ne))
    (picks.trailed v l)))
    (cases_eq v w) in
    let trailed : (v : ℕ) → v < words → IsTrail nodes (pick' v).trail (trails' v) =
    λ v l. trail_old nodes node back (trails' v) (pick' v).trail (λ i h. inside v i (pick' v) l (picked v l) h)
    (is_trail v l) in
    let below : (v i : ℕ) → v < words → IsIn (trails' v) i → i < length init =
    λ v i l at. let r = trail_below nodes back (trails' v) (pick' v).trail (length nodes) (trailed v l)
    (λ j h. inside v j (pick' v) l (picked v l) h) i at in omega arith in
    let on : (v i : ℕ) → v < words → IsIn (trails' v) i → IsIn
    (trails v) i = λ v i l at. ⊎_elim {C = IsIn (trails v) i}
    (λ (here : v ≡ w).
    let r : IsIn rest i = subst (λ (is : List ℕ). IsIn is i) (put_same trails w rest v here) at in
    let q : IsIn (length nodes ∷ rest) i = (suc r.0, r.1) in
    subst (λ (u : ℕ). IsIn (trails u) i) (sym here) (subst (λ (is : List ℕ). IsIn is i) (sym trail.1) q))
    (λ (ne : v ≢ w). subst (λ (is : List ℕ). IsIn is i) (put_other trails w rest v ne) at)
    (cases_eq v w) in (
      rest,
      record {
        sized = sized;
        picked = picked;
        trailed = trailed;
        marked = λ v i l at. get_init init m i true (below v i l at)
            (ap (λ (ms : List Bool). slice_get ms i) (sym e) ∙ picks.marked v i l (on v i l at));
        only = λ i h.
            let far : slice_get marks i ≡ Some true = ap (λ (ms : List Bool). slice_get ms i) e
            ∙ get_append_left init (m ∷ []) i true h in
            let r = picks.only i far in
            let v = r.0 in (
              v,
              r.1,
              ⊎_elim {C = IsIn (trails' v) i}
                  (λ (here : v ≡ w).
                  let q : IsIn (length nodes ∷ rest) i = subst (λ (is : List ℕ). IsIn is i) trail.1
                  (subst (λ (u : ℕ). IsIn (trails u) i) here r.2) in
                  let p : IsIn rest i = behind (length nodes) rest i q
                  (λ same. let l = get_within init i true h in omega arith) in
                  subst (λ (is : List ℕ). IsIn is i) (sym (put_same trails w rest v here)) p)
                  (λ (ne : v ≢ w). subst (λ (is : List ℕ). IsIn is i) (sym (put_other trails w rest v ne)) r.2)
                  (cases_eq v w),
            );
      },
      (let first : IsIn (length nodes ∷ rest) (length nodes) = (zero, refl) in
          let at : slice_get marks (length nodes) ≡ Some true = picks.marked w (length nodes) there
          (subst (λ (is : List ℕ). IsIn is (length nodes)) (sym trail.1) first) in
          let is : slice_get marks (length init) ≡ Some m = ap (λ (ms : List Bool). slice_get ms (length init)) e
          ∙ get_push init m in
          let same : slice_get marks (length init) ≡ Some true = ap (λ (j : ℕ). slice_get marks j) sized ∙ at in
          cc),
    )
  where
    behind : (n : ℕ) (rest : List ℕ) (i : ℕ) → IsIn (n ∷ rest) i → i ≢ n → IsIn rest i
    behind n rest i (zero, at) ne = absurd (ne (let e : n ≡ i = cc in sym e))
    behind n rest i (suc k, at) ne = (k, at)
