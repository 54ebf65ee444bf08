-- A search is sound still where the nodes are let go that no branch leads back to.
use Rattle.std.proofs.Common.{◌≡◌, ⊎_elim, ℕ, zero, suc, ◌+◌, ◌<◌, ◌≤◌, Bool, true, false, List, [], ◌∷◌, length, Option, Some, None, refl, sym, ◌∙◌, ap, subst}
use Rattle.std.proofs.Common.{arith, slice_get, map}
use Rattle.std.proofs.lemmas.Bool.{cases_lt}
use Rattle.trace_laws.specs.declared.event.Call.{Call}
use Rattle.trace_laws.specs.declared.event.Event.{Event}
use Rattle.trace_laws.proofs.Lists.{get_within, within_length}
use Rattle.trace_laws.specs.declared.opened.Open.{Open}
use Rattle.trace_laws.specs.declared.opened.Branch.{Branch}
use Rattle.trace_laws.specs.declared.opened.Node.{Node}
use Rattle.trace_laws.specs.declared.opened.Config.{Config}
use Rattle.trace_laws.specs.Legal.{Legal}
use Rattle.trace_laws.specs.Configs.{IsIn}
use Rattle.trace_laws.specs.Searches.{Fits, IsTrail, Picks, IsSoundSearch, order_of}
use Rattle.trace_laws.proofs.Start.{map_in}
use Rattle.trace_judge.specs.Kept.{rank, renumbered, marked_nodes, renumbered_all, AreEnds, IsClosed}

-- places that are marked keep their order
rank_below : (marks : List Bool) (i j : ℕ) → i < j → slice_get marks i ≡ Some true → rank marks i < rank marks j
rank_below [] i j l h = cc
rank_below (m ∷ marks) i zero l h = absurd (omega arith)
rank_below (true ∷ marks) zero (suc j) l h = omega arith
rank_below (false ∷ marks) zero (suc j) l h = absurd (let e : Some false ≡ Some true = h in cc)
rank_below (true ∷ marks) (suc i) (suc j) l h = let r = rank_below marks i j (omega arith) h in omega arith
rank_below (false ∷ marks) (suc i) (suc j) l h = let r = rank_below marks i j (omega arith) h in omega arith

rank_same : (marks : List Bool) (i j : ℕ) → slice_get marks i ≡ Some true → slice_get marks j ≡ Some true
    → rank marks i ≡ rank marks j → i ≡ j
rank_same marks i j h m e = ⊎_elim {C = i ≡ j}
    (λ (l : i < j). absurd (let r = rank_below marks i j l h in omega arith))
    (λ (g : j ≤ i). ⊎_elim {C = i ≡ j}
    (λ (l : j < i). absurd (let r = rank_below marks j i l m in omega arith))
    (λ (k : i ≤ j). omega arith)
    (cases_lt j i))
    (cases_lt i j)

-- a marked node, by its new number
node_at : (all marks : List Bool) (nodes : List Node) (i : ℕ) (n : Node) → slice_get marks i ≡ Some true
    → slice_get nodes i ≡ Some n
    → slice_get (marked_nodes all marks nodes) (rank marks i) ≡ Some (record { call = n.call; before = renumbered all n.before })
node_at all [] nodes i n h at = cc
node_at all (m ∷ marks) [] i n h at = cc
node_at all (true ∷ marks) (x ∷ nodes) zero n h at =
    let e : x ≡ n = cc in ap (λ (y : Node). Some (record { call = y.call; before = renumbered all y.before })) e
node_at all (false ∷ marks) (x ∷ nodes) zero n h at = absurd (let e : Some false ≡ Some true = h in cc)
node_at all (true ∷ marks) (x ∷ nodes) (suc i) n h at =
    let rest : List Node = marked_nodes all marks nodes in
    let first : Node = record { call = x.call; before = renumbered all x.before } in
    ap (λ (k : ℕ). slice_get (first ∷ rest) k) (let e : 1 + rank marks i ≡ suc (rank marks i) = omega arith in e)
    ∙ node_at all marks nodes i n h at
node_at all (false ∷ marks) (x ∷ nodes) (suc i) n h at =
    ap (λ (k : ℕ). slice_get (marked_nodes all marks nodes) k) (let e : 0 + rank marks i ≡ rank marks i = omega arith in e)
    ∙ node_at all marks nodes i n h at

-- each new number is that of a marked node
at_node : (all marks : List Bool) (nodes : List Node) (k : ℕ) (n : Node) → length marks ≡ length nodes
    → slice_get (marked_nodes all marks nodes) k ≡ Some n
    → (i : ℕ) × (old : Node) × (slice_get marks i ≡ Some true) × (slice_get nodes i ≡ Some old) × (k ≡ rank marks i)
    × (n ≡ record { call = old.call; before = renumbered all old.before })
at_node all [] nodes k n sized h = cc
at_node all (m ∷ marks) [] k n sized h = cc
at_node all (true ∷ marks) (x ∷ nodes) zero n sized h = (zero, x, refl, refl, refl, cc)
at_node all (true ∷ marks) (x ∷ nodes) (suc k) n sized h =
    let r = at_node all marks nodes k n (omega arith) h in
    (suc r.0, r.1, r.2, r.3, (let e = r.4 in omega arith), r.5)
at_node all (false ∷ marks) (x ∷ nodes) k n sized h =
    let r = at_node all marks nodes k n (omega arith) h in
    (suc r.0, r.1, r.2, r.3, (let e = r.4 in omega arith), r.5)

-- marks of the new nodes, at their old places
abbrev spread : List Bool → List Bool → List Bool
spread [] marks = []
spread (true ∷ all) [] = false ∷ spread all []
spread (true ∷ all) (m ∷ marks) = m ∷ spread all marks
spread (false ∷ all) marks = false ∷ spread all marks

length-spread : (all marks : List Bool) → length (spread all marks) ≡ length all
length-spread [] marks = refl
length-spread (true ∷ all) [] = ap suc (length-spread all [])
length-spread (true ∷ all) (m ∷ marks) = ap suc (length-spread all marks)
length-spread (false ∷ all) marks = ap suc (length-spread all marks)

spread_at : (all marks : List Bool) (i : ℕ) → slice_get all i ≡ Some true → slice_get marks (rank all i) ≡ Some true
    → slice_get (spread all marks) i ≡ Some true
spread_at [] marks i h m = cc
spread_at (true ∷ all) [] i h m = cc
spread_at (true ∷ all) (x ∷ marks) zero h m = m
spread_at (true ∷ all) (x ∷ marks) (suc i) h m = spread_at all marks i h
    (sym (ap (λ (k : ℕ). slice_get (x ∷ marks) k) (let e : 1 + rank all i ≡ suc (rank all i) = omega arith in e)) ∙ m)
spread_at (false ∷ all) marks zero h m = absurd (let e : Some false ≡ Some true = h in cc)
spread_at (false ∷ all) marks (suc i) h m = spread_at all marks i h
    (sym (ap (λ (k : ℕ). slice_get marks k) (let e : 0 + rank all i ≡ rank all i = omega arith in e)) ∙ m)

at_spread : (all marks : List Bool) (i : ℕ) → slice_get (spread all marks) i ≡ Some true
    → (slice_get all i ≡ Some true) × (slice_get marks (rank all i) ≡ Some true)
at_spread [] marks i h = cc
at_spread (true ∷ all) [] zero h = absurd (let e : Some false ≡ Some true = h in cc)
at_spread (true ∷ all) [] (suc i) h = let r = at_spread all [] i h in (r.0, absurd (let e : None ≡ Some true = r.1 in cc))
at_spread (true ∷ all) (x ∷ marks) zero h = (refl, h)
at_spread (true ∷ all) (x ∷ marks) (suc i) h =
    let r = at_spread all marks i h in
    (r.0, ap (λ (k : ℕ). slice_get (x ∷ marks) k) (let e : 1 + rank all i ≡ suc (rank all i) = omega arith in e) ∙ r.1)
at_spread (false ∷ all) marks zero h = absurd (let e : Some false ≡ Some true = h in cc)
at_spread (false ∷ all) marks (suc i) h =
    let r = at_spread all marks i h in
    (r.0, ap (λ (k : ℕ). slice_get marks k) (let e : 0 + rank all i ≡ rank all i = omega arith in e) ∙ r.1)

-- they mark the same operations
spread_order : (outer all marks : List Bool) (nodes : List Node) → length all ≡ length nodes
    → length marks ≡ length (marked_nodes outer all nodes)
    → order_of nodes (spread all marks) ≡ order_of (marked_nodes outer all nodes) marks
spread_order outer [] marks [] sized same = refl
spread_order outer [] marks (n ∷ nodes) sized same = absurd (omega arith)
spread_order outer (m ∷ all) marks [] sized same = absurd (omega arith)
spread_order outer (true ∷ all) [] (n ∷ nodes) sized same = absurd (omega arith)
spread_order outer (true ∷ all) (true ∷ marks) (n ∷ nodes) sized same =
    ap (λ (cs : List Call). n.call ∷ cs) (spread_order outer all marks nodes (omega arith) (omega arith))
spread_order outer (true ∷ all) (false ∷ marks) (n ∷ nodes) sized same = spread_order outer all marks nodes (omega arith) (omega arith)
spread_order outer (false ∷ all) marks (n ∷ nodes) sized same = spread_order outer all marks nodes (omega arith) same

in_cons : (all : List Bool) (i : ℕ) (old : List ℕ) → slice_get all i ≡ Some true
    → ((j : ℕ) → IsIn old j → slice_get all j ≡ Some true) → (j : ℕ) → IsIn (i ∷ old) j → slice_get all j ≡ Some true
in_cons all i old here rest j (zero, h) = let e : i ≡ j = cc in ap (λ (k : ℕ). slice_get all k) (sym e) ∙ here
in_cons all i old here rest j (suc k, h) = rest j (k, h)

-- a way back over the new nodes is one over the old ones
trail_back : (all : List Bool) (nodes : List Node) → length all ≡ length nodes → IsClosed all nodes
    → (trail : List ℕ) (last : Option ℕ) → ((i : ℕ) → last ≡ Some i → slice_get all i ≡ Some true)
    → IsTrail (marked_nodes all all nodes) (renumbered all last) trail
    → (old : List ℕ) × IsTrail nodes last old × (trail ≡ map (rank all) old)
    × ((i : ℕ) → IsIn old i → slice_get all i ≡ Some true)
trail_back all nodes sized closed [] None marked is = ([], refl, refl, λ i h. absurd (let e : None ≡ Some i = h.1 in cc))
trail_back all nodes sized closed [] (Some i) marked is = absurd (let e : Some (rank all i) ≡ None = is in cc)
trail_back all nodes sized closed (k ∷ trail) None marked is = absurd (let e : None ≡ Some k = is.1 in cc)
trail_back all nodes sized closed (k ∷ trail) (Some i) marked is =
    let here : slice_get all i ≡ Some true = marked i refl in
    let node = within_length nodes i (let l = get_within all i true here in omega arith) in
    let first : rank all i ≡ k = let e : Some (rank all i) ≡ Some k = is.1 in cc in
    let at : slice_get (marked_nodes all all nodes) k ≡ Some (record { call = node.0.call; before = renumbered all node.0.before }) =
    ap (λ (j : ℕ). slice_get (marked_nodes all all nodes) j) (sym first) ∙ node_at all all nodes i node.0 here node.1 in
    let same : is.0 ≡ record { call = node.0.call; before = renumbered all node.0.before } = let h = is.2 in cc in
    let rest = trail_back all nodes sized closed trail node.0.before
    (λ j e. closed i j node.0 here node.1 e)
    (subst (λ (n : Node). IsTrail (marked_nodes all all nodes) n.before trail) same is.3) in (
      i ∷ rest.0,
      (node.0, refl, node.1, rest.1),
      ap (λ (j : ℕ). j ∷ trail) (sym first) ∙ ap (λ (ks : List ℕ). rank all i ∷ ks) rest.2,
      λ j h. in_cons all i rest.0 here rest.3 j h,
    )

-- a number is in the mapped list
map_rank : (all : List Bool) (old : List ℕ) (i : ℕ) → IsIn old i → IsIn (map (rank all) old) (rank all i)
map_rank all [] i h = absurd (let e : None ≡ Some i = h.1 in cc)
map_rank all (j ∷ old) i (zero, h) = (zero, (let e : j ≡ i = cc in ap (λ (k : ℕ). Some (rank all k)) e))
map_rank all (j ∷ old) i (suc k, h) = let r = map_rank all old i (k, h) in (suc r.0, r.1)

-- what is picked of a word, and its way back, in the old numbers
record Pulled (all : List Bool) (nodes : List Node) (branches : List Branch) (picked : Branch) (trail : List ℕ)
    (branch : Branch) (old : List ℕ) : Type 0 where
  there : IsIn branches branch
  same : picked.config ≡ branch.config
  trailed : IsTrail nodes branch.trail old
  mapped : trail ≡ map (rank all) old
  marked : (i : ℕ) → IsIn old i → slice_get all i ≡ Some true

pull : (all : List Bool) (nodes : List Node) → length all ≡ length nodes → IsClosed all nodes
    → (branches : List Branch) → AreEnds all branches → (picked : Branch) (trail : List ℕ)
    → IsIn (renumbered_all all branches) picked → IsTrail (marked_nodes all all nodes) picked.trail trail
    → (b : Branch) × (old : List ℕ) × Pulled all nodes branches picked trail b old
pull all nodes sized closed branches ends picked trail in' is =
    let r = map_in (λ (b : Branch). record { config = b.config; trail = renumbered all b.trail }) branches picked in' in
    let b : Branch = r.0 in
    let back = trail_back all nodes sized closed trail b.trail (λ i e. ends i b r.1 e)
    (subst (λ (c : Branch). IsTrail (marked_nodes all all nodes) c.trail trail) r.2 is) in (
      b,
      back.0,
      record {
        there = r.1;
        same = ap (λ (c : Branch). c.config) r.2;
        trailed = back.1;
        mapped = back.2;
        marked = back.3;
      },
    )

-- a search is sound without the nodes that no branch leads back to
pub let_go_sound : (opening : List ℕ) (trace : List Event) (k : ℕ) (tables : ℕ → List (Option Open))
    (sets others : ℕ → List Branch) (nodes : List Node) (all : List Bool)
    → length all ≡ length nodes → IsClosed all nodes → ((w : ℕ) → w < length opening → AreEnds all (sets w))
    → ((w : ℕ) → w < length opening → others w ≡ renumbered_all all (sets w))
    → IsSoundSearch opening trace k tables sets nodes
    → IsSoundSearch opening trace k tables others (marked_nodes all all nodes)
let_go_sound opening trace k tables sets others nodes all sized closed ends same sound = record {
  back = λ i j n h e.
      let r = at_node all all nodes i n sized h in
      back r.0 r.1 r.2 r.3 i j r.4
      (sym (ap (λ (m : Node). m.before) r.5) ∙ e);
  inside = λ w i b l h e.
      let r = map_in (λ (c : Branch). record { config = c.config; trail = renumbered all c.trail }) (sets w) b
      (subst (λ (bs : List Branch). IsIn bs b) (same w l) h) in
      within r.0.trail i (λ p q. ends w l p r.0 r.1 q) (sym (ap (λ (c : Branch). c.trail) r.2) ∙ e);
  explained = λ pick trails marks picks.
      let old_pick : ℕ → Branch = λ w. (found pick trails marks picks w).0 in
      let old_trails : ℕ → List ℕ = λ w. (found pick trails marks picks w).1 in
      let pulled : (w : ℕ) → w < length opening
      → Pulled all nodes (sets w) (pick w) (trails w) (old_pick w) (old_trails w) =
      λ w l. (found pick trails marks picks w).2 l in
      let x = sound.explained old_pick old_trails (spread all marks) (record {
        sized = length-spread all marks ∙ sized;
        picked = λ w l. (pulled w l).there;
        trailed = λ w l. (pulled w l).trailed;
        marked = λ w i l h. spread_at all marks i ((pulled w l).marked i h)
            (picks.marked w (rank all i) l
            (subst (λ (t : List ℕ). IsIn t (rank all i)) (sym (pulled w l).mapped) (map_rank all (old_trails w) i h)));
        only = λ i h.
            let here = at_spread all marks i h in
            let w = picks.only (rank all i) here.1 in
            let p = pulled w.0 w.1 in
            let r = map_in (rank all) (old_trails w.0) (rank all i) (subst (λ (t : List ℕ). IsIn t (rank all i)) p.mapped w.2) in
            let one : i ≡ r.0 = rank_same all i r.0 here.0 (p.marked r.0 r.1) r.2 in
            (w.0, w.1, subst (λ (j : ℕ). IsIn (old_trails w.0) j) (sym one) r.1);
      }) in
      let order : order_of nodes (spread all marks) ≡ order_of (marked_nodes all all nodes) marks =
      spread_order all all marks nodes sized picks.sized in
      record {
        legal = subst (λ (o : List Call). Legal opening trace k o) order x.legal;
        fits = λ w l. subst (λ (o : List Call). Fits opening (tables w) w o (pick w).config) order
            (subst (λ (c : Config). Fits opening (tables w) w (order_of nodes (spread all marks)) c)
            (sym (pulled w l).same) (x.fits w l));
      };
}
  where
    found : (pick : ℕ → Branch) (trails : ℕ → List ℕ) (marks : List Bool)
        → Picks (length opening) others (marked_nodes all all nodes) pick trails marks → (w : ℕ)
        → (b : Branch) × (old : List ℕ) × (w < length opening → Pulled all nodes (sets w) (pick w) (trails w) b old)
    found pick trails marks picks w = ⊎_elim
        {C = (b : Branch) × (old : List ℕ) × (w < length opening → Pulled all nodes (sets w) (pick w) (trails w) b old)}
        (λ (l : w < length opening).
        let p = pull all nodes sized closed (sets w) (ends w l) (pick w) (trails w)
        (subst (λ (bs : List Branch). IsIn bs (pick w)) (same w l) (picks.picked w l)) (picks.trailed w l) in
        (p.0, p.1, λ m. p.2))
        (λ (g : length opening ≤ w). (pick w, [], λ (l : w < length opening). absurd (omega arith)))
        (cases_lt w (length opening))

    back : (p : ℕ) (old : Node) → slice_get all p ≡ Some true → slice_get nodes p ≡ Some old → (i j : ℕ) → i ≡ rank all p
        → renumbered all old.before ≡ Some j → j < i
    back p old here at i j e f = before old.before refl
      where
        before : (b : Option ℕ) → old.before ≡ b → j < i
        before None none = absurd (let h : None ≡ Some j = sym (ap (λ (x : Option ℕ). renumbered all x) none) ∙ f in cc)
        before (Some q) some =
            let h : rank all q ≡ j = let g : Some (rank all q) ≡ Some j = sym (ap (λ (x : Option ℕ). renumbered all x) some) ∙ f in cc in
            let low = sound.back p q old at some in
            let r = rank_below all q p low (closed p q old here at some) in
            omega arith

    within : (last : Option ℕ) (i : ℕ) → ((p : ℕ) → last ≡ Some p → slice_get all p ≡ Some true)
        → renumbered all last ≡ Some i → i < length (marked_nodes all all nodes)
    within None i ends e = cc
    within (Some p) i ends e =
        let h : rank all p ≡ i = let g : Some (rank all p) ≡ Some i = e in cc in
        let here = ends p refl in
        let node = within_length nodes p (let l = get_within all p true here in omega arith) in
        let l = get_within (marked_nodes all all nodes) (rank all p) _ (node_at all all nodes p node.0 here node.1) in
        omega arith
