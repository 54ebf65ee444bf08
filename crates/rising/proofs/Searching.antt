-- The steps of a search in depth.
use Rattle.std.proofs.Common.{◌≡◌, ◌≢◌, inl, inr, ℕ, ◌+◌, ◌-◌, ◌<◌, ◌≤◌, true, List, [], ◌∷◌, ◌++◌, length, get_or, set}
use Rattle.std.proofs.Common.{take, refl, sym, ◌∙◌, ap, subst, arith}
use Rattle.std.proofs.lemmas.Bool.{cases_lt, cases_eq}
use Rattle.std.proofs.lemmas.List.{length-set, length-take-le, length_push, get_or-set_same, get_or-take}
use Rattle.std.proofs.lemmas.List.{get_or_push, get_or_read, get_or_append_left}
use Rattle.rising.specs.declared.search.Look.{Look}
use Rattle.rising.specs.declared.search.Mark.{Mark}
use Rattle.rising.specs.declared.search.Mark.TheVariants.{New, Open, Done}
use Rattle.rising.specs.Graph.{Digraph}
use Rattle.rising.specs.Chains.{IsNextColumn}
use Rattle.rising.specs.Search.{node_mark, path_look, is_unvisited, IsFinishedBelow, SuccessorsAreBelow, StepsOn, IsDepthSearch}
use Rattle.rising.proofs.Written.{NotDone, stay_done, below_kept, here, there, marked_at, links_kept, nodes_kept, new_less, new_same, open_inside}

-- one edge more is looked at
pub advanced : (g : Digraph) (marks : List Mark) (path : List Look) (finished last x to more : ℕ) → IsDepthSearch g marks path finished
    → last + 1 ≡ length path → path_look path last ≡ record { node = x; column = to } → to < g.columns
    → (g.leads x to ≡ true → IsFinishedBelow marks (g.after x to) finished) → to < more → IsNextColumn g x (to + 1) more
    → IsDepthSearch g marks (set path last (record { node = x; column = more })) finished
advanced g marks path finished last x to more s e at low below high following =
    let v : Look = record { node = x; column = more } in
    let next : List Look = set path last v in
    let size : length next ≡ length path = length-set path last v in
    let kept = nodes_kept path last x to more (omega arith) at in
    let here : path_look next last ≡ v = get_or-set_same path last v (record { node = 0; column = 0 }) (omega arith) in
    record {
      size = s.size;
      path_open = λ k l. subst (λ z. node_mark marks z ≡ Open k) (sym (kept k)) (s.path_open k (omega arith));
      open_path = λ z k m. let o = s.open_path z k m in let l = o.0 in (omega arith, kept k ∙ o.1);
      leads = λ k l. (let apart : k ≢ last = omega arith in
          let old = s.leads k (omega arith) in
          subst (λ z. StepsOn g z (path_look next (k + 1)).node) (sym (links_kept path last v k apart))
          (subst (λ z. StepsOn g (path_look path k) z) (sym (kept (k + 1))) old));
      ends = λ k l. elim (cases_eq k last) [
        | inl same ↦ (let one : (path_look next k).column ≡ more = ap (λ z. (path_look next z).column) same ∙ ap (λ (m : Look). m.column) here in let far = following.low in omega arith)
        | inr apart ↦ subst (λ (z : Look). z.column ≤ g.columns) (sym (links_kept path last v k apart)) (s.ends k (omega arith))
      ];
      behind = λ k l. elim (cases_eq k last) [
        | inl same ↦ (let one : path_look next k ≡ v = ap (path_look next) same ∙ here in
            let old : SuccessorsAreBelow g marks x to finished = subst (λ (z : Look). SuccessorsAreBelow g marks z.node z.column finished) at (s.behind last (omega arith)) in
            let new : SuccessorsAreBelow g marks x more finished =
            λ j m. elim (cases_lt j to) [
              | inl less ↦ old j less
              | inr far ↦ elim (cases_eq j to) [
                | inl one ↦ subst (λ z. g.leads x z ≡ true → IsFinishedBelow marks (g.after x z) finished) (sym one) below
                | inr other ↦ λ leads. absurd (following.none j (omega arith) m leads)
              ]
            ] in
            subst (λ (z : Look). SuccessorsAreBelow g marks z.node z.column finished) (sym one) new)
        | inr apart ↦ subst (λ (z : Look). SuccessorsAreBelow g marks z.node z.column finished) (sym (links_kept path last v k apart)) (s.behind k (omega arith))
      ];
      at = λ k l. elim (cases_eq k last) [
        | inl same ↦ (let one : path_look next k ≡ v = ap (path_look next) same ∙ here in
            subst (λ (z : Look). z.column < g.columns → g.leads z.node z.column ≡ true) (sym one) following.leads)
        | inr apart ↦ subst (λ (z : Look). z.column < g.columns → g.leads z.node z.column ≡ true) (sym (links_kept path last v k apart)) (s.at k (omega arith))
      ];
      apart = s.apart;
      done = s.done;
      count = let c = s.count in omega arith;
    }

-- one node more on the path
pub pushed : (g : Digraph) (marks : List Mark) (path : List Look) (finished y to : ℕ) → IsDepthSearch g marks path finished
    → y < g.nodes → node_mark marks y ≡ New → ((last : ℕ) → last + 1 ≡ length path → StepsOn g (path_look path last) y)
    → IsNextColumn g y 0 to
    → IsDepthSearch g (set marks y (Open (length path))) (path ++ record { node = y; column = to } ∷ []) finished
pushed g marks path finished y to s low e leads following =
    let n : ℕ = length path in
    let v : Look = record { node = y; column = to } in
    let far = following.low in
    let next : List Look = path ++ v ∷ [] in
    let new : List Mark = set marks y (Open n) in
    let size = s.size in
    let long : length next ≡ n + 1 = length_push path v in
    let inside : y < length marks = omega arith in
    let not_done : NotDone marks y = λ h d. (let bad : New ≡ Done h = sym e ∙ d in cc) in
    let stay = stay_done marks y (Open n) not_done in
    let front : (k : ℕ) → k < n → path_look next k ≡ path_look path k = λ k l. get_or_append_left path (v ∷ []) (record { node = 0; column = 0 }) k l in
    let back : path_look next n ≡ v = get_or_push path v (record { node = 0; column = 0 }) n refl in
    let was_done : (x h : ℕ) → node_mark new x ≡ Done h → node_mark marks x ≡ Done h =
    λ x h m. elim (marked_at marks y (Open n) x inside) [
      | here same f ↦ (let bad : Open n ≡ Done h = sym f ∙ m in cc)
      | there apart f ↦ sym f ∙ m
    ] in
    record {
      size = length-set marks y (Open n) ∙ s.size;
      path_open = λ k l. elim (cases_lt k n) [
        | inl less ↦ (let old = s.path_open k less in
            let there : node_mark new (path_look path k).node ≡ Open k =
            elim (marked_at marks y (Open n) (path_look path k).node inside) [
              | here same m ↦ (let bad : New ≡ Open k = sym e ∙ (ap (node_mark marks) (sym same) ∙ old) in cc)
              | there apart m ↦ m ∙ old
            ] in
            subst (λ (z : Look). node_mark new z.node ≡ Open k) (sym (front k less)) there)
        | inr high ↦ (let same : n ≡ k = omega arith in
            let one : node_mark new y ≡ Open n = get_or-set_same marks y (Open n) New inside in
            let both : node_mark new (path_look next n).node ≡ Open n = subst (λ (z : Look). node_mark new z.node ≡ Open n) (sym back) one in
            subst (λ z. node_mark new (path_look next z).node ≡ Open z) same both)
      ];
      open_path = λ x k m. elim (marked_at marks y (Open n) x inside) [
        | here same f ↦ (let both : Open n ≡ Open k = sym f ∙ m in
            let one : n ≡ k = cc in
            let at : (path_look next k).node ≡ x = ap (λ z. (path_look next z).node) (sym one) ∙ (ap (λ (z : Look). z.node) back ∙ sym same) in
            (omega arith, at))
        | there apart f ↦ (let o = s.open_path x k (sym f ∙ m) in
            let l = o.0 in
            (omega arith, ap (λ (z : Look). z.node) (front k l) ∙ o.1))
      ];
      leads = λ k l. elim (cases_lt (k + 1) n) [
        | inl less ↦ subst (λ z. StepsOn g z (path_look next (k + 1)).node) (sym (front k (omega arith)))
            (subst (λ (z : Look). StepsOn g (path_look path k) z.node) (sym (front (k + 1) less)) (s.leads k less))
        | inr high ↦ (let same : n ≡ k + 1 = omega arith in
            let one = leads k (sym same) in
            let at : path_look next (k + 1) ≡ v = ap (path_look next) (sym same) ∙ back in
            subst (λ z. StepsOn g z (path_look next (k + 1)).node) (sym (front k (omega arith)))
            (subst (λ (z : Look). StepsOn g (path_look path k) z.node) (sym at) one))
      ];
      ends = λ k l. elim (cases_lt k n) [
        | inl less ↦ subst (λ (z : Look). z.column ≤ g.columns) (sym (front k less)) (s.ends k less)
        | inr high ↦ (let same : k ≡ n = omega arith in
            let at : path_look next k ≡ v = ap (path_look next) same ∙ back in
            subst (λ (z : Look). z.column ≤ g.columns) (sym at) (omega arith))
      ];
      behind = λ k l. elim (cases_lt k n) [
        | inl less ↦ (let old : SuccessorsAreBelow g new (path_look path k).node (path_look path k).column finished =
            λ j m f. below_kept marks new (g.after (path_look path k).node j) finished finished stay (omega arith) (s.behind k less j m f) in
            subst (λ (z : Look). SuccessorsAreBelow g new z.node z.column finished) (sym (front k less)) old)
        | inr high ↦ (let same : k ≡ n = omega arith in
            let at : path_look next k ≡ v = ap (path_look next) same ∙ back in
            let none : SuccessorsAreBelow g new y to finished = λ j m f. absurd (following.none j (omega arith) m f) in
            subst (λ (z : Look). SuccessorsAreBelow g new z.node z.column finished) (sym at) none)
      ];
      at = λ k l. elim (cases_lt k n) [
        | inl less ↦ subst (λ (z : Look). z.column < g.columns → g.leads z.node z.column ≡ true) (sym (front k less)) (s.at k less)
        | inr high ↦ (let same : k ≡ n = omega arith in
            let at : path_look next k ≡ v = ap (path_look next) same ∙ back in
            subst (λ (z : Look). z.column < g.columns → g.leads z.node z.column ≡ true) (sym at) following.leads)
      ];
      apart = λ x z h m w. s.apart x z h (was_done x h m) (was_done z h w);
      done = λ x h m. elim (marked_at marks y (Open n) x inside) [
        | here same f ↦ (let bad : Open n ≡ Done h = sym f ∙ m in cc)
        | there apart f ↦ (let o = s.done x h (sym f ∙ m) in
            (o.0, λ j l u. below_kept marks new (g.after x j) h h stay (omega arith) (o.1 j l u)))
      ];
      count = let c = s.count in let less = new_less marks y (Open n) inside e refl in omega arith;
    }

-- the last node of the path is done with
pub popped : (g : Digraph) (marks : List Mark) (path : List Look) (finished last x to : ℕ) → IsDepthSearch g marks path finished
    → last + 1 ≡ length path → path_look path last ≡ record { node = x; column = to } → to ≡ g.columns
    → IsDepthSearch g (set marks x (Done finished)) (take last path) (finished + 1)
popped g marks path finished last x to s e at all =
    let next : List Look = take last path in
    let new : List Mark = set marks x (Done finished) in
    let size = s.size in
    let short : length next ≡ last = length-take-le last path (omega arith) in
    let was : node_mark marks x ≡ Open last = ap (λ (z : Look). node_mark marks z.node) (sym at) ∙ s.path_open last (omega arith) in
    let inside : x < length marks = open_inside marks x last was in
    let not_done : NotDone marks x = λ h d. (let bad : Open last ≡ Done h = sym was ∙ d in cc) in
    let stay = stay_done marks x (Done finished) not_done in
    let front : (k : ℕ) → k < last → path_look next k ≡ path_look path k = λ k l. get_or-take last path k (record { node = 0; column = 0 }) l in
    record {
      size = length-set marks x (Done finished) ∙ s.size;
      path_open = λ k l. (let less : k < last = omega arith in
          let old = s.path_open k (omega arith) in
          let there : node_mark new (path_look path k).node ≡ Open k =
          elim (marked_at marks x (Done finished) (path_look path k).node inside) [
            | here same m ↦ (let bad : Open last ≡ Open k = sym was ∙ (ap (node_mark marks) (sym same) ∙ old) in let one : last ≡ k = cc in absurd (omega arith))
            | there apart m ↦ m ∙ old
          ] in
          subst (λ (z : Look). node_mark new z.node ≡ Open k) (sym (front k less)) there);
      open_path = λ y k m. elim (marked_at marks x (Done finished) y inside) [
        | here same f ↦ (let bad : Done finished ≡ Open k = sym f ∙ m in cc)
        | there apart f ↦ (let o = s.open_path y k (sym f ∙ m) in
            let l = o.0 in
            let not_last : k ≢ last = λ z. apart (sym o.1 ∙ (ap (λ i. (path_look path i).node) z ∙ ap (λ (i : Look). i.node) at)) in
            let less : k < last = omega arith in
            (omega arith, ap (λ (z : Look). z.node) (front k less) ∙ o.1))
      ];
      leads = λ k l. (let old = s.leads k (omega arith) in
          subst (λ z. StepsOn g z (path_look next (k + 1)).node) (sym (front k (omega arith)))
          (subst (λ (z : Look). StepsOn g (path_look path k) z.node) (sym (front (k + 1) (omega arith))) old));
      ends = λ k l. subst (λ (z : Look). z.column ≤ g.columns) (sym (front k (omega arith))) (s.ends k (omega arith));
      behind = λ k l. (let old : SuccessorsAreBelow g new (path_look path k).node (path_look path k).column (finished + 1) =
          λ j m f. below_kept marks new (g.after (path_look path k).node j) finished (finished + 1) stay (omega arith) (s.behind k (omega arith) j m f) in
          subst (λ (z : Look). SuccessorsAreBelow g new z.node z.column (finished + 1)) (sym (front k (omega arith))) old);
      at = λ k l. subst (λ (z : Look). z.column < g.columns → g.leads z.node z.column ≡ true) (sym (front k (omega arith))) (s.at k (omega arith));
      apart = λ y z h m w. elim (marked_at marks x (Done finished) y inside) [
        | here same f ↦ elim (marked_at marks x (Done finished) z inside) [
          | here also i ↦ same ∙ sym also
          | there other i ↦ (let both : Done finished ≡ Done h = sym f ∙ m in let one : finished ≡ h = cc in
              let o = s.done z h (sym i ∙ w) in let low = o.0 in absurd (omega arith))
        ]
        | there other f ↦ elim (marked_at marks x (Done finished) z inside) [
          | here also i ↦ (let both : Done finished ≡ Done h = sym i ∙ w in let one : finished ≡ h = cc in
              let o = s.done y h (sym f ∙ m) in let low = o.0 in absurd (omega arith))
          | there apart i ↦ s.apart y z h (sym f ∙ m) (sym i ∙ w)
        ]
      ];
      done = λ y h m. elim (marked_at marks x (Done finished) y inside) [
        | here same f ↦ (let both : Done finished ≡ Done h = sym f ∙ m in
            let one : finished ≡ h = cc in
            let old : SuccessorsAreBelow g marks x to finished = subst (λ (z : Look). SuccessorsAreBelow g marks z.node z.column finished) at (s.behind last (omega arith)) in
            let whole : SuccessorsAreBelow g new x g.columns h =
            λ j l u. below_kept marks new (g.after x j) finished h stay (omega arith) (old j (omega arith) u) in
            (omega arith, subst (λ z. SuccessorsAreBelow g new z g.columns h) (sym same) whole))
        | there apart f ↦ (let o = s.done y h (sym f ∙ m) in
            let l = o.0 in
            (omega arith, λ j i u. below_kept marks new (g.after y j) h h stay (omega arith) (o.1 j i u)))
      ];
      count = let c = s.count in let same = new_same marks x (Done finished) inside (ap is_unvisited was) refl in omega arith;
    }

-- the last link of the path, as it is read
pub record IsTop (g : Digraph) (marks : List Mark) (path : List Look) (last x to : ℕ) : Type 0 where
  pub size : last + 1 ≡ length path
  pub at : path_look path last ≡ record { node = x; column = to }
  pub mark : node_mark marks x ≡ Open last
  pub inside : x < length marks
  pub end : to ≤ g.columns
  pub leads : to < g.columns → g.leads x to ≡ true

pub top : (g : Digraph) (marks : List Mark) (path : List Look) (finished n last : ℕ) (v : Look) → IsDepthSearch g marks path finished
    → n ≡ length path → 0 < n → last ≡ n - 1 → v ≡ get_or path last v → IsTop g marks path last v.node v.column
top g marks path finished n last v s e some f read =
    let low : last < length path = omega arith in
    let at : path_look path last ≡ v = sym (get_or_read path last v low read (record { node = 0; column = 0 })) in
    let mark : node_mark marks v.node ≡ Open last = subst (λ (z : Look). node_mark marks z.node ≡ Open last) at (s.path_open last low) in
    record {
      size = omega arith;
      at = at;
      mark = mark;
      inside = open_inside marks v.node last mark;
      end = subst (λ (z : Look). z.column ≤ g.columns) at (s.ends last low);
      leads = subst (λ (z : Look). z.column < g.columns → g.leads z.node z.column ≡ true) at (s.at last low);
    }

-- the last link of the path leads to the next node
pub top_leads : (g : Digraph) (marks : List Mark) (path : List Look) (last x to y : ℕ) → IsTop g marks path last x to
    → to < g.columns → g.leads x to ≡ true → g.after x to ≡ y
    → (k : ℕ) → k + 1 ≡ length path → StepsOn g (path_look path k) y
top_leads g marks path last x to y top low marked next k e =
    let size = top.size in
    let same : last ≡ k = omega arith in
    let one : StepsOn g (record { node = x; column = to }) y = record { end = low; marked = marked; next = next } in
    subst (λ z. StepsOn g (path_look path z) y) same (subst (λ z. StepsOn g z y) (sym top.at) one)

-- the edge that is looked at is one
pub record IsRead (g : Digraph) (x to : ℕ) : Type 0 where
  pub low : to < g.columns
  pub marked : g.leads x to ≡ true

pub read_next : (g : Digraph) (x to width : ℕ) → width ≡ g.columns → to ≤ g.columns → (to ≡ width → ⊥)
    → (to < g.columns → g.leads x to ≡ true) → IsRead g x to
read_next g x to width wide end other leads =
    let low : to < g.columns = omega arith in
    record { low = low; marked = leads low }

-- a search with one node more on the path, by the names that the code has
pub pushed_at : (g : Digraph) (marks : List Mark) (path : List Look) (finished y to n : ℕ) (next : List Look) → IsDepthSearch g marks path finished
    → y < g.nodes → node_mark marks y ≡ New → ((last : ℕ) → last + 1 ≡ length path → StepsOn g (path_look path last) y)
    → IsNextColumn g y 0 to → n ≡ length path → next ≡ path ++ record { node = y; column = to } ∷ []
    → IsDepthSearch g (set marks y (Open n)) next finished
pushed_at g marks path finished y to n next s low e leads following size same =
    subst (λ z. IsDepthSearch g (set marks y (Open n)) z finished) (sym same)
    (subst (λ z. IsDepthSearch g (set marks y (Open z)) (path ++ record { node = y; column = to } ∷ []) finished) (sym size)
    (pushed g marks path finished y to s low e leads following))

pub popped_at : (g : Digraph) (marks : List Mark) (path : List Look) (finished last x to : ℕ) (next : List Look) → IsDepthSearch g marks path finished
    → last + 1 ≡ length path → path_look path last ≡ record { node = x; column = to } → to ≡ g.columns → next ≡ take last path
    → IsDepthSearch g (set marks x (Done finished)) next (finished + 1)
popped_at g marks path finished last x to next s e at all same =
    subst (λ z. IsDepthSearch g (set marks x (Done finished)) z (finished + 1)) (sym same) (popped g marks path finished last x to s e at all)
