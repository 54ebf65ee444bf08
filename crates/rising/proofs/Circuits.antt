-- What a search in depth finds: a circuit, or that all behind a node is done with.
use Rattle.std.proofs.Common.{◌≡◌, ℕ, ◌+◌, ◌-◌, List, [], length}
use Rattle.std.proofs.Common.{drop, refl, sym, ◌∙◌, ap, subst, arith}
use Rattle.std.proofs.lemmas.List.{length-drop, get_or-drop}
use Rattle.rising.specs.declared.search.Look.{Look}
use Rattle.rising.specs.declared.search.Mark.{Mark}
use Rattle.rising.specs.declared.search.Mark.TheVariants.{New, Open, Done}
use Rattle.rising.specs.Graph.{Digraph}
use Rattle.rising.specs.Search.{node_mark, path_look, IsFinishedBelow, StepsOn, IsDepthSearch, IsCircuit}

-- the links from an open node on lead around
pub circle : (g : Digraph) (marks : List Mark) (path : List Look) (finished place y : ℕ) → IsDepthSearch g marks path finished
    → node_mark marks y ≡ Open place → ((last : ℕ) → last + 1 ≡ length path → StepsOn g (path_look path last) y)
    → IsCircuit g (drop place path)
circle g marks path finished place y s e leads =
    let o = s.open_path y place e in
    let low = o.0 in
    let long : length (drop place path) ≡ length path - place = length-drop place path in
    let at : (k : ℕ) → path_look (drop place path) k ≡ path_look path (place + k) = λ k. get_or-drop place path k (record { node = 0; column = 0 }) in
    record {
      some = omega arith;
      each = λ k l. (let old = s.leads (place + k) (omega arith) in
          let more : place + k + 1 ≡ place + (k + 1) = omega arith in
          subst (λ z. StepsOn g z (path_look (drop place path) (k + 1)).node) (sym (at k))
          (subst (λ (z : Look). StepsOn g (path_look path (place + k)) z.node) (sym (at (k + 1)))
          (subst (λ z. StepsOn g (path_look path (place + k)) (path_look path z).node) more old)));
      last = (let k : ℕ = length (drop place path) - 1 in
          let old = leads (place + k) (omega arith) in
          let none : place + 0 ≡ place = omega arith in
          let first : (path_look (drop place path) 0).node ≡ y = ap (λ (z : Look). z.node) (at 0) ∙ (ap (λ z. (path_look path z).node) none ∙ o.1) in
          subst (λ z. StepsOn g z (path_look (drop place path) 0).node) (sym (at k))
          (subst (λ z. StepsOn g (path_look path (place + k)) z) (sym first) old));
    }

-- at the end of the path each node that was come to is done with
pub begun_below : (g : Digraph) (marks : List Mark) (finished x : ℕ) → IsDepthSearch g marks [] finished
    → (node_mark marks x ≡ New → ⊥) → IsFinishedBelow marks x finished
begun_below g marks finished x s begun = by (node_mark marks x) refl
  where
    by : (m : Mark) → node_mark marks x ≡ m → IsFinishedBelow marks x finished
    by New e = absurd (begun e)
    by (Open k) e = let o = s.open_path x k e in let l = o.0 in absurd (omega arith)
    by (Done h) e = (h, e, (s.done x h e).0)
