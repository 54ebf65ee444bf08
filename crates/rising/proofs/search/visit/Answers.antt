use Rattle.std.proofs.Common.{◌≡◌, ◌-◌, ◌<◌, ℕ, [], length, set, take, drop, refl, sym, ◌∙◌, ap, subst, arith}
use Rattle.std.proofs.lemmas.List.{nil_from_length, take_rest}
use Rattle.rising.specs.declared.search.Mark.TheVariants.{New, Open, Done}
use Rattle.rising.specs.Graph.{Digraph}
use Rattle.rising.specs.Search.{node_mark, IsDepthSearch, IsCircuit}
use Rattle.rising.proofs.Written.{stay_done, stay_on, not_done_new, not_done_open, begins, is_begun}
use Rattle.rising.proofs.Searching.{top, top_leads, read_next, advanced, pushed_at, popped_at}
use Rattle.rising.proofs.Circuits.{begun_below, circle}
use Rattle.rising.proofs.Left.{less_advanced, less_pushed_at, less_popped_at}
use Rattle.rising.proofs.search.visit.Goals as goal

pub steps-init : goal.steps-init
steps-init g c =
    let deps : Digraph = g.G.Graph.digraph c.args.graph.now in
    let low : c.args.start < length c.args.marks.now = omega (arith, c.requires.search.size) in
    record {
      search = pushed_at deps c.args.marks.now c.new-path.result.items c.args.finished c.args.start c.first.result 0 c.push.new.self.items
          (subst (λ z. IsDepthSearch deps c.args.marks.now z c.args.finished) (sym c.new-path.ensures.items) c.requires.search) c.requires.start c.requires.new
          (λ last e. let none = ap length c.new-path.ensures.items in absurd (omega arith))
          c.first.ensures (ap length (sym c.new-path.ensures.items))
          c.in_ok-push.ensures.items;
      stay = stay_done c.args.marks.now c.args.start (Open 0) (not_done_new c.args.marks.now c.args.start c.requires.new);
      begun = begins c.args.marks.now c.args.start low;
    }

pub offset_bounds-marks-node : goal.offset_bounds-marks-node
offset_bounds-marks-node g c =
    let deps : Digraph = g.G.Graph.digraph c.args.graph.now in
    let s = c.steps.invariant.search in
    let k = top deps c.steps.marks c.steps.path.items c.steps.finished c.len-last.result (c.len-last.result - 1) c.index.result.now s
    (c.len-last.ensures ∙ c.steps.path.ok.0) (omega arith) refl c.index.ensures in
    let inside = k.inside in
    omega arith

pub bounds-marks-node : goal.bounds-marks-node
bounds-marks-node g c =
    let deps : Digraph = g.G.Graph.digraph c.args.graph.now in
    let s = c.steps.invariant.search in
    let k = top deps c.steps.marks c.steps.path.items c.steps.finished c.len-last.result (c.len-last.result - 1) c.index.result.now s
    (c.len-last.ensures ∙ c.steps.path.ok.0) (omega arith) refl c.index.ensures in
    k.inside

pub steps-smaller-then-column-width : goal.steps-smaller-then-column-width
steps-smaller-then-column-width g c =
    let deps : Digraph = g.G.Graph.digraph c.args.graph.now in
    let s = c.steps.invariant.search in
    let k = top deps c.steps.marks c.steps.path.items c.steps.finished c.len-last.result (c.len-last.result - 1) c.index.result.now s
    (c.len-last.ensures ∙ c.steps.path.ok.0) (omega arith) refl c.index.ensures in
    less_popped_at deps.columns c.steps.marks c.steps.path.items (c.len-last.result - 1) c.index.result.now.node
    c.index.result.now.column c.steps.finished (c.len-last.result - 1) c.truncate.new.self.items k.size k.at k.end k.inside k.mark c.truncate.ensures.items

pub steps-preserved-then-column-width : goal.steps-preserved-then-column-width
steps-preserved-then-column-width g c =
    let deps : Digraph = g.G.Graph.digraph c.args.graph.now in
    let s = c.steps.invariant.search in
    let k = top deps c.steps.marks c.steps.path.items c.steps.finished c.len-last.result (c.len-last.result - 1) c.index.result.now s
    (c.len-last.ensures ∙ c.steps.path.ok.0) (omega arith) refl c.index.ensures in
    record {
      search = popped_at deps c.steps.marks c.steps.path.items c.steps.finished (c.len-last.result - 1) c.index.result.now.node c.index.result.now.column
          c.truncate.new.self.items s k.size k.at (c.if-column-width.true ∙ c.columns-width.ensures) c.truncate.ensures.items;
      stay = stay_on c.args.marks.now c.steps.marks (set c.steps.marks c.index.result.now.node (Done c.steps.finished)) c.steps.invariant.stay
          (stay_done c.steps.marks c.index.result.now.node (Done c.steps.finished)
          (not_done_open c.steps.marks c.index.result.now.node (c.len-last.result - 1) k.mark));
      begun = is_begun c.steps.marks c.index.result.now.node (Done c.steps.finished) c.args.start k.inside refl c.steps.invariant.begun;
    }

pub bounds : goal.bounds
bounds g c =
    let deps : Digraph = g.G.Graph.digraph c.args.graph.now in
    let s = c.steps.invariant.search in
    let k = top deps c.steps.marks c.steps.path.items c.steps.finished c.len-last.result (c.len-last.result - 1) c.index.result.now s
    (c.len-last.ensures ∙ c.steps.path.ok.0) (omega arith) refl c.index.ensures in
    let r = read_next deps c.index.result.now.node c.index.result.now.column c.columns-width.result c.columns-width.ensures k.end c.if-column-width.false k.leads in
    let next : ℕ = c.end-next.result in
    let within = c.end-next.ensures.within in
    omega (arith, s.size)

pub steps-smaller-in_ok-push-in-New : goal.steps-smaller-in_ok-push-in-New
steps-smaller-in_ok-push-in-New g c =
    let deps : Digraph = g.G.Graph.digraph c.args.graph.now in
    let s = c.steps.invariant.search in
    let k = top deps c.steps.marks c.steps.path.items c.steps.finished c.len-last.result (c.len-last.result - 1) c.index.result.now s
    (c.len-last.ensures ∙ c.steps.path.ok.0) (omega arith) refl c.index.ensures in
    let r = read_next deps c.index.result.now.node c.index.result.now.column c.columns-width.result c.columns-width.ensures k.end c.if-column-width.false k.leads in
    let next : ℕ = c.end-next.result in
    let new : node_mark c.steps.marks next ≡ New = c.in-New.is in
    let within = c.end-next.ensures.within in
    less_pushed_at deps.columns c.steps.marks c.steps.path.items next c.len-in-New.result c.first-in-New.result
    c.push-in-New.new.self.items (omega (arith, s.size)) new c.in_ok-push-in-New.ensures.items

pub steps-preserved-in_ok-push-in-New : goal.steps-preserved-in_ok-push-in-New
steps-preserved-in_ok-push-in-New g c =
    let deps : Digraph = g.G.Graph.digraph c.args.graph.now in
    let s = c.steps.invariant.search in
    let k = top deps c.steps.marks c.steps.path.items c.steps.finished c.len-last.result (c.len-last.result - 1) c.index.result.now s
    (c.len-last.ensures ∙ c.steps.path.ok.0) (omega arith) refl c.index.ensures in
    let r = read_next deps c.index.result.now.node c.index.result.now.column c.columns-width.result c.columns-width.ensures k.end c.if-column-width.false k.leads in
    let next : ℕ = c.end-next.result in
    let new : node_mark c.steps.marks next ≡ New = c.in-New.is in
    let within = c.end-next.ensures.within in
    let low : next < length c.steps.marks = omega (arith, s.size) in
    record {
      search = pushed_at deps c.steps.marks c.steps.path.items c.steps.finished next c.first-in-New.result c.len-in-New.result c.push-in-New.new.self.items s c.end-next.ensures.within
          new
          (top_leads deps c.steps.marks c.steps.path.items (c.len-last.result - 1) c.index.result.now.node c.index.result.now.column next k
          r.low r.marked (sym c.end-next.ensures.value)) c.first-in-New.ensures (c.len-in-New.ensures ∙ c.steps.path.ok.0) c.in_ok-push-in-New.ensures.items;
      stay = stay_on c.args.marks.now c.steps.marks (set c.steps.marks next (Open c.len-in-New.result)) c.steps.invariant.stay
          (stay_done c.steps.marks next (Open c.len-in-New.result) (not_done_new c.steps.marks next new));
      begun = is_begun c.steps.marks next (Open c.len-in-New.result) c.args.start low refl c.steps.invariant.begun;
    }

pub offset_bounds-deref-place : goal.offset_bounds-deref-place
offset_bounds-deref-place g c =
    let deps : Digraph = g.G.Graph.digraph c.args.graph.now in
    let s = c.steps.invariant.search in
    let k = top deps c.steps.marks c.steps.path.items c.steps.finished c.len-last.result (c.len-last.result - 1) c.index.result.now s
    (c.len-last.ensures ∙ c.steps.path.ok.0) (omega arith) refl c.index.ensures in
    let r = read_next deps c.index.result.now.node c.index.result.now.column c.columns-width.result c.columns-width.ensures k.end c.if-column-width.false k.leads in
    let next : ℕ = c.end-next.result in
    let at : node_mark c.steps.marks next ≡ Open c.in-Open.place = c.in-Open.is in
    let o = s.open_path next c.in-Open.place at in
    let low = o.0 in
    omega (arith, c.deref.ensures.len, c.steps.path.ok.0)

pub slice_bounds-from_slice-count : goal.slice_bounds-from_slice-count
slice_bounds-from_slice-count g c =
    let deps : Digraph = g.G.Graph.digraph c.args.graph.now in
    let s = c.steps.invariant.search in
    let k = top deps c.steps.marks c.steps.path.items c.steps.finished c.len-last.result (c.len-last.result - 1) c.index.result.now s
    (c.len-last.ensures ∙ c.steps.path.ok.0) (omega arith) refl c.index.ensures in
    let r = read_next deps c.index.result.now.node c.index.result.now.column c.columns-width.result c.columns-width.ensures k.end c.if-column-width.false k.leads in
    let next : ℕ = c.end-next.result in
    let at : node_mark c.steps.marks next ≡ Open c.in-Open.place = c.in-Open.is in
    let o = s.open_path next c.in-Open.place at in
    let low = o.0 in
    omega (arith, c.deref.ensures.len, c.steps.path.ok.0)

pub slice_bounds-from_slice-start : goal.slice_bounds-from_slice-start
slice_bounds-from_slice-start g c =
    let deps : Digraph = g.G.Graph.digraph c.args.graph.now in
    let s = c.steps.invariant.search in
    let k = top deps c.steps.marks c.steps.path.items c.steps.finished c.len-last.result (c.len-last.result - 1) c.index.result.now s
    (c.len-last.ensures ∙ c.steps.path.ok.0) (omega arith) refl c.index.ensures in
    let r = read_next deps c.index.result.now.node c.index.result.now.column c.columns-width.result c.columns-width.ensures k.end c.if-column-width.false k.leads in
    let next : ℕ = c.end-next.result in
    let at : node_mark c.steps.marks next ≡ Open c.in-Open.place = c.in-Open.is in
    let o = s.open_path next c.in-Open.place at in
    let low = o.0 in
    omega (arith, c.deref.ensures.len, c.steps.path.ok.0)

pub returns-in-Open : goal.returns-in-Open
returns-in-Open g c =
    let deps : Digraph = g.G.Graph.digraph c.args.graph.now in
    let s = c.steps.invariant.search in
    let k = top deps c.steps.marks c.steps.path.items c.steps.finished c.len-last.result (c.len-last.result - 1) c.index.result.now s
    (c.len-last.ensures ∙ c.steps.path.ok.0) (omega arith) refl c.index.ensures in
    let r = read_next deps c.index.result.now.node c.index.result.now.column c.columns-width.result c.columns-width.ensures k.end c.if-column-width.false k.leads in
    let next : ℕ = c.end-next.result in
    let at : node_mark c.steps.marks next ≡ Open c.in-Open.place = c.in-Open.is in
    let read : c.in_ok-from_slice-in-Open.field-0.items ≡ take (length c.deref.result.now - c.in-Open.place) (drop c.in-Open.place c.deref.result.now) =
    c.in_ok-from_slice-in-Open.ensures.items in
    let items : c.in_ok-from_slice-in-Open.field-0.items ≡ drop c.in-Open.place c.steps.path.items =
    read ∙ (take_rest c.deref.result.now c.in-Open.place ∙ ap (drop c.in-Open.place) c.deref.ensures.value) in
    subst (λ z. IsCircuit deps z) (sym items)
    (circle deps c.steps.marks c.steps.path.items c.steps.finished c.in-Open.place next s at
    (top_leads deps c.steps.marks c.steps.path.items (c.len-last.result - 1) c.index.result.now.node c.index.result.now.column next k
    r.low r.marked (sym c.end-next.ensures.value)))

pub steps-smaller : goal.steps-smaller
steps-smaller g c =
    let deps : Digraph = g.G.Graph.digraph c.args.graph.now in
    let s = c.steps.invariant.search in
    let k = top deps c.steps.marks c.steps.path.items c.steps.finished c.len-last.result (c.len-last.result - 1) c.index.result.now s
    (c.len-last.ensures ∙ c.steps.path.ok.0) (omega arith) refl c.index.ensures in
    let r = read_next deps c.index.result.now.node c.index.result.now.column c.columns-width.result c.columns-width.ensures k.end c.if-column-width.false k.leads in
    let next : ℕ = c.end-next.result in
    let following = c.next.ensures in
    let high = following.high in
    less_advanced deps.columns c.steps.marks c.steps.path.items (c.len-last.result - 1) c.index.result.now.node
    c.index.result.now.column c.next.result k.size k.at r.low (omega arith)

pub steps-preserved : goal.steps-preserved
steps-preserved g c =
    let deps : Digraph = g.G.Graph.digraph c.args.graph.now in
    let s = c.steps.invariant.search in
    let k = top deps c.steps.marks c.steps.path.items c.steps.finished c.len-last.result (c.len-last.result - 1) c.index.result.now s
    (c.len-last.ensures ∙ c.steps.path.ok.0) (omega arith) refl c.index.ensures in
    let r = read_next deps c.index.result.now.node c.index.result.now.column c.columns-width.result c.columns-width.ensures k.end c.if-column-width.false k.leads in
    let next : ℕ = c.end-next.result in
    let done : node_mark c.steps.marks next ≡ Done c.in-Done.field-0 = c.in-Done.is in
    let following = c.next.ensures in
    let high = following.high in
    record {
      search = advanced deps c.steps.marks c.steps.path.items c.steps.finished (c.len-last.result - 1) c.index.result.now.node c.index.result.now.column
          c.next.result s k.size k.at r.low
          (λ m. (c.in-Done.field-0, ap (node_mark c.steps.marks) (sym c.end-next.ensures.value) ∙ done, (s.done next c.in-Done.field-0 done).0)) (omega arith) following;
      stay = c.steps.invariant.stay;
      begun = c.steps.invariant.begun;
    }

pub returns : goal.returns
returns g c =
    let deps : Digraph = g.G.Graph.digraph c.args.graph.now in
    let none : c.steps.path.items ≡ [] = nil_from_length c.steps.path.items (omega (arith, c.len.ensures, c.steps.path.ok.0)) in
    let s : IsDepthSearch deps c.steps.marks [] c.steps.finished = subst (λ z. IsDepthSearch deps c.steps.marks z c.steps.finished) none c.steps.invariant.search in
    (s, c.steps.invariant.stay, begun_below deps c.steps.marks c.steps.finished c.args.start s c.steps.invariant.begun)

pub end-next-requires-clause-node : goal.end-next-requires-clause-node
end-next-requires-clause-node g c =
    let deps : Digraph = g.G.Graph.digraph c.args.graph.now in
    let s = c.steps.invariant.search in
    let k = top deps c.steps.marks c.steps.path.items c.steps.finished c.len-last.result (c.len-last.result - 1) c.index.result.now s
    (c.len-last.ensures ∙ c.steps.path.ok.0) (omega arith) refl c.index.ensures in
    let inside = k.inside in
    omega (arith, s.size)

pub next-requires-clause-node : goal.next-requires-clause-node
next-requires-clause-node g c =
    let deps : Digraph = g.G.Graph.digraph c.args.graph.now in
    let s = c.steps.invariant.search in
    let k = top deps c.steps.marks c.steps.path.items c.steps.finished c.len-last.result (c.len-last.result - 1) c.index.result.now s
    (c.len-last.ensures ∙ c.steps.path.ok.0) (omega arith) refl c.index.ensures in
    let inside = k.inside in
    omega (arith, s.size)
