-- A circle of spans is cut where packets on the way to one of them pass another.
use Rattle.std.proofs.Common.{◌≡◌, inl, inr, ⊎_elim, ℕ, zero, suc, ◌-◌, ◌<◌, List, [], ◌∷◌, ◌++◌, length, map, take, drop, set, sym, ◌∙◌, ap, subst, arith}
use Rattle.std.proofs.lemmas.Bool.{cases_lt, cases_order}
use Rattle.std.proofs.lemmas.List.{append-nil, length-map, length-append}
use Rattle.std.proofs.Math.Seq.{drop-append_seam, take-append_seam}
use Rattle.network_judge.specs.declared.table.Reply.{Reply}
use Rattle.network_judge.specs.declared.spans.Span.{Span}
use Rattle.network_judge.specs.declared.tangles.Tangle.{Tangle}
use Rattle.network_judge.specs.Table.{Table}
use Rattle.network_judge.specs.Ways.{place, IsWay}
use Rattle.network_judge.specs.Arcs.{Arc, at, On, AnyOn, Circle}
use Rattle.network_judge.specs.Spans.{span_at, span_of, IsOnSpan, AreSpansOfArcs, ComesAt, ComesNever, IsCircle, IsTangle, IsAround, before_step}
use Rattle.network_judge.proofs.Arcs.{apart_on, any_left, any_right, any_either, apart_both}
use Rattle.network_judge.proofs.Circles.{longer, shorter, turned, circle_here, circle_within}
use Rattle.network_judge.proofs.SpanLists.{Split, split_at, spans_both, span_there, on_arc, any_span, are_arcs, left_some, left_none, cut_spans, around}

module _ (t : Table) (replies : List Reply) where
  -- a route is at a channel once, so it comes there at the step that is known
  one_step : (b : Arc t) (x u : ℕ) (on : On t b x) → ComesAt t b.from b.to x u → u ≡ on.step
  one_step b x u on comes =
      let high = on.high in
      let within = b.within in
      let low = comes.on b.len b.way in
      elim (cases_order u on.step) [
        | inl e ↦ e
        | inr apart ↦ elim apart [
          | inl less ↦ absurd (apart_on t b u on.step less (omega arith) (comes.here ∙ sym on.here))
          | inr more ↦ absurd (apart_on t b on.step u more low (on.here ∙ sym comes.here))
        ]
      ]

  -- from the arc on whose way packets pass another, around up to that one
  module _ (a : Arc t) (q : ℕ) (low : q < a.start) (front : List (Arc t)) (b : Arc t) (back : List (Arc t))
      (circle : Circle t replies (a ∷ (front ++ b ∷ back))) (on : On t b (at t a q))
      (above : (k : ℕ) → q < k → k < a.start → AnyOn t (a ∷ (front ++ b ∷ back)) (at t a k) → ⊥)
      (u : ℕ) (comes : ComesAt t b.from b.to (at t a q) u) where
    none : AnyOn t front (at t a q) → ⊥
    none l = apart_both t front (b ∷ back) circle.apart.1 (at t a q) l (inl on)

    abbrev begun : Span
    begun = record { from = a.from; to = a.to; start = q; end = suc a.end }

    cut_arcs : IsCircle t replies ((begun ∷ map (span_of t) front) ++ before_step (span_of t b) u)
    cut_arcs =
        let same = one_step b (at t a q) u on comes in
        let least = on.low in
        elim (cases_lt b.start on.step) [
          | inl some ↦
              let left : before_step (span_of t b) u ≡ record { from = b.from; to = b.to; start = b.start; end = u } ∷ [] =
              left_some (span_of t b) u (omega arith) in
              let end : suc (on.step - 1) ≡ u = omega arith in
              record {
                head = longer t replies a q low;
                rest = front ++ shorter t replies b on.step some on.high ∷ [];
                are = ap (λ (ss : List Span). begun ∷ ss) (spans_both t front (shorter t replies b on.step some on.high ∷ [])
                    ∙ (ap (λ z. map (span_of t) front ++ record { from = b.from; to = b.to; start = b.start; end = z } ∷ []) end
                    ∙ ap (λ (ss : List Span). map (span_of t) front ++ ss) (sym left)));
                circle = circle_within t replies a q low front b back circle on none above some;
              }
          | inr more ↦
              let left : before_step (span_of t b) u ≡ [] = left_none (span_of t b) u (omega arith) in
              record {
                head = longer t replies a q low;
                rest = front;
                are = ap (λ (ss : List Span). begun ∷ ss) (sym (append-nil (map (span_of t) front)) ∙ ap (λ (ss : List Span). map (span_of t) front ++ ss) (sym left));
                circle = circle_here t replies a q low front b back circle on none above (omega arith);
              }
        ]

  -- any arc of a circle that is turned is one of the circle
  turned_any : (front : List (Arc t)) (a : Arc t) (back : List (Arc t)) (x : ℕ) → AnyOn t (a ∷ (back ++ front)) x → AnyOn t (front ++ a ∷ back) x
  turned_any front a back x h = ⊎_elim (λ (r : AnyOn t (a ∷ back) x). any_right t front (a ∷ back) x r)
      (λ (l : AnyOn t front x). any_left t front (a ∷ back) x l)
      (any_either t (a ∷ back) front x h)

  -- the spans around from that of an arc on
  turn_is : (front : List (Arc t)) (a : Arc t) (back : List (Arc t)) (p : ℕ) → length front ≡ p
      → drop p (map (span_of t) (front ++ a ∷ back)) ++ take p (map (span_of t) (front ++ a ∷ back)) ≡ map (span_of t) (a ∷ (back ++ front))
  turn_is front a back p count =
      let size : length (map (span_of t) front) ≡ p = length-map front (span_of t) ∙ count in
      let both : map (span_of t) (front ++ a ∷ back) ≡ map (span_of t) front ++ map (span_of t) (a ∷ back) = spans_both t front (a ∷ back) in
      let one : drop p (map (span_of t) (front ++ a ∷ back)) ≡ map (span_of t) (a ∷ back) =
      ap (drop p) both ∙ (ap (λ z. drop z (map (span_of t) front ++ map (span_of t) (a ∷ back))) (sym size) ∙ drop-append_seam (map (span_of t) front) (map (span_of t) (a ∷ back))) in
      let two : take p (map (span_of t) (front ++ a ∷ back)) ≡ map (span_of t) front =
      ap (take p) both ∙ (ap (λ z. take z (map (span_of t) front ++ map (span_of t) (a ∷ back))) (sym size) ∙ take-append_seam (map (span_of t) front) (map (span_of t) (a ∷ back))) in
      ap (λ (ss : List Span). ss ++ take p (map (span_of t) (front ++ a ∷ back))) one
      ∙ (ap (λ (ss : List Span). map (span_of t) (a ∷ back) ++ ss) two ∙ sym (spans_both t (a ∷ back) front))

  -- the first spans of arcs
  take_is : (front : List (Arc t)) (b : Arc t) (back : List (Arc t)) (m : ℕ) → length front ≡ m
      → take m (map (span_of t) (front ++ b ∷ back)) ≡ map (span_of t) front
  take_is front b back m count =
      let size : length (map (span_of t) front) ≡ m = length-map front (span_of t) ∙ count in
      ap (take m) (spans_both t front (b ∷ back))
      ∙ (ap (λ z. take z (map (span_of t) front ++ map (span_of t) (b ∷ back))) (sym size) ∙ take-append_seam (map (span_of t) front) (map (span_of t) (b ∷ back)))

  -- the arc comes first, and the other one at a place
  first_cut : (a : Arc t) (r : List (Arc t)) (q n u x : ℕ) → Circle t replies (a ∷ r) → q < a.start → at t a q ≡ x → n < length (a ∷ r)
      → IsOnSpan t (span_at (map (span_of t) (a ∷ r)) n) x → ComesAt t (span_at (map (span_of t) (a ∷ r)) n).from (span_at (map (span_of t) (a ∷ r)) n).to x u
      → ((k : ℕ) → q < k → k < a.start → AnyOn t (a ∷ r) (at t a k) → ⊥)
      → IsCircle t replies (take n (record { from = a.from; to = a.to; start = q; end = suc a.end } ∷ map (span_of t) r)
      ++ before_step (span_at (record { from = a.from; to = a.to; start = q; end = suc a.end } ∷ map (span_of t) r) n) u)
  first_cut a r q zero u x circle low here inside on comes above =
      let least = on.low in
      let most = on.high in
      let order = a.order in
      let within = a.within in
      absurd (apart_on t a q on.step (omega arith) (omega arith) (here ∙ sym on.here))
  first_cut a r q (suc m) u x circle low here inside on comes above = by (split_at t r m (omega arith))
    where
      by : Split t r m → IsCircle t replies (take (suc m) (record { from = a.from; to = a.to; start = q; end = suc a.end } ∷ map (span_of t) r)
          ++ before_step (span_at (record { from = a.from; to = a.to; start = q; end = suc a.end } ∷ map (span_of t) r) (suc m)) u)
      by s =
          let begun : Span = record { from = a.from; to = a.to; start = q; end = suc a.end } in
          let there : span_at (map (span_of t) r) m ≡ span_of t s.arc =
          ap (λ (ps : List (Arc t)). span_at (map (span_of t) ps) m) s.split ∙ span_there t s.front s.arc s.back m s.count in
          let taken : take m (map (span_of t) r) ≡ map (span_of t) s.front =
          ap (λ (ps : List (Arc t)). take m (map (span_of t) ps)) s.split ∙ take_is s.front s.arc s.back m s.count in
          let cut = cut_arcs a q low s.front s.arc s.back (subst (λ (ps : List (Arc t)). Circle t replies (a ∷ ps)) s.split circle)
          (on_arc t s.arc (at t a q) (subst (λ z. IsOnSpan t (span_of t s.arc) z) (sym here) (subst (λ (z : Span). IsOnSpan t z x) there on)))
          (λ k more less any. above k more less (subst (λ (ps : List (Arc t)). AnyOn t (a ∷ ps) (at t a k)) (sym s.split) any))
          u (subst (λ z. ComesAt t s.arc.from s.arc.to z u) (sym here) (subst (λ (z : Span). ComesAt t z.from z.to x u) there comes)) in
          subst (λ (ss : List Span). IsCircle t replies ((record { from = a.from; to = a.to; start = q; end = suc a.end } ∷ ss) ++ before_step (span_at (map (span_of t) r) m) u)) (sym taken)
          (subst (λ (z : Span). IsCircle t replies ((record { from = a.from; to = a.to; start = q; end = suc a.end } ∷ map (span_of t) s.front) ++ before_step z u)) (sym there) cut)

-- the spans after a cut, by those that are turned
abbrev cut_turned : List Span → ℕ → ℕ → ℕ → List Span
cut_turned ys q n u = take n (set ys 0 (record (span_at ys 0) { start = q })) ++ before_step (span_at (set ys 0 (record (span_at ys 0) { start = q })) n) u

cut_split : (t : Table) (replies : List Reply) (front : List (Arc t)) (a : Arc t) (back : List (Arc t)) (g : Tangle) (n u : ℕ) → length front ≡ g.place
    → IsTangle t (map (span_of t) (front ++ a ∷ back)) g → IsAround (length (map (span_of t) (front ++ a ∷ back))) g.place g.owner n
    → n < length (map (span_of t) (front ++ a ∷ back))
    → ComesAt t (span_at (map (span_of t) (front ++ a ∷ back)) g.owner).from (span_at (map (span_of t) (front ++ a ∷ back)) g.owner).to g.channel u
    → Circle t replies (front ++ a ∷ back) → IsCircle t replies (cut_spans (map (span_of t) (front ++ a ∷ back)) g n u)
cut_split t replies front a back g n u count is round low comes circle =
    let spans : List Span = map (span_of t) (front ++ a ∷ back) in
    let turn : drop g.place (map (span_of t) (front ++ a ∷ back)) ++ take g.place (map (span_of t) (front ++ a ∷ back)) ≡ map (span_of t) (a ∷ (back ++ front)) =
    turn_is t replies front a back g.place count in
    let here : span_at (map (span_of t) (front ++ a ∷ back)) g.place ≡ span_of t a = span_there t front a back g.place count in
    let other : span_at (map (span_of t) (a ∷ (back ++ front))) n ≡ span_at (map (span_of t) (front ++ a ∷ back)) g.owner =
    ap (λ (ss : List Span). span_at ss n) (sym turn) ∙ around (map (span_of t) (front ++ a ∷ back)) g.place g.owner n is.place_low is.owner_low round in
    let less : g.step < a.start = subst (λ (s : Span). g.step < s.start) here is.low in
    let meets : at t a g.step ≡ g.channel = subst (λ (s : Span). place t s.to s.from g.step ≡ g.channel) here is.here in
    let last : (k b : ℕ) → g.step < k → k < a.start → b < length (map (span_of t) (front ++ a ∷ back)) → IsOnSpan t (span_at (map (span_of t) (front ++ a ∷ back)) b) (at t a k) → ⊥ =
    subst (λ (s : Span). (k b : ℕ) → g.step < k → k < s.start → b < length (map (span_of t) (front ++ a ∷ back)) → IsOnSpan t (span_at (map (span_of t) (front ++ a ∷ back)) b) (place t s.to s.from k) → ⊥)
    here (is.last (are_arcs t (front ++ a ∷ back))) in
    let size : length (map (span_of t) (front ++ a ∷ back)) ≡ length (front ++ a ∷ back) = length-map (front ++ a ∷ back) (span_of t) in
    let one = length-append front (a ∷ back) in
    let two = length-append back front in
    let cut = first_cut t replies a (back ++ front) g.step n u g.channel (turned t replies front a back circle) less meets (omega arith)
    (subst (λ (s : Span). IsOnSpan t s g.channel) (sym other) is.on)
    (subst (λ (s : Span). ComesAt t s.from s.to g.channel u) (sym other) comes)
    (λ k more below any. (let w = any_span t (front ++ a ∷ back) (at t a k) (turned_any t replies front a back (at t a k) any) in
    let inside = w.1 in last k w.0 more below (omega arith) w.2)) in
    subst (λ (ys : List Span). IsCircle t replies (cut_turned ys g.step n u)) (sym turn) cut

-- a cut of a circle is a circle
pub cut_circle : (t : Table) (replies : List Reply) (spans : List Span) (g : Tangle) (n u : ℕ) → IsTangle t spans g → IsAround (length spans) g.place g.owner n
    → n < length spans → ComesAt t (span_at spans g.owner).from (span_at spans g.owner).to g.channel u → IsCircle t replies spans
    → IsCircle t replies (cut_spans spans g n u)
cut_circle t replies spans g n u is round low comes c =
    let size : length (map (span_of t) (c.head ∷ c.rest)) ≡ length (c.head ∷ c.rest) = length-map (c.head ∷ c.rest) (span_of t) in
    let same : length (map (span_of t) (c.head ∷ c.rest)) ≡ length spans = ap length c.are in
    let there = is.place_low in
    let s = split_at t (c.head ∷ c.rest) g.place (omega arith) in
    let are : spans ≡ map (span_of t) (s.front ++ s.arc ∷ s.back) = sym c.are ∙ ap (λ (ps : List (Arc t)). map (span_of t) ps) s.split in
    subst (λ (ss : List Span). IsCircle t replies (cut_spans ss g n u)) (sym are)
    (cut_split t replies s.front s.arc s.back g n u s.count (subst (λ (ss : List Span). IsTangle t ss g) are is)
    (subst (λ (ss : List Span). IsAround (length ss) g.place g.owner n) are round)
    (subst (λ (ss : List Span). n < length ss) are low)
    (subst (λ (ss : List Span). ComesAt t (span_at ss g.owner).from (span_at ss g.owner).to g.channel u) are comes)
    (subst (λ (ps : List (Arc t)). Circle t replies ps) s.split c.circle))

-- no circle has a span whose route doesn't come to a channel on it
pub comes_somewhere : (t : Table) (replies : List Reply) (spans : List Span) (g : Tangle) → IsTangle t spans g
    → ComesNever t (span_at spans g.owner).from (span_at spans g.owner).to g.channel → IsCircle t replies spans → ⊥
comes_somewhere t replies spans g is never c =
    let arcs : AreSpansOfArcs t spans = subst (λ (ss : List Span). AreSpansOfArcs t ss) c.are (are_arcs t (c.head ∷ c.rest)) in
    let w = arcs g.owner is.owner_low in
    let on = is.on in
    let high = on.high in
    let end : (span_at spans g.owner).end ≡ suc w.arc.end = sym (ap (λ (s : Span). s.end) w.is) in
    let within = w.arc.within in
    never w.arc.len on.step
    (subst (λ (s : Span). IsWay t s.from s.to w.arc.len) w.is w.arc.way)
    (omega arith) on.here
