-- Lists of spans, in parts and turned, and the arcs that they are of.
use Rattle.std.proofs.Common.{◌≡◌, inl, inr, ℕ, zero, suc, ◌+◌, ◌-◌, ◌<◌, ◌≤◌, List, [], ◌∷◌, ◌++◌, length, map, take, drop, set, cond, refl, sym, ◌∙◌, ap, subst, arith}
use Rattle.std.proofs.lemmas.Bool.{cases_lt, lt-ltb, le-ltb}
use Rattle.std.proofs.lemmas.List.{length-set, map-append, length-map, length-append, take-append-drop, length-drop, get_or-drop, get_or-take, get_or_append_left, get_or-append_right, drop_more}
use Rattle.std.proofs.Math.Seq.{get_or-append_seam}
use Rattle.network_judge.specs.declared.table.Reply.{Reply}
use Rattle.network_judge.specs.declared.spans.Span.{Span}
use Rattle.network_judge.specs.declared.tangles.Tangle.{Tangle}
use Rattle.network_judge.specs.Table.{Table}
use Rattle.network_judge.specs.Ways.{place}
use Rattle.network_judge.specs.Arcs.{Arc, On, AnyOn, AreClear}
use Rattle.network_judge.specs.Spans.{span_at, span_of, IsOnSpan, AreSpansOfArcs, IsCircle, IsClearCircle, IsTangle, IsUntangled, IsAround, starts, before_step}

abbrev pub no_span : Span
no_span = record { from = 0; to = 0; start = 0; end = 0 }

-- a list of arcs at a place
pub record Split (t : Table) (ps : List (Arc t)) (n : ℕ) : Type 0 where
  pub front : List (Arc t)
  pub arc : Arc t
  pub back : List (Arc t)
  pub split : ps ≡ front ++ arc ∷ back
  pub count : length front ≡ n

pub split_at : (t : Table) (ps : List (Arc t)) (n : ℕ) → n < length ps → Split t ps n
split_at t [] n low = absurd (omega arith)
split_at t (a ∷ ps) zero low = record { front = []; arc = a; back = ps; split = refl; count = refl }
split_at t (a ∷ ps) (suc n) low =
    let r = split_at t ps n (omega arith) in
    let count = r.count in
    record { front = a ∷ r.front; arc = r.arc; back = r.back; split = ap (λ (qs : List (Arc t)). a ∷ qs) r.split; count = omega arith }

-- the spans of arcs in two parts
pub spans_both : (t : Table) (ps qs : List (Arc t)) → map (span_of t) (ps ++ qs) ≡ map (span_of t) ps ++ map (span_of t) qs
spans_both t ps qs = map-append (span_of t) ps qs

pub span_there : (t : Table) (front : List (Arc t)) (a : Arc t) (back : List (Arc t)) (n : ℕ) → length front ≡ n
    → span_at (map (span_of t) (front ++ a ∷ back)) n ≡ span_of t a
span_there t front a back n count =
    let size : length (map (span_of t) front) ≡ n = length-map front (span_of t) ∙ count in
    ap (λ (ss : List Span). span_at ss n) (spans_both t front (a ∷ back))
    ∙ (ap (span_at (map (span_of t) front ++ span_of t a ∷ map (span_of t) back)) (sym size)
    ∙ get_or-append_seam (map (span_of t) front) (span_of t a) (map (span_of t) back) no_span)

-- a channel on an arc is on its span, and the other way round
pub on_span : (t : Table) (a : Arc t) (x : ℕ) → On t a x → IsOnSpan t (span_of t a) x
on_span t a x o = (let high = o.high in record { step = o.step; low = o.low; high = omega arith; here = o.here })

pub on_arc : (t : Table) (a : Arc t) (x : ℕ) → IsOnSpan t (span_of t a) x → On t a x
on_arc t a x o = (let high = o.high in record { step = o.step; low = o.low; high = omega arith; here = o.here })

-- which of the spans it is on
pub any_span : (t : Table) (ps : List (Arc t)) (x : ℕ) → AnyOn t ps x → (b : ℕ) × (b < length ps) × IsOnSpan t (span_at (map (span_of t) ps) b) x
any_span t [] x h = absurd h
any_span t (a ∷ ps) x (inl o) = (0, omega arith, on_span t a x o)
any_span t (a ∷ ps) x (inr h) = (let r = any_span t ps x h in let low = r.1 in (suc r.0, omega arith, r.2))

pub are_arcs : (t : Table) (ps : List (Arc t)) → AreSpansOfArcs t (map (span_of t) ps)
are_arcs t [] b low = absurd (omega arith)
are_arcs t (a ∷ ps) zero low = record { arc = a; is = refl }
are_arcs t (a ∷ ps) (suc b) low = are_arcs t ps b (omega arith)

-- where no packets pass a span before they come to theirs, the arcs are clear
pub clear_of : (t : Table) (all ps : List (Arc t))
    → ((a k : ℕ) → a < length ps → k < (span_at (map (span_of t) ps) a).start
    → AnyOn t all (place t (span_at (map (span_of t) ps) a).to (span_at (map (span_of t) ps) a).from k) → ⊥) → AreClear t all ps
clear_of t all [] none = tt
clear_of t all (a ∷ ps) none =
    (λ k l on. none 0 k (omega arith) l on, clear_of t all ps (λ b k lb lk on. none (suc b) k (omega arith) lk on))

pub clear_circle : (t : Table) (replies : List Reply) (spans : List Span) → IsUntangled t spans → IsCircle t replies spans → IsClearCircle t replies spans
clear_circle t replies spans none c =
    let all : List (Arc t) = c.head ∷ c.rest in
    let clear : IsUntangled t (map (span_of t) (c.head ∷ c.rest)) = subst (IsUntangled t) (sym c.are) none in
    let size : length (map (span_of t) (c.head ∷ c.rest)) ≡ length (c.head ∷ c.rest) = length-map (c.head ∷ c.rest) (span_of t) in
    record {
      head = c.head;
      rest = c.rest;
      are = c.are;
      circle = c.circle;
      clear = clear_of t (c.head ∷ c.rest) (c.head ∷ c.rest) (λ a k la lk on.
          (let w = any_span t (c.head ∷ c.rest) (place t (span_at (map (span_of t) (c.head ∷ c.rest)) a).to (span_at (map (span_of t) (c.head ∷ c.rest)) a).from k) on in
          let low = w.1 in
          clear (are_arcs t (c.head ∷ c.rest)) a w.0 k (omega arith) (omega arith) lk w.2));
    }

-- the steps before spans, together
pub starts_both : (xs ys : List Span) → starts (xs ++ ys) ≡ starts xs + starts ys
starts_both [] ys = omega arith
starts_both (s ∷ xs) ys = let r = starts_both xs ys in omega arith

pub starts_set : (xs : List Span) (s : Span) → 0 < length xs → starts (set xs 0 s) + (span_at xs 0).start ≡ starts xs + s.start
starts_set [] s some = absurd (omega arith)
starts_set (x ∷ xs) s some = omega arith

-- what is left of a span, and that nothing is
pub left_some : (s : Span) (end : ℕ) → s.start < end → before_step s end ≡ record { from = s.from; to = s.to; start = s.start; end = end } ∷ []
left_some s end less = ap (λ b. cond b (record { from = s.from; to = s.to; start = s.start; end = end } ∷ []) []) (lt-ltb s.start end less)

pub left_none : (s : Span) (end : ℕ) → end ≤ s.start → before_step s end ≡ []
left_none s end more = ap (λ b. cond b (record { from = s.from; to = s.to; start = s.start; end = end } ∷ []) []) (le-ltb s.start end more)

pub starts_before : (s : Span) (end : ℕ) → starts (before_step s end) ≤ s.start
starts_before s end = elim (cases_lt s.start end) [
  | inl less ↦ (let e : starts (before_step s end) ≡ s.start + 0 = ap starts (left_some s end less) in omega arith)
  | inr more ↦ (let e : starts (before_step s end) ≡ 0 = ap starts (left_none s end more) in omega arith)
]

pub starts_cut : (xs : List Span) (n end : ℕ) → n < length xs → starts (take n xs ++ before_step (span_at xs n) end) ≤ starts xs
starts_cut xs n end low =
    let one = starts_both (take n xs) (before_step (span_at xs n) end) in
    let two = starts_before (span_at xs n) end in
    let three = starts_both (take n xs) (drop n xs) in
    let four : starts (take n xs ++ drop n xs) ≡ starts xs = ap starts (take-append-drop n xs) in
    let five : starts (drop n xs) ≡ (span_at xs n).start + starts (drop (n + 1) xs) = ap starts (drop_more xs n no_span low) in
    omega arith

pub starts_turned : (xs : List Span) (n : ℕ) → starts (drop n xs ++ take n xs) ≡ starts xs
starts_turned xs n =
    let one = starts_both (take n xs) (drop n xs) in
    let two = starts_both (drop n xs) (take n xs) in
    let four : starts (take n xs ++ drop n xs) ≡ starts xs = ap starts (take-append-drop n xs) in
    omega arith

-- the spans after a cut
abbrev pub cut_spans : List Span → Tangle → ℕ → ℕ → List Span
cut_spans spans g place end =
    take place (set (drop g.place spans ++ take g.place spans) 0 (record (span_at (drop g.place spans ++ take g.place spans) 0) { start = g.step }))
    ++ before_step (span_at (set (drop g.place spans ++ take g.place spans) 0 (record (span_at (drop g.place spans ++ take g.place spans) 0) { start = g.step })) place) end

pub first_turned : (xs : List Span) (n : ℕ) → n < length xs → span_at (drop n xs ++ take n xs) 0 ≡ span_at xs n
first_turned xs n low = ap (λ (ys : List Span). span_at (ys ++ take n xs) 0) (drop_more xs n no_span low)

-- the first of the spans that are turned begins earlier, and they end before a step
pub cut_is : (spans new : List Span) (g : Tangle) (n end : ℕ) → g.place < length spans → new ≡ drop g.place spans ++ take g.place spans
    → take n (set new 0 (record (span_at spans g.place) { start = g.step }))
    ++ before_step (span_at (set new 0 (record (span_at spans g.place) { start = g.step })) n) end ≡ cut_spans spans g n end
cut_is spans new g n end low same =
    ap (λ (ys : List Span). take n (set ys 0 (record (span_at spans g.place) { start = g.step }))
    ++ before_step (span_at (set ys 0 (record (span_at spans g.place) { start = g.step })) n) end) same
    ∙ ap (λ (s : Span). take n (set (drop g.place spans ++ take g.place spans) 0 (record s { start = g.step }))
    ++ before_step (span_at (set (drop g.place spans ++ take g.place spans) 0 (record s { start = g.step })) n) end) (sym (first_turned spans g.place low))

-- a cut has fewer steps before
pub fewer_steps : (t : Table) (spans : List Span) (g : Tangle) (place end : ℕ) → IsTangle t spans g → place < length spans
    → starts (cut_spans spans g place end) < starts spans
fewer_steps t spans g place end is low =
    let turn : List Span = drop g.place spans ++ take g.place spans in
    let first : Span = record (span_at (drop g.place spans ++ take g.place spans) 0) { start = g.step } in
    let there = is.place_low in
    let less = is.low in
    let size : length (drop g.place spans ++ take g.place spans) ≡ length spans = size_turned spans g.place in
    let size_set : length (set (drop g.place spans ++ take g.place spans) 0 (record (span_at (drop g.place spans ++ take g.place spans) 0) { start = g.step })) ≡ length (drop g.place spans ++ take g.place spans) =
    length-set (drop g.place spans ++ take g.place spans) 0 (record (span_at (drop g.place spans ++ take g.place spans) 0) { start = g.step }) in
    let head : span_at (drop g.place spans ++ take g.place spans) 0 ≡ span_at spans g.place = first_turned spans g.place is.place_low in
    let head_start : (span_at (drop g.place spans ++ take g.place spans) 0).start ≡ (span_at spans g.place).start = ap (λ (s : Span). s.start) head in
    let same = starts_turned spans g.place in
    let set_is = starts_set (drop g.place spans ++ take g.place spans) (record (span_at (drop g.place spans ++ take g.place spans) 0) { start = g.step }) (omega arith) in
    let cut_is = starts_cut (set (drop g.place spans ++ take g.place spans) 0 (record (span_at (drop g.place spans ++ take g.place spans) 0) { start = g.step })) place end (omega arith) in
    omega arith
  where
    size_turned : (xs : List Span) (n : ℕ) → length (drop n xs ++ take n xs) ≡ length xs
    size_turned xs n =
        let one = length-append (take n xs) (drop n xs) in
        let two = length-append (drop n xs) (take n xs) in
        let three : length (take n xs ++ drop n xs) ≡ length xs = ap length (take-append-drop n xs) in
        omega arith

-- a place in a list that is turned
pub around : (xs : List Span) (p o n : ℕ) → p < length xs → o < length xs → IsAround (length xs) p o n → span_at (drop p xs ++ take p xs) n ≡ span_at xs o
around xs p o n low less is =
    let size : length (drop p xs) ≡ length xs - p = length-drop p xs in
    elim (cases_lt o p) [
      | inl early ↦
          let place : n ≡ length xs - p + o = is.below early in
          let rest : n - (length xs - p) ≡ o = omega arith in
          get_or-append_right (drop p xs) (take p xs) (length xs - p) n no_span size (omega arith)
          ∙ (ap (span_at (take p xs)) rest ∙ get_or-take p xs o no_span early)
      | inr late ↦
          let place : p + n ≡ o = is.above late in
          get_or_append_left (drop p xs) (take p xs) no_span n (omega arith)
          ∙ (get_or-drop p xs n no_span ∙ ap (span_at xs) place)
    ]
