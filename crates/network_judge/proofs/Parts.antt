-- Parts of routes at the links of a cycle make a circle.
use Rattle.std.proofs.Common.{◌≡◌, ◌≢◌, inl, inr, ℕ, zero, suc, ◌+◌, ◌-◌, ◌<◌, ◌≤◌, true, false, List, [], ◌∷◌, ◌++◌, refl, sym, ◌∙◌, ap, subst, arith, length, map}
use Rattle.std.proofs.lemmas.Bool.{cases_lt}
use Rattle.std.proofs.Math.Seq.{drop-cons, drop-length}
use Rattle.std.proofs.lemmas.List.{get_or_append_left, get_or_push}
use Rattle.std.proofs.Common.{drop}
use Rattle.network_judge.specs.declared.table.Reply.{Reply}
use Rattle.network_judge.specs.declared.table.Link.{Link}
use Rattle.network_judge.specs.declared.table.By.{By}
use Rattle.network_judge.specs.declared.table.By.TheVariants.{To, Replied}
use Rattle.network_judge.specs.declared.spans.Span.{Span}
use Rattle.network_judge.specs.Table.{Table, channels_of, kind_of, table_next, joins_of, is_receiver}
use Rattle.network_judge.specs.Ways.{place, IsWay}
use Rattle.network_judge.specs.Replies.{IsReply, AreReplies}
use Rattle.network_judge.specs.Cycles.{Leads, link_at, IsCycle}
use Rattle.network_judge.specs.Verdicts.{AllArrive, join_at}
use Rattle.network_judge.specs.Arcs.{Arc, at, begin, On, AnyOn, AreArcsApart, ArcLeadsTo, Chain}
use Rattle.network_judge.specs.Spans.{AreOfDistinctChannels, end_by, end_of, span_at, span_of, IsPoint, ComesAt, IsMissed, IsCircle}
use Rattle.network_judge.proofs.Places.{place_next}
use Rattle.network_judge.proofs.Passing.{dependency_passes}
use Rattle.network_judge.proofs.Marking.{joined_at, place_of}
use Rattle.network_judge.proofs.Rounds.{collide}
use Rattle.network_judge.proofs.Still.{before_end, on_within, simple}
use Rattle.network_judge.proofs.Arcs.{apart_on}
use Rattle.network_judge.proofs.JamLinks.{point_at, channel, by_at, each}

-- a walk that hasn't come to its end is not behind it
pub not_behind : (t : Table) (i j len step : ℕ) → IsWay t i j len → ((k : ℕ) → k < step → place t j i k ≢ j) → step ≤ len
not_behind t i j len step way goes_on = elim (cases_lt len step) [ inl less ↦ absurd (goes_on len less way.arrives) | inr low ↦ low ]

-- a way has fewer steps than there are channels
pub fewer : (t : Table) (i j len : ℕ) → IsWay t i j len → len < channels_of t
fewer t i j len way = elim (cases_lt len (channels_of t)) [
  | inl less ↦ less
  | inr more ↦ (let r = collide (suc len) (channels_of t) (λ k. place t j i k) (λ k l. on_within t i j len way k (omega arith)) (omega arith) in
      let below = r.below in
      absurd (simple t i j len way r.first r.second r.order (omega arith) r.same))
]

-- the part of a pair's route where it comes to channel x
pub part : (t : Table) → AllArrive t → (p i j x step end : ℕ) → p < length t.joins → (join_at t p).from ≡ i → (join_at t p).to ≡ j → ComesAt t i j x step
    → end ≡ suc step → IsPoint t j x (record { from = i; to = j; start = step; end = end })
part t arrive p i j x step end low from to comes same =
    let joined : joins_of t i j ≡ true = joined_at t p i j low from to in
    let w = arrive i j joined in
    record {
      arc = record {
        from = i;
        to = j;
        len = w.0;
        start = step;
        end = step;
        joined = joined;
        way = w.1;
        order = omega arith;
        within = comes.on w.0 w.1;
      };
      is = ap (λ z. record { from = i; to = j; start = step; end = z }) (sym same);
      ends = refl;
      single = refl;
      here = comes.here;
    }

-- who goes through a channel isn't missed by all pairs
pub some_pair : (t : Table) (a : Arc t) → ((p : ℕ) → p < length t.joins → IsMissed t p a.to (begin t a)) → ⊥
some_pair t a missed =
    let p = place_of t a.from a.to a.joined in
    let order = a.order in
    let within = a.within in
    missed p.0 p.1.below p.1.to a.len a.start (subst (λ i. IsWay t i a.to a.len) (sym p.1.from) a.way) (omega arith)
    (ap (λ i. place t a.to i a.start) p.1.from)

module _ (t : Table) (replies : List Reply) (arrive : AllArrive t) (are : AreReplies t replies) where
  -- an arc of one channel leads on as its link says
  leads_to : (a : Arc t) (x : ℕ) (by : By) (y : ℕ) → a.to ≡ end_by x by → a.start ≡ a.end → begin t a ≡ x → Leads t replies x by y → ArcLeadsTo t replies a y
  leads_to a x (To j) y ends single here d =
      let p = dependency_passes t arrive x j y d in
      let h = p.0 in
      let order = a.order in
      let within = a.within in
      elim (cases_lt a.end a.len) [
        | inl less ↦
            let before : at t a a.end ≡ x = ap (at t a) (sym single) ∙ here in
            inl (less, place_next t a.to a.from a.end ∙ (ap (λ z. table_next t z a.to) before ∙ (ap (table_next t x) ends ∙ p.1)))
        | inr more ↦
            let same : a.start ≡ a.len = omega arith in
            let end : x ≡ j = sym here ∙ (ap (at t a) same ∙ (a.way.arrives ∙ ends)) in
            let no : is_receiver (kind_of t x) ≡ false = ap (λ z. is_receiver (kind_of t z)) (sym h.here) ∙ before_end t h.from j h.steps h.way h.step h.before in
            let yes : is_receiver (kind_of t x) ≡ true = ap (λ z. is_receiver (kind_of t z)) end ∙ ap is_receiver h.way.under_way.receiver in
            absurd (cc)
      ]
  leads_to a x Replied y ends single here r =
      let order = a.order in
      let within = a.within in
      elim (cases_lt a.end a.len) [
        | inl less ↦ absurd (apart_on t a a.start a.len (omega arith) (omega arith) (here ∙ (sym ends ∙ sym a.way.arrives)))
        | inr more ↦ inr (omega arith, subst (λ z. IsReply replies z y) (sym ends) r)
      ]

  module _ (links : List Link) (cycle : IsCycle t replies links) where
    abbrev ch : ℕ → ℕ
    ch k = channel t replies arrive are links cycle k

    abbrev by : ℕ → By
    by k = by_at t replies arrive are links cycle k

    -- each link leads on
    next : (k : ℕ) → k < length links → (y : ℕ) × Leads t replies (ch k) (by k) y
    next k low = elim (cases_lt (suc k) (length links)) [
      | inl less ↦ (ch (suc k), each t replies arrive are links cycle k less)
      | inr more ↦ (let same : length links - 1 ≡ k = omega arith in
          (ch 0, subst (λ z. Leads t replies (ch z) (by z) (ch 0)) same cycle.last))
    ]

    -- so it has a part
    pub not_missed : (k : ℕ) → k < length links → ((p : ℕ) → p < length t.joins → IsMissed t p (end_of (link_at links k)) (link_at links k).channel) → ⊥
    not_missed k low missed =
        let n = next k low in
        let p = point_at t replies arrive are links cycle k n.0 low n.1 in
        some_pair t p.arc (subst (λ z. (m : ℕ) → m < length t.joins → IsMissed t m z (begin t p.arc)) (sym p.ends)
        (subst (λ z. (m : ℕ) → m < length t.joins → IsMissed t m (end_of (link_at links k)) z) (sym p.here) missed))

    -- the parts of a cycle whose channels are distinct
    module _ (spans : List Span) (count : length spans ≡ length links) (distinct : AreOfDistinctChannels links)
        (points : (k : ℕ) → k < length links → IsPoint t (end_of (link_at links k)) (link_at links k).channel (span_at spans k)) where
      record Row (k : ℕ) : Type 0 where
        head : Arc t
        rest : List (Arc t)
        are_spans : map (span_of t) (head ∷ rest) ≡ drop k spans
        chain : Chain t replies (head ∷ rest) (ch 0)
        here : begin t head ≡ ch k
        apart : AreArcsApart t (head ∷ rest)
        on : (x : ℕ) → AnyOn t (head ∷ rest) x → (j : ℕ) × (k ≤ j) × (j < length links) × (ch j ≡ x)

      one : (k : ℕ) → (low : k < length links) → (y : ℕ) → Leads t replies (ch k) (by k) y → ArcLeadsTo t replies (points k low).arc y
      one k low y leads = (let p = points k low in leads_to p.arc (ch k) (by k) y p.ends p.single p.here leads)

      on_point : (k : ℕ) → (low : k < length links) → (x : ℕ) → On t (points k low).arc x → ch k ≡ x
      on_point k low x o =
          let p = points k low in
          let least = o.low in
          let most = o.high in
          let single = p.single in
          let same : o.step ≡ p.arc.start = omega arith in
          sym p.here ∙ (sym (ap (at t p.arc) same) ∙ o.here)

      spans_on : (k : ℕ) (low : k < length links) (ps : List (Arc t)) → map (span_of t) ps ≡ drop (suc k) spans
          → map (span_of t) ((points k low).arc ∷ ps) ≡ drop k spans
      spans_on k low ps e =
          let p = points k low in
          let first : span_of t p.arc ≡ span_at spans k = p.is in
          ap (λ s. s ∷ map (span_of t) ps) first ∙ (ap (λ (ss : List Span). span_at spans k ∷ ss) e ∙ sym (drop-cons spans k _ (omega arith)))

      row : (n k : ℕ) → k + suc n ≡ length links → Row k
      row zero k size =
          let end : length links - 1 ≡ k = omega arith in
          let low : k < length links = omega arith in
          let leads : Leads t replies (ch k) (by k) (ch 0) = subst (λ z. Leads t replies (ch z) (by z) (ch 0)) end cycle.last in
          let all : suc k ≡ length spans = omega arith in
          record {
            head = (points k low).arc;
            rest = [];
            are_spans = spans_on k low [] (sym (ap (λ z. drop z spans) all ∙ drop-length spans));
            chain = (one k low (ch 0) leads, tt);
            here = (points k low).here;
            apart = ((λ x o any. any), tt);
            on = λ x any. elim any [ inl o ↦ (k, omega arith, low, on_point k low x o) | inr none ↦ absurd none ];
          }
      row (suc n) k size =
          let low : k < length links = omega arith in
          let r = row n (suc k) (omega arith) in
          let leads : ArcLeadsTo t replies (points k low).arc (ch (suc k)) = one k low (ch (suc k)) (each t replies arrive are links cycle k (omega arith)) in
          record {
            head = (points k low).arc;
            rest = r.head ∷ r.rest;
            are_spans = spans_on k low (r.head ∷ r.rest) r.are_spans;
            chain = (subst (ArcLeadsTo t replies (points k low).arc) (sym r.here) leads, r.chain);
            here = (points k low).here;
            apart = (
              (λ x o any. (let w = r.on x any in let above = w.1 in
                  distinct k w.0 (omega arith) w.2 (on_point k low x o ∙ sym w.3))),
              r.apart,
            );
            on = λ x any. elim any [
              | inl o ↦ (k, omega arith, low, on_point k low x o)
              | inr rest ↦ (let w = r.on x rest in let above = w.1 in (w.0, omega arith, w.2, w.3))
            ];
          }

      pub circle_of : IsCircle t replies spans
      circle_of =
          let some = cycle.some in
          let r = row (length links - 1) 0 (omega arith) in
          record {
            head = r.head;
            rest = r.rest;
            are = r.are_spans;
            circle = record { chain = subst (Chain t replies (r.head ∷ r.rest)) (sym r.here) r.chain; apart = r.apart };
          }

-- one part more
pub points_more : (t : Table) (links : List Link) (n : ℕ) (spans new : List Span) (s : Span) → length spans ≡ n → new ≡ spans ++ s ∷ []
    → ((k : ℕ) → k < n → IsPoint t (end_of (link_at links k)) (link_at links k).channel (span_at spans k))
    → IsPoint t (end_of (link_at links n)) (link_at links n).channel s
    → (k : ℕ) → k < n + 1 → IsPoint t (end_of (link_at links k)) (link_at links k).channel (span_at new k)
points_more t links n spans new s size pushed all here k low = elim (cases_lt k n) [
  | inl less ↦ subst (IsPoint t (end_of (link_at links k)) (link_at links k).channel)
      (sym (ap (λ (ss : List Span). span_at ss k) pushed ∙ get_or_append_left spans (s ∷ []) _ k (omega arith))) (all k less)
  | inr more ↦ (let at : n ≡ k = omega arith in
      subst (λ z. IsPoint t (end_of (link_at links z)) (link_at links z).channel (span_at new z)) at
      (subst (IsPoint t (end_of (link_at links n)) (link_at links n).channel)
      (sym (ap (λ (ss : List Span). span_at ss n) pushed ∙ get_or_push spans s _ n size)) here))
]
