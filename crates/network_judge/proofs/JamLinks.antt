-- From the links of a cycle to a circle of arcs.
use Rattle.std.proofs.Common.{◌≡◌, ◌⊎◌, inl, inr, ℕ, zero, suc, ◌+◌, ◌-◌, ◌<◌, true, List, [], ◌∷◌, ◌++◌, Some, refl, sym, ◌∙◌, ap}
use Rattle.std.proofs.Common.{subst, arith, length}
use Rattle.std.proofs.lemmas.Bool.{cases_lt}
use Rattle.network_judge.specs.declared.table.Reply.{Reply}
use Rattle.network_judge.specs.declared.table.Link.{Link}
use Rattle.network_judge.specs.declared.table.By.{By}
use Rattle.network_judge.specs.declared.table.By.TheVariants.{To, Replied}
use Rattle.network_judge.specs.declared.table.Kind.TheVariants.{Injection, Ejection}
use Rattle.network_judge.specs.Table.{Table, kind_of, table_next, is_receiver}
use Rattle.network_judge.specs.Ways.{place}
use Rattle.network_judge.specs.Replies.{IsReply, AreReplies}
use Rattle.network_judge.specs.Cycles.{Depends, Leads, link_at, IsCycle}
use Rattle.network_judge.specs.Verdicts.{AllArrive}
use Rattle.network_judge.proofs.Places.{place_next}
use Rattle.network_judge.proofs.Passing.{dependency_passes}
use Rattle.network_judge.proofs.Still.{before_end}
use Rattle.network_judge.specs.Spans.{end_by}
use Rattle.network_judge.specs.Arcs.{Arc, at, begin, On, AnyOn, AreArcsApart, ArcLeadsTo, Chain, Circle}
use Rattle.network_judge.proofs.Arcs.{is_any, Located, located, apart_left, chain_left}

module _ (t : Table) (replies : List Reply) (arrive : AllArrive t) (are : AreReplies t replies) where
  -- an arc of one channel, whose packets go to an ejection channel, and which leads on to another channel
  pub record Point (e x y : ℕ) : Type 0 where
    pub arc : Arc t
    pub ends : arc.to ≡ e
    pub single : arc.start ≡ arc.end
    pub here : begin t arc ≡ x
    pub leads : ArcLeadsTo t replies arc y

  by_route : (x j y : ℕ) → Depends t x j y → Point j x y
  by_route x j y d =
      let p = dependency_passes t arrive x j y d in
      let h = p.0 in
      let low = h.before in
      record {
        arc = record {
          from = h.from;
          to = j;
          len = h.steps;
          start = h.step;
          end = h.step;
          joined = h.joined;
          way = h.way;
          order = omega arith;
          within = omega arith;
        };
        ends = refl;
        single = refl;
        here = h.here;
        leads = inl (h.before, place_next t j h.from h.step ∙ (ap (λ z. table_next t z j) h.here ∙ p.1));
      }

  -- a channel of which packets are answered is the end of the route by which they come
  by_reply : (w : ℕ) (by : By) (x y : ℕ) → Leads t replies w by x → IsReply replies x y → Point x x y
  by_reply w (To j) x y d r =
      let p = dependency_passes t arrive w j x d in
      let h = p.0 in
      let low = h.before in
      let next : place t j h.from (suc h.step) ≡ x = place_next t j h.from h.step ∙ (ap (λ z. table_next t z j) h.here ∙ p.1) in
      let kind : kind_of t x ≡ Some Ejection = (are x y r).0 in
      let last : suc h.step ≡ h.steps = elim (cases_lt (suc h.step) h.steps) [
        | inl less ↦
            let before = before_end t h.from j h.steps h.way (suc h.step) less in
            let is : is_receiver (kind_of t (place t j h.from (suc h.step))) ≡ true = ap (λ z. is_receiver (kind_of t z)) next ∙ ap is_receiver kind in absurd (cc)
        | inr more ↦ omega arith
      ] in
      let same : j ≡ x = sym h.way.arrives ∙ (ap (place t j h.from) (sym last) ∙ next) in
      record {
        arc = record {
          from = h.from;
          to = j;
          len = h.steps;
          start = h.steps;
          end = h.steps;
          joined = h.joined;
          way = h.way;
          order = omega arith;
          within = omega arith;
        };
        ends = same;
        single = refl;
        here = h.way.arrives ∙ same;
        leads = inr (refl, subst (λ z. IsReply replies z y) (sym same) r);
      }
  by_reply w Replied x y d r =
      let one : kind_of t x ≡ Some Injection = (are w x d).1 in
      let two : kind_of t x ≡ Some Ejection = (are x y r).0 in
      absurd (cc)

  point : (w : ℕ) (was : By) (x : ℕ) (by : By) (y : ℕ) → Leads t replies w was x → Leads t replies x by y → Point (end_by x by) x y
  point w was x (To j) y before d = by_route x j y d
  point w was x Replied y before r = by_reply w was x y before r

  -- arcs of one channel each
  abbrev Singles : List (Arc t) → Type 0
  Singles [] = Unit {0}
  Singles (a ∷ ps) = (a.start ≡ a.end) × Singles ps

  single_at : (front : List (Arc t)) (a : Arc t) (back : List (Arc t)) → Singles (front ++ a ∷ back) → a.start ≡ a.end
  single_at [] a back h = h.0
  single_at (b ∷ front) a back h = single_at front a back h.1

  on_single : (a : Arc t) (x : ℕ) → a.start ≡ a.end → On t a x → begin t a ≡ x
  on_single a x single o = (let low = o.low in let high = o.high in let same : a.start ≡ o.step = omega arith in ap (at t a) same ∙ o.here)

  -- a circle
  pub record Round : Type 0 where
    pub head : Arc t
    pub rest : List (Arc t)
    pub circle : Circle t replies (head ∷ rest)

  -- in a chain there is a circle, or all are apart
  circle_in : (ps : List (Arc t)) (e : ℕ) → Singles ps → Chain t replies ps e → Round ⊎ AreArcsApart t ps
  circle_in [] e single chain = inr tt
  circle_in (a ∷ ps) e single chain = elim (circle_in ps e single.1 chain.1) [
    | inl r ↦ inl r
    | inr apart ↦ elim (is_any t ps (begin t a)) [
      | inr isnt ↦ inr (λ x o any. isnt (subst (AnyOn t ps) (sym (on_single a x single.0 o)) any), apart)
      | inl again ↦ inl (closed (located t ps (begin t a) again) apart)
    ]
  ]
    where
      closed : Located t ps (begin t a) → AreArcsApart t ps → Round
      closed l apart =
          let all : Chain t replies (a ∷ (l.before ++ l.arc ∷ l.after)) e = subst (λ (r : List (Arc t)). Chain t replies (a ∷ r) e) l.split chain in
          let parts : Chain t replies (a ∷ l.before) (begin t l.arc) = chain_left t replies (a ∷ l.before) (l.arc ∷ l.after) e all in
          let same : begin t l.arc ≡ begin t a = on_single l.arc (begin t a) (single_at l.before l.arc l.after (subst Singles l.split single.1)) l.on in
          record {
            head = a;
            rest = l.before;
            circle = record {
              chain = subst (Chain t replies (a ∷ l.before)) same parts;
              apart = (
                λ x o any. l.none (subst (AnyOn t l.before) (sym (on_single a x single.0 o)) any),
                apart_left t l.before (l.arc ∷ l.after) (subst (AreArcsApart t) l.split apart),
              );
            };
          }

  module _ (links : List Link) (cycle : IsCycle t replies links) where
    abbrev pub channel : ℕ → ℕ
    channel k = (link_at links k).channel

    abbrev pub by_at : ℕ → By
    by_at k = (link_at links k).by

    pub each : (k : ℕ) → suc k < length links → Leads t replies (channel k) (by_at k) (channel (suc k))
    each k l = (let same : k + 1 ≡ suc k = omega arith in subst (λ z. Leads t replies (channel k) (by_at k) (channel z)) same (cycle.each k (omega arith)))

    -- who leads on to a channel
    record Source (x : ℕ) : Type 0 where
      from : ℕ
      by : By
      leads : Leads t replies from by x

    source : (k : ℕ) → k < length links → Source (channel k)
    source zero l = record { from = channel (length links - 1); by = by_at (length links - 1); leads = cycle.last }
    source (suc k) l = record { from = channel k; by = by_at k; leads = each k l }

    pub point_at : (k y : ℕ) → k < length links → Leads t replies (channel k) (by_at k) y → Point (end_by (channel k) (by_at k)) (channel k) y
    point_at k y l lead = (let s = source k l in point s.from s.by (channel k) (by_at k) y s.leads lead)

    -- the points from one place on
    record Row (k : ℕ) : Type 0 where
      head : Arc t
      rest : List (Arc t)
      singles : Singles (head ∷ rest)
      chain : Chain t replies (head ∷ rest) (channel 0)
      here : begin t head ≡ channel k

    row : (n k : ℕ) → k + suc n ≡ length links → Row k
    row zero k size =
        let end : length links - 1 ≡ k = omega arith in
        let p = point_at k (channel 0) (omega arith) (subst (λ z. Leads t replies (channel z) (by_at z) (channel 0)) end cycle.last) in
        record { head = p.arc; rest = []; singles = (p.single, tt); chain = (p.leads, tt); here = p.here }
    row (suc n) k size =
        let r = row n (suc k) (omega arith) in
        let p = point_at k (channel (suc k)) (omega arith) (each k (omega arith)) in
        record {
          head = p.arc;
          rest = r.head ∷ r.rest;
          singles = (p.single, r.singles);
          chain = (subst (ArcLeadsTo t replies p.arc) (sym r.here) p.leads, r.chain);
          here = p.here;
        }

    pub round : Round
    round =
        let some = cycle.some in
        let r = row (length links - 1) 0 (omega arith) in
        elim (circle_in (r.head ∷ r.rest) (channel 0) r.singles r.chain) [
          | inl c ↦ c
          | inr apart ↦ record {
            head = r.head;
            rest = r.rest;
            circle = record { chain = subst (Chain t replies (r.head ∷ r.rest)) (sym r.here) r.chain; apart = apart };
          }
        ]
