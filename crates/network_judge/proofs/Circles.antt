-- A circle of arcs becomes one on which no packets pass before they come to their arc.
use Rattle.std.proofs.Common.{◌≡◌, ◌⊎◌, inl, inr, ⊎_elim, ℕ, zero, suc, ◌+◌, ◌-◌, ◌<◌, ◌≤◌, List, [], ◌∷◌, ◌++◌, refl, sym, ◌∙◌, ap}
use Rattle.std.proofs.Common.{subst, arith}
use Rattle.std.proofs.lemmas.Bool.{cases_lt}
use Rattle.network_judge.specs.declared.table.Reply.{Reply}
use Rattle.network_judge.specs.Table.{Table}
use Rattle.network_judge.specs.Arcs.{Arc, at, begin, On, AnyOn, AreArcsApart, ArcLeadsTo, first_of, Chain, Circle, IsClearArc, AreClear}
use Rattle.network_judge.proofs.Arcs.{apart_on, is_any, any_left, any_right, any_either, Located, located, apart_left, apart_right, apart_both, apart_join}
use Rattle.network_judge.proofs.Arcs.{first_both, chain_left, chain_right, chain_join}

module _ (t : Table) (replies : List Reply) where
  -- the steps before the arcs, together
  abbrev pub before : List (Arc t) → ℕ
  before [] = 0
  before (a ∷ ps) = a.start + before ps

  before_both : (ps qs : List (Arc t)) → before (ps ++ qs) ≡ before ps + before qs
  before_both [] qs = omega arith
  before_both (a ∷ ps) qs = let r = before_both ps qs in omega arith

  -- packets pass one of some arcs before they come to their own, last at this step
  pub record Meets (ps : List (Arc t)) (a : Arc t) : Type 0 where
    pub step : ℕ
    pub low : step < a.start
    pub on : AnyOn t ps (at t a step)
    pub none : (k : ℕ) → step < k → k < a.start → AnyOn t ps (at t a k) → ⊥

  last_met : (ps : List (Arc t)) (a : Arc t) (n d : ℕ) → n + d ≡ a.start → ((k : ℕ) → n ≤ k → k < a.start → AnyOn t ps (at t a k) → ⊥)
      → Meets ps a ⊎ IsClearArc t ps a
  last_met ps a zero d all none = inr (λ k l. none k (omega arith) l)
  last_met ps a (suc n) d all none = elim (is_any t ps (at t a n)) [
    | inl here ↦ inl (record { step = n; low = omega arith; on = here; none = λ k l. none k (omega arith) })
    | inr isnt ↦ last_met ps a n (suc d) (omega arith) (λ k l h. elim (cases_lt n k) [
      | inl low ↦ none k (omega arith) h
      | inr high ↦ (let same : k ≡ n = omega arith in λ on. isnt (subst (λ z. AnyOn t ps (at t a z)) same on))
    ])
  ]

  meets : (ps : List (Arc t)) (a : Arc t) → Meets ps a ⊎ IsClearArc t ps a
  meets ps a = last_met ps a a.start 0 (omega arith) (λ k l h on. absurd (omega arith))

  pub record Tangled (all ps : List (Arc t)) : Type 0 where
    pub front : List (Arc t)
    pub arc : Arc t
    pub back : List (Arc t)
    pub split : ps ≡ front ++ arc ∷ back
    pub meets : Meets all arc

  tangled : (all ps : List (Arc t)) → Tangled all ps ⊎ AreClear t all ps
  tangled all [] = inr tt
  tangled all (a ∷ ps) = elim (meets all a) [
    | inl m ↦ inl (record { front = []; arc = a; back = ps; split = refl; meets = m })
    | inr clear ↦ elim (tangled all ps) [
      | inl r ↦ inl (record { front = a ∷ r.front; arc = r.arc; back = r.back; split = ap (λ (qs : List (Arc t)). a ∷ qs) r.split; meets = r.meets })
      | inr rest ↦ inr (clear, rest)
    ]
  ]

  -- another circle, with fewer steps before
  pub record Less (ps : List (Arc t)) : Type 0 where
    pub head : Arc t
    pub rest : List (Arc t)
    pub circle : Circle t replies (head ∷ rest)
    pub less : before (head ∷ rest) < before ps

  -- an arc that begins earlier
  abbrev pub longer : (a : Arc t) (q : ℕ) → q < a.start → Arc t
  longer a q low = (let order = a.order in record {
    from = a.from;
    to = a.to;
    len = a.len;
    start = q;
    end = a.end;
    joined = a.joined;
    way = a.way;
    order = omega arith;
    within = a.within;
  })

  -- an arc that ends before a step
  abbrev pub shorter : (b : Arc t) (u : ℕ) → b.start < u → u ≤ b.end → Arc t
  shorter b u some low = (let within = b.within in record {
    from = b.from;
    to = b.to;
    len = b.len;
    start = b.start;
    end = u - 1;
    joined = b.joined;
    way = b.way;
    order = omega arith;
    within = omega arith;
  })

  shorter_on : (b : Arc t) (u : ℕ) (some : b.start < u) (low : u ≤ b.end) (x : ℕ) → On t (shorter b u some low) x → On t b x
  shorter_on b u some low x o = (let high = o.high in record { step = o.step; low = o.low; high = omega arith; here = o.here })

  -- the arc begins earlier, where its packets pass another one, which ends there
  module _ (a : Arc t) (q : ℕ) (low : q < a.start) (front : List (Arc t)) (b : Arc t) (back : List (Arc t))
      (circle : Circle t replies (a ∷ (front ++ b ∷ back))) (on : On t b (at t a q)) (none : AnyOn t front (at t a q) → ⊥)
      (above : (k : ℕ) → q < k → k < a.start → AnyOn t (a ∷ (front ++ b ∷ back)) (at t a k) → ⊥) where
    abbrev there : List (Arc t)
    there = front ++ b ∷ back

    stays_apart : (ps : List (Arc t)) → ((x : ℕ) → AnyOn t ps x → AnyOn t there x) → (AnyOn t ps (at t a q) → ⊥)
        → (x : ℕ) → On t (longer a q low) x → AnyOn t ps x → ⊥
    stays_apart ps sub clear x o any = elim (cases_lt o.step a.start) [
      | inl less ↦ elim (cases_lt q o.step) [
        | inl more ↦ above o.step more less (inr (sub (at t a o.step) (subst (AnyOn t ps) (sym o.here) any)))
        | inr not_more ↦ (let least = o.low in let same : o.step ≡ q = omega arith in
            clear (subst (AnyOn t ps) (sym o.here ∙ ap (at t a) same) any))
      ]
      | inr not_less ↦ circle.apart.0 x (record { step = o.step; low = not_less; high = o.high; here = o.here }) (sub x any)
    ]

    parts : Chain t replies (a ∷ front) (begin t b)
    parts = chain_left t replies (a ∷ front) (b ∷ back) (begin t a) circle.chain

    kept : AreArcsApart t front
    kept = apart_left t front (b ∷ back) circle.apart.1

    pub circle_here : b.start ≡ on.step → Circle t replies (longer a q low ∷ front)
    circle_here same =
        let reaches : begin t b ≡ at t a q = ap (at t b) same ∙ on.here in
        record {
          chain = (subst (λ e. ArcLeadsTo t replies a (first_of t replies front e)) reaches parts.0, subst (Chain t replies front) reaches parts.1);
          apart = (stays_apart front (λ x h. any_left t front (b ∷ back) x h) none, kept);
        }

    cut_here : b.start ≡ on.step → Less (a ∷ there)
    cut_here same =
        let r = before_both front (b ∷ back) in
        record { head = longer a q low; rest = front; circle = circle_here same; less = omega arith }

    pub circle_within : (some : b.start < on.step) → Circle t replies (longer a q low ∷ (front ++ shorter b on.step some on.high ∷ []))
    circle_within some =
        let high = on.high in
        let within = b.within in
        let step : suc (on.step - 1) ≡ on.step = omega arith in
        let leads : ArcLeadsTo t replies (shorter b on.step some on.high) (at t a q) = inl (omega arith, ap (at t b) step ∙ on.here) in
        let joined : Chain t replies (longer a q low ∷ (front ++ shorter b on.step some on.high ∷ [])) (at t a q) =
        chain_join t replies (longer a q low ∷ front) (shorter b on.step some on.high ∷ []) (at t a q) parts (leads, tt) in
        let sub : (x : ℕ) → AnyOn t (front ++ shorter b on.step some on.high ∷ []) x → AnyOn t there x =
        λ x any. ⊎_elim (λ (l : AnyOn t front x). any_left t front (b ∷ back) x l)
        (λ (h : AnyOn t (shorter b on.step some on.high ∷ []) x). any_right t front (b ∷ back) x (one x h))
        (any_either t front (shorter b on.step some on.high ∷ []) x any) in
        let clear : AnyOn t (front ++ shorter b on.step some on.high ∷ []) (at t a q) → ⊥ =
        λ any. ⊎_elim none (λ (h : AnyOn t (shorter b on.step some on.high ∷ []) (at t a q)). gone h)
        (any_either t front (shorter b on.step some on.high ∷ []) (at t a q) any) in
        record {
          chain = joined;
          apart = (
            stays_apart (front ++ shorter b on.step some on.high ∷ []) sub clear,
            apart_join t front (shorter b on.step some on.high ∷ []) kept ((λ x h e. e), tt)
                (λ x l h. apart_both t front (b ∷ back) circle.apart.1 x l (one x h)),
          );
        }
      where
        one : (x : ℕ) → AnyOn t (shorter b on.step some on.high ∷ []) x → AnyOn t (b ∷ back) x
        one x (inl o) = inl (shorter_on b on.step some on.high x o)
        one x (inr e) = absurd e

        gone : AnyOn t (shorter b on.step some on.high ∷ []) (at t a q) → ⊥
        gone (inl o) = (let high = o.high in let most = on.high in let within = b.within in let less = o.low in
            apart_on t b o.step on.step (omega arith) (omega arith) (o.here ∙ sym on.here))
        gone (inr e) = e

    cut_within : b.start < on.step → Less (a ∷ there)
    cut_within some =
        let r = before_both front (b ∷ back) in
        let r2 = before_both front (shorter b on.step some on.high ∷ []) in
        record {
          head = longer a q low;
          rest = front ++ shorter b on.step some on.high ∷ [];
          circle = circle_within some;
          less = omega arith;
        }

    cut : Less (a ∷ there)
    cut = elim (cases_lt b.start on.step) [
      | inl some ↦ cut_within some
      | inr none_more ↦ (let least = on.low in cut_here (omega arith))
    ]

  sooner : (a : Arc t) (rest : List (Arc t)) → Circle t replies (a ∷ rest) → Meets (a ∷ rest) a → Less (a ∷ rest)
  sooner a rest circle m = elim m.on [
    | inl own ↦ (let low = m.low in let first = own.low in let high = own.high in let order = a.order in let within = a.within in
        absurd (apart_on t a m.step own.step (omega arith) (omega arith) (sym own.here)))
    | inr other ↦ by (located t rest (at t a m.step) other)
  ]
    where
      by : Located t rest (at t a m.step) → Less (a ∷ rest)
      by l = subst (λ (r : List (Arc t)). Less (a ∷ r)) (sym l.split)
          (cut a m.step m.low l.before l.arc l.after (subst (λ (r : List (Arc t)). Circle t replies (a ∷ r)) l.split circle) l.on l.none
          (λ k more less h. m.none k more less (subst (λ (r : List (Arc t)). AnyOn t (a ∷ r) (at t a k)) (sym l.split) h)))

  -- a circle that begins with another of its arcs
  pub turned : (front : List (Arc t)) (a : Arc t) (back : List (Arc t)) → Circle t replies (front ++ a ∷ back) → Circle t replies (a ∷ (back ++ front))
  turned front a back circle =
      let e : ℕ = first_of t replies (front ++ a ∷ back) 0 in
      let same : e ≡ first_of t replies front (begin t a) = first_both t replies front (a ∷ back) 0 in
      let l : Chain t replies front (begin t a) = chain_left t replies front (a ∷ back) e circle.chain in
      let r : Chain t replies (a ∷ back) (first_of t replies front (begin t a)) =
      subst (Chain t replies (a ∷ back)) same (chain_right t replies front (a ∷ back) e circle.chain) in
      record {
        chain = chain_join t replies (a ∷ back) front (begin t a) r l;
        apart = apart_join t (a ∷ back) front (apart_right t front (a ∷ back) circle.apart) (apart_left t front (a ∷ back) circle.apart)
            (λ x h g. apart_both t front (a ∷ back) circle.apart x g h);
      }

  turned_meets : (front : List (Arc t)) (a : Arc t) (back : List (Arc t)) → Meets (front ++ a ∷ back) a → Meets (a ∷ (back ++ front)) a
  turned_meets front a back m = record {
    step = m.step;
    low = m.low;
    on = ⊎_elim (λ (l : AnyOn t front (at t a m.step)). any_right t (a ∷ back) front (at t a m.step) l)
        (λ (r : AnyOn t (a ∷ back) (at t a m.step)). any_left t (a ∷ back) front (at t a m.step) r)
        (any_either t front (a ∷ back) (at t a m.step) m.on);
    none = λ k more less h. m.none k more less (⊎_elim (λ (r : AnyOn t (a ∷ back) (at t a k)). any_right t front (a ∷ back) (at t a k) r)
        (λ (l : AnyOn t front (at t a k)). any_left t front (a ∷ back) (at t a k) l)
        (any_either t (a ∷ back) front (at t a k) h));
  }

  -- a circle on which no packets pass before they come to their arc
  pub record Untangled : Type 0 where
    pub head : Arc t
    pub rest : List (Arc t)
    pub circle : Circle t replies (head ∷ rest)
    pub clear : AreClear t (head ∷ rest) (head ∷ rest)

  pub untangled : (fuel : ℕ) (a : Arc t) (rest : List (Arc t)) → before (a ∷ rest) < fuel → Circle t replies (a ∷ rest) → Untangled
  untangled zero a rest less circle = absurd (omega arith)
  untangled (suc fuel) a rest less circle = by (λ b more fewer c. untangled fuel b more fewer c) (tangled (a ∷ rest) (a ∷ rest))
    where
      by : ((b : Arc t) (more : List (Arc t)) → before (b ∷ more) < fuel → Circle t replies (b ∷ more) → Untangled)
          → Tangled (a ∷ rest) (a ∷ rest) ⊎ AreClear t (a ∷ rest) (a ∷ rest) → Untangled
      by again (inr clear) = record { head = a; rest = rest; circle = circle; clear = clear }
      by again (inl d) =
          let c = turned d.front d.arc d.back (subst (Circle t replies) d.split circle) in
          let m = turned_meets d.front d.arc d.back (subst (λ (r : List (Arc t)). Meets r d.arc) d.split d.meets) in
          let r = sooner d.arc (d.back ++ d.front) c m in
          let fewer = r.less in
          let one = before_both d.front (d.arc ∷ d.back) in
          let two = before_both d.back d.front in
          let all : before (a ∷ rest) ≡ before (d.front ++ d.arc ∷ d.back) = ap before d.split in
          again r.head r.rest (omega arith) r.circle
