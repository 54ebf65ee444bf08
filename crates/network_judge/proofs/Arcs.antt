-- Parts of routes, one after the other, and the channels on them.
use Rattle.std.proofs.Common.{◌≡◌, ◌≢◌, ◌⊎◌, inl, inr, ⊎_elim, ℕ, suc, ◌+◌, ◌-◌, ◌<◌, ◌≤◌, eqb, List, [], ◌∷◌, ◌++◌, refl, sym, ◌∙◌, ap}
use Rattle.std.proofs.Common.{subst, arith}
use Rattle.std.proofs.lemmas.Bool.{eqb-true, eqb-false}
use Rattle.network_judge.specs.declared.table.Reply.{Reply}
use Rattle.network_judge.specs.Table.{Table}
use Rattle.network_judge.specs.Arcs.{Arc, at, begin, On, AnyOn, AreArcsApart, ArcLeadsTo, first_of, Chain}
use Rattle.network_judge.proofs.Rounds.{found}
use Rattle.network_judge.proofs.Still.{simple}

module _ (t : Table) where
  pub is_on : (a : Arc t) (x : ℕ) → On t a x ⊎ (On t a x → ⊥)
  is_on a x = elim (found (λ k. eqb (at t a (a.start + k)) x) (suc (a.end - a.start))) [
    | inl w ↦ (let low = w.1 in let order = a.order in inl (record { step = a.start + w.0; low = omega arith; high = omega arith; here = eqb-true _ x w.2 }))
    | inr none ↦ inr (λ o. (let low = o.low in let high = o.high in
        eqb-false (at t a (a.start + (o.step - a.start))) x (none (o.step - a.start) (omega arith))
        ((let same : a.start + (o.step - a.start) ≡ o.step = omega arith in ap (at t a) same) ∙ o.here)))
  ]

  pub on_begin : (a : Arc t) → On t a (begin t a)
  on_begin a = (let order = a.order in record { step = a.start; low = omega arith; high = order; here = refl })

  -- a route is nowhere twice
  pub apart_on : (a : Arc t) (j k : ℕ) → j < k → k ≤ a.len → at t a j ≢ at t a k
  apart_on a j k less low = simple t a.from a.to a.len a.way j k less low

  pub is_any : (ps : List (Arc t)) (x : ℕ) → AnyOn t ps x ⊎ (AnyOn t ps x → ⊥)
  is_any [] x = inr (λ h. h)
  is_any (a ∷ ps) x = elim (is_on a x) [
    | inl here ↦ inl (inl here)
    | inr isnt ↦ elim (is_any ps x) [
      | inl there ↦ inl (inr there)
      | inr nowhere ↦ inr (λ h. ⊎_elim isnt nowhere h)
    ]
  ]

  pub any_left : (ps qs : List (Arc t)) (x : ℕ) → AnyOn t ps x → AnyOn t (ps ++ qs) x
  any_left [] qs x h = absurd h
  any_left (a ∷ ps) qs x (inl h) = inl h
  any_left (a ∷ ps) qs x (inr h) = inr (any_left ps qs x h)

  pub any_right : (ps qs : List (Arc t)) (x : ℕ) → AnyOn t qs x → AnyOn t (ps ++ qs) x
  any_right [] qs x h = h
  any_right (a ∷ ps) qs x h = inr (any_right ps qs x h)

  pub any_either : (ps qs : List (Arc t)) (x : ℕ) → AnyOn t (ps ++ qs) x → AnyOn t ps x ⊎ AnyOn t qs x
  any_either [] qs x h = inr h
  any_either (a ∷ ps) qs x (inl h) = inl (inl h)
  any_either (a ∷ ps) qs x (inr h) = ⊎_elim (λ (l : AnyOn t ps x). inl (inr l)) (λ (r : AnyOn t qs x). inr r) (any_either ps qs x h)

  -- the first of some that a channel is on
  pub record Located (ps : List (Arc t)) (x : ℕ) : Type 0 where
    pub before : List (Arc t)
    pub arc : Arc t
    pub after : List (Arc t)
    pub split : ps ≡ before ++ arc ∷ after
    pub on : On t arc x
    pub none : AnyOn t before x → ⊥

  pub located : (ps : List (Arc t)) (x : ℕ) → AnyOn t ps x → Located ps x
  located [] x h = absurd h
  located (a ∷ ps) x h = elim (is_on a x) [
    | inl here ↦ record { before = []; arc = a; after = ps; split = refl; on = here; none = λ n. n }
    | inr isnt ↦
        let r = located ps x (⊎_elim (λ (o : On t a x). absurd (isnt o)) (λ (o : AnyOn t ps x). o) h) in
        record {
          before = a ∷ r.before;
          arc = r.arc;
          after = r.after;
          split = ap (λ (qs : List (Arc t)). a ∷ qs) r.split;
          on = r.on;
          none = λ n. ⊎_elim isnt r.none n;
        }
  ]

  pub apart_left : (ps qs : List (Arc t)) → AreArcsApart t (ps ++ qs) → AreArcsApart t ps
  apart_left [] qs h = tt
  apart_left (a ∷ ps) qs h = (λ x on any. h.0 x on (any_left ps qs x any), apart_left ps qs h.1)

  pub apart_right : (ps qs : List (Arc t)) → AreArcsApart t (ps ++ qs) → AreArcsApart t qs
  apart_right [] qs h = h
  apart_right (a ∷ ps) qs h = apart_right ps qs h.1

  pub apart_both : (ps qs : List (Arc t)) → AreArcsApart t (ps ++ qs) → (x : ℕ) → AnyOn t ps x → AnyOn t qs x → ⊥
  apart_both [] qs h x l r = l
  apart_both (a ∷ ps) qs h x (inl l) r = h.0 x l (any_right ps qs x r)
  apart_both (a ∷ ps) qs h x (inr l) r = apart_both ps qs h.1 x l r

  pub apart_join : (ps qs : List (Arc t)) → AreArcsApart t ps → AreArcsApart t qs → ((x : ℕ) → AnyOn t ps x → AnyOn t qs x → ⊥) → AreArcsApart t (ps ++ qs)
  apart_join [] qs l r both = r
  apart_join (a ∷ ps) qs l r both =
      (λ x on any. ⊎_elim (l.0 x on) (both x (inl on)) (any_either ps qs x any), apart_join ps qs l.1 r (λ x h. both x (inr h)))

  module _ (replies : List Reply) where
    pub first_both : (ps qs : List (Arc t)) (e : ℕ) → first_of t replies (ps ++ qs) e ≡ first_of t replies ps (first_of t replies qs e)
    first_both [] qs e = refl
    first_both (a ∷ ps) qs e = refl

    pub chain_left : (ps qs : List (Arc t)) (e : ℕ) → Chain t replies (ps ++ qs) e → Chain t replies ps (first_of t replies qs e)
    chain_left [] qs e h = tt
    chain_left (a ∷ ps) qs e h = (subst (ArcLeadsTo t replies a) (first_both ps qs e) h.0, chain_left ps qs e h.1)

    pub chain_right : (ps qs : List (Arc t)) (e : ℕ) → Chain t replies (ps ++ qs) e → Chain t replies qs e
    chain_right [] qs e h = h
    chain_right (a ∷ ps) qs e h = chain_right ps qs e h.1

    pub chain_join : (ps qs : List (Arc t)) (e : ℕ) → Chain t replies ps (first_of t replies qs e) → Chain t replies qs e → Chain t replies (ps ++ qs) e
    chain_join [] qs e l r = r
    chain_join (a ∷ ps) qs e l r = (subst (ArcLeadsTo t replies a) (sym (first_both ps qs e)) l.0, chain_join ps qs e l.1 r)
