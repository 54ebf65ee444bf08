-- The loops that let operations take effect.
use Rattle.std.proofs.Common.{◌≡◌, ◌≢◌, ◌⊎◌, inl, inr, ⊎_elim, ℕ, suc, ◌+◌, ◌<◌, ◌≤◌, List, [], ◌∷◌, ◌++◌, length, Option, Some, sym, ◌∙◌, ap, subst}
use Rattle.std.proofs.Common.{arith, slice_get, append-nil}
use Rattle.std.proofs.lemmas.Bool.{cases_eq}
use Rattle.trace_laws.specs.declared.opened.Open.{Open}
use Rattle.trace_laws.specs.declared.opened.Config.{Config}
use Rattle.trace_laws.specs.declared.opened.Branch.{Branch}
use Rattle.trace_laws.specs.declared.opened.Node.{Node}
use Rattle.trace_laws.specs.Configs.{IsIn, IsLeft, MayTake, HasAsGood, effect, GoesOn}
use Rattle.trace_judge.specs.Elders.{HasElder}
use Rattle.trace_laws.specs.Searches.{configs_of}
use Rattle.trace_laws.proofs.Lists.{get_append_left, get_within}
use Rattle.trace_laws.proofs.Start.{map_in}
use Rattle.trace_judge.specs.Sets.{TakesEffect, StaysSound, Joins, Takes}
use Rattle.trace_judge.proofs.Branches.{goes_on_in, goes_on_more, goes_on_same, configs_go_on, stays_same, stays_more, stays_fewer}

-- what goes on has one as good still
pub has_go_on : (table : List (Option Open)) (w : ℕ) (old new : List Branch) (c : Config) → GoesOn old new
    → HasAsGood table w (configs_of old) c → HasAsGood table w (configs_of new) c
has_go_on table w old new c on has = (has.0, configs_go_on old new has.0 on has.1, has.2)

-- in turn as well
pub turn_goes_on : (table : List (Option Open)) (w : ℕ) (old new : List Branch) (c d : Config) (o : Open) → GoesOn old new
    → HasElder table w c o ⊎ HasAsGood table w (configs_of old) d → HasElder table w c o ⊎ HasAsGood table w (configs_of new) d
turn_goes_on table w old new c d o on has = ⊎_elim
    {C = HasElder table w c o ⊎ HasAsGood table w (configs_of new) d}
    (λ (e : HasElder table w c o). inl e)
    (λ (h : HasAsGood table w (configs_of old) d). inr (has_go_on table w old new d on h))
    has

-- one branch, up to slot s
pub record Expanding (table : List (Option Open)) (w : ℕ) (old : List Branch) (nodes : List Node) (from : Branch)
    (s : ℕ) (new : List Branch) (more : List Node) : Type 0 where
  pub expanded : (u : ℕ) (o : Open) → u < s → MayTake table w from.config u o
      → HasElder table w from.config o ⊎ HasAsGood table w (configs_of new) (effect from.config u o)
  pub grows : GoesOn old new
  pub sound : StaysSound table w old nodes new more

pub expanding_none : (table : List (Option Open)) (w : ℕ) (old : List Branch) (nodes : List Node) (from : Branch)
    → Expanding table w old nodes from 0 old nodes
expanding_none table w old nodes from = record {
  expanded = λ u o l may. absurd (omega arith);
  grows = goes_on_same old;
  sound = stays_same table w old nodes;
}

pub expanding_skip : (table : List (Option Open)) (w : ℕ) (old : List Branch) (nodes : List Node) (from : Branch)
    (s : ℕ) (new : List Branch) (more : List Node) (place : Option Open)
    → slice_get table s ≡ Some place
    → ((o : Open) → TakesEffect place w from.config s o → HasElder table w from.config o)
    → Expanding table w old nodes from s new more
    → Expanding table w old nodes from (s + 1) new more
expanding_skip table w old nodes from s new more place at none was = record {
  expanded = λ u o l may. ⊎_elim {C = HasElder table w from.config o ⊎ HasAsGood table w (configs_of new) (effect from.config u o)}
      (λ (e : u ≡ s).
      let here : slice_get table s ≡ Some (Some o) = ap (λ (i : ℕ). slice_get table i) (sym e) ∙ may.pending.there in
      let same : place ≡ Some o = cc in
      inl (none o (record {
        there = same;
        here = may.pending.here;
        left = subst
            (λ (i : ℕ). IsLeft from.config i) e may.left;
        agrees = may.agrees;
      })))
      (λ (ne : u ≢ s). was.expanded u o (omega arith) may)
      (cases_eq u s);
  grows = was.grows;
  sound = was.sound;
}

pub expanding_add : (table : List (Option Open)) (w : ℕ) (old : List Branch) (nodes : List Node) (from : Branch)
    (s : ℕ) (new later : List Branch) (more most : List Node) (place : Option Open)
    (o : Open) (config : Config) → IsIn old from → slice_get table s ≡ Some place
    → TakesEffect place w from.config s o → config ≡ effect from.config s o
    → HasAsGood table w (configs_of later) config → GoesOn new later
    → Takes table w from o config new more later most
    → Expanding table w old nodes from s new more
    → Expanding table w old nodes from (s + 1) later most
expanding_add table w old nodes from s new later more most place o config in' at takes is there on ways was =
    let may : MayTake table w from.config s o = record {
      pending = record {
        there = at ∙ ap
            (λ (p : Option Open). Some p) takes.there;
        here = takes.here;
      };
      left = takes.left;
      agrees = takes.agrees;
    } in
    record {
      expanded = λ u p l m. ⊎_elim
          {C = HasElder table w from.config p ⊎ HasAsGood table w (configs_of later) (effect from.config u p)}
          (λ (e : u ≡ s).
          let here : slice_get table s ≡ Some (Some p) = ap (λ (i : ℕ). slice_get table i) (sym e)
          ∙ m.pending.there in
          let also : slice_get table s ≡ Some (Some o) = may.pending.there in
          let same : o ≡ p = cc in
          inr (subst (λ (d : Config). HasAsGood table w (configs_of later) d)
          (is ∙ (ap (λ (q : Open). effect from.config s q) same ∙ ap (λ (i : ℕ). effect from.config i p)
          (sym e))) there))
          (λ (ne : u ≢ s). turn_goes_on table w new later from.config (effect from.config u p) p on (was.expanded u p (omega arith) m))
          (cases_eq u s);
      grows = goes_on_more old new later was.grows on;
      sound = stays_more table w old new later nodes more most was.sound
          (ways s (goes_on_in old new from was.grows in') may is);
    }

-- the branches of a word settle, up to branch i
pub record Settling (table : List (Option Open)) (w : ℕ) (branches : List Branch) (nodes : List Node)
    (i : ℕ) (found : List Branch) (more : List Node) : Type 0 where
  pub kept : (j : ℕ) (b : Branch) → j < i → slice_get branches j ≡ Some b
      → HasAsGood table w (configs_of found) b.config
  pub sound : StaysSound table w branches nodes (branches ++ found) more

pub settling_none : (table : List (Option Open)) (w : ℕ) (branches : List Branch) (nodes : List Node)
    → Settling table w branches nodes 0 [] nodes
settling_none table w branches nodes = record {
  kept = λ j b l h. absurd (omega arith);
  sound = subst (λ (bs : List Branch). StaysSound table w branches nodes bs nodes) (sym (append-nil branches))
      (stays_same table w branches nodes);
}

pub settling_more : (table : List (Option Open)) (w : ℕ) (branches : List Branch) (nodes : List Node) (i : ℕ)
    (found later : List Branch) (more most : List Node) (b : Branch)
    → slice_get branches i ≡ Some b → HasAsGood table w (configs_of later) b.config
    → GoesOn found later → Joins table w b found more later most
    → Settling table w branches nodes i found more
    → Settling table w branches nodes (i + 1) later most
settling_more table w branches nodes i found later more most b at there on ways was = record {
  kept = λ j c l h. ⊎_elim {C = HasAsGood table w (configs_of later) c.config}
      (λ (e : j ≡ i).
      let here : slice_get branches i ≡ Some c = ap (λ (n : ℕ). slice_get branches n) (sym e) ∙ h in
      let same : b ≡ c = cc in
      subst (λ (d : Branch). HasAsGood table w (configs_of later) d.config) same there)
      (λ (ne : j ≢ i). has_go_on table w found later c.config on (was.kept j c (omega arith) h))
      (cases_eq j i);
  sound = stays_more table w branches (branches ++ found) (branches ++ later) nodes more most was.sound
      (ways branches (i, get_append_left branches found i b at));
}

pub settling_kept : (table : List (Option Open)) (w : ℕ) (branches : List Branch) (nodes : List Node) (i : ℕ)
    (found : List Branch) (more : List Node) → length branches ≤ i
    → Settling table w branches nodes i found more
    → (c : Config) → IsIn (configs_of branches) c → HasAsGood table w (configs_of found) c
settling_kept table w branches nodes i found more all was c h =
    let r = map_in (λ (b : Branch). b.config) branches c h in
    let b : Branch = r.0 in
    let l = get_within branches r.1.0 b r.1.1 in
    subst (λ (d : Config). HasAsGood table w (configs_of found) d) (sym r.2) (was.kept r.1.0 b (omega arith) r.1.1)

right_in : (xs ys : List Branch) (b : Branch) → IsIn ys b → IsIn (xs ++ ys) b
right_in [] ys b h = h
right_in (x ∷ xs) ys b h = let r = right_in xs ys b h in (suc r.0, r.1)

pub settling_sound : (table : List (Option Open)) (w : ℕ) (branches : List Branch) (nodes : List Node) (i : ℕ)
    (found : List Branch) (more : List Node) → Settling table w branches nodes i found more
    → StaysSound table w branches nodes found more
settling_sound table w branches nodes i found more was =
    stays_more table w branches (branches ++ found) found nodes more more was.sound
    (stays_fewer table w (branches ++ found) found more (λ b h. right_in branches found b h))
