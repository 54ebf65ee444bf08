-- The loops that go through all branches.
use Rattle.std.proofs.Common.{◌≡◌, ◌≢◌, ⊎_elim, ℕ, zero, suc, ◌+◌, ◌<◌, ◌≤◌, List, [], ◌∷◌, ◌++◌, length, Option, Some, None, sym, ◌∙◌, ap, subst}
use Rattle.std.proofs.Common.{arith, slice_get}
use Rattle.std.proofs.lemmas.Bool.{cases_eq}
use Rattle.trace_laws.specs.declared.opened.Open.{Open}
use Rattle.trace_laws.specs.declared.opened.Config.{Config}
use Rattle.trace_laws.specs.declared.opened.Branch.{Branch}
use Rattle.trace_laws.specs.declared.opened.Node.{Node}
use Rattle.trace_laws.specs.Configs.{IsIn, IsLeft, HasTakenEffect, HasAsGood, effect, release, without_bit, GoesOn}
use Rattle.trace_laws.specs.Searches.{configs_of, AreReleased}
use Rattle.trace_laws.proofs.Lists.{get_push_cases, get_append_left, get_push, get_within}
use Rattle.trace_laws.proofs.Start.{map_in}
use Rattle.trace_judge.specs.Sets.{StaysSound}
use Rattle.trace_judge.specs.Elders.{IsExpandedInTurn}
use Rattle.trace_judge.proofs.Branches.{goes_on_more, goes_on_same, stays_same, stays_more}
use Rattle.trace_judge.proofs.Growth.{has_go_on, turn_goes_on}

-- all branches, up to the next one
pub record Closing (table : List (Option Open)) (w slot : ℕ) (begun : List Branch) (nodes : List Node)
    (next : ℕ) (found : List Branch) (more : List Node) : Type 0 where
  pub grows : GoesOn begun found
  pub closed : (j : ℕ) (b : Branch) → j < next → slice_get found j ≡ Some b → IsLeft b.config slot
      → IsExpandedInTurn table w (configs_of found) b.config
  pub within : next ≤ length found
  pub sound : StaysSound table w begun nodes found more

pub closing_none : (table : List (Option Open)) (w slot : ℕ) (begun : List Branch) (nodes : List Node)
    → Closing table w slot begun nodes 0 begun nodes
closing_none table w slot begun nodes = record {
  grows = goes_on_same begun;
  closed = λ j b l h left. absurd (omega arith);
  within = omega arith;
  sound = stays_same table w begun nodes;
}

-- a branch in which the operation has taken effect is left as it is
pub closing_skip : (table : List (Option Open)) (w slot : ℕ) (begun : List Branch) (nodes : List Node)
    (next : ℕ) (found : List Branch) (more : List Node) (b : Branch)
    → slice_get found next ≡ Some b → (IsLeft b.config slot → ⊥)
    → Closing table w slot begun nodes next found more
    → Closing table w slot begun nodes (next + 1) found more
closing_skip table w slot begun nodes next found more b at taken was = record {
  grows = was.grows;
  closed = λ j c l h left. ⊎_elim
      (λ (e : j ≡ next).
      let here : slice_get found next ≡ Some c = ap (λ (i : ℕ). slice_get found i) (sym e) ∙ h in
      let same : c ≡ b = cc in
      absurd (taken (subst (λ (d : Branch). IsLeft d.config slot) same left)))
      (λ (ne : j ≢ next). was.closed j c (omega arith) h left)
      (cases_eq j next);
  within = let m = get_within found next b at in omega arith;
  sound = was.sound;
}

-- another is expanded
pub closing_expand : (table : List (Option Open)) (w slot : ℕ) (begun : List Branch) (nodes : List Node)
    (next : ℕ) (found later : List Branch) (more most : List Node) (b : Branch)
    → slice_get found next ≡ Some b → IsExpandedInTurn table w (configs_of later) b.config → GoesOn found later
    → StaysSound table w found more later most → Closing table w slot begun nodes next found more
    → Closing table w slot begun nodes (next + 1) later most
closing_expand table w slot begun nodes next found later more most b at expanded on sound was =
    let inside = get_within found next b at in
    record {
      grows = goes_on_more begun found later was.grows on;
      closed = λ j c l h left. ⊎_elim
          (λ (e : j ≡ next).
          let here : slice_get later next ≡ Some c = ap (λ (i : ℕ). slice_get later i) (sym e) ∙ h in
          let there : slice_get later next ≡ Some b = ap (λ (bs : List Branch). slice_get bs next) on.1
          ∙ get_append_left found on.0 next b at in
          let same : b ≡ c = cc in
          subst (λ (d : Branch). IsExpandedInTurn table w (configs_of later) d.config) same expanded)
          (λ (ne : j ≢ next).
          let low : j < length found = omega arith in
          let old : slice_get found j ≡ Some c = before found on.0 j c low
          (ap (λ (bs : List Branch). slice_get bs j) (sym on.1) ∙ h) in
          λ s o may. turn_goes_on table w found later c.config (effect c.config s o) o on
          (was.closed j c (omega arith) old left s o may))
          (cases_eq j next);
      within = let e = ap (λ (bs : List Branch). length bs) on.1 in let m = longer found on.0 in omega arith;
      sound = stays_more table w begun found later nodes more most was.sound sound;
    }
  where
    before : (xs ys : List Branch) (k : ℕ) (x : Branch) → k < length xs → slice_get (xs ++ ys) k ≡ Some x
        → slice_get xs k ≡ Some x
    before [] ys k x l h = absurd (omega arith)
    before (z ∷ xs) ys zero x l h = h
    before (z ∷ xs) ys (suc k) x l h = before xs ys k x (omega arith) h

    longer : (xs ys : List Branch) → length xs ≤ length (xs ++ ys)
    longer [] ys = omega arith
    longer (x ∷ xs) ys = let r = longer xs ys in omega arith

pub closing_all : (table : List (Option Open)) (w slot : ℕ) (begun : List Branch) (nodes : List Node)
    (next : ℕ) (found : List Branch) (more : List Node)
    → length found ≤ next
    → Closing table w slot begun nodes next found more → (c : Config) → IsIn (configs_of found) c
    → IsLeft c slot → IsExpandedInTurn table w (configs_of found) c
closing_all table w slot begun nodes next found more all was c h left =
    let r = map_in (λ (b : Branch). b.config) found c h in
    let b : Branch = r.0 in
    let l = get_within found r.1.0 b r.1.1 in
    subst (λ (d : Config). IsExpandedInTurn table w (configs_of found) d) (sym r.2)
    (was.closed r.1.0 b (omega arith) r.1.1 (subst (λ (d : Config). IsLeft d slot) r.2 left))

-- what the branches were, has one as good at the end
pub closing_kept : (table : List (Option Open)) (w slot : ℕ) (branches begun : List Branch) (nodes : List Node)
    (next : ℕ) (found : List Branch) (more : List Node)
    → ((c : Config) → IsIn (configs_of branches) c → HasAsGood table w (configs_of begun) c)
    → Closing table w slot begun nodes next found more
    → (c : Config) → IsIn (configs_of branches) c → HasAsGood table w (configs_of found) c
closing_kept table w slot branches begun nodes next found more kept was c h =
    has_go_on table w begun found c was.grows (kept c h)

-- those that are kept, up to branch i
pub record Keeping (slot : ℕ) (branches : List Branch) (i : ℕ) (kept : List Branch) : Type 0 where
  pub from : AreReleased slot branches kept
  pub released : (j : ℕ) (b : Branch) → j < i → slice_get branches j ≡ Some b → HasTakenEffect b.config slot
      → IsIn kept (record { config = release b.config slot; trail = b.trail })

pub keeping_none : (slot : ℕ) (branches : List Branch) → Keeping slot branches 0 []
keeping_none slot branches = record {
  from = λ c h. absurd (let e : None ≡ Some c = h.1 in cc);
  released = λ j b l h taken. absurd (omega arith);
}

pub keeping_skip : (slot : ℕ) (branches : List Branch) (i : ℕ) (kept : List Branch) (b : Branch)
    → slice_get branches i ≡ Some b → (HasTakenEffect b.config slot → ⊥)
    → Keeping slot branches i kept → Keeping slot branches (i + 1) kept
keeping_skip slot branches i kept b at left was = record {
  from = was.from;
  released = λ j c l h taken. ⊎_elim
      (λ (e : j ≡ i).
      let here : slice_get branches i ≡ Some c = ap (λ (n : ℕ). slice_get branches n) (sym e) ∙ h in
      let same : c ≡ b = cc in
      absurd (left (subst (λ (d : Branch). HasTakenEffect d.config slot) same taken)))
      (λ (ne : j ≢ i). was.released j c (omega arith) h taken)
      (cases_eq j i);
}

pub keeping_push : (slot : ℕ) (branches : List Branch) (i : ℕ) (kept later : List Branch) (b : Branch)
    → slice_get branches i ≡ Some b → HasTakenEffect b.config slot
    → later ≡ kept ++ record { config = release b.config slot; trail = b.trail } ∷ []
    → Keeping slot branches i kept → Keeping slot branches (i + 1) later
keeping_push slot branches i kept later b at taken e was =
    let new : Branch = record { config = release b.config slot; trail = b.trail } in
    subst (λ (bs : List Branch). Keeping slot branches (i + 1) bs) (sym e) (record {
      from = λ c h. ⊎_elim
          (λ old. was.from c (h.0, old))
          (λ (r : (h.0 ≡ length kept) × (new ≡ c)). (b, (i, at), taken, sym r.1))
          (get_push_cases kept new h.0 c h.1);
      released = λ j c l h t. ⊎_elim
          (λ (e : j ≡ i).
          let here : slice_get branches i ≡ Some c = ap (λ (n : ℕ). slice_get branches n) (sym e) ∙ h in
          let same : b ≡ c = cc in (
            length kept,
            get_push kept new ∙ ap
                (λ (d : Branch). Some (record { config = release d.config slot; trail = d.trail })) same,
          ))
          (λ (ne : j ≢ i). let r = was.released j c (omega arith) h t in
          (r.0, get_append_left kept (new ∷ []) r.0 (record { config = release c.config slot; trail = c.trail }) r.1))
          (cases_eq j i);
    })

-- a branch is kept behind the others, where what has taken effect without this slot has a name
pub keeping_pushed : (slot : ℕ) (branches : List Branch) (i : ℕ) (kept later : List Branch) (b : Branch) (taken : ℕ)
    → slice_get branches i ≡ Some b → HasTakenEffect b.config slot → taken ≡ without_bit b.config.taken slot
    → later ≡ kept ++ record { config = record { word = b.config.word; taken = taken }; trail = b.trail } ∷ []
    → Keeping slot branches i kept → Keeping slot branches (i + 1) later
keeping_pushed slot branches i kept later b taken at has without is was =
    keeping_push slot branches i kept later b at has
    (is ∙ ap (λ (t : ℕ). kept ++ record { config = record { word = b.config.word; taken = t }; trail = b.trail } ∷ []) without) was

pub keeping_all : (slot : ℕ) (branches : List Branch) (i : ℕ) (kept : List Branch) → length branches ≤ i
    → Keeping slot branches i kept
    → (b : Branch) → IsIn branches b → HasTakenEffect b.config slot
    → IsIn kept (record { config = release b.config slot; trail = b.trail })
keeping_all slot branches i kept all was b h taken = let l = get_within branches h.0 b h.1 in was.released h.0 b
    (omega arith) h.1 taken
