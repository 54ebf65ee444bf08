-- The loops that look for the newest operation.
use Rattle.std.proofs.Common.{◌≡◌, ◌≢◌, ◌⊎◌, inl, inr, ⊎_elim, ℕ, ◌+◌, ◌<◌, ◌≤◌, List, [], length, Option, Some, None, refl, sym, ◌∙◌, ap, subst, arith, slice_get}
use Rattle.std.specs.Prelude.{MatchOption}
use Rattle.std.proofs.lemmas.Bool.{cases_eq}
use Rattle.trace_laws.specs.declared.event.Call.{Call}
use Rattle.trace_laws.proofs.Lists.{get_within}
use Rattle.trace_laws.specs.Configs.{IsIn}
use Rattle.trace_watch.specs.declared.state.Effect.{Effect}
use Rattle.trace_watch.specs.Matchings.{IsNewer, IsNewestOf, MayBe, MayStillBe}
use Rattle.trace_watch.proofs.Fitting.{nothing_taken}

-- the newest of the operations before place i that may
pub record IsNewestBelow (calls : List Call) (May : Call → Type 0) (i : ℕ) (call : Call) : Type 0 where
  pub on : IsIn calls call
  pub may : May call
  pub newest : (k : ℕ) (c : Call) → k < i → slice_get calls k ≡ Some c → May c → c.id ≤ call.id

abbrev pub NewestBelow : List Call → (Call → Type 0) → ℕ → Option Call → Type 0
NewestBelow calls May i newest = MatchOption newest
    ((k : ℕ) (c : Call) → k < i → slice_get calls k ≡ Some c → May c → ⊥)
    (λ c. IsNewestBelow calls May i c)

pub below_none : (calls : List Call) (May : Call → Type 0) → NewestBelow calls May 0 None
below_none calls May = λ k c l h may. (omega arith)

-- the call at a place, or one before it
at_or_below : (calls : List Call) (i k : ℕ) (call c : Call) → slice_get calls i ≡ Some call → k < i + 1
    → slice_get calls k ≡ Some c → (call ≡ c) ⊎ (k < i)
at_or_below calls i k call c here l h = ⊎_elim {C = (call ≡ c) ⊎ (k < i)}
    (λ (e : k ≡ i).
    let there : slice_get calls i ≡ Some c = ap (λ (n : ℕ). slice_get calls n) (sym e) ∙ h in inl cc)
    (λ (ne : k ≢ i). inr (omega arith))
    (cases_eq k i)

-- one more operation, which may not
pub below_same : (calls : List Call) (May : Call → Type 0) (i : ℕ) (last : Option Call) (call : Call)
    → slice_get calls i ≡ Some call → (May call → ⊥) → NewestBelow calls May i last → NewestBelow calls May (i + 1) last
below_same calls May i None call here not was = λ k c l h may. ⊎_elim {C = ⊥}
    (λ (s : call ≡ c). not (subst May (sym s) may))
    (λ (m : k < i). was k c m h may)
    (at_or_below calls i k call c here l h)
below_same calls May i (Some d) call here not was = record {
  on = was.on;
  may = was.may;
  newest = λ k c l h may. ⊎_elim {C = c.id ≤ d.id}
      (λ (s : call ≡ c). absurd (not (subst May (sym s) may)))
      (λ (m : k < i). was.newest k c m h may)
      (at_or_below calls i k call c here l h);
}

-- or which isn't newer
below_older : (calls : List Call) (May : Call → Type 0) (i : ℕ) (d call : Call) → slice_get calls i ≡ Some call
    → call.id ≤ d.id → NewestBelow calls May i (Some d) → NewestBelow calls May (i + 1) (Some d)
below_older calls May i d call here low was = record {
  on = was.on;
  may = was.may;
  newest = λ k c l h may. ⊎_elim {C = c.id ≤ d.id}
      (λ (s : call ≡ c). let n = ap (λ (x : Call). x.id) s in omega arith)
      (λ (m : k < i). was.newest k c m h may)
      (at_or_below calls i k call c here l h);
}

-- or which is
below_newer : (calls : List Call) (May : Call → Type 0) (i : ℕ) (last : Option Call) (call : Call)
    → slice_get calls i ≡ Some call → May call → ((d : Call) → last ≡ Some d → d.id ≤ call.id)
    → NewestBelow calls May i last → IsNewestBelow calls May (i + 1) call
below_newer calls May i None call here may low was = record {
  on = (i, here);
  may = may;
  newest = λ k c l h also. ⊎_elim {C = c.id ≤ call.id}
      (λ (s : call ≡ c). let n = ap (λ (x : Call). x.id) s in omega arith)
      (λ (m : k < i). absurd (was k c m h also))
      (at_or_below calls i k call c here l h);
}
below_newer calls May i (Some d) call here may low was = record {
  on = (i, here);
  may = may;
  newest = λ k c l h also. ⊎_elim {C = c.id ≤ call.id}
      (λ (s : call ≡ c). let n = ap (λ (x : Call). x.id) s in omega arith)
      (λ (m : k < i). let a = was.newest k c m h also in let b = low d refl in omega arith)
      (at_or_below calls i k call c here l h);
}

pub below_more : (calls : List Call) (May : Call → Type 0) (i : ℕ) (last next : Option Call) (call : Call)
    → slice_get calls i ≡ Some call → May call → IsNewer last call next → NewestBelow calls May i last
    → NewestBelow calls May (i + 1) next
below_more calls May i last next call here may newer was = ⊎_elim {C = NewestBelow calls May (i + 1) next}
    (λ (old : (next ≡ last) × ((d : Call) × (last ≡ Some d) × (call.id ≤ d.id))).
    subst (λ (o : Option Call). NewestBelow calls May (i + 1) o) (sym (old.0 ∙ old.1.1))
    (below_older calls May i old.1.0 call here old.1.2
    (subst (λ (o : Option Call). NewestBelow calls May i o) old.1.1 was)))
    (λ (new : (next ≡ Some call) × ((d : Call) → last ≡ Some d → d.id ≤ call.id)).
    subst (λ (o : Option Call). NewestBelow calls May (i + 1) o) (sym new.0)
    (below_newer calls May i last call here may new.1 was))
    newer

pub below_all : (calls : List Call) (May : Call → Type 0) (i : ℕ) (newest : Option Call) → length calls ≤ i
    → NewestBelow calls May i newest
    → MatchOption newest ((k : ℕ) (c : Call) → slice_get calls k ≡ Some c → May c → ⊥) (λ c. IsNewestOf calls May c)
below_all calls May i None all was = λ k c h may. was k c (let l = get_within calls k c h in omega arith) h may
below_all calls May i (Some d) all was = record {
  on = was.on;
  may = was.may;
  newest = λ k c h may. was.newest k c (let l = get_within calls k c h in omega arith) h may;
}

-- where no number is taken
pub newest_untaken : (calls : List Call) (e : Effect) (newest : Option Call)
    → MatchOption newest ((k : ℕ) (c : Call) → slice_get calls k ≡ Some c → MayStillBe [] e c → ⊥)
    (λ c. IsNewestOf calls (MayStillBe [] e) c)
    → MatchOption newest ((k : ℕ) (c : Call) → slice_get calls k ≡ Some c → MayBe e c → ⊥)
    (λ c. IsNewestOf calls (MayBe e) c)
newest_untaken calls e None was = λ k c h may. was k c h (record { may = may; left = nothing_taken c.id })
newest_untaken calls e (Some d) was = record {
  on = was.on;
  may = was.may.may;
  newest = λ k c h may. was.newest k c h (record { may = may; left = nothing_taken c.id });
}
