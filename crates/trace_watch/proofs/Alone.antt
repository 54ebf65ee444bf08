-- The loop that tells of operations whether no other asks the same.
use Rattle.std.proofs.Common.{◌≡◌, ◌⊎◌, inl, inr, ⊎_elim, ℕ, ◌+◌, Bool, true, false, List, [], ◌∷◌, ◌++◌, length, length-append, Some, None, refl, ◌∙◌, sym, ap, subst, arith, slice_get}
use Rattle.trace_laws.specs.declared.event.Call.{Call}
use Rattle.trace_laws.proofs.Lists.{get_push_cases}
use Rattle.trace_watch.specs.Matchings.{AreToldAlone, IsAlone}

-- of the first so many it is told
pub record Telling (calls newest : List Call) (i : ℕ) (alone : List Bool) : Type 0 where
  pub long : length alone ≡ i
  pub yes : (k : ℕ) (call : Call) → slice_get newest k ≡ Some call → slice_get alone k ≡ Some true
      → IsAlone calls call.operation.op call.id
  pub no : (k : ℕ) (call : Call) → slice_get newest k ≡ Some call → slice_get alone k ≡ Some false
      → IsAlone calls call.operation.op call.id → ⊥

pub telling_none : (calls newest : List Call) (alone : List Bool) → alone ≡ [] → Telling calls newest 0 alone
telling_none calls newest alone none = subst (λ (bs : List Bool). Telling calls newest 0 bs) (sym none) (record {
  long = refl;
  yes = λ k call h t. absurd (let e : None ≡ Some true = t in cc);
  no = λ k call h t. absurd (let e : None ≡ Some false = t in cc);
})

-- what is told at a place, of one more
told_at : (newest : List Call) (i k : ℕ) (alone : List Bool) (call c : Call) (flag told : Bool)
    → slice_get newest i ≡ Some call → length alone ≡ i → slice_get newest k ≡ Some c
    → slice_get (alone ++ flag ∷ []) k ≡ Some told
    → (slice_get alone k ≡ Some told) ⊎ ((call ≡ c) × (flag ≡ told))
told_at newest i k alone call c flag told here long h t =
    ⊎_elim {C = (slice_get alone k ≡ Some told) ⊎ ((call ≡ c) × (flag ≡ told))}
    (λ (old : slice_get alone k ≡ Some told). inl old)
    (λ (new : (k ≡ length alone) × (flag ≡ told)).
    let there : slice_get newest i ≡ Some c = ap (λ (n : ℕ). slice_get newest n) (sym long ∙ sym new.0) ∙ h in
    let same : call ≡ c = cc in
    inr (same, new.1))
    (get_push_cases alone flag k told t)

pub telling_more : (calls newest : List Call) (i : ℕ) (alone later : List Bool) (call : Call) (flag : Bool)
    → slice_get newest i ≡ Some call → (flag ≡ true → IsAlone calls call.operation.op call.id)
    → (flag ≡ false → IsAlone calls call.operation.op call.id → ⊥) → later ≡ alone ++ flag ∷ []
    → Telling calls newest i alone → Telling calls newest (i + 1) later
telling_more calls newest i alone later call flag here all none pushed was =
    subst (λ (bs : List Bool). Telling calls newest (i + 1) bs) (sym pushed) (record {
      long = let e = length-append alone (flag ∷ []) in let l = was.long in omega arith;
      yes = λ k c h t. ⊎_elim {C = IsAlone calls c.operation.op c.id}
          (λ (old : slice_get alone k ≡ Some true). was.yes k c h old)
          (λ (new : (call ≡ c) × (flag ≡ true)).
          subst (λ (d : Call). IsAlone calls d.operation.op d.id) new.0 (all new.1))
          (told_at newest i k alone call c flag true here was.long h t);
      no = λ k c h t. ⊎_elim {C = IsAlone calls c.operation.op c.id → ⊥}
          (λ (old : slice_get alone k ≡ Some false). was.no k c h old)
          (λ (new : (call ≡ c) × (flag ≡ false)).
          subst (λ (d : Call). IsAlone calls d.operation.op d.id → ⊥) new.0 (none new.1))
          (told_at newest i k alone call c flag false here was.long h t);
    })

pub telling_all : (calls newest : List Call) (i : ℕ) (alone : List Bool) → length newest ≡ i
    → Telling calls newest i alone → AreToldAlone calls newest alone
telling_all calls newest i alone all was = record {
  long = was.long ∙ sym all;
  yes = was.yes;
  no = was.no;
}
