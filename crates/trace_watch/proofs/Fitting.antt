-- The loops over effects and the operations that they take.
use Rattle.std.proofs.Common.{◌≡◌, ◌≢◌, ◌⊎◌, inl, inr, ⊎_elim, ℕ, suc, ◌+◌, ◌≤◌, List, [], ◌∷◌, ◌++◌, length, Some, None, refl, sym, ◌∙◌, ap, subst, arith, slice_get}
use Rattle.std.proofs.Common.{append-nil}
use Rattle.std.specs.List.{insert}
use Rattle.std.specs.Prelude.{drop}
use Rattle.std.proofs.lemmas.Bool.{cases_eq}
use Rattle.trace_laws.specs.declared.event.Call.{Call}
use Rattle.trace_laws.proofs.Lists.{get_append_left, get_push, get_push_cases, get_within}
use Rattle.trace_laws.specs.Configs.{IsIn}
use Rattle.trace_watch.specs.declared.state.Effect.{Effect}
use Rattle.trace_watch.specs.Matchings.{AreDistinctPartners, ArePartners, FitsPartner, HasAsNew, HasNewest, IsUntaken, IsNewestOf, Matches, MayStillBe, Other}
use Rattle.trace_watch.proofs.Matched.{fits_weaken, insert_middle, match_insert, match_take, newest_back, newest_first, weaken}
use Rattle.trace_watch.proofs.Sifting.{drop_at, drop_end}

-- what is left for the effects from place i on, and others
pub record Fitting (calls : List Call) (effects : List Effect) (i : ℕ) (taken : List ℕ) : Type 0 where
  pub up : (more : List Effect) → FitsPartner (IsUntaken calls taken) (drop i effects ++ more)
      → FitsPartner (IsIn calls) (effects ++ more)
  pub down : AreDistinctPartners calls → (more : List Effect) → FitsPartner (IsIn calls) (effects ++ more)
      → FitsPartner (IsUntaken calls taken) (drop i effects ++ more)

pub nothing_taken : (n : ℕ) → IsIn [] n → ⊥
nothing_taken n on = let e : None ≡ Some n = on.1 in cc

pub fitting_none : (calls : List Call) (effects : List Effect) (taken : List ℕ) → taken ≡ []
    → Fitting calls effects 0 taken
fitting_none calls effects taken none = subst (λ (ns : List ℕ). Fitting calls effects 0 ns) (sym none) (record {
  up = λ more fit. fits_weaken (IsUntaken calls []) (IsIn calls) (λ c left. left.0) (effects ++ more) fit;
  down = λ apart more fit.
      fits_weaken (IsIn calls) (IsUntaken calls []) (λ c on. (on, nothing_taken c.id)) (effects ++ more) fit;
})

-- what is left when one more is taken
left_less : (calls : List Call) (taken : List ℕ) (p c : Call) → IsUntaken calls (taken ++ p.id ∷ []) c
    → Other (IsUntaken calls taken) p.id c
left_less calls taken p c left = (
  (left.0, λ on. left.1 (on.0, get_append_left taken (p.id ∷ []) on.0 c.id on.1)),
  λ same. left.1 (length taken, get_push taken p.id ∙ ap (λ (n : ℕ). Some n) (sym same)),
)

left_more : (calls : List Call) (taken : List ℕ) (p c : Call) → Other (IsUntaken calls taken) p.id c
    → IsUntaken calls (taken ++ p.id ∷ []) c
left_more calls taken p c other = (
  other.0.0,
  λ on. ⊎_elim {C = ⊥}
      (λ (old : slice_get taken on.0 ≡ Some c.id). other.0.1 (on.0, old))
      (λ (new : (on.0 ≡ length taken) × (p.id ≡ c.id)). other.1 (sym new.1))
      (get_push_cases taken p.id on.0 c.id on.1),
)

-- the newest operation is taken
pub fitting_more : (calls : List Call) (effects : List Effect) (i : ℕ) (taken read later : List ℕ) (e : Effect) (p : Call)
    → slice_get effects i ≡ Some e → read ≡ taken → IsNewestOf calls (MayStillBe read e) p → later ≡ taken ++ p.id ∷ []
    → Fitting calls effects i taken → Fitting calls effects (i + 1) later
fitting_more calls effects i taken read later e p here same found pushed was =
    subst (λ (ns : List ℕ). Fitting calls effects (i + 1) ns) (sym pushed) (record {
      up = λ more fit. was.up more (subst (λ (es : List Effect). FitsPartner (IsUntaken calls taken) es) (sym (split more))
          (newest_back (IsUntaken calls taken) e (drop (i + 1) effects ++ more) p on best.may.may
          (fits_weaken (IsUntaken calls (taken ++ p.id ∷ [])) (Other (IsUntaken calls taken) p.id) (left_less calls taken p)
          (drop (i + 1) effects ++ more) fit)));
      down = λ apart more fit.
          fits_weaken (Other (IsUntaken calls taken) p.id) (IsUntaken calls (taken ++ p.id ∷ [])) (left_more calls taken p)
          (drop (i + 1) effects ++ more)
          (newest_first (IsUntaken calls taken) e (drop (i + 1) effects ++ more) p
          (λ c d in_c in_d one. apart c d in_c.0 in_d.0 one) on best.may.may
          (λ c left may. best.newest left.0.0 c left.0.1 (record { may = may; left = left.1 }))
          (subst (λ (es : List Effect). FitsPartner (IsUntaken calls taken) es) (split more) (was.down apart more fit)));
    })
  where
    best : IsNewestOf calls (MayStillBe taken e) p
    best = subst (λ (ns : List ℕ). IsNewestOf calls (MayStillBe ns e) p) same found

    on : IsUntaken calls taken p
    on = (best.on, best.may.left)

    one : suc i ≡ i + 1
    one = omega arith

    split : (more : List Effect) → drop i effects ++ more ≡ e ∷ (drop (i + 1) effects ++ more)
    split more = ap (λ (es : List Effect). es ++ more) (drop_at effects i e here)
        ∙ ap (λ (n : ℕ). e ∷ (drop n effects ++ more)) one

-- there is none
pub fitting_stuck : (calls : List Call) (effects : List Effect) (i : ℕ) (taken read : List ℕ) (e : Effect)
    → slice_get effects i ≡ Some e → read ≡ taken
    → ((k : ℕ) (c : Call) → slice_get calls k ≡ Some c → MayStillBe read e c → ⊥) → Fitting calls effects i taken
    → AreDistinctPartners calls → FitsPartner (IsIn calls) effects → ⊥
fitting_stuck calls effects i taken read e here same none was apart fit =
    stuck (subst (λ (es : List Effect). FitsPartner (IsUntaken calls taken) (es ++ [])) (drop_at effects i e here)
    (was.down apart [] (subst (λ (es : List Effect). FitsPartner (IsIn calls) es) (sym (append-nil effects)) fit)))
  where
    stuck : FitsPartner (IsUntaken calls taken) (e ∷ (drop (suc i) effects ++ [])) → ⊥
    stuck ([], m) = m
    stuck (c ∷ cs, m) = none m.0.0.0 c m.0.0.1
        (subst (λ (ns : List ℕ). MayStillBe ns e c) (sym same) (record { may = m.1; left = m.0.1 }))

pub fitting_all : (calls : List Call) (effects : List Effect) (i : ℕ) (taken : List ℕ) → length effects ≤ i
    → Fitting calls effects i taken → ArePartners calls effects taken
fitting_all calls effects i taken all was = record {
  enough = λ more fit. was.up more (subst (λ (es : List Effect). FitsPartner (IsUntaken calls taken) (es ++ more)) (sym end) fit);
  least = λ apart more fit.
      subst (λ (es : List Effect). FitsPartner (IsUntaken calls taken) (es ++ more)) end (was.down apart more fit);
}
  where
    end : drop i effects ≡ []
    end = drop_end effects i all

-- no effect more
pub partners_fit : (calls : List Call) (effects : List Effect) (taken : List ℕ) → ArePartners calls effects taken
    → FitsPartner (IsIn calls) effects
partners_fit calls effects taken are =
    subst (λ (es : List Effect). FitsPartner (IsIn calls) es) (append-nil effects) (are.enough [] ([], tt))

-- one effect more, at whatever place
moved_there : (P : Call → Type 0) (es : List Effect) (k : ℕ) (e : Effect) → FitsPartner P (es ++ e ∷ [])
    → FitsPartner P (insert es k e)
moved_there P es k e fit =
    let at : insert es (length es) e ≡ es ++ e ∷ [] =
    ap (λ (xs : List Effect). insert xs (length es) e) (sym (append-nil es)) ∙ insert_middle es [] e in
    let r = match_take P es (length es) e fit.0 (subst (λ (xs : List Effect). Matches P xs fit.0) (sym at) fit.1) in
    (insert r.1 k r.0, match_insert P es r.1 k e r.0 r.3 r.4 r.5)

moved_back : (P : Call → Type 0) (es : List Effect) (k : ℕ) (e : Effect) → FitsPartner P (insert es k e)
    → FitsPartner P (es ++ e ∷ [])
moved_back P es k e fit =
    let at : insert es (length es) e ≡ es ++ e ∷ [] =
    ap (λ (xs : List Effect). insert xs (length es) e) (sym (append-nil es)) ∙ insert_middle es [] e in
    let r = match_take P es k e fit.0 fit.1 in (
      insert r.1 (length es) r.0,
      subst (λ (xs : List Effect). Matches P xs (insert r.1 (length es) r.0)) at
          (match_insert P es r.1 (length es) e r.0 r.3 r.4 r.5),
    )

pub partners_more : (calls : List Call) (es : List Effect) (taken : List ℕ) (k : ℕ) (e : Effect) (c : Call)
    → ArePartners calls es taken → IsIn calls c → MayStillBe taken e c → FitsPartner (IsIn calls) (insert es k e)
partners_more calls es taken k e c are on may =
    moved_there (IsIn calls) es k e (are.enough (e ∷ []) (c ∷ [], ((on, may.left), may.may, tt)))

pub partners_end : (calls : List Call) (es : List Effect) (taken : List ℕ) (k : ℕ) (e : Effect)
    → ArePartners calls es taken → ((c : Call) → IsIn calls c → MayStillBe taken e c → ⊥) → AreDistinctPartners calls
    → FitsPartner (IsIn calls) (insert es k e) → ⊥
partners_end calls es taken k e are none apart fit = stuck (are.least apart (e ∷ []) (moved_back (IsIn calls) es k e fit))
  where
    stuck : FitsPartner (IsUntaken calls taken) (e ∷ []) → ⊥
    stuck ([], m) = m
    stuck (c ∷ cs, m) = none c m.0.0 (record { may = m.1; left = m.0.1 })

-- fewer effects are of fewer operations
pub fits_fewer : (P : Call → Type 0) (es : List Effect) (k : ℕ) (e : Effect) → FitsPartner P (insert es k e)
    → FitsPartner P es
fits_fewer P es k e fit =
    let r = match_take P es k e fit.0 fit.1 in (r.1, weaken (Other P r.0.id) P (λ c o. o.0) es r.1 r.5)

-- of the last i operations that ask the same the newest
pub record Newest (calls : List Call) (i : ℕ) (newest : List Call) : Type 0 where
  pub from : (c : Call) → IsIn newest c → IsIn calls c
  pub all : (k : ℕ) (c : Call) → length calls ≤ k + i → slice_get calls k ≡ Some c → HasAsNew newest c

pub newest_none : (calls : List Call) → Newest calls 0 []
newest_none calls = record {
  from = λ c on. absurd (let e : None ≡ Some c = on.1 in cc);
  all = λ k c l h. absurd (let m = get_within calls k c h in omega arith);
}

pub newest_more : (calls : List Call) (i at : ℕ) (newest later : List Call) (call : Call)
    → slice_get calls at ≡ Some call → length calls ≡ at + i + 1 → ((c : Call) → IsIn newest c → IsIn later c)
    → ((c : Call) → IsIn later c → IsIn newest c ⊎ (call ≡ c)) → HasAsNew later call
    → Newest calls i newest → Newest calls (i + 1) later
newest_more calls i at newest later call here long kept from has was = record {
  from = λ c on. ⊎_elim {C = IsIn calls c}
      (λ (old : IsIn newest c). was.from c old)
      (λ (e : call ≡ c). subst (λ (d : Call). IsIn calls d) e (at, here))
      (from c on);
  all = λ k c l h. ⊎_elim {C = HasAsNew later c}
      (λ (e : k ≡ at).
      let there : slice_get calls at ≡ Some c = ap (λ (n : ℕ). slice_get calls n) (sym e) ∙ h in
      let same : call ≡ c = cc in
      subst (λ (d : Call). HasAsNew later d) same has)
      (λ (ne : k ≢ at). let r = was.all k c (omega arith) h in (r.0, kept r.0 r.1, r.2, r.3))
      (cases_eq k at);
}

pub newest_pushed : (calls : List Call) (i at : ℕ) (newest later : List Call) (call : Call)
    → slice_get calls at ≡ Some call → length calls ≡ at + i + 1 → later ≡ newest ++ call ∷ []
    → Newest calls i newest → Newest calls (i + 1) later
newest_pushed calls i at newest later call here long pushed was =
    subst (λ (cs : List Call). Newest calls (i + 1) cs) (sym pushed)
    (newest_more calls i at newest (newest ++ call ∷ []) call here long
    (λ c on. (on.0, get_append_left newest (call ∷ []) on.0 c on.1))
    (λ c on. ⊎_elim {C = IsIn newest c ⊎ (call ≡ c)}
    (λ (old : slice_get newest on.0 ≡ Some c). inl (on.0, old))
    (λ (new : (on.0 ≡ length newest) × (call ≡ c)). inr new.1)
    (get_push_cases newest call on.0 c on.1))
    (call, (length newest, get_push newest call), refl, omega arith) was)

pub newest_kept : (calls : List Call) (i at : ℕ) (newest read : List Call) (call : Call)
    → slice_get calls at ≡ Some call → length calls ≡ at + i + 1 → read ≡ newest → HasAsNew read call
    → Newest calls i newest → Newest calls (i + 1) newest
newest_kept calls i at newest read call here long same has was =
    newest_more calls i at newest newest call here long (λ c on. on) (λ c on. inl on)
    (subst (λ (cs : List Call). HasAsNew cs call) same has) was

pub newest_all : (calls : List Call) (i : ℕ) (newest : List Call) → length calls ≤ i → Newest calls i newest
    → HasNewest calls newest
newest_all calls i newest all was = record {
  from = was.from;
  all = λ c on. was.all on.0 c (omega arith) on.1;
}
