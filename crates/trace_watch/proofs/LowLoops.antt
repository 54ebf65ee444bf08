-- The loops that lower bounds.
use Rattle.std.proofs.Common.{◌≡◌, ◌≢◌, ◌⊎◌, inl, inr, ⊎_elim, ℕ, suc, ◌+◌, ◌<◌, ◌≤◌, List, [], ◌∷◌, ◌++◌, length, Some, None, refl, sym, ◌∙◌, ap, subst, arith}
use Rattle.std.proofs.Common.{slice_get, take, append_assoc, max, cond, Bool, false}
use Rattle.std.specs.Prelude.{drop, ◌==◌}
use Rattle.std.proofs.lemmas.Bool.{cases_eq, eqb-true, false_from_ne_true}
use Rattle.std.proofs.lemmas.List.{take_all}
use Rattle.trace_laws.specs.declared.event.Call.{Call}
use Rattle.trace_laws.proofs.Lists.{get_append_left, get_push, get_push_cases, get_within, take_push}
use Rattle.trace_laws.specs.Configs.{IsIn}
use Rattle.trace_watch.specs.declared.state.Effect.{Effect}
use Rattle.trace_watch.specs.declared.state.Glimpse.{Glimpse}
use Rattle.trace_watch.specs.States.{IsGlimpsed, newest_number, other_words}
use Rattle.trace_watch.specs.Lowered.{AreLowered, AreLoweredGlimpses, IsBounded, MayFind, NotesGlimpse}
use Rattle.trace_watch.specs.Matchings.{IsNewestOf}
use Rattle.trace_watch.proofs.Sifting.{drop_at, drop_end}

-- effects up to place i are lowered
pub lowered_push : (calls : List Call) (es fs : List Effect) (e f : Effect) → AreLowered calls es fs → f.op ≡ e.op
    → f.reply ≡ e.reply → IsBounded calls e f.newest → AreLowered calls (es ++ e ∷ []) (fs ++ f ∷ [])
lowered_push calls [] [] e f a o r b = (o, r, b, tt)
lowered_push calls [] (g ∷ fs) e f a o r b = absurd a
lowered_push calls (d ∷ es) [] e f a o r b = absurd a
lowered_push calls (d ∷ es) (g ∷ fs) e f a o r b = (a.0, a.1, a.2, lowered_push calls es fs e f a.3 o r b)

pub lowered_one : (calls : List Call) (effects fs gs : List Effect) (i : ℕ) (e f : Effect) → slice_get effects i ≡ Some e
    → AreLowered calls (take i effects) fs → f.op ≡ e.op → f.reply ≡ e.reply → IsBounded calls e f.newest
    → gs ≡ fs ++ f ∷ [] → AreLowered calls (take (i + 1) effects) gs
lowered_one calls effects fs gs i e f here a o r b pushed =
    subst (λ (k : ℕ). AreLowered calls (take k effects) gs) one
    (subst (λ (es : List Effect). AreLowered calls es gs) (sym (take_push effects i e here))
    (subst (λ (xs : List Effect). AreLowered calls (take i effects ++ e ∷ []) xs) (sym pushed)
    (lowered_push calls (take i effects) fs e f a o r b)))
  where
    one : suc i ≡ i + 1
    one = omega arith

pub lowered_end : (calls : List Call) (effects fs : List Effect) (i : ℕ) → length effects ≤ i
    → AreLowered calls (take i effects) fs → AreLowered calls effects fs
lowered_end calls effects fs i all a =
    subst (λ (es : List Effect). AreLowered calls es fs) (take_all i effects all) a

-- glimpses up to place i are lowered
pub record SeenLowered (calls : List Call) (seen : List Glimpse) (i : ℕ) (lowered : List Glimpse) : Type 0 where
  pub down : (g : Glimpse) → IsIn lowered g → IsGlimpsed seen g
  pub up : (j : ℕ) (h : Glimpse) (call : Call) → j < i → slice_get seen j ≡ Some h → IsIn calls call → MayFind h call
      → IsGlimpsed lowered (record { word = h.word; newest = call.id })
  pub low : (g : Glimpse) → IsIn lowered g → (call : Call) × IsIn calls call × (call.id ≡ g.newest)

pub seen_none : (calls : List Call) (seen lowered : List Glimpse) → lowered ≡ [] → SeenLowered calls seen 0 lowered
seen_none calls seen lowered none = subst (λ (gs : List Glimpse). SeenLowered calls seen 0 gs) (sym none) (record {
  down = λ g on. absurd (let e : None ≡ Some g = on.1 in cc);
  up = λ j h call l at on may. absurd (omega arith);
  low = λ g on. absurd (let e : None ≡ Some g = on.1 in cc);
})

pub seen_noted : (calls : List Call) (seen : List Glimpse) (i : ℕ) (lowered later : List Glimpse) (h : Glimpse)
    → slice_get seen i ≡ Some h → NotesGlimpse calls h lowered later → SeenLowered calls seen i lowered
    → SeenLowered calls seen (i + 1) later
seen_noted calls seen i lowered later h here notes was = record {
  down = λ g on. ⊎_elim {C = IsGlimpsed seen g}
      (λ (old : IsIn lowered g). was.down g old)
      (λ (new : (h.word ≡ g.word) × (g.newest ≤ h.newest) × ((call : Call) × IsIn calls call × (call.id ≡ g.newest))).
      (h, (i, here), new.0, new.1))
      (notes.from g on);
  up = λ j k call l at on may. ⊎_elim {C = IsGlimpsed later (record { word = k.word; newest = call.id })}
      (λ (e : j ≡ i).
      let there : slice_get seen i ≡ Some k = ap (λ (n : ℕ). slice_get seen n) (sym e) ∙ at in
      let same : h ≡ k = cc in
      subst (λ (x : Glimpse). IsGlimpsed later (record { word = x.word; newest = call.id })) same
      (notes.up call on (subst (λ (x : Glimpse). MayFind x call) (sym same) may)))
      (λ (ne : j ≢ i).
      let r = was.up j k call (omega arith) at on may in (r.0, notes.kept r.0 r.1, r.2, r.3))
      (cases_eq j i);
  low = λ g on. ⊎_elim {C = (call : Call) × IsIn calls call × (call.id ≡ g.newest)}
      (λ (old : IsIn lowered g). was.low g old)
      (λ (new : (h.word ≡ g.word) × (g.newest ≤ h.newest) × ((call : Call) × IsIn calls call × (call.id ≡ g.newest))).
      new.2)
      (notes.from g on);
}

pub seen_lowered : (calls : List Call) (seen : List Glimpse) (i : ℕ) (lowered : List Glimpse) → length seen ≤ i
    → SeenLowered calls seen i lowered → AreLoweredGlimpses calls seen lowered
seen_lowered calls seen i lowered all was = record {
  down = was.down;
  up = λ h call in_seen on may. was.up in_seen.0 h call (let l = get_within seen in_seen.0 h in_seen.1 in omega arith) in_seen.1
      on may;
  low = was.low;
}

-- no operation may have found the word
pub notes_nothing : (calls : List Call) (h : Glimpse) (old : List Glimpse)
    → ((k : ℕ) (c : Call) → slice_get calls k ≡ Some c → MayFind h c → ⊥) → NotesGlimpse calls h old old
notes_nothing calls h old none = record {
  kept = λ g on. on;
  from = λ g on. inl on;
  up = λ call on may. absurd (none on.0 call on.1 may);
}

-- it is there already
pub notes_again : (calls : List Call) (h : Glimpse) (old read : List Glimpse) (call : Call) → read ≡ old
    → IsNewestOf calls (MayFind h) call → IsGlimpsed read (record { word = h.word; newest = call.id })
    → NotesGlimpse calls h old old
notes_again calls h old read call same newest there = record {
  kept = λ g on. on;
  from = λ g on. inl on;
  up = λ c on may.
      let l = newest.newest on.0 c on.1 may in
      let k = subst (λ (gs : List Glimpse). IsGlimpsed gs (record { word = h.word; newest = call.id })) same there in
      (k.0, k.1, k.2, (let m = k.3 in omega (arith, l, m)));
}

-- it is not
pub notes_new : (calls : List Call) (h : Glimpse) (old new : List Glimpse) (call : Call) → IsNewestOf calls (MayFind h) call
    → new ≡ old ++ record { word = h.word; newest = call.id } ∷ [] → NotesGlimpse calls h old new
notes_new calls h old new call newest pushed = subst (λ (gs : List Glimpse). NotesGlimpse calls h old gs) (sym pushed) (record {
  kept = λ g on. (on.0, get_append_left old (n ∷ []) on.0 g on.1);
  from = λ g on. ⊎_elim
      {C = IsIn old g ⊎ ((h.word ≡ g.word) × (g.newest ≤ h.newest) × ((c : Call) × IsIn calls c × (c.id ≡ g.newest)))}
      (λ (l : slice_get old on.0 ≡ Some g). inl (on.0, l))
      (λ (r : (on.0 ≡ length old) × (n ≡ g)). inr (
        ap (λ (x : Glimpse). x.word) r.1,
        (let e = ap (λ (x : Glimpse). x.newest) r.1 in let m = newest.may.early in omega (arith, e, m)),
        (call, newest.on, ap (λ (x : Glimpse). x.newest) r.1),
      ))
      (get_push_cases old n on.0 g on.1);
  up = λ c on may. (n, (length old, get_push old n), refl, newest.newest on.0 c on.1 may);
})
  where
    n : Glimpse
    n = record { word = h.word; newest = call.id }

-- the highest number so far, and that of the rest
pub number_on : (calls : List Call) (i n : ℕ) (c : Call) → slice_get calls i ≡ Some c
    → newest_number calls ≡ max n (newest_number (drop i calls))
    → newest_number calls ≡ max (max c.id n) (newest_number (drop (i + 1) calls))
number_on calls i n c here was =
    let split : newest_number (drop i calls) ≡ newest_number (c ∷ drop (suc i) calls) =
    ap (λ (cs : List Call). newest_number cs) (drop_at calls i c here) in
    let one : suc i ≡ i + 1 = omega arith in
    let rest : newest_number (drop (suc i) calls) ≡ newest_number (drop (i + 1) calls) =
    ap (λ (k : ℕ). newest_number (drop k calls)) one in
    omega (arith, was, split, rest)

pub number_end : (calls : List Call) (i n : ℕ) → length calls ≤ i
    → newest_number calls ≡ max n (newest_number (drop i calls)) → n ≡ newest_number calls
number_end calls i n all was =
    let none : newest_number (drop i calls) ≡ 0 = ap (λ (cs : List Call). newest_number cs) (drop_end calls i all) in
    omega (arith, was, none)

-- the glimpses of other words so far, and those of the rest
pub others_on : (word : ℕ) (seen : List Glimpse) (i : ℕ) (g : Glimpse) (kept : List Glimpse) → slice_get seen i ≡ Some g
    → g.word ≢ word → other_words word seen ≡ kept ++ other_words word (drop i seen)
    → other_words word seen ≡ (kept ++ g ∷ []) ++ other_words word (drop (i + 1) seen)
others_on word seen i g kept here ne was =
    was ∙ (ap (λ (gs : List Glimpse). kept ++ other_words word gs) (drop_at seen i g here)
    ∙ (ap (λ (b : Bool). kept ++ cond b (other_words word (drop (suc i) seen)) (g ∷ other_words word (drop (suc i) seen)))
    (eqb-ne g.word word ne)
    ∙ (sym (append_assoc kept (g ∷ []) (other_words word (drop (suc i) seen)))
    ∙ ap (λ (k : ℕ). (kept ++ g ∷ []) ++ other_words word (drop k seen)) one)))
  where
    one : suc i ≡ i + 1
    one = omega arith

    eqb-ne : (a b : ℕ) → a ≢ b → (a == b) ≡ false
    eqb-ne a b ne = false_from_ne_true (a == b) (λ t. ne (eqb-true a b t))
