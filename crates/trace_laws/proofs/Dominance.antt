-- Configurations that are as good as others.
use Rattle.std.proofs.Common.{◌≡◌, ◌≢◌, inl, inr, ⊎_elim, ℕ, ◌<◌, List, [], ◌∷◌, ◌++◌, Option, Some, None, refl, sym, ◌∙◌, ap, subst, slice_get, set}
use Rattle.std.specs.Int.{bit_at}
use Rattle.std.proofs.lemmas.Bool.{cases_eq}
use Rattle.packet.specs.Memory.{new_word}
use Rattle.trace_laws.specs.declared.opened.Open.{Open}
use Rattle.trace_laws.specs.declared.opened.Config.{Config}
use Rattle.trace_laws.specs.Configs.{IsOpen, IsLeft, HasTakenEffect, MayTake, AgreesWithValue, IsIdle, IsAsGood, effect, release, with_bit, without_bit}
use Rattle.trace_laws.proofs.Lists.{get_set_other}
use Rattle.trace_laws.proofs.Bits.{not_both, with_same, with_other, without_same, without_other}
use Rattle.trace_laws.proofs.Table.{more_at}

pub good_same : (table : List (Option Open)) (w : ℕ) (c : Config) → IsAsGood table w c c
good_same table w c = record { same = refl; taken = λ s l b. inl b; more = λ s l b. inl b }

pub good_more : (table : List (Option Open)) (w : ℕ) (c d e : Config)
    → IsAsGood table w c d → IsAsGood table w d e → IsAsGood table w c e
good_more table w c d e f g = record {
  same = f.same ∙ g.same;
  taken = λ s l b. ⊎_elim (λ t. f.taken s l t) (λ r. inr r) (g.taken s l b);
  more = λ s l b. ⊎_elim (λ t. g.more s l t) (λ r. inr r) (f.more s l b);
}

-- what has taken effect has so behind one more effect
pub taken_on : (c : Config) (s u : ℕ) (o : Open) → s < 128 → HasTakenEffect c u → HasTakenEffect (effect c s o) u
taken_on c s u o l b = ⊎_elim
    (λ (e : u ≡ s). ap (λ (n : ℕ). bit_at (with_bit c.taken s) n) e ∙ with_same c.taken s l)
    (λ (ne : u ≢ s). with_other c.taken s u l ne ∙ b)
    (cases_eq u s)

pub taken_now : (c : Config) (s u : ℕ) (o : Open) → s < 128 → u ≡ s → HasTakenEffect (effect c s o) u
taken_now c s u o l e = ap (λ (n : ℕ). bit_at (with_bit c.taken s) n) e ∙ with_same c.taken s l

pub taken_back : (c : Config) (s u : ℕ) (o : Open) → s < 128 → u ≢ s → HasTakenEffect (effect c s o) u → HasTakenEffect c u
taken_back c s u o l ne b = sym (with_other c.taken s u l ne) ∙ b

-- a configuration stays as good as another one if one operation takes effect in both
pub good_effect : (table : List (Option Open)) (w : ℕ) (c d : Config) (s : ℕ) (o : Open) → s < 128
    → IsAsGood table w c d → IsAsGood table w (effect c s o) (effect d s o)
good_effect table w c d s o m f = record {
  same = ap (λ (v : ℕ). new_word o.call.operation.op v) f.same;
  taken = λ u l b. ⊎_elim
      (λ (e : u ≡ s). inl (taken_now c s u o m e))
      (λ (ne : u ≢ s). ⊎_elim (λ t. inl (taken_on c s u o m t)) (λ r. inr r) (f.taken u l (taken_back d s u o m ne b)))
      (cases_eq u s);
  more = λ u l b. ⊎_elim
      (λ (e : u ≡ s). inl (taken_now d s u o m e))
      (λ (ne : u ≢ s). ⊎_elim (λ t. inl (taken_on d s u o m t)) (λ r. inr r) (f.more u l (taken_back c s u o m ne b)))
      (cases_eq u s);
}

-- what has taken effect in the better one alone is idle
pub idle_there : (table : List (Option Open)) (w : ℕ) (c d : Config) (s : ℕ) (o : Open) → s < 128
    → IsOpen table w s o → IsLeft d s → HasTakenEffect c s → IsAsGood table w c d → IsIdle o
idle_there table w c d s o m open_here left taken f = ⊎_elim
    (λ (b : HasTakenEffect d s). absurd (not_both (bit_at d.taken s) left b))
    (λ (r : (p : Open) × IsOpen table w s p × IsIdle p).
    let here : slice_get table s ≡ Some (Some o) = open_here.there in
    let there : slice_get table s ≡ Some (Some r.0) = r.1.there in
    let same : r.0 ≡ o = cc in
    subst (λ (p : Open). IsIdle p) same r.2)
    (f.more s m taken)

-- so its effect changes nothing
pub good_skip : (table : List (Option Open)) (w : ℕ) (c d : Config) (s : ℕ) (o : Open) → s < 128
    → IsOpen table w s o → IsLeft d s → HasTakenEffect c s → AgreesWithValue o d.word → IsAsGood table w c d
    → IsAsGood table w c (effect d s o)
good_skip table w c d s o m open_here left taken agrees f = record {
  same = f.same ∙ sym (idle_there table w c d s o m open_here left taken f d.word agrees);
  taken = λ u l b. ⊎_elim
      (λ (e : u ≡ s). inl (ap (λ (n : ℕ). bit_at c.taken n) e ∙ taken))
      (λ (ne : u ≢ s). f.taken u l (taken_back d s u o m ne b))
      (cases_eq u s);
  more = λ u l b. ⊎_elim
      (λ t. inl (taken_on d s u o m t))
      (λ r. inr r)
      (f.more u l b);
}

-- an idle operation takes effect at once
pub good_idle : (table : List (Option Open)) (w : ℕ) (c : Config) (s : ℕ) (o : Open) → s < 128
    → MayTake table w c s o → IsIdle o → IsAsGood table w (effect c s o) c
good_idle table w c s o m may idle = record {
  same = idle c.word may.agrees;
  taken = λ u l b. inl (taken_on c s u o m b);
  more = λ u l b. ⊎_elim
      (λ (e : u ≡ s). inr (
        o,
        record { there = ap (λ (n : ℕ). slice_get table n) e ∙ may.pending.there; here = may.pending.here },
        idle,
      ))
      (λ (ne : u ≢ s). inl (taken_back c s u o m ne b))
      (cases_eq u s);
}

-- an operation that is never answered may wait
pub good_unanswered : (table : List (Option Open)) (w : ℕ) (d : Config) (s : ℕ) (o : Open) → s < 128
    → IsOpen table w s o → o.promise ≡ None → IsAsGood table w (release d s) d
good_unanswered table w d s o m pending none = record {
  same = refl;
  taken = λ u l b. ⊎_elim
      (λ (e : u ≡ s). inr (
        o,
        record { there = ap (λ (n : ℕ). slice_get table n) e ∙ pending.there; here = pending.here },
        none,
      ))
      (λ (ne : u ≢ s). inl (without_other d.taken s u m l ne ∙ b))
      (cases_eq u s);
  more = λ u l b. ⊎_elim
      (λ (e : u ≡ s). absurd (not_both (bit_at (without_bit d.taken s) u)
      (ap (λ (n : ℕ). bit_at (without_bit d.taken s) n) e ∙ without_same d.taken s m) b))
      (λ (ne : u ≢ s). inl (sym (without_other d.taken s u m l ne) ∙ b))
      (cases_eq u s);
}

-- the table changes, and what is open stays so
good_kept : (table later : List (Option Open)) (w : ℕ) (c d : Config)
    → ((u : ℕ) (o : Open) → IsOpen table w u o → IsOpen later w u o)
    → IsAsGood table w c d → IsAsGood later w c d
good_kept table later w c d kept f = record {
  same = f.same;
  taken = λ s l b. ⊎_elim (λ t. inl t)
      (λ (r : (o : Open) × IsOpen table w s o × (o.promise ≡ None)). inr (r.0, kept s r.0 r.1, r.2)) (f.taken s l b);
  more = λ s l b. ⊎_elim (λ t. inl t)
      (λ (r : (o : Open) × IsOpen table w s o × IsIdle o). inr (r.0, kept s r.0 r.1, r.2)) (f.more s l b);
}

-- an operation is issued, and takes a free slot
good_issue : (table : List (Option Open)) (w : ℕ) (c d : Config) (s : ℕ) (b : Open) → slice_get table s ≡ Some None
    → IsAsGood table w c d → IsAsGood (set table s (Some b)) w c d
good_issue table w c d s b free f = good_kept table (set table s (Some b)) w c d
    (λ u o h. record {
      there =
          let ne : u ≢ s = λ e.
          let there : slice_get table s ≡ Some (Some o) = ap (λ (n : ℕ). slice_get table n) (sym e) ∙ h.there in cc in
          get_set_other table s u (Some b) ne ∙ h.there;
      here = h.here;
    }) f

pub good_issued : (tables later : ℕ → List (Option Open)) (w : ℕ) (c d : Config) (s : ℕ) (b : Open)
    → slice_get (tables b.call.operation.address) s ≡ Some None
    → later b.call.operation.address ≡ set (tables b.call.operation.address) s (Some b)
    → ((v : ℕ) → v ≢ b.call.operation.address → later v ≡ tables v)
    → IsAsGood (tables w) w c d → IsAsGood (later w) w c d
good_issued tables later w c d s b free written same f = ⊎_elim {C = IsAsGood (later w) w c d}
    (λ (e : w ≡ b.call.operation.address).
    let a : ℕ = b.call.operation.address in
    subst (λ (u : ℕ). IsAsGood (later u) u c d) (sym e)
    (subst (λ (ts : List (Option Open)). IsAsGood ts a c d) (sym written)
    (good_issue (tables a) a c d s b free (subst (λ (u : ℕ). IsAsGood (tables u) u c d) e f))))
    (λ (ne : w ≢ b.call.operation.address).
    subst (λ (ts : List (Option Open)). IsAsGood ts w c d) (sym (same w ne)) f)
    (cases_eq w b.call.operation.address)

-- the operation in slot s is answered
pub good_answer : (table : List (Option Open)) (w : ℕ) (c d : Config) (s : ℕ) → s < 128
    → IsAsGood table w c d → IsAsGood (set table s None) w (release c s) (release d s)
good_answer table w c d s m f = record {
  same = f.same;
  taken = λ u l b.
      let ne : u ≢ s = apart d u b in
      ⊎_elim
      (λ t. inl (without_other c.taken s u m l ne ∙ t))
      (λ (r : (o : Open) × IsOpen table w u o × (o.promise ≡ None)). inr (r.0, kept u r.0 ne r.1, r.2))
      (f.taken u l (sym (without_other d.taken s u m l ne) ∙ b));
  more = λ u l b.
      let ne : u ≢ s = apart c u b in
      ⊎_elim
      (λ t. inl (without_other d.taken s u m l ne ∙ t))
      (λ (r : (o : Open) × IsOpen table w u o × IsIdle o). inr (r.0, kept u r.0 ne r.1, r.2))
      (f.more u l (sym (without_other c.taken s u m l ne) ∙ b));
}
  where
    apart : (e : Config) (u : ℕ) → HasTakenEffect (release e s) u → u ≢ s
    apart e u b same = not_both (bit_at (without_bit e.taken s) u)
        (ap (λ (n : ℕ). bit_at (without_bit e.taken s) n) same ∙ without_same e.taken s m) b

    kept : (u : ℕ) (o : Open) → u ≢ s → IsOpen table w u o → IsOpen (set table s None) w u o
    kept u o ne h = record { there = get_set_other table s u None ne ∙ h.there; here = h.here }

-- a word's table has one more slot
pub good_widened : (tables later : ℕ → List (Option Open)) (w : ℕ)
    → later w ≡ tables w ++ None ∷ [] → ((v : ℕ) → v ≢ w → later v ≡ tables v)
    → (v : ℕ) (c d : Config) → IsAsGood (tables v) v c d → IsAsGood (later v) v c d
good_widened tables later w new same v c d f = ⊎_elim {C = IsAsGood (later v) v c d}
    (λ (e : v ≡ w). subst (λ (u : ℕ). IsAsGood (later u) u c d) (sym e)
    (subst (λ (ts : List (Option Open)). IsAsGood ts w c d) (sym new)
    (good_kept (tables w) (tables w ++ None ∷ []) w c d
    (λ u o h. record { there = more_at (tables w) u o h.there; here = h.here })
    (subst (λ (u : ℕ). IsAsGood (tables u) u c d) e f))))
    (λ (ne : v ≢ w). subst (λ (ts : List (Option Open)). IsAsGood ts v c d) (sym (same v ne)) f)
    (cases_eq v w)
