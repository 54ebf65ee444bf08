-- Flags that spread along the choices of channels.
use Rattle.std.proofs.Common.{◌≡◌, ◌⊎◌, inl, inr, ⊎_elim, ℕ, suc, ◌+◌, ◌*◌, ◌<◌, ◌≤◌, ◌&&◌, not, Bool, true, false, List, [], ◌∷◌, ◌++◌, length, set, refl, sym, ◌∙◌, ap, subst, arith, eq-eqb}
use Rattle.std.specs.Prelude.{nat_lt, slice_index, ◌==◌}
use Rattle.std.proofs.lemmas.Bool.{cases_lt, eqb-true, ltb-true, lt-ltb, and_parts, and_from, or_left, or_right}
use Rattle.std.proofs.lemmas.List.{length-set, length_push, get_or_append_left}
use Rattle.network_judge.specs.declared.table.Kind.{Kind}
use Rattle.network_judge.specs.Marks.{is_marked_at}
use Rattle.network_adaptive.specs.Spread.{Path, Stop, Go, names, opens, leads_on, choice_step, AreClosed, AreFlagsOf, HasMore, AreLed, HasSpread}
use Rattle.network_adaptive.proofs.Flags.{or_cases, not_true, true_not, set_here, set_keeps, set_only, fewer_down}
use Rattle.network_adaptive.proofs.Listed.{listed_push}

-- a path goes on by a path
pub path_append : (step : ℕ → ℕ → Bool) (x y z : ℕ) → Path step x y → Path step y z → Path step x z
path_append step x y z p Stop = p
path_append step x y z p (Go u v q s) = Go u v (path_append step x y u p q) s

-- where steps lead from flags that are closed, flags are up
pub path_up : (step : ℕ → ℕ → Bool) (flags : List Bool) (x y : ℕ) → AreClosed step flags → is_marked_at flags x ≡ true → Path step x y → is_marked_at flags y ≡ true
path_up step flags x y closed up Stop = up
path_up step flags x y closed up (Go u v p s) = closed u v (path_up step flags x u closed up p) s

module _ (count : ℕ) (choices : List ℕ) (start : ℕ) (shut : List Bool) where
  -- what is chosen at one place more
  open_more : (k z : ℕ) → opens count choices start k shut z ≡ true → opens count choices start (suc k) shut z ≡ true
  open_more k z e =
      let a = and_parts (nat_lt z count) (not (is_marked_at shut z) && names choices start k z) e in
      let b = and_parts (not (is_marked_at shut z)) (names choices start k z) a.1 in
      and_from (nat_lt z count) (not (is_marked_at shut z) && names choices start (suc k) z) a.0
      (and_from (not (is_marked_at shut z)) (names choices start (suc k) z) b.0 (or_right (slice_index choices (start + k) == z) (names choices start k z) b.1))

  open_here : (k y : ℕ) → slice_index choices (start + k) ≡ y → y < count → is_marked_at shut y ≡ false → opens count choices start (suc k) shut y ≡ true
  open_here k y e low free =
      and_from (nat_lt y count) (not (is_marked_at shut y) && names choices start (suc k) y) (lt-ltb y count low)
      (and_from (not (is_marked_at shut y)) (names choices start (suc k) y) (true_not (is_marked_at shut y) free)
      (or_left (slice_index choices (start + k) == y) (names choices start k y) (eq-eqb (slice_index choices (start + k)) y e)))

  open_next : (k y z : ℕ) → slice_index choices (start + k) ≡ y → opens count choices start (suc k) shut z ≡ true
      → (z ≡ y) ⊎ (opens count choices start k shut z ≡ true)
  open_next k y z same e =
      let a = and_parts (nat_lt z count) (not (is_marked_at shut z) && names choices start (suc k) z) e in
      let b = and_parts (not (is_marked_at shut z)) (names choices start (suc k) z) a.1 in
      ⊎_elim
      (λ (here : (slice_index choices (start + k) == z) ≡ true). inl (sym (eqb-true (slice_index choices (start + k)) z here) ∙ same))
      (λ (rest : names choices start k z ≡ true). inr (and_from (nat_lt z count) (not (is_marked_at shut z) && names choices start k z) a.0
      (and_from (not (is_marked_at shut z)) (names choices start k z) b.0 rest)))
      (or_cases (slice_index choices (start + k) == z) (names choices start k z) b.1)

  module _ (old seen : List Bool) (list longer : List ℕ) (k y : ℕ) (same : slice_index choices (start + k) ≡ y) (low : y < count)
      (free : is_marked_at shut y ≡ false) (size : length seen ≡ count)
      (h : HasMore (opens count choices start k shut) old seen list longer) where
    raised : is_marked_at seen y ≡ false → HasMore (opens count choices start (suc k) shut) old (set seen y true) list (longer ++ y ∷ [])
    raised was = record {
      size = length-set seen y true ∙ h.size;
      kept = λ z e. set_keeps seen y z (omega arith) (h.kept z e);
      only = λ z e. ⊎_elim
          (λ (here : z ≡ y). inr (subst (λ v. opens count choices start (suc k) shut v ≡ true) (sym here) (open_here k y same low free)))
          (λ (up : is_marked_at seen z ≡ true). ⊎_elim
          (λ (a : is_marked_at old z ≡ true). inl a)
          (λ (b : opens count choices start k shut z ≡ true). inr (open_more k z b))
          (h.only z up))
          (set_only seen y z e);
      all = λ z e. ⊎_elim
          (λ (here : z ≡ y). ap (is_marked_at (set seen y true)) here ∙ set_here seen y (omega arith))
          (λ (b : opens count choices start k shut z ≡ true). set_keeps seen y z (omega arith) (h.all z b))
          (open_next k y z same e);
      listed = λ a. listed_push seen longer y (omega arith) (h.listed a);
      long = (let m = h.long in let n = length_push longer y in omega arith);
      front = λ i l. get_or_append_left longer (y ∷ []) 0 i (let m = h.long in omega arith) ∙ h.front i l;
      fewer = (let one = fewer_down seen y (omega arith) was in let rest = h.fewer in let n = length_push longer y in omega arith);
    }

    stayed : is_marked_at seen y ≡ true → HasMore (opens count choices start (suc k) shut) old seen list longer
    stayed up = record {
      size = h.size;
      kept = h.kept;
      only = λ z e. ⊎_elim
          (λ (a : is_marked_at old z ≡ true). inl a)
          (λ (b : opens count choices start k shut z ≡ true). inr (open_more k z b))
          (h.only z e);
      all = λ z e. ⊎_elim
          (λ (here : z ≡ y). ap (is_marked_at seen) here ∙ up)
          (λ (b : opens count choices start k shut z ≡ true). h.all z b)
          (open_next k y z same e);
      listed = h.listed;
      long = h.long;
      front = h.front;
      fewer = h.fewer;
    }

    pub raised_at : (m : ℕ) (new : List ℕ) → m ≡ suc k → new ≡ longer ++ y ∷ [] → is_marked_at seen y ≡ false
        → HasMore (opens count choices start m shut) old (set seen y true) list new
    raised_at m new e f was = subst (λ z. HasMore (opens count choices start z shut) old (set seen y true) list new) (sym e)
        (subst (λ (v : List ℕ). HasMore (opens count choices start (suc k) shut) old (set seen y true) list v) (sym f) (raised was))

    pub stayed_at : (m : ℕ) → m ≡ suc k → is_marked_at seen y ≡ true → HasMore (opens count choices start m shut) old seen list longer
    stayed_at m e up = subst (λ z. HasMore (opens count choices start z shut) old seen list longer) (sym e) (stayed up)

  -- a choice that is shut, or no channel
  pub skipped : (old seen : List Bool) (list longer : List ℕ) (k m : ℕ) → m ≡ suc k
      → (slice_index choices (start + k) < count → is_marked_at shut (slice_index choices (start + k)) ≡ true)
      → HasMore (opens count choices start k shut) old seen list longer → HasMore (opens count choices start m shut) old seen list longer
  skipped old seen list longer k m e closed h = subst (λ z. HasMore (opens count choices start z shut) old seen list longer) (sym e) (record {
    size = h.size;
    kept = h.kept;
    only = λ z up. ⊎_elim
        (λ (a : is_marked_at old z ≡ true). inl a)
        (λ (b : opens count choices start k shut z ≡ true). inr (open_more k z b))
        (h.only z up);
    all = λ z up. ⊎_elim
        (λ (here : z ≡ slice_index choices (start + k)).
        let a = and_parts (nat_lt z count) (not (is_marked_at shut z) && names choices start (suc k) z) up in
        let b = and_parts (not (is_marked_at shut z)) (names choices start (suc k) z) a.1 in
        let free : is_marked_at shut z ≡ false = not_true (is_marked_at shut z) b.0 in
        let low : slice_index choices (start + k) < count = subst (λ v. v < count) here (ltb-true z count a.0) in
        let bad : true ≡ false = sym (closed low) ∙ (ap (is_marked_at shut) (sym here) ∙ free) in
        cc)
        (λ (b : opens count choices start k shut z ≡ true). h.all z b)
        (open_next k (slice_index choices (start + k)) z refl up);
    listed = h.listed;
    long = h.long;
    front = h.front;
    fewer = h.fewer;
  })

  -- no choice is looked at
  pub none_more : (old : List Bool) (list : List ℕ) → HasMore (opens count choices start 0 shut) old old list list
  none_more old list = record {
    size = refl;
    kept = λ z e. e;
    only = λ z e. inl e;
    all = λ z e. (let a = and_parts (nat_lt z count) (not (is_marked_at shut z) && names choices start 0 z) e in
        let b = and_parts (not (is_marked_at shut z)) (names choices start 0 z) a.1 in
        let bad : false ≡ true = b.1 in
        absurd (cc));
    listed = λ a. a;
    long = omega arith;
    front = λ i l. refl;
    fewer = omega arith;
  }

module _ (kinds : List Kind) (choices : List ℕ) (base ways : ℕ) (shut : List Bool) where
  abbrev step : ℕ → ℕ → Bool
  step = choice_step kinds choices base ways shut

  step_opens : (x y : ℕ) → step x y ≡ true → opens (length kinds) choices (base + x * ways) ways shut y ≡ true
  step_opens x y e = (and_parts (leads_on kinds x) (opens (length kinds) choices (base + x * ways) ways shut y) e).1

  pub step_leads : (x y : ℕ) → step x y ≡ true → leads_on kinds x ≡ true
  step_leads x y e = (and_parts (leads_on kinds x) (opens (length kinds) choices (base + x * ways) ways shut y) e).0

  opens_step : (x y : ℕ) → leads_on kinds x ≡ true → opens (length kinds) choices (base + x * ways) ways shut y ≡ true → step x y ≡ true
  opens_step x y e f = and_from (leads_on kinds x) (opens (length kinds) choices (base + x * ways) ways shut y) e f

  -- the channels below a place of the list are looked at
  pub record HasLooked (at : ℕ) (old new : List Bool) (list : List ℕ) : Type 0 where
    pub size : length new ≡ length old
    pub kept : (y : ℕ) → is_marked_at old y ≡ true → is_marked_at new y ≡ true
    pub led : AreLed step old new
    pub listed : AreFlagsOf new list
    pub there : at ≤ length list
    pub closed : (k y : ℕ) → k < at → step (slice_index list k) y ≡ true → is_marked_at new y ≡ true

  pub look_begin : (old : List Bool) (list : List ℕ) → AreFlagsOf old list → HasLooked 0 old old list
  look_begin old list are = record {
    size = refl;
    kept = λ y e. e;
    led = λ y e. (y, e, Stop);
    listed = are;
    there = omega arith;
    closed = λ k y l. absurd (omega arith);
  }

  -- a channel that leads nowhere
  pub look_none : (at m : ℕ) (old new : List Bool) (list : List ℕ) → m ≡ suc at → at < length list → leads_on kinds (slice_index list at) ≡ false
      → HasLooked at old new list → HasLooked m old new list
  look_none at m old new list e low none h = record {
    size = h.size;
    kept = h.kept;
    led = h.led;
    listed = h.listed;
    there = omega arith;
    closed = λ k y l s. elim (cases_lt k at) [
      | inl less ↦ h.closed k y less s
      | inr high ↦ (let here : k ≡ at = omega arith in
          let bad : true ≡ false = sym (step_leads (slice_index list k) y s) ∙ (ap (λ z. leads_on kinds (slice_index list z)) here ∙ none) in absurd (cc))
    ];
  }

  pub look_more : (at m x : ℕ) (old seen new : List Bool) (list longer : List ℕ) → m ≡ suc at → at < length list → slice_index list at ≡ x
      → leads_on kinds x ≡ true → HasLooked at old seen list → HasMore (opens (length kinds) choices (base + x * ways) ways shut) seen new list longer
      → HasLooked m old new longer
  look_more at m x old seen new list longer e low is leads h a =
      let long = a.long in
      record {
        size = a.size ∙ h.size;
        kept = λ y up. a.kept y (h.kept y up);
        led = λ y up. ⊎_elim
            (λ (was : is_marked_at seen y ≡ true). h.led y was)
            (λ (o : opens (length kinds) choices (base + x * ways) ways shut y ≡ true).
            let r = h.led x (ap (is_marked_at seen) (sym is) ∙ h.listed.each at low) in (r.0, r.1, Go x y r.2 (opens_step x y leads o)))
            (a.only y up);
        listed = a.listed h.listed;
        there = omega arith;
        closed = λ k y l s. (let same : slice_index longer k ≡ slice_index list k = a.front k (omega arith) in
            let t : step (slice_index list k) y ≡ true = ap (λ z. step z y) (sym same) ∙ s in
            elim (cases_lt k at) [
              | inl less ↦ a.kept y (h.closed k y less t)
              | inr high ↦ (let here : k ≡ at = omega arith in
                  a.all y (step_opens x y (ap (λ z. step z y) (sym is ∙ ap (slice_index list) (sym here)) ∙ t)))
            ]);
      }

  pub look_end : (at : ℕ) (old new : List Bool) (list : List ℕ) → length list ≤ at → HasLooked at old new list → HasSpread step old new
  look_end at old new list e h = record {
    size = h.size;
    kept = h.kept;
    led = h.led;
    closed = λ x y up s. (let r = h.listed.all x up in
        let low = r.1 in
        h.closed r.0 y (omega arith) (ap (λ z. step z y) r.2 ∙ s));
  }
