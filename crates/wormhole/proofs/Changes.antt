-- States that differ at one channel or at two.
use Rattle.std.proofs.Common.{◌≡◌, ◌≢◌, ⊎_elim, ℕ, Bool, cond, refl, sym, ◌∙◌, ap, subst, eq-eqb}
use Rattle.std.proofs.lemmas.Bool.{cases_eq, ne_eqb}
use Rattle.wormhole.specs.State.{NetLine, Note, NetState, update}

pub update_same : {A : Type 0} (f : ℕ → A) (x : ℕ) (v : A) → update f x v x ≡ v
update_same f x v = ap (λ (b : Bool). cond b v (f x)) (eq-eqb x x refl)

pub update_other : {A : Type 0} (f : ℕ → A) (x : ℕ) (v : A) (z : ℕ) → z ≢ x → update f x v z ≡ f z
update_other f x v z h = ap (λ (b : Bool). cond b v (f z)) (ne_eqb z x h)

-- one channel has changed
pub record IsChangedAt (s t : NetState) (x : ℕ) (l : NetLine) (k : Note) : Type 0 where
  pub line : t.lines x ≡ l
  pub note : t.notes x ≡ k
  pub lines : (z : ℕ) → z ≢ x → t.lines z ≡ s.lines z
  pub notes : (z : ℕ) → z ≢ x → t.notes z ≡ s.notes z

-- two channels have changed
pub record AreChangedAt (s t : NetState) (x : ℕ) (l : NetLine) (k : Note) (y : ℕ) (m : NetLine) (h : Note) : Type 0 where
  pub line : t.lines x ≡ l
  pub note : t.notes x ≡ k
  pub line_too : t.lines y ≡ m
  pub note_too : t.notes y ≡ h
  pub lines : (z : ℕ) → z ≢ x → z ≢ y → t.lines z ≡ s.lines z
  pub notes : (z : ℕ) → z ≢ x → z ≢ y → t.notes z ≡ s.notes z

-- what holds of the changed channel and held of all others holds of all
pub kept : (P : ℕ → NetLine → Note → Type 0) (s t : NetState) (x : ℕ) (l : NetLine) (k : Note) → IsChangedAt s t x l k → P x l k
    → ((z : ℕ) → z ≢ x → P z (s.lines z) (s.notes z)) → (z : ℕ) → P z (t.lines z) (t.notes z)
kept P s t x l k c new old z = ⊎_elim
    (λ (e : z ≡ x). subst (λ (w : ℕ). P w (t.lines w) (t.notes w)) (sym e)
    (subst (λ (m : NetLine). P x m (t.notes x)) (sym c.line) (subst (λ (m : Note). P x l m) (sym c.note) new)))
    (λ (h : z ≢ x). subst (λ (m : NetLine). P z m (t.notes z)) (sym (c.lines z h)) (subst (λ (m : Note). P z (s.lines z) m) (sym (c.notes z h)) (old z h)))
    (cases_eq z x)

pub kept_both : (P : ℕ → NetLine → Note → Type 0) (s t : NetState) (x : ℕ) (l : NetLine) (k : Note) (y : ℕ) (m : NetLine) (h : Note)
    → AreChangedAt s t x l k y m h → P x l k → P y m h
    → ((z : ℕ) → z ≢ x → z ≢ y → P z (s.lines z) (s.notes z)) → (z : ℕ) → P z (t.lines z) (t.notes z)
kept_both P s t x l k y m h c new new_too old z = ⊎_elim
    (λ (e : z ≡ x). subst (λ (w : ℕ). P w (t.lines w) (t.notes w)) (sym e)
    (subst (λ (m : NetLine). P x m (t.notes x)) (sym c.line) (subst (λ (m : Note). P x l m) (sym c.note) new)))
    (λ (d : z ≢ x). ⊎_elim
    (λ (e : z ≡ y). subst (λ (w : ℕ). P w (t.lines w) (t.notes w)) (sym e)
    (subst (λ (l : NetLine). P y l (t.notes y)) (sym c.line_too) (subst (λ (k : Note). P y m k) (sym c.note_too) new_too)))
    (λ (g : z ≢ y). subst (λ (m : NetLine). P z m (t.notes z)) (sym (c.lines z d g)) (subst (λ (m : Note). P z (s.lines z) m) (sym (c.notes z d g)) (old z d g)))
    (cases_eq z y))
    (cases_eq z x)

pub changed : (s : NetState) (x : ℕ) (l : NetLine) (k : Note)
    → IsChangedAt s (record { lines = update s.lines x l; notes = update s.notes x k }) x l k
changed s x l k = record {
  line = update_same s.lines x l;
  note = update_same s.notes x k;
  lines = λ z d. update_other s.lines x l z d;
  notes = λ z d. update_other s.notes x k z d;
}

pub changed_line : (s : NetState) (x : ℕ) (l : NetLine) → IsChangedAt s (record { lines = update s.lines x l; notes = s.notes }) x l (s.notes x)
changed_line s x l =
    record { line = update_same s.lines x l; note = refl; lines = λ z d. update_other s.lines x l z d; notes = λ z d. refl }

pub changed_both : (s : NetState) (x : ℕ) (l : NetLine) (k : Note) (y : ℕ) (m : NetLine) (h : Note) → x ≢ y
    → AreChangedAt s (record { lines = update (update s.lines x l) y m; notes = update (update s.notes x k) y h }) x l k y m h
changed_both s x l k y m h apart = record {
  line = update_other (update s.lines x l) y m x apart ∙ update_same s.lines x l;
  note = update_other (update s.notes x k) y h x apart ∙ update_same s.notes x k;
  line_too = update_same (update s.lines x l) y m;
  note_too = update_same (update s.notes x k) y h;
  lines = λ z d e. update_other (update s.lines x l) y m z e ∙ update_other s.lines x l z d;
  notes = λ z d e. update_other (update s.notes x k) y h z e ∙ update_other s.notes x k z d;
}

-- states that have the same lines and notes, channel by channel, are one
pub same_state : (s t : NetState) → ((x : ℕ) → s.lines x ≡ t.lines x) → ((x : ℕ) → s.notes x ≡ t.notes x) → s ≡ t
same_state s t lines notes = λ i. record { lines = λ x. lines x i; notes = λ x. notes x i }
