-- What holds of the flits stays when a router puts a flit of an input into an output.
use Rattle.std.proofs.Common.{◌≡◌, ◌≢◌, ◌⊎◌, inl, inr, ⊎_elim, ℕ, ◌<◌, false, [], Some, None, refl, sym, ◌∙◌, ap, subst}
use Rattle.std.proofs.lemmas.Bool.{cases_eq}
use Rattle.wormhole.specs.Net.{Net}
use Rattle.wormhole.specs.State.{NetLine, Note, NetState}
use Rattle.wormhole.specs.Words.{IsHeld, Words}
use Rattle.wormhole.proofs.Changes.{AreChangedAt, kept_both}
use Rattle.wormhole.proofs.OneChannel.{Local, local_of, held_from}

-- an input and an output after a flit went from one to the other
pub record IsForwarded (n : Net) (s : NetState) (x : ℕ) (l : NetLine) (k : Note) (y : ℕ) (m : NetLine) (h : Note) : Type 0 where
  pub here : x < n.channels
  pub there : y < n.channels
  pub apart : x ≢ y
  pub input : n.ejects x ≡ false
  pub output : n.injects y ≡ false
  pub local : Local n x l k
  pub local_too : Local n y m h
  pub owner : l.owner ≡ (s.lines x).owner
  pub owed : k.owed ≡ (s.notes x).owed
  pub awaited : h.awaited ≡ (s.notes y).awaited
  pub same : h.owed ≡ k.awaited
  pub owns : ((m.owner ≡ Some x) × (k.awaited ≢ [])) ⊎ ((m.owner ≡ None) × (k.awaited ≡ []))
  -- before, no other output was the input's, and no other input had the output
  pub only : (z : ℕ) → (s.lines z).owner ≡ Some x → z ≡ y
  pub before : ((s.lines y).owner ≡ None) ⊎ ((s.lines y).owner ≡ Some x)

pub words_two : (n : Net) (s t : NetState) (x : ℕ) (l : NetLine) (k : Note) (y : ℕ) (m : NetLine) (h : Note) → Words n s
    → AreChangedAt s t x l k y m h → IsForwarded n s x l k y m h → Words n t
words_two n s t x l k y m h w c f =
    let local : (z : ℕ) → Local n z (t.lines z) (t.notes z) =
    λ z. kept_both (λ z l k. Local n z l k) s t x l k y m h c f.local f.local_too (λ z d e. local_of n s w z) z in
    let owners : (z : ℕ) → z ≢ y → (t.lines z).owner ≡ (s.lines z).owner = λ z.
    kept_both (λ z l k. z ≢ y → l.owner ≡ (s.lines z).owner) s t x l k y m h c (λ d. f.owner) (λ d. absurd (d refl)) (λ z d e g. refl) z in
    let awaits : (z : ℕ) → z ≢ x → (t.notes z).awaited ≡ (s.notes z).awaited = λ z.
    kept_both (λ z l k. z ≢ x → k.awaited ≡ (s.notes z).awaited) s t x l k y m h c (λ d. absurd (d refl)) (λ d. f.awaited) (λ z d e g. refl) z in
    let owes : (z : ℕ) → z ≢ y → (t.notes z).owed ≡ (s.notes z).owed = λ z.
    kept_both (λ z l k. z ≢ y → k.owed ≡ (s.notes z).owed) s t x l k y m h c (λ d. f.owed) (λ d. absurd (d refl)) (λ z d e g. refl) z in
    let awaited_x : (t.notes x).awaited ≡ k.awaited = ap (λ (k : Note). k.awaited) c.note in
    let owed_y : (t.notes y).owed ≡ k.awaited = ap (λ (k : Note). k.owed) c.note_too ∙ f.same in
    let owner_y : (t.lines y).owner ≡ m.owner = ap (λ (l : NetLine). l.owner) c.line_too in
    -- the output's owner is the input
    let owner_is : (a : ℕ) → (t.lines y).owner ≡ Some a → (a ≡ x) × (k.awaited ≢ []) = λ a g. ⊎_elim
    (λ (o : (m.owner ≡ Some x) × (k.awaited ≢ [])). let e = o.0 in let i : a ≡ x = cc in (i, o.1))
    (λ (o : (m.owner ≡ None) × (k.awaited ≡ [])). let e = o.0 in cc)
    f.owns in
    record {
      credits = λ z. (local z).credits;
      contiguous = λ z. (local z).contiguous;
      parcels = λ z. (local z).parcels;
      awaited = λ z. (local z).awaited;
      owed = λ z. (local z).owed;
      held = λ a b g. ⊎_elim
          (λ (e : b ≡ y).
          let is = owner_is a (ap (λ z. (t.lines z).owner) (sym e) ∙ g) in
          subst (λ z. IsHeld n t z b) (sym is.0) (subst (λ z. IsHeld n t x z) (sym e)
          (record { input = f.input; output = f.output; same = owed_y ∙ sym awaited_x; more = λ none. is.1 (sym awaited_x ∙ none) })))
          (λ (d : b ≢ y).
          let o : (s.lines b).owner ≡ Some a = sym (owners b d) ∙ g in
          held_from n s t a b (w.held a b o) (owes b d) (awaits a (λ e. d (f.only b (o ∙ ap Some e)))))
          (cases_eq b y);
      free = λ b i g. ⊎_elim
          (λ (e : b ≡ y). ⊎_elim
          (λ (o : (m.owner ≡ Some x) × (k.awaited ≢ [])). let p = o.0 in let q : (t.lines y).owner ≡ None = ap (λ z. (t.lines z).owner) (sym e) ∙ g in cc)
          (λ (o : (m.owner ≡ None) × (k.awaited ≡ [])). ap (λ z. (t.notes z).owed) e ∙ (owed_y ∙ o.1))
          f.owns)
          (λ (d : b ≢ y). owes b d ∙ w.free b i (sym (owners b d) ∙ g))
          (cases_eq b y);
      single = λ a b d g i. ⊎_elim
          (λ (e : b ≡ y). ⊎_elim
          (λ (e' : d ≡ y). e ∙ sym e')
          (λ (other : d ≢ y).
          let is = owner_is a (ap (λ z. (t.lines z).owner) (sym e) ∙ g) in
          absurd (other (f.only d (sym (owners d other) ∙ (i ∙ ap Some is.0)))))
          (cases_eq d y))
          (λ (other : b ≢ y). ⊎_elim
          (λ (e' : d ≡ y).
          let is = owner_is a (ap (λ z. (t.lines z).owner) (sym e') ∙ i) in
          absurd (other (f.only b (sym (owners b other) ∙ (g ∙ ap Some is.0)))))
          (λ (other' : d ≢ y). w.single a b d (sym (owners b other) ∙ g) (sym (owners d other') ∙ i))
          (cases_eq d y))
          (cases_eq b y);
      owning = λ a i. ⊎_elim
          (λ (e : a ≡ x). ⊎_elim
          (λ (o : (m.owner ≡ Some x) × (k.awaited ≢ [])). inr (y, owner_y ∙ (o.0 ∙ ap Some (sym e))))
          (λ (o : (m.owner ≡ None) × (k.awaited ≡ [])). inl (ap (λ z. (t.notes z).awaited) e ∙ (awaited_x ∙ o.1)))
          f.owns)
          (λ (d : a ≢ x). ⊎_elim
          (λ (e : (s.notes a).awaited ≡ []). inl (awaits a d ∙ e))
          (λ (p : (z : ℕ) × ((s.lines z).owner ≡ Some a)). ⊎_elim
          (λ (e : p.0 ≡ y).
          let o : (s.lines y).owner ≡ Some a = ap (λ z. (s.lines z).owner) (sym e) ∙ p.1 in
          ⊎_elim
          (λ (none : (s.lines y).owner ≡ None). cc)
          (λ (mine : (s.lines y).owner ≡ Some x). let q : a ≡ x = cc in absurd (d q))
          f.before)
          (λ (other : p.0 ≢ y). inr (p.0, owners p.0 other ∙ p.1))
          (cases_eq p.0 y))
          (w.owning a i))
          (cases_eq a x);
      inside = record {
        owner = λ a b g. ⊎_elim
            (λ (e : b ≡ y).
            let is = owner_is a (ap (λ z. (t.lines z).owner) (sym e) ∙ g) in
            subst (λ z. z < n.channels) (sym is.0) f.here)
            (λ (d : b ≢ y). w.inside.owner a b (sym (owners b d) ∙ g))
            (cases_eq b y);
        owned = λ a b g. ⊎_elim
            (λ (e : b ≡ y). subst (λ z. z < n.channels) (sym e) f.there)
            (λ (d : b ≢ y). w.inside.owned a b (sym (owners b d) ∙ g))
            (cases_eq b y);
      };
      senders = λ z. (local z).senders;
      unlatched = λ z. (local z).unlatched;
      assembling = λ z. (local z).assembling;
    }
