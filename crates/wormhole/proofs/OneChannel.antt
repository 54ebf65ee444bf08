-- What holds of the flits stays when one channel changes, and no router's output.
use Rattle.std.proofs.Common.{◌≡◌, ◌⊎◌, inl, inr, ⊎_elim, ℕ, ◌+◌, true, false, [], length, Some, None, All, refl, sym, ◌∙◌}
use Rattle.wormhole.specs.Net.{Net, IsParcel, EndsWithTail}
use Rattle.wormhole.specs.State.{NetLine, Note, NetState}
use Rattle.wormhole.specs.Words.{IsContiguous, IsHeld, IsAssembling, Words}
use Rattle.wormhole.proofs.Changes.{IsChangedAt, kept}

-- what holds of each channel by itself
pub record Local (n : Net) (x : ℕ) (l : NetLine) (k : Note) : Type 0 where
  pub credits : l.held + length l.flits + l.returning ≡ n.depth
  pub contiguous : IsContiguous l k
  pub parcels : All (IsParcel n) k.parcels
  pub awaited : EndsWithTail n k.awaited
  pub owed : EndsWithTail n k.owed
  pub senders : n.injects x ≡ true → k.owed ≡ l.rest
  pub unlatched : n.ejects x ≡ true → l.latch ≡ None
  pub assembling : n.ejects x ≡ true → IsAssembling l k

pub local_of : (n : Net) (s : NetState) → Words n s → (x : ℕ) → Local n x (s.lines x) (s.notes x)
local_of n s w x = record {
  credits = w.credits x;
  contiguous = w.contiguous x;
  parcels = w.parcels x;
  awaited = w.awaited x;
  owed = w.owed x;
  senders = w.senders x;
  unlatched = w.unlatched x;
  assembling = w.assembling x;
}

-- an input's owned output, and what both are owed
pub held_from : (n : Net) (s t : NetState) (x y : ℕ) → IsHeld n s x y → (t.notes y).owed ≡ (s.notes y).owed
    → (t.notes x).awaited ≡ (s.notes x).awaited → IsHeld n t x y
held_from n s t x y h owed awaited = record {
  input = h.input;
  output = h.output;
  same = owed ∙ (h.same ∙ sym awaited);
  more = λ e. h.more (sym awaited ∙ e);
}

-- one channel has changed: its owner hasn't, and of the packets at a router nothing
pub words_one : (n : Net) (s t : NetState) (x : ℕ) (l : NetLine) (k : Note) → Words n s → IsChangedAt s t x l k → Local n x l k
    → l.owner ≡ (s.lines x).owner
    → (n.ejects x ≡ true) ⊎ (k.awaited ≡ (s.notes x).awaited) → (n.injects x ≡ true) ⊎ (k.owed ≡ (s.notes x).owed) → Words n t
words_one n s t x l k w c new owner awaited owed =
    let local : (z : ℕ) → Local n z (t.lines z) (t.notes z) =
    λ z. kept (λ z l k. Local n z l k) s t x l k c new (λ z d. local_of n s w z) z in
    let owners : (z : ℕ) → (t.lines z).owner ≡ (s.lines z).owner =
    λ z. kept (λ z l k. l.owner ≡ (s.lines z).owner) s t x l k c owner (λ z d. refl) z in
    let awaits : (z : ℕ) → n.ejects z ≡ false → (t.notes z).awaited ≡ (s.notes z).awaited = λ z.
    kept (λ z l k. n.ejects z ≡ false → k.awaited ≡ (s.notes z).awaited) s t x l k c (λ no. ⊎_elim (λ (e : n.ejects x ≡ true). cc) (λ e. e) awaited)
    (λ z d no. refl) z in
    let owes : (z : ℕ) → n.injects z ≡ false → (t.notes z).owed ≡ (s.notes z).owed = λ z.
    kept (λ z l k. n.injects z ≡ false → k.owed ≡ (s.notes z).owed) s t x l k c (λ no. ⊎_elim (λ (e : n.injects x ≡ true). cc) (λ e. e) owed)
    (λ z d no. refl) z in
    record {
      credits = λ z. (local z).credits;
      contiguous = λ z. (local z).contiguous;
      parcels = λ z. (local z).parcels;
      awaited = λ z. (local z).awaited;
      owed = λ z. (local z).owed;
      held = λ a b h. let old = w.held a b (sym (owners b) ∙ h) in held_from n s t a b old (owes b old.output) (awaits a old.input);
      free = λ b i h. owes b i ∙ w.free b i (sym (owners b) ∙ h);
      single = λ a b d h g. w.single a b d (sym (owners b) ∙ h) (sym (owners d) ∙ g);
      owning = λ a i. ⊎_elim (λ (e : (s.notes a).awaited ≡ []). inl (awaits a i ∙ e))
          (λ (p : (y : ℕ) × ((s.lines y).owner ≡ Some a)). inr (p.0, owners p.0 ∙ p.1)) (w.owning a i);
      inside = record {
        owner = λ a b h. w.inside.owner a b (sym (owners b) ∙ h);
        owned = λ a b h. w.inside.owned a b (sym (owners b) ∙ h);
      };
      senders = λ z. (local z).senders;
      unlatched = λ z. (local z).unlatched;
      assembling = λ z. (local z).assembling;
    }
