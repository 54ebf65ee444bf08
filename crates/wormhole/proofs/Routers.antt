-- What holds of the flits stays when a router puts a flit of an input into an output.
use Rattle.std.proofs.Common.{◌≡◌, ◌≢◌, ◌⊎◌, inl, inr, ℕ, ◌<◌, Bool, true, false, cond, List, [], ◌∷◌, ◌++◌, take}
use Rattle.std.proofs.Common.{drop, Some, None, All, option_to_list, refl, sym, ◌∙◌, ap, subst}
use Rattle.std.proofs.lemmas.List.Elements.{All-push}
use Rattle.wormhole.specs.Net.{Net, Parcel, IsParcel, EndsWithTail, flits_of_all, has_no_flit}
use Rattle.wormhole.specs.State.{NetLine, Note, NetState, in_line}
use Rattle.wormhole.specs.Events.{ForwardHead, ForwardRest, CanForwardHead, CanForwardRest, forwarded, first_tail, popped, after}
use Rattle.wormhole.specs.Words.{Words}
use Rattle.wormhole.proofs.Changes.{changed_both}
use Rattle.wormhole.proofs.Channels.{push_head, push_rest, pop_rest, in_line_put}
use Rattle.wormhole.proofs.TwoChannels.{words_two}
use Rattle.wormhole.proofs.Ends.{put_credits}
use Rattle.wormhole.proofs.Receivers.{moved}

-- the latched flit is the first on its way
pub latched : (n : Net) (s : NetState) (x flit : ℕ) → Words n s → (s.lines x).latch ≡ Some flit
    → (s.notes x).awaited ++ flits_of_all (s.notes x).parcels ≡ flit ∷ ((s.lines x).flits ++ (s.notes x).owed)
latched n s x flit w full = w.contiguous x ∙ ap (λ o. (option_to_list o ++ (s.lines x).flits) ++ (s.notes x).owed) full

-- a head or body flit leaves its input the owner, a tail flit doesn't
pub owns_until_tail : (x : ℕ) (more : List ℕ) (bit : Bool) → bit ≡ has_no_flit more
    → ((cond bit None (Some x) ≡ Some x) × (more ≢ [])) ⊎ ((cond bit None (Some x) ≡ None) × (more ≡ []))
owns_until_tail x [] true e = inr (refl, refl)
owns_until_tail x [] false e = cc
owns_until_tail x (f ∷ more) true e = cc
owns_until_tail x (f ∷ more) false e = inl (refl, λ h. cc)

-- a head flit that may go into an output, whoever chose it
pub record PutsHead (n : Net) (l m : NetLine) (x flit : ℕ) : Type 0 where
  pub here : x < n.channels
  pub input : n.ejects x ≡ false
  pub full : l.latch ≡ Some flit
  pub head : n.is_head flit ≡ true
  pub free : m.owner ≡ None
  pub credit : 0 < m.held

pub words_put_head : (n : Net) (s : NetState) (x y flit : ℕ) → y < n.channels → x ≢ y → n.injects y ≡ false → Words n s
    → PutsHead n (s.lines x) (s.lines y) x flit → Words n (after n s (ForwardHead x y flit))
words_put_head n s x y flit there apart output w c =
    let l : NetLine = s.lines x in
    let h : Note = s.notes x in
    let m : NetLine = s.lines y in
    let g : Note = s.notes y in
    let p = moved n h flit (l.flits ++ h.owed) (w.parcels x) (w.awaited x) c.head (latched n s x flit w c.full) in
    let k : Parcel = p.first in
    let new : NetLine = record l { latch = None } in
    let note : Note = record g { parcels = g.parcels ++ take 1 h.parcels; owed = first_tail h.parcels } in
    let parcels : g.parcels ++ take 1 h.parcels ≡ g.parcels ++ k ∷ [] = ap (λ (ks : List Parcel). g.parcels ++ ks) p.one in
    words_two n s (after n s (ForwardHead x y flit)) x new (popped h) y (forwarded n x flit m) note w
    (changed_both s x new (popped h) y (forwarded n x flit m) note apart) (record {
      here = c.here;
      there = there;
      apart = apart;
      input = c.input;
      output = output;
      local = record {
        credits = w.credits x;
        contiguous = p.contiguous;
        parcels = p.parcels;
        awaited = p.shaped;
        owed = w.owed x;
        senders = w.senders x;
        unlatched = λ e. refl;
        assembling = λ e. let no = c.input in cc;
      };
      local_too = record {
        credits = put_credits n m flit (w.credits y) c.credit;
        contiguous = ap (λ (ks : List Parcel). g.awaited ++ flits_of_all ks) parcels
            ∙ (push_head g.awaited (in_line m) g.owed g.parcels k (w.contiguous y) (w.free y output c.free)
            ∙ (ap (λ (f : ℕ). (in_line m ++ f ∷ []) ++ k.tail) p.head
            ∙ (ap (λ (fs : List ℕ). (in_line m ++ flit ∷ []) ++ fs) (sym p.tail)
            ∙ ap (λ (fs : List ℕ). fs ++ first_tail h.parcels) (sym (in_line_put m flit)))));
        parcels = subst (λ (ks : List Parcel). All (IsParcel n) ks) (sym parcels) (All-push (IsParcel n) g.parcels k (w.parcels y) p.parcel);
        awaited = w.awaited y;
        owed = p.shaped;
        senders = λ i. cc;
        unlatched = w.unlatched y;
        assembling = w.assembling y;
      };
      owner = refl;
      owed = refl;
      awaited = refl;
      same = refl;
      owns = owns_until_tail x (first_tail h.parcels) (n.is_tail flit) (ap n.is_tail (sym p.head) ∙ (p.parcel.alone ∙ ap has_no_flit (sym p.tail)));
      only = λ z o. absurd ((w.held x z o).more p.none);
      before = inl c.free;
    })

pub words_forward_head : (n : Net) (s : NetState) (x y flit : ℕ) → y < n.channels → x ≢ y → n.injects y ≡ false → Words n s
    → CanForwardHead n (s.lines x) (s.lines y) x y flit → Words n (after n s (ForwardHead x y flit))
words_forward_head n s x y flit there apart output w c = words_put_head n s x y flit there apart output w
    (record { here = c.here; input = c.input; full = c.full; head = c.head; free = c.free; credit = c.credit })

pub words_forward_rest : (n : Net) (s : NetState) (x y flit : ℕ) → x ≢ y → Words n s → CanForwardRest n (s.lines x) (s.lines y) x y flit
    → Words n (after n s (ForwardRest x y flit))
words_forward_rest n s x y flit apart w c =
    let l : NetLine = s.lines x in
    let h : Note = s.notes x in
    let m : NetLine = s.lines y in
    let g : Note = s.notes y in
    let held = w.held x y c.owned in
    let output = held.output in
    let p = pop_rest n h.awaited h.parcels flit (l.flits ++ h.owed) (w.parcels x) c.rest (latched n s x flit w c.full) in
    let left : List ℕ = p.0 in
    let e : drop 1 h.awaited ≡ left = ap (λ (fs : List ℕ). drop 1 fs) p.1 in
    let owes : g.owed ≡ flit ∷ left = held.same ∙ p.1 in
    let e_too : drop 1 g.owed ≡ left = ap (λ (fs : List ℕ). drop 1 fs) owes in
    let shaped : EndsWithTail n (flit ∷ left) = subst (EndsWithTail n) p.1 (w.awaited x) in
    let new : NetLine = record l { latch = None } in
    let old : Note = record h { awaited = drop 1 h.awaited } in
    let note : Note = record g { owed = drop 1 g.owed } in
    words_two n s (after n s (ForwardRest x y flit)) x new old y (forwarded n x flit m) note w
    (changed_both s x new old y (forwarded n x flit m) note apart) (record {
      here = c.here;
      there = w.inside.owned x y c.owned;
      apart = apart;
      input = c.input;
      output = held.output;
      local = record {
        credits = w.credits x;
        contiguous = ap (λ (fs : List ℕ). fs ++ flits_of_all h.parcels) e ∙ p.2;
        parcels = w.parcels x;
        awaited = subst (EndsWithTail n) (sym e) shaped.2;
        owed = w.owed x;
        senders = w.senders x;
        unlatched = λ i. refl;
        assembling = λ i. let no = c.input in cc;
      };
      local_too = record {
        credits = put_credits n m flit (w.credits y) c.credit;
        contiguous = push_rest (g.awaited ++ flits_of_all g.parcels) (in_line m) left flit (w.contiguous y ∙ ap (λ (o : List ℕ). in_line m ++ o) owes)
            ∙ (ap (λ (fs : List ℕ). (in_line m ++ flit ∷ []) ++ fs) (sym e_too) ∙ ap (λ (fs : List ℕ). fs ++ drop 1 g.owed) (sym (in_line_put m flit)));
        parcels = w.parcels y;
        awaited = w.awaited y;
        owed = subst (EndsWithTail n) (sym e_too) shaped.2;
        senders = λ i. cc;
        unlatched = w.unlatched y;
        assembling = w.assembling y;
      };
      owner = refl;
      owed = refl;
      awaited = refl;
      same = e_too ∙ sym e;
      owns = owns_until_tail x (drop 1 h.awaited) (n.is_tail flit) (shaped.1 ∙ ap has_no_flit (sym e));
      only = λ z o. w.single x z y o c.owned;
      before = inr c.owned;
    })
