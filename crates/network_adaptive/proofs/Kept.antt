-- What holds of the packets under way stays with each event.
use Rattle.std.proofs.Common.{◌≡◌, ◌≢◌, inl, inr, ⊎_elim, ℕ, ◌+◌, ◌<◌, true, false, List, [], ◌∷◌, ◌++◌, take, drop, Some, None, All, refl, sym, ◌∙◌, ap, subst, arith}
use Rattle.std.proofs.lemmas.Bool.{cases_eq}
use Rattle.std.proofs.lemmas.List.Elements.{All-push, All-head, All-tail}
use Rattle.wormhole.specs.Net.{Parcel, flits_of_all}
use Rattle.wormhole.specs.State.{NetLine, Note, NetState, update}
use Rattle.wormhole.specs.Events.{InjectHead, ForwardRest, AcceptHead}
use Rattle.wormhole.specs.Events.{put, forwarded, accepted, popped, after}
use Rattle.wormhole.specs.Events.{CanInjectHead, CanForwardRest, CanAccept}
use Rattle.wormhole.specs.Words.{Words}
use Rattle.wormhole.proofs.Changes.{IsChangedAt, AreChangedAt, kept, kept_both, changed, changed_both, update_same, update_other}
use Rattle.wormhole.proofs.Channels.{push_not_empty}
use Rattle.wormhole.proofs.Receivers.{HasMoved, moved, ejected}
use Rattle.wormhole.proofs.Routers.{latched}
use Rattle.wormhole.proofs.Quiet.{forwarded_owner}
use Rattle.network_adaptive.specs.Choices.{AdaptiveNet, IsAdaptiveNet, Comes, BeginsIn, ByChoice, IsChoice}
use Rattle.network_adaptive.specs.Flow.{CanAllocate}
use Rattle.network_adaptive.specs.Tracks.{IsAlone, AreTracks}

-- nothing new: owners go, packets stay where they are, and none begins to come out
pub record IsLess (s t : NetState) : Type 0 where
  pub owners : (x y : ℕ) → (t.lines y).owner ≡ Some x → (s.lines y).owner ≡ Some x
  pub parcels : (x : ℕ) → (t.notes x).parcels ≡ (s.notes x).parcels
  pub awaited : (x : ℕ) → (s.notes x).awaited ≡ [] → (t.notes x).awaited ≡ []

pub less_one : (s t : NetState) (x : ℕ) (l : NetLine) (k : Note) → IsChangedAt s t x l k → l.owner ≡ (s.lines x).owner
    → k.parcels ≡ (s.notes x).parcels → ((s.notes x).awaited ≡ [] → k.awaited ≡ []) → IsLess s t
less_one s t x l k c owner parcels awaited = record {
  owners = λ a y h. sym (kept (λ z l k. l.owner ≡ (s.lines z).owner) s t x l k c owner (λ z d. refl) y) ∙ h;
  parcels = kept (λ z l k. k.parcels ≡ (s.notes z).parcels) s t x l k c parcels (λ z d. refl);
  awaited = kept (λ z l k. (s.notes z).awaited ≡ [] → k.awaited ≡ []) s t x l k c awaited (λ z d e. e);
}

-- without a first item nothing is nothing
pub drop_none : (fs : List ℕ) → fs ≡ [] → drop 1 fs ≡ []
drop_none fs e = ap (λ (gs : List ℕ). drop 1 gs) e

-- nothing makes up an empty list
pub no_parcels : (awaited : List ℕ) (ks : List Parcel) → awaited ++ flits_of_all ks ≡ [] → (awaited ≡ []) × (ks ≡ [])
no_parcels [] [] e = (refl, refl)
no_parcels [] (k ∷ ks) e = absurd (cc)
no_parcels (a ∷ as') ks e = absurd (cc)

module _ (n : AdaptiveNet) (s t : NetState) (less : IsLess s t) where
  alone_less : (y c j : ℕ) → IsAlone (s.notes y) c j → IsAlone (t.notes y) c j
  alone_less y c j is = ⊎_elim
      (λ (a : ((s.notes y).parcels ≡ []) × (c ≡ j)). inl (less.parcels y ∙ a.0, a.1))
      (λ (b : (k : Parcel) × ((s.notes y).awaited ≡ []) × ((s.notes y).parcels ≡ k ∷ []) × (k.destination ≡ j)).
      inr (b.0, less.awaited y b.1, less.parcels y ∙ b.2, b.3))
      is

  pub tracks_less : (course stamp : ℕ → ℕ) (now : ℕ) → AreTracks n s course stamp now → AreTracks n t course stamp now
  tracks_less course stamp now a = record {
    comes = λ x. subst (λ (ks : List Parcel). All (λ k. Comes n k.destination x) ks) (sym (less.parcels x)) (a.comes x);
    coming = λ x e more. a.coming x e (λ none. more (less.awaited x none));
    owned = λ x y o. a.owned x y (less.owners x y o);
    alone = λ x y o. ⊎_elim
        (λ (e : n.escapes x (course x) y ≡ true). inl e)
        (λ (is : IsAlone (s.notes y) (course y) (course x)). inr (alone_less y (course y) (course x) is))
        (a.alone x y (less.owners x y o));
    order = λ x y o none. a.order x y (less.owners x y o) (sym (less.parcels x) ∙ none);
    past = a.past;
  }

module _ (n : AdaptiveNet) (net : IsAdaptiveNet n) (s : NetState) (w : Words n.frame s) (course stamp : ℕ → ℕ) (now : ℕ) (a : AreTracks n s course stamp now) where
  -- what comes out of an input that owns an output
  pub owner_comes : (x y : ℕ) → (s.lines y).owner ≡ Some x → Comes n (course x) x
  owner_comes x y o = let held = w.held x y o in a.coming x held.input held.more

  pub owner_apart : (x y : ℕ) → (s.lines y).owner ≡ Some x → x ≢ y
  owner_apart x y o = net.apart (course x) x y (owner_comes x y o) (a.owned x y o)

  pub tracks_forward_rest : (x y flit : ℕ) → CanForwardRest n.frame (s.lines x) (s.lines y) x y flit
      → AreTracks n (after n.frame s (ForwardRest x y flit)) course stamp now
  tracks_forward_rest x y flit c =
      let l : NetLine = record (s.lines x) { latch = None } in
      let k : Note = record (s.notes x) { awaited = drop 1 (s.notes x).awaited } in
      let m : NetLine = forwarded n.frame x flit (s.lines y) in
      let h : Note = record (s.notes y) { owed = drop 1 (s.notes y).owed } in
      let t : NetState = after n.frame s (ForwardRest x y flit) in
      let ch : AreChangedAt s t x l k y m h = changed_both s x l k y m h (owner_apart x y c.owned) in
      tracks_less n s t (record {
        owners = λ u v o. kept_both (λ z l k. l.owner ≡ Some u → (s.lines z).owner ≡ Some u) s t x l k y m h ch (λ e. e)
            (λ e. c.owned ∙ ap Some (sym (forwarded_owner u x (n.frame.is_tail flit) e))) (λ z d f e. e) v o;
        parcels = kept_both (λ z l k. k.parcels ≡ (s.notes z).parcels) s t x l k y m h ch refl refl (λ z d e. refl);
        awaited = kept_both (λ z l k. (s.notes z).awaited ≡ [] → k.awaited ≡ []) s t x l k y m h ch
            (drop_none (s.notes x).awaited) (λ e. e) (λ z d f e. e);
      }) course stamp now a

  -- a sender begins a packet
  pub tracks_inject_head : (x : ℕ) (k : Parcel) → CanInjectHead n.frame (s.lines x) x k
      → AreTracks n (after n.frame s (InjectHead x k)) course (update stamp x (now + 1)) (now + 1)
  tracks_inject_head x k c =
      let g : Note = s.notes x in
      let l : NetLine = record (put k.head (s.lines x)) { rest = k.tail } in
      let h : Note = record g { parcels = g.parcels ++ k ∷ []; owed = k.tail; sent = g.sent ++ k ∷ [] } in
      let t : NetState = after n.frame s (InjectHead x k) in
      let ch : IsChangedAt s t x l h = changed s x l h in
      let owners : (z : ℕ) → (t.lines z).owner ≡ (s.lines z).owner = kept (λ z l k. l.owner ≡ (s.lines z).owner) s t x l h ch refl (λ z d. refl) in
      let parcels : (z : ℕ) → z ≢ x → (t.notes z).parcels ≡ (s.notes z).parcels = λ z d. ap (λ (v : Note). v.parcels) (ch.notes z d) in
      let awaits : (z : ℕ) → (t.notes z).awaited ≡ (s.notes z).awaited = kept (λ z l k. k.awaited ≡ (s.notes z).awaited) s t x l h ch refl (λ z d. refl) in
      let old : (u v : ℕ) → (t.lines v).owner ≡ Some u → (s.lines v).owner ≡ Some u = λ u v o. sym (owners v) ∙ o in
      let other : (u v : ℕ) → (s.lines v).owner ≡ Some u → v ≢ x = λ u v o e.
      (let held = w.held u v o in let out : n.frame.injects x ≡ false = subst (λ z. n.frame.injects z ≡ false) e held.output in
      let is = c.injects in cc) in
      record {
        comes = kept (λ z l k. All (λ k. Comes n k.destination z) k.parcels) s t x l h ch
            (All-push (λ k. Comes n k.destination x) g.parcels k (a.comes x)
            (BeginsIn x (subst (λ z. n.frame.joins z k.destination ≡ true) c.source c.parcel.joined)))
            (λ z d. a.comes z);
        coming = λ z e more. a.coming z e (λ none. more (awaits z ∙ none));
        owned = λ u v o. a.owned u v (old u v o);
        alone = λ u v o. ⊎_elim
            (λ (e : n.escapes u (course u) v ≡ true). inl e)
            (λ (is : IsAlone (s.notes v) (course v) (course u)). inr
            (subst (λ (z : Note). IsAlone z (course v) (course u)) (sym (ch.notes v (other u v (old u v o)))) is))
            (a.alone u v (old u v o));
        order = λ u v o none.
            (let apart : u ≢ x = λ e. push_not_empty g.parcels k (sym (ap (λ (z : Note). z.parcels) ch.note) ∙ (ap (λ z. (t.notes z).parcels) (sym e) ∙ none)) in
            let before : stamp u < stamp v = a.order u v (old u v o) (sym (parcels u apart) ∙ none) in
            let p : update stamp x (now + 1) u ≡ stamp u = update_other stamp x (now + 1) u apart in
            let q : update stamp x (now + 1) v ≡ stamp v = update_other stamp x (now + 1) v (other u v (old u v o)) in
            omega arith);
        past = λ z. ⊎_elim
            (λ (e : z ≡ x). let p : update stamp x (now + 1) z ≡ now + 1 = ap (update stamp x (now + 1)) e ∙ update_same stamp x (now + 1) in omega arith)
            (λ (d : z ≢ x). let p : update stamp x (now + 1) z ≡ stamp z = update_other stamp x (now + 1) z d in let q = a.past z in omega arith)
            (cases_eq z x);
      }

  -- a receiver takes a head flit
  pub tracks_accept_head : (x flit : ℕ) (more : List ℕ) → CanAccept n.frame (s.lines x) x flit more true
      → AreTracks n (after n.frame s (AcceptHead x flit more)) course stamp now
  tracks_accept_head x flit more c =
      let g : Note = s.notes x in
      let p = moved n.frame g flit (more ++ g.owed) (w.parcels x) (w.awaited x) c.head (ejected n.frame s x flit more true w c) in
      let l : NetLine = accepted n.frame flit more (s.lines x) in
      let h : Note = record (popped g) { begun = g.begun ++ take 1 g.parcels } in
      let t : NetState = after n.frame s (AcceptHead x flit more) in
      let ch : IsChangedAt s t x l h = changed s x l h in
      let owners : (z : ℕ) → (t.lines z).owner ≡ (s.lines z).owner = kept (λ z l k. l.owner ≡ (s.lines z).owner) s t x l h ch refl (λ z d. refl) in
      let old : (u v : ℕ) → (t.lines v).owner ≡ Some u → (s.lines v).owner ≡ Some u = λ u v o. sym (owners v) ∙ o in
      let input : (z : ℕ) → n.frame.ejects z ≡ false → z ≢ x = λ z no e.
      (let out : n.frame.ejects x ≡ false = subst (λ z. n.frame.ejects z ≡ false) e no in let is = c.ejects in cc) in
      record {
        comes = kept (λ z l k. All (λ k. Comes n k.destination z) k.parcels) s t x l h ch
            (All-tail (λ k. Comes n k.destination x) p.first (drop 1 g.parcels)
            (subst (λ (ks : List Parcel). All (λ k. Comes n k.destination x) ks) p.was (a.comes x)))
            (λ z d. a.comes z);
        coming = λ z e more. a.coming z e (λ none. more (ap (λ (v : Note). v.awaited) (ch.notes z (input z e)) ∙ none));
        owned = λ u v o. a.owned u v (old u v o);
        alone = λ u v o. ⊎_elim
            (λ (e : v ≡ x). inl (net.last (course u) u v (owner_comes u v (old u v o)) (a.owned u v (old u v o))
            (subst (λ z. n.frame.ejects z ≡ true) (sym e) c.ejects)))
            (λ (d : v ≢ x). ⊎_elim
            (λ (e : n.escapes u (course u) v ≡ true). inl e)
            (λ (is : IsAlone (s.notes v) (course v) (course u)). inr (subst (λ (z : Note). IsAlone z (course v) (course u)) (sym (ch.notes v d)) is))
            (a.alone u v (old u v o)))
            (cases_eq v x);
        order = λ u v o none.
            (let held = w.held u v (old u v o) in
            a.order u v (old u v o) (sym (ap (λ (z : Note). z.parcels) (ch.notes u (input u held.input))) ∙ none));
        past = a.past;
      }

  -- a router gives a channel to a packet
  pub record Given (x y flit : ℕ) : Type 0 where
    pub moves : HasMoved n.frame (s.notes x) flit ((s.lines x).flits ++ (s.notes x).owed)
    pub told : n.frame.told flit ≡ moves.first.destination
    pub comes : Comes n moves.first.destination x
    pub step : IsChoice n moves.first.destination x y
    pub there : y < n.frame.channels
    pub apart : x ≢ y
    pub output : n.frame.injects y ≡ false

  pub given : (x y flit : ℕ) → CanAllocate n (s.lines x) (s.lines y) x y flit → Given x y flit
  given x y flit c =
      let h : Note = s.notes x in
      let m = moved n.frame h flit ((s.lines x).flits ++ h.owed) (w.parcels x) (w.awaited x) c.head (latched n.frame s x flit w c.full) in
      let j : ℕ = m.first.destination in
      let told : n.frame.told flit ≡ j = ap n.frame.told (sym m.head) ∙ m.parcel.told in
      let comes : Comes n j x = All-head (λ k. Comes n k.destination x) m.first (drop 1 h.parcels)
      (subst (λ (ks : List Parcel). All (λ k. Comes n k.destination x) ks) m.was (a.comes x)) in
      let step : IsChoice n j x y = record { input = c.input; chosen = subst (λ z. n.chooses x z y ≡ true) told c.chosen } in
      record {
        moves = m;
        told = told;
        comes = comes;
        step = step;
        there = net.within j y (ByChoice x y comes step);
        apart = net.apart j x y comes step;
        output = net.outputs j x y comes step;
      }
