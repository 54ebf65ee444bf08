-- What holds of the flits stays when a receiver takes a flit.
use Rattle.std.proofs.Common.{◌≡◌, ◌≢◌, ◌⊎◌, inl, inr, ⊎_elim, ℕ, Bool, true, false, cond, List, [], ◌∷◌, ◌++◌, take}
use Rattle.std.proofs.Common.{drop, All, option_to_list, refl, sym, ◌∙◌, ap, subst, append_assoc}
use Rattle.std.proofs.lemmas.List.Elements.{All-head, All-tail}
use Rattle.wormhole.specs.Net.{Net, Parcel, IsParcel, EndsWithTail, net_flits, flits_of_all, has_no_flit}
use Rattle.wormhole.specs.State.{NetLine, Note, NetState}
use Rattle.wormhole.specs.Events.{AcceptHead, AcceptRest, CanAccept, accepted, first_tail, popped, after}
use Rattle.wormhole.specs.Words.{HasBeginning, IsAssembling, Words}
use Rattle.wormhole.proofs.Changes.{changed}
use Rattle.wormhole.proofs.Channels.{HasPopped, pop_head, pop_rest, push_not_empty}
use Rattle.wormhole.proofs.OneChannel.{words_one}
use Rattle.wormhole.proofs.Ends.{take_credits}

-- the flits in an ejection channel are those on their way in it
pub ejected : (n : Net) (s : NetState) (x flit : ℕ) (more : List ℕ) (bit : Bool) → Words n s → CanAccept n (s.lines x) x flit more bit
    → (s.notes x).awaited ++ flits_of_all (s.notes x).parcels ≡ flit ∷ (more ++ (s.notes x).owed)
ejected n s x flit more bit w c = w.contiguous x
    ∙ (ap (λ o. (option_to_list o ++ (s.lines x).flits) ++ (s.notes x).owed) (w.unlatched x c.ejects) ∙ ap (λ (fs : List ℕ). fs ++ (s.notes x).owed) c.first)

-- a receiver that awaits nothing has nothing
pub nothing_so_far : (l : NetLine) (h : Note) → IsAssembling l h → h.awaited ≡ [] → l.so_far ≡ []
nothing_so_far l h is none = ⊎_elim (λ (e : (h.awaited ≡ []) × (l.so_far ≡ [])). e.1)
    (λ (p : HasBeginning l h). absurd (p.5 none))
    is

-- what a receiver has after a flit of a packet: the flits so far and this one, or nothing, if it was the last
pub assembled : (begun before : List Parcel) (last : Parcel) (so_far : List ℕ) (flit : ℕ) (more : List ℕ) (bit : Bool)
    → begun ≡ before ++ last ∷ [] → so_far ++ flit ∷ more ≡ net_flits last → bit ≡ has_no_flit more
    → ((more ≡ []) × (cond bit [] (so_far ++ flit ∷ []) ≡ []))
    ⊎ ((before : List Parcel) × (last : Parcel) × (begun ≡ before ++ last ∷ []) × (cond bit [] (so_far ++ flit ∷ []) ++ more ≡ net_flits last)
    × (cond bit [] (so_far ++ flit ∷ []) ≢ []) × (more ≢ []))
assembled begun before last so_far flit [] true e f b = inl (refl, refl)
assembled begun before last so_far flit [] false e f b = cc
assembled begun before last so_far flit (g ∷ more) true e f b = cc
assembled begun before last so_far flit (g ∷ more) false e f b =
    inr (before, last, e, append_assoc so_far (flit ∷ []) (g ∷ more) ∙ f, push_not_empty so_far flit, λ h. cc)

-- what holds of the note of a channel stays, without its first packet's head
pub record HasMoved (n : Net) (h : Note) (flit : ℕ) (left : List ℕ) : Type 0 where
  pub first : Parcel
  pub was : h.parcels ≡ first ∷ drop 1 h.parcels
  pub one : take 1 h.parcels ≡ first ∷ []
  pub tail : first_tail h.parcels ≡ first.tail
  pub head : first.head ≡ flit
  pub none : h.awaited ≡ []
  pub parcel : IsParcel n first
  pub parcels : All (IsParcel n) (drop 1 h.parcels)
  pub shaped : EndsWithTail n (first_tail h.parcels)
  pub contiguous : first_tail h.parcels ++ flits_of_all (drop 1 h.parcels) ≡ left

pub moved : (n : Net) (h : Note) (flit : ℕ) (left : List ℕ) → All (IsParcel n) h.parcels → EndsWithTail n h.awaited → n.is_head flit ≡ true
    → h.awaited ++ flits_of_all h.parcels ≡ flit ∷ left → HasMoved n h flit left
moved n h flit left are shaped head e =
    let p : HasPopped h.parcels h.awaited flit left = pop_head n h.awaited h.parcels flit left shaped head e in
    let good : All (IsParcel n) (p.first ∷ p.others) = subst (λ (ks : List Parcel). All (IsParcel n) ks) p.parcels are in
    let first : IsParcel n p.first = All-head (IsParcel n) p.first p.others good in
    record {
      first = p.first;
      was = p.parcels ∙ ap (λ (ks : List Parcel). p.first ∷ drop 1 ks) (sym p.parcels);
      one = ap (λ (ks : List Parcel). take 1 ks) p.parcels;
      tail = ap first_tail p.parcels;
      head = p.head;
      none = p.none;
      parcel = first;
      parcels = subst (λ (ks : List Parcel). All (IsParcel n) (drop 1 ks)) (sym p.parcels) (All-tail (IsParcel n) p.first p.others good);
      shaped = subst (λ (ks : List Parcel). EndsWithTail n (first_tail ks)) (sym p.parcels) first.tail;
      contiguous = subst (λ (ks : List Parcel). first_tail ks ++ flits_of_all (drop 1 ks) ≡ left) (sym p.parcels) p.tail;
    }

pub words_accept_head : (n : Net) (s : NetState) (x flit : ℕ) (more : List ℕ) → Words n s → CanAccept n (s.lines x) x flit more true
    → Words n (after n s (AcceptHead x flit more))
words_accept_head n s x flit more w c =
    let l : NetLine = s.lines x in
    let h : Note = s.notes x in
    let m = moved n h flit (more ++ h.owed) (w.parcels x) (w.awaited x) c.head (ejected n s x flit more true w c) in
    let k : Parcel = m.first in
    let new : Note = record (popped h) { begun = h.begun ++ take 1 h.parcels } in
    let nothing : l.so_far ≡ [] = nothing_so_far l h (w.assembling x c.ejects) m.none in
    let empty : option_to_list l.latch ≡ [] = ap option_to_list (w.unlatched x c.ejects) in
    words_one n s (after n s (AcceptHead x flit more)) x (accepted n flit more l) new w (changed s x (accepted n flit more l) new)
    (record {
      credits = take_credits n l flit more (w.credits x) c.first;
      contiguous = m.contiguous ∙ ap (λ (fs : List ℕ). (fs ++ more) ++ h.owed) (sym empty);
      parcels = m.parcels;
      awaited = m.shaped;
      owed = w.owed x;
      senders = w.senders x;
      unlatched = w.unlatched x;
      assembling = λ e. assembled (h.begun ++ take 1 h.parcels) h.begun k l.so_far flit (first_tail h.parcels) (n.is_tail flit)
          (ap (λ (ks : List Parcel). h.begun ++ ks) m.one)
          (ap (λ (fs : List ℕ). fs ++ flit ∷ first_tail h.parcels) nothing
          ∙ (ap (λ f. f ∷ first_tail h.parcels) (sym m.head) ∙ ap (λ (fs : List ℕ). k.head ∷ fs) m.tail))
          (ap n.is_tail (sym m.head) ∙ (m.parcel.alone ∙ ap has_no_flit (sym m.tail)));
    })
    refl
    (inl c.ejects)
    (inr refl)

pub words_accept_rest : (n : Net) (s : NetState) (x flit : ℕ) (more : List ℕ) → Words n s → CanAccept n (s.lines x) x flit more false
    → Words n (after n s (AcceptRest x flit more))
words_accept_rest n s x flit more w c =
    let l : NetLine = s.lines x in
    let h : Note = s.notes x in
    let p = pop_rest n h.awaited h.parcels flit (more ++ h.owed) (w.parcels x) c.head (ejected n s x flit more false w c) in
    let left : List ℕ = p.0 in
    let e : drop 1 h.awaited ≡ left = ap (λ (fs : List ℕ). drop 1 fs) p.1 in
    let shaped : EndsWithTail n (flit ∷ left) = subst (EndsWithTail n) p.1 (w.awaited x) in
    let new : Note = record h { awaited = drop 1 h.awaited } in
    let empty : option_to_list l.latch ≡ [] = ap option_to_list (w.unlatched x c.ejects) in
    words_one n s (after n s (AcceptRest x flit more)) x (accepted n flit more l) new w (changed s x (accepted n flit more l) new)
    (record {
      credits = take_credits n l flit more (w.credits x) c.first;
      contiguous = ap (λ (fs : List ℕ). fs ++ flits_of_all h.parcels) e ∙ (p.2 ∙ ap (λ (fs : List ℕ). (fs ++ more) ++ h.owed) (sym empty));
      parcels = w.parcels x;
      awaited = subst (EndsWithTail n) (sym e) shaped.2;
      owed = w.owed x;
      senders = w.senders x;
      unlatched = w.unlatched x;
      assembling = λ i. ⊎_elim
          (λ (none : (h.awaited ≡ []) × (l.so_far ≡ [])). let z = none.0 in let f = p.1 in cc)
          (λ (q : HasBeginning l h).
          assembled h.begun q.0 q.1 l.so_far flit (drop 1 h.awaited) (n.is_tail flit) q.2
          (ap (λ (fs : List ℕ). l.so_far ++ fs) (ap (λ (fs : List ℕ). flit ∷ fs) e ∙ sym p.1) ∙ q.3)
          (shaped.1 ∙ ap has_no_flit (sym e)))
          (w.assembling x i);
    })
    refl
    (inl c.ejects)
    (inr refl)
