-- Packets of one flit own nothing, and leave nothing to await: that stays with each event.
use Rattle.std.proofs.Common.{◌≡◌, ℕ, ◌+◌, ◌-◌, Bool, true, List, [], ◌∷◌, ◌++◌, take, drop, length, Some, None, All, cond, refl, sym, ◌∙◌, ap, subst, arith}
use Rattle.std.proofs.lemmas.List.Elements.{All-nil, All-push, All-head, All-tail}
use Rattle.wormhole.specs.Net.{Net, Parcel, has_no_flit}
use Rattle.wormhole.specs.State.{NetLine, Note, NetState, empty}
use Rattle.wormhole.specs.Events.{NetEvent, InjectHead, InjectRest, Latch, ForwardHead, ForwardRest, AcceptHead}
use Rattle.wormhole.specs.Events.{AcceptRest, Return, put, taken, accepted, forwarded, popped, first_tail, after, after_all}
use Rattle.wormhole.specs.Words.{Words}
use Rattle.wormhole.proofs.Changes.{kept, kept_both, changed, changed_line, changed_both}
use Rattle.wormhole.proofs.Receivers.{HasMoved, moved, ejected}
use Rattle.wormhole.proofs.Reached.{words_empty}
use Rattle.network_adaptive.specs.Choices.{AdaptiveNet, IsAdaptiveNet}
use Rattle.network_adaptive.specs.Flow.{CanOccur, CanAllOccur, CanAllocate}
use Rattle.network_adaptive.specs.Tracks.{HasTracks}
use Rattle.network_adaptive.proofs.Kept.{drop_none, given}
use Rattle.network_adaptive.proofs.Reached.{words_kept, tracks_kept, tracks_empty}
use Rattle.deadlock_laws.specs.Lengths.{HasLength}

only_one : (w : ℕ) (ws : List ℕ) → length (w ∷ ws) ≡ 1 → ws ≡ []
only_one w [] e = refl
only_one w (v ∷ vs) e = absurd (omega arith)

abbrev pub OneFlit : Parcel → Type 0
OneFlit k = k.tail ≡ []

-- a channel in a network of packets of one flit
pub record IsSingle (l : NetLine) (h : Note) : Type 0 where
  pub owner : l.owner ≡ None
  pub rest : l.rest ≡ []
  pub awaited : h.awaited ≡ []
  pub owed : h.owed ≡ []
  pub tails : All OneFlit h.parcels

abbrev pub AreSingle : NetState → Type 0
AreSingle s = (z : ℕ) → IsSingle (s.lines z) (s.notes z)

-- the packet that moves has one flit, and so have those behind it
first_one : (n : Net) (h : Note) (flit : ℕ) (left : List ℕ) (m : HasMoved n h flit left) → All OneFlit h.parcels → m.first.tail ≡ []
first_one n h flit left m all = All-head OneFlit m.first (drop 1 h.parcels) (subst (All OneFlit) m.was all)

others_one : (n : Net) (h : Note) (flit : ℕ) (left : List ℕ) (m : HasMoved n h flit left) → All OneFlit h.parcels → All OneFlit (drop 1 h.parcels)
others_one n h flit left m all = All-tail OneFlit m.first (drop 1 h.parcels) (subst (All OneFlit) m.was all)

single_forward : (n : AdaptiveNet) (s : NetState) (x y flit : ℕ) → IsAdaptiveNet n → Words n.frame s → HasTracks n s → CanAllocate n (s.lines x) (s.lines y) x y flit
    → AreSingle s → AreSingle (after n.frame s (ForwardHead x y flit))
single_forward n s x y flit net w r c a =
    let g = given n net s w r.course r.stamp r.now r.are x y flit c in
    let h : Note = s.notes x in
    let k : Parcel = g.moves.first in
    let left : List ℕ = (s.lines x).flits ++ h.owed in
    let one : k.tail ≡ [] = first_one n.frame h flit left g.moves (a x).tails in
    let line : NetLine = record (s.lines x) { latch = None } in
    let line_too : NetLine = forwarded n.frame x flit (s.lines y) in
    let note_too : Note = record (s.notes y) { parcels = (s.notes y).parcels ++ take 1 h.parcels; owed = first_tail h.parcels } in
    let last : n.frame.is_tail flit ≡ true = ap n.frame.is_tail (sym g.moves.head) ∙ (g.moves.parcel.alone ∙ ap has_no_flit one) in
    let more : (s.notes y).parcels ++ take 1 h.parcels ≡ (s.notes y).parcels ++ k ∷ [] = ap (λ (ks : List Parcel). (s.notes y).parcels ++ ks) g.moves.one in
    kept_both (λ z l h. IsSingle l h) s (after n.frame s (ForwardHead x y flit)) x line (popped h) y line_too note_too
    (changed_both s x line (popped h) y line_too note_too g.apart)
    (record {
      owner = (a x).owner;
      rest = (a x).rest;
      awaited = g.moves.tail ∙ one;
      owed = (a x).owed;
      tails = others_one n.frame h flit left g.moves (a x).tails;
    })
    (record {
      owner = ap (λ (b : Bool). cond b None (Some x)) last;
      rest = (a y).rest;
      awaited = (a y).awaited;
      owed = g.moves.tail ∙ one;
      tails = subst (All OneFlit) (sym more) (All-push OneFlit (s.notes y).parcels k (a y).tails one);
    })
    (λ z d e. a z)

pub single_kept : (n : AdaptiveNet) (s : NetState) (e : NetEvent) → IsAdaptiveNet n → Words n.frame s → HasTracks n s → CanOccur n s.lines e → HasLength 1 e
    → AreSingle s → AreSingle (after n.frame s e)
single_kept n s (InjectHead x k) net w r c long a =
    let g : Note = s.notes x in
    let one : k.tail ≡ [] = only_one k.head k.tail long in
    let l : NetLine = record (put k.head (s.lines x)) { rest = k.tail } in
    let h : Note = record g { parcels = g.parcels ++ k ∷ []; owed = k.tail; sent = g.sent ++ k ∷ [] } in
    kept (λ z l h. IsSingle l h) s (after n.frame s (InjectHead x k)) x l h (changed s x l h)
    (record { owner = (a x).owner; rest = one; awaited = (a x).awaited; owed = one; tails = All-push OneFlit g.parcels k (a x).tails one })
    (λ z d. a z)
single_kept n s (InjectRest x flit more) net w r c one a = let bad : flit ∷ more ≡ [] = sym c.course ∙ (a x).rest in absurd (cc)
single_kept n s (Latch x flit more) net w r c one a =
    let l : NetLine = record (taken more (s.lines x)) { latch = Some flit } in
    let b = a x in
    kept (λ z l h. IsSingle l h) s (after n.frame s (Latch x flit more)) x l (s.notes x) (changed_line s x l)
    (record { owner = b.owner; rest = b.rest; awaited = b.awaited; owed = b.owed; tails = b.tails }) (λ z d. a z)
single_kept n s (ForwardHead x y flit) net w r c one a = single_forward n s x y flit net w r c a
single_kept n s (ForwardRest x y flit) net w r c one a = let bad : Some x ≡ None = sym c.owned ∙ (a y).owner in absurd (cc)
single_kept n s (AcceptHead x flit more) net w r c one a =
    let g : Note = s.notes x in
    let p = moved n.frame g flit (more ++ g.owed) (w.parcels x) (w.awaited x) c.head (ejected n.frame s x flit more true w c) in
    let l : NetLine = accepted n.frame flit more (s.lines x) in
    let h : Note = record (popped g) { begun = g.begun ++ take 1 g.parcels } in
    kept (λ z l h. IsSingle l h) s (after n.frame s (AcceptHead x flit more)) x l h (changed s x l h)
    (record {
      owner = (a x).owner;
      rest = (a x).rest;
      awaited = p.tail ∙ first_one n.frame g flit (more ++ g.owed) p (a x).tails;
      owed = (a x).owed;
      tails = others_one n.frame g flit (more ++ g.owed) p (a x).tails;
    })
    (λ z d. a z)
single_kept n s (AcceptRest x flit more) net w r c one a =
    let l : NetLine = accepted n.frame flit more (s.lines x) in
    let h : Note = record (s.notes x) { awaited = drop 1 (s.notes x).awaited } in
    let b = a x in
    kept (λ z l h. IsSingle l h) s (after n.frame s (AcceptRest x flit more)) x l h (changed s x l h)
    (record { owner = b.owner; rest = b.rest; awaited = drop_none (s.notes x).awaited b.awaited; owed = b.owed; tails = b.tails }) (λ z d. a z)
single_kept n s (Return x) net w r c one a =
    let l : NetLine = record (s.lines x) { held = (s.lines x).held + 1; returning = (s.lines x).returning - 1 } in
    let b = a x in
    kept (λ z l h. IsSingle l h) s (after n.frame s (Return x)) x l (s.notes x) (changed_line s x l)
    (record { owner = b.owner; rest = b.rest; awaited = b.awaited; owed = b.owed; tails = b.tails }) (λ z d. a z)

-- what holds after events of packets of one flit
pub record Stays (n : AdaptiveNet) (s : NetState) : Type 0 where
  pub words : Words n.frame s
  pub tracks : HasTracks n s
  pub single : AreSingle s

pub stays : (n : AdaptiveNet) (s : NetState) (es : List NetEvent) → IsAdaptiveNet n → All (HasLength 1) es → CanAllOccur n s es → Stays n s → Stays n (after_all n.frame s es)
stays n s [] net one c a = a
stays n s (e ∷ es) net one c a =
    stays n (after n.frame s e) es net (All-tail (HasLength 1) e es one) c.1 (record {
      words = words_kept n s e net a.words a.tracks c.0;
      tracks = tracks_kept n s e net a.words a.tracks c.0;
      single = single_kept n s e net a.words a.tracks c.0 (All-head (HasLength 1) e es one) a.single;
    })

pub at_first : (n : AdaptiveNet) → Stays n (empty n.frame)
at_first n = record {
  words = words_empty n.frame;
  tracks = tracks_empty n;
  single = λ z. record { owner = refl; rest = refl; awaited = refl; owed = refl; tails = All-nil OneFlit };
}
