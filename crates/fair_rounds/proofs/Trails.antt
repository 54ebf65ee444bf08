-- Which packet comes out of each channel: an output goes into the next channel of the route of the packet that comes
-- out of its owner.
use Rattle.std.proofs.Common.{◌≡◌, ◌≢◌, ℕ, ◌+◌, ◌-◌, ◌≤◌, suc, Bool, true, false, List, [], ◌∷◌, ◌++◌, length, take, drop, Some, None, sym, ap, ◌∙◌, refl, arith, subst}
use Rattle.wormhole.specs.Net.{Net, IsNet, IsOn, Parcel, net_flits}
use Rattle.wormhole.specs.State.{NetLine, Note, NetState, update, empty}
use Rattle.wormhole.specs.Words.{Words}
use Rattle.wormhole.specs.Routes.{Routes}
use Rattle.wormhole.specs.Weight.{beyond}
use Rattle.wormhole.specs.Events.{NetEvent, InjectHead, InjectRest, Latch, ForwardHead, ForwardRest, AcceptHead, AcceptRest, Return, put, taken, forwarded}
use Rattle.wormhole.specs.Events.{accepted, after, CanHappen, first_tail}
use Rattle.wormhole.proofs.Changes.{update_same, update_other, IsChangedAt, AreChangedAt, kept, kept_both, changed, changed_line, changed_both}
use Rattle.wormhole.proofs.Heads.{in_line_is, heads, leads}
use Rattle.wormhole.proofs.Quiet.{forwarded_owner}
use Rattle.wormhole.proofs.RouteSteps.{has_way}

-- the first and the last of some packets, or another where there is none
abbrev pub first_or : Parcel → List Parcel → Parcel
first_or d [] = d
first_or d (k ∷ ks) = k

abbrev pub last_or : Parcel → List Parcel → Parcel
last_or d [] = d
last_or d (k ∷ ks) = last_or k ks

last_push : (d k : Parcel) (ks : List Parcel) → last_or d (ks ++ k ∷ []) ≡ k
last_push d k [] = refl
last_push d k (j ∷ ks) = last_push j k ks

last_dropped : (d : Parcel) (ks : List Parcel) → last_or (first_or d ks) (drop 1 ks) ≡ last_or d ks
last_dropped d [] = refl
last_dropped d (k ∷ ks) = refl

abbrev pub way : Net → Parcel → List ℕ
way n k = n.route k.source k.destination

-- a packet goes by way of a channel
pub record IsCourse (n : Net) (x : ℕ) (k : Parcel) : Type 0 where
  pub joined : n.joins k.source k.destination ≡ true
  pub on : IsOn x (way n k)

-- the packet that goes into y last is the one that comes out of x, and y is the next channel of its route
pub record IsTrail (n : Net) (x y : ℕ) (out : Parcel) (into : Parcel) : Type 0 where
  pub same : into ≡ out
  pub next : beyond x (way n out) ≡ suc (beyond y (way n out))

-- the packet that comes out of each channel
pub record Trails (n : Net) (s : NetState) (cur : ℕ → Parcel) : Type 0 where
  pub course : (x : ℕ) → (s.notes x).awaited ≢ [] → IsCourse n x (cur x)
  pub trail : (x y : ℕ) → (s.lines y).owner ≡ Some x → IsTrail n x y (cur x) (last_or (cur y) (s.notes y).parcels)
  pub owed : (x : ℕ) → length (s.notes x).owed ≤ length (net_flits (last_or (cur x) (s.notes x).parcels))

pub trails_empty : (n : Net) (k : Parcel) → Trails n (empty n) (λ x. k)
trails_empty n k = record { course = λ x some. absurd (some refl); trail = λ x y h. absurd (cc); owed = λ x. omega arith }

-- a fact of a channel's tip
abbrev tip : NetState → (ℕ → Parcel) → ℕ → Parcel
tip s cur x = last_or (cur x) (s.notes x).parcels

-- one channel changes: the packet that comes out of it may be another, where it owns nothing
one : (n : Net) (s t : NetState) (cur c : ℕ → Parcel) (x : ℕ) (l : NetLine) (k : Note) → Trails n s cur → IsChangedAt s t x l k
    → ((z : ℕ) → z ≢ x → c z ≡ cur z)
    → (k.awaited ≢ [] → IsCourse n x (c x)) → length k.owed ≤ length (net_flits (last_or (c x) k.parcels))
    → ((a : ℕ) → l.owner ≡ Some a → (last_or (c x) k.parcels ≡ tip s cur x) × ((s.lines x).owner ≡ Some a))
    → ((a y : ℕ) → (s.lines y).owner ≡ Some a → c a ≡ cur a)
    → Trails n t c
one n s t cur c x l k at ch same course owed owner owns = record {
  course = kept (λ z m h. h.awaited ≢ [] → IsCourse n z (c z)) s t x l k ch course
      (λ z other some. subst (IsCourse n z) (sym (same z other)) (at.course z some));
  owed = kept (λ z m h. length h.owed ≤ length (net_flits (last_or (c z) h.parcels))) s t x l k ch owed
      (λ z other. subst (λ (p : Parcel). length (s.notes z).owed ≤ length (net_flits (last_or p (s.notes z).parcels))) (sym (same z other)) (at.owed z));
  trail = λ a y. kept (λ z m h. m.owner ≡ Some a → IsTrail n a z (c a) (last_or (c z) h.parcels)) s t x l k ch
      (λ e. let o = owner a e in
      subst (λ (p : Parcel). IsTrail n a x p (last_or (c x) k.parcels)) (sym (owns a x o.1))
      (subst (λ (p : Parcel). IsTrail n a x (cur a) p) (sym o.0) (at.trail a x o.1)))
      (λ z other e. subst (λ (p : Parcel). IsTrail n a z p (last_or (c z) (s.notes z).parcels)) (sym (owns a z e))
      (subst (λ (p : Parcel). IsTrail n a z (cur a) (last_or p (s.notes z).parcels)) (sym (same z other)) (at.trail a z e)))
      y;
}

-- a flit goes on from x to y: the packet that comes out of x may be another where x owned nothing
two : (n : Net) (s t : NetState) (cur c : ℕ → Parcel) (x : ℕ) (l : NetLine) (k : Note) (y : ℕ) (m : NetLine) (h : Note) → Trails n s cur
    → AreChangedAt s t x l k y m h → x ≢ y → ((z : ℕ) → z ≢ x → c z ≡ cur z)
    → (k.awaited ≢ [] → IsCourse n x (c x)) → (h.awaited ≡ (s.notes y).awaited)
    → length k.owed ≤ length (net_flits (last_or (c x) k.parcels)) → length h.owed ≤ length (net_flits (last_or (cur y) h.parcels))
    → (last_or (c x) k.parcels ≡ tip s cur x) → l.owner ≡ (s.lines x).owner
    → ((a : ℕ) → m.owner ≡ Some a → (a ≡ x) × IsTrail n x y (c x) (last_or (cur y) h.parcels))
    → ((a z : ℕ) → z ≢ y → (s.lines z).owner ≡ Some a → c a ≡ cur a)
    → Trails n t c
two n s t cur c x l k y m h at ch apart same course waits owed owed_too tips owner goes owns =
    let now : c y ≡ cur y = same y (λ e. apart (sym e)) in
    record {
      course = kept_both (λ z m h. h.awaited ≢ [] → IsCourse n z (c z)) s t x l k y m h ch course
          (λ some. subst (IsCourse n y) (sym now) (at.course y (λ none. some (waits ∙ none))))
          (λ z other more some. subst (IsCourse n z) (sym (same z other)) (at.course z some));
      owed = kept_both (λ z m h. length h.owed ≤ length (net_flits (last_or (c z) h.parcels))) s t x l k y m h ch owed
          (subst (λ (p : Parcel). length h.owed ≤ length (net_flits (last_or p h.parcels))) (sym now) owed_too)
          (λ z other more. subst (λ (p : Parcel). length (s.notes z).owed ≤ length (net_flits (last_or p (s.notes z).parcels))) (sym (same z other))
          (at.owed z));
      trail = λ a b. kept_both (λ z m h. m.owner ≡ Some a → IsTrail n a z (c a) (last_or (c z) h.parcels)) s t x l k y m h ch
          (λ e. let was : (s.lines x).owner ≡ Some a = sym owner ∙ e in
          subst (λ (p : Parcel). IsTrail n a x p (last_or (c x) k.parcels)) (sym (owns a x apart was))
          (subst (λ (p : Parcel). IsTrail n a x (cur a) p) (sym tips) (at.trail a x was)))
          (λ e. let g = goes a e in
          subst (λ (z : ℕ). IsTrail n z y (c z) (last_or (c y) h.parcels)) (sym g.0)
          (subst (λ (p : Parcel). IsTrail n x y (c x) (last_or p h.parcels)) (sym now) g.1))
          (λ z other more e. subst (λ (p : Parcel). IsTrail n a z p (last_or (c z) (s.notes z).parcels)) (sym (owns a z more e))
          (subst (λ (p : Parcel). IsTrail n a z (cur a) (last_or p (s.notes z).parcels)) (sym (same z other)) (at.trail a z e)))
          b;
    }

-- the packet that comes out of each channel after an event: a head is the first flit of another
pub after_cur : NetState → (ℕ → Parcel) → NetEvent → ℕ → Parcel
after_cur s cur (ForwardHead x y f) = update cur x (first_or (cur x) (s.notes x).parcels)
after_cur s cur (AcceptHead x f more) = update cur x (first_or (cur x) (s.notes x).parcels)
after_cur s cur e = cur

shorter : (xs : List ℕ) → length (drop 1 xs) ≤ length xs
shorter [] = omega arith
shorter (x ∷ xs) = omega arith

dropped_some : (xs : List ℕ) → drop 1 xs ≢ [] → xs ≢ []
dropped_some xs some none = some (ap (drop 1) none)

module _ (n : Net) (s : NetState) (net : IsNet n) (words : Words n s) (routes : Routes n s) (cur : ℕ → Parcel) (at : Trails n s cur) where
  -- an event of one channel that leaves what comes out of it, its packets' last and its owner
  still : (t : NetState) (x : ℕ) (l : NetLine) (k : Note) → IsChangedAt s t x l k → (k.awaited ≢ [] → (s.notes x).awaited ≢ [])
      → length k.owed ≤ length (net_flits (last_or (cur x) k.parcels))
      → ((a : ℕ) → l.owner ≡ Some a → (last_or (cur x) k.parcels ≡ tip s cur x) × ((s.lines x).owner ≡ Some a)) → Trails n t cur
  still t x l k ch waits owed owner = one n s t cur cur x l k at ch (λ z other. refl) (λ some. at.course x (waits some)) owed owner (λ a y e. refl)

  pub trails_kept : (e : NetEvent) → CanHappen n s.lines e → (c : ℕ → Parcel) × Trails n (after n s e) c
  trails_kept (InjectHead x k) may =
      let l : NetLine = record (put k.head (s.lines x)) { rest = k.tail } in
      let h : Note = record (s.notes x) { parcels = (s.notes x).parcels ++ k ∷ []; owed = k.tail; sent = (s.notes x).sent ++ k ∷ [] } in
      let last : last_or (cur x) h.parcels ≡ k = last_push (cur x) k (s.notes x).parcels in (
        cur,
        still (after n s (InjectHead x k)) x l h (changed s x l h) (λ some. some)
            (subst (λ (p : Parcel). length k.tail ≤ length (net_flits p)) (sym last) (omega arith))
            (λ a e. let no : ◌≡◌ {A = Bool} true false = sym may.injects ∙ (words.held a x e).output in absurd (cc)),
      )
  trails_kept (InjectRest x f more) may =
      let l : NetLine = record (put f (s.lines x)) { rest = more } in
      let h : Note = record (s.notes x) { owed = more } in
      let size = ap length (words.senders x may.injects ∙ may.course) in
      let small = at.owed x in
      (cur, still (after n s (InjectRest x f more)) x l h (changed s x l h) (λ some. some) (omega (arith, size, small)) (λ a e. (refl, e)))
  trails_kept (Latch x f more) may =
      let l : NetLine = record (taken more (s.lines x)) { latch = Some f } in
      (cur, still (after n s (Latch x f more)) x l (s.notes x) (changed_line s x l) (λ some. some) (at.owed x) (λ a e. (refl, e)))
  trails_kept (ForwardHead x y f) may =
      let head = heads n s words routes x f (s.lines x).flits may.head (in_line_is s x (Some f) (s.lines x).flits may.full refl) in
      let on = leads n s words net x y f may.input head may.output in
      let k : Parcel = head.parcel in
      let c : ℕ → Parcel = update cur x k in
      let here : c x ≡ k = update_same cur x k in
      let first : first_or (cur x) (s.notes x).parcels ≡ k = ap (first_or (cur x)) head.parcels in
      let apart : x ≢ y = λ e. let same = ap n.number e in let rises = on.rises in omega (arith, same, rises) in
      let l : NetLine = record (s.lines x) { latch = None } in
      let h : Note = record (s.notes x) { parcels = drop 1 (s.notes x).parcels; awaited = first_tail (s.notes x).parcels } in
      let m : NetLine = forwarded n x f (s.lines y) in
      let i : Note = record (s.notes y) { parcels = (s.notes y).parcels ++ take 1 (s.notes x).parcels; owed = first_tail (s.notes x).parcels } in
      let tail : first_tail (s.notes x).parcels ≡ k.tail = ap first_tail head.parcels in
      let last : last_or (cur y) i.parcels ≡ k =
      ap (λ ks. last_or (cur y) ((s.notes y).parcels ++ take 1 ks)) head.parcels ∙ last_push (cur y) k (s.notes y).parcels in
      let tips : last_or (c x) h.parcels ≡ tip s cur x =
      ap (λ p. last_or p h.parcels) (here ∙ sym first) ∙ last_dropped (cur x) (s.notes x).parcels in (
        c,
        two n s (after n s (ForwardHead x y f)) cur c x l h y m i at (changed_both s x l h y m i apart) apart
            (λ z other. update_other cur x k z other)
            (λ some. subst (IsCourse n x) (sym here) (record { joined = head.is.joined; on = head.on }))
            refl
            (subst (λ (p : Parcel). length (s.notes x).owed ≤ length (net_flits p)) (sym tips) (at.owed x))
            (subst (λ (p : Parcel). length (first_tail (s.notes x).parcels) ≤ length (net_flits p)) (sym last)
            (subst (λ (z : List ℕ). length z ≤ length (net_flits k)) (sym tail) (omega arith)))
            tips refl
            (λ a e. (forwarded_owner a x (n.is_tail f) e, record { same = last ∙ sym here; next = subst (λ (p : Parcel). beyond x (way n p) ≡ suc (beyond y (way n p))) (sym here) on.fewer }))
            (λ a z other e. update_other cur x k a (λ is. (words.held a z e).more (subst (λ (u : ℕ). (s.notes u).awaited ≡ []) (sym is) (has_way n s x y f net words routes may).moves.none))),
      )
  trails_kept (ForwardRest x y f) may =
      let rises = routes.rising x y may.owned in
      let apart : x ≢ y = λ e. let same = ap n.number e in omega (arith, same, rises) in
      let l : NetLine = record (s.lines x) { latch = None } in
      let h : Note = record (s.notes x) { awaited = drop 1 (s.notes x).awaited } in
      let m : NetLine = forwarded n x f (s.lines y) in
      let i : Note = record (s.notes y) { owed = drop 1 (s.notes y).owed } in
      let less = shorter (s.notes y).owed in
      let small = at.owed y in (
        cur,
        two n s (after n s (ForwardRest x y f)) cur cur x l h y m i at (changed_both s x l h y m i apart) apart (λ z other. refl)
            (λ some. at.course x (dropped_some (s.notes x).awaited some)) refl (at.owed x) (omega (arith, less, small)) refl refl
            (λ a e. (forwarded_owner a x (n.is_tail f) e, at.trail x y may.owned)) (λ a z other e. refl),
      )
  trails_kept (AcceptHead x f more) may =
      let head = heads n s words routes x f more may.head (in_line_is s x None (f ∷ more) (words.unlatched x may.ejects) may.first) in
      let k : Parcel = head.parcel in
      let c : ℕ → Parcel = update cur x k in
      let here : c x ≡ k = update_same cur x k in
      let first : first_or (cur x) (s.notes x).parcels ≡ k = ap (first_or (cur x)) head.parcels in
      let l : NetLine = accepted n f more (s.lines x) in
      let h : Note = record (s.notes x)
      { parcels = drop 1 (s.notes x).parcels; awaited = first_tail (s.notes x).parcels; begun = (s.notes x).begun ++ take 1 (s.notes x).parcels } in
      let tips : last_or (c x) h.parcels ≡ tip s cur x =
      ap (λ p. last_or p h.parcels) (here ∙ sym first) ∙ last_dropped (cur x) (s.notes x).parcels in (
        c,
        one n s (after n s (AcceptHead x f more)) cur c x l h at (changed s x l h) (λ z other. update_other cur x k z other)
            (λ some. subst (IsCourse n x) (sym here) (record { joined = head.is.joined; on = head.on }))
            (subst (λ (p : Parcel). length (s.notes x).owed ≤ length (net_flits p)) (sym tips) (at.owed x))
            (λ a e. (tips, e))
            (λ a y e. update_other cur x k a (λ is.
            let no : ◌≡◌ {A = Bool} true false = sym may.ejects ∙ (ap n.ejects (sym is) ∙ (words.held a y e).input) in absurd (cc))),
      )
  trails_kept (AcceptRest x f more) may =
      let l : NetLine = accepted n f more (s.lines x) in
      let h : Note = record (s.notes x) { awaited = drop 1 (s.notes x).awaited } in
      (cur, still (after n s (AcceptRest x f more)) x l h (changed s x l h) (λ some. dropped_some (s.notes x).awaited some) (at.owed x) (λ a e. (refl, e)))
  trails_kept (Return x) may =
      let l : NetLine = record (s.lines x) { held = (s.lines x).held + 1; returning = (s.lines x).returning - 1 } in
      (cur, still (after n s (Return x)) x l (s.notes x) (changed_line s x l) (λ some. some) (at.owed x) (λ a e. (refl, e)))
