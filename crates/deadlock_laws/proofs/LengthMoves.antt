-- Flits move into a channel, and from a channel into the next, by events of packets of one length.
use Rattle.std.proofs.Common.{◌≡◌, ◌≢◌, ℕ, suc, ◌+◌, ◌-◌, ◌<◌, ◌≤◌, false, List, [], ◌∷◌, ◌++◌, length, Option, Some, None, refl, sym, ◌∙◌, ap}
use Rattle.std.proofs.Common.{subst, arith, All}
use Rattle.std.proofs.lemmas.List.Elements.{All-nil, All-cons, All-head, All-tail}
use Rattle.wormhole.specs.Net.{Net}
use Rattle.wormhole.specs.State.{NetLine, NetState}
use Rattle.wormhole.specs.Events.{NetEvent, Latch, Return, CanHappen, CanAllHappen, after, after_all, put}
use Rattle.wormhole.specs.Events.{taken, unlatched, credited}
use Rattle.wormhole.proofs.Changes.{update_same, update_other}
use Rattle.deadlock_laws.specs.Lengths.{HasLength}
use Rattle.deadlock_laws.proofs.Lines.{made, line, put_behind}

-- events, with packets of so many flits alone, lead from a state to one of which this holds
pub record Leads (n : Net) (size : ℕ) (s : NetState) (P : NetState → Type 0) : Type 0 where
  pub events : List NetEvent
  pub may : CanAllHappen n s events
  pub lengths : All (HasLength size) events
  pub there : P (after_all n s events)

-- a channel has changed, and no other
pub record Moved (s : NetState) (y : ℕ) (l : NetLine) (t : NetState) : Type 0 where
  pub here : t.lines y ≡ l
  pub others : (z : ℕ) → z ≢ y → t.lines z ≡ s.lines z

-- two have
pub record Moved2 (s : NetState) (p y : ℕ) (l m : NetLine) (t : NetState) : Type 0 where
  pub from : t.lines p ≡ l
  pub into : t.lines y ≡ m
  pub others : (z : ℕ) → z ≢ p → z ≢ y → t.lines z ≡ s.lines z

module _ (n : Net) (deep : 0 < n.depth) (size : ℕ) where
  pub at_once : (s : NetState) (P : NetState → Type 0) → P s → Leads n size s P
  at_once s P p = record { events = []; may = tt; lengths = All-nil (HasLength size); there = p }

  pub first : (s : NetState) (P : NetState → Type 0) (e : NetEvent) → HasLength size e → CanHappen n s.lines e → Leads n size (after n s e) P → Leads n size s P
  first s P e h c l = record { events = e ∷ l.events; may = (c, l.may); lengths = All-cons (HasLength size) e l.events h l.lengths; there = l.there }

  pub and_then : (s : NetState) (P Q : NetState → Type 0) → Leads n size s P → ((t : NetState) → P t → Leads n size t Q) → Leads n size s Q
  and_then s P Q l on = go l.events s l.may l.lengths l.there
    where
      go : (es : List NetEvent) (r : NetState) → CanAllHappen n r es → All (HasLength size) es → P (after_all n r es) → Leads n size r Q
      go [] r c a p = on r p
      go (e ∷ es) r c a p = first r Q e (All-head (HasLength size) e es a) c.0 (go es (after n r e) c.1 (All-tail (HasLength size) e es a) p)

  -- one channel has moved on from where it had moved
  moved_on : (s t u : NetState) (y : ℕ) (l m : NetLine) → Moved s y l t → Moved t y m u → Moved s y m u
  moved_on s t u y l m a b = record { here = b.here; others = λ z d. b.others z d ∙ a.others z d }

  -- a flit put into a channel comes to rest
  pub settles : (s : NetState) (y w : ℕ) (ws : List ℕ) (o : Option ℕ) (r : List ℕ) → y < n.channels → n.ejects y ≡ false
      → length ws ≤ n.depth → s.lines y ≡ put w (line n ws o r) → Leads n size s (Moved s y (line n (ws ++ w ∷ []) o r))
  settles s y w (v ∷ vs) o r within input room is =
      at_once s _ (record { here = is ∙ put_behind n w v vs o r room; others = λ z d. refl })
  settles s y w [] o r within input room is =
      let one = Latch y w [] in
      let s1 = after n s one in
      let here1 : s1.lines y ≡ made [] (n.depth - 1) 1 (Some w) o r =
      update_same s.lines y _ ∙ ap (λ (l : NetLine). record (taken [] l) { latch = Some w }) is in
      let here2 : (after n s1 (Return y)).lines y ≡ line n (w ∷ []) o r =
      update_same s1.lines y _ ∙ (ap credited here1 ∙ ap (λ h. made [] h 0 (Some w) o r) (omega arith)) in
      first s _ one tt (record { here = within; input = input; free = ap (λ (l : NetLine). l.latch) is; first = ap (λ (l : NetLine). l.flits) is })
      (first s1 _ (Return y) tt (record { here = within; returns = subst (λ (l : NetLine). 0 < l.returning) (sym here1) (omega arith) })
      (at_once _ _ (record { here = here2; others = λ z d. update_other s1.lines y _ z d ∙ update_other s.lines y _ z d })))

  -- the next flit comes into the latch
  pub pulls : (s : NetState) (p w : ℕ) (ws : List ℕ) (o : Option ℕ) (r : List ℕ) → p < n.channels → n.ejects p ≡ false
      → length ws ≤ n.depth → s.lines p ≡ unlatched (line n (w ∷ ws) o r) → Leads n size s (Moved s p (line n ws o r))
  pulls s p w [] o r within input room is =
      at_once s _ (record { here = is ∙ ap (λ h. made [] h 0 None o r) (omega arith); others = λ z d. refl })
  pulls s p w (v ∷ vs) o r within input room is =
      let one = Latch p v vs in
      let s1 = after n s one in
      let here1 : s1.lines p ≡ made vs (n.depth - length (v ∷ vs)) 1 (Some v) o r =
      update_same s.lines p _ ∙ ap (λ (l : NetLine). record (taken vs l) { latch = Some v }) is in
      let here2 : (after n s1 (Return p)).lines p ≡ line n (v ∷ vs) o r =
      update_same s1.lines p _ ∙ (ap credited here1 ∙ ap (λ h. made vs h 0 (Some v) o r) (back room)) in
      first s _ one tt (record { here = within; input = input; free = ap (λ (l : NetLine). l.latch) is; first = ap (λ (l : NetLine). l.flits) is })
      (first s1 _ (Return p) tt (record { here = within; returns = subst (λ (l : NetLine). 0 < l.returning) (sym here1) (omega arith) })
      (at_once _ _ (record { here = here2; others = λ z d. update_other s1.lines p _ z d ∙ update_other s.lines p _ z d })))
    where
      back : suc (length vs) ≤ n.depth → n.depth - suc (length vs) + 1 ≡ n.depth - length vs
      back h = omega arith

  -- a flit has been put from an input into an output: both come to rest
  pub rests : (s t : NetState) (p y w : ℕ) (ws ys : List ℕ) (o q : Option ℕ) (r v : List ℕ) → p < n.channels → y < n.channels → n.ejects p ≡ false → n.ejects y ≡ false
      → p ≢ y → length ws ≤ n.depth → length ys ≤ n.depth
      → t.lines p ≡ unlatched (line n (w ∷ ws) o r) → t.lines y ≡ put w (line n ys q v) → ((z : ℕ) → z ≢ p → z ≢ y → t.lines z ≡ s.lines z)
      → Leads n size t (Moved2 s p y (line n ws o r) (line n (ys ++ w ∷ []) q v))
  rests s t p y w ws ys o q r v low within input output apart short room from into others =
      and_then t _ _ (pulls t p w ws o r low input short from) (λ u a.
      and_then u _ _ (settles u y w ys q v within output room (a.others y (λ e. apart (sym e)) ∙ into)) (λ x b.
      at_once x _ (record {
        from = b.others p apart ∙ a.here;
        into = b.here;
        others = λ z d e. b.others z e ∙ (a.others z d ∙ others z d e);
      })))
