-- Packets of one flit move in a network whose routers choose: into a channel, from a channel into
-- a choice, and along a way.
use Rattle.std.proofs.Common.{◌≡◌, ◌≢◌, ◌⊎◌, inl, inr, ⊎_elim, ℕ, zero, suc, ◌+◌, ◌-◌, ◌<◌, ◌≤◌, Bool, true, false, List, [], ◌∷◌, Some, refl, sym, ◌∙◌, ap}
use Rattle.std.proofs.Common.{subst, arith}
use Rattle.wormhole.specs.Net.{Net, Parcel, IsParcel}
use Rattle.wormhole.specs.State.{NetLine, NetState, update, empty_line, in_line}
use Rattle.wormhole.specs.Events.{NetEvent, InjectHead, Latch, ForwardHead, Return, after, after_all, put}
use Rattle.wormhole.specs.Events.{forwarded, unlatched}
use Rattle.wormhole.proofs.Changes.{update_same, update_other}
use Rattle.network_judge.proofs.Lines.{line_of, full, made, no_owner, no_rest, has_credit, forwarded_is, injected_is, put_more, put_behind}
use Rattle.network_judge.proofs.Lines.{come_back, left, Stands, restand, as_it_was}
use Rattle.network_adaptive.specs.Choices.{AdaptiveNet, IsAdaptiveNet, IsChoice, Comes, BeginsIn, ByChoice}
use Rattle.network_adaptive.specs.Flow.{CanOccur, CanAllOccur}
use Rattle.deadlock_laws.specs.Fillings.{IsWayTo, enters_behind}

-- events lead from a state to one of which this holds
pub record Leads (n : AdaptiveNet) (s : NetState) (P : NetState → Type 0) : Type 0 where
  pub events : List NetEvent
  pub may : CanAllOccur n s events
  pub there : P (after_all n.frame s events)

pub at_once : (n : AdaptiveNet) (s : NetState) (P : NetState → Type 0) → P s → Leads n s P
at_once n s P p = record { events = []; may = tt; there = p }

pub first : (n : AdaptiveNet) (s : NetState) (P : NetState → Type 0) (e : NetEvent) → CanOccur n s.lines e → Leads n (after n.frame s e) P → Leads n s P
first n s P e c l = record { events = e ∷ l.events; may = (c, l.may); there = l.there }

pub and_then : (n : AdaptiveNet) (s : NetState) (P Q : NetState → Type 0) → Leads n s P → ((t : NetState) → P t → Leads n t Q) → Leads n s Q
and_then n s P Q l on = go l.events s l.may l.there
  where
    go : (es : List NetEvent) (r : NetState) → CanAllOccur n r es → P (after_all n.frame r es) → Leads n r Q
    go [] r c p = on r p
    go (e ∷ es) r c p = first n r Q e c.0 (go es (after n.frame r e) c.1 p)

-- packets come where a way leads
pub comes : (n : AdaptiveNet) (j y : ℕ) (xs : List ℕ) → IsWayTo n j y xs → Comes n j y
comes n j y [] way = BeginsIn y way
comes n j y (x ∷ xs) way = ByChoice x y (comes n j x xs way.1) way.0

-- and to a receiver
pub receiver : (n : AdaptiveNet) → IsAdaptiveNet n → (j y : ℕ) (xs : List ℕ) → IsWayTo n j y xs → n.frame.ejects j ≡ true
receiver n is j y [] way = is.receivers y j way
receiver n is j y (x ∷ xs) way = receiver n is j x xs way.1

-- each of some channels is empty, and none of them is channel y
abbrev pub AreEmpty : Net → (ℕ → NetLine) → ℕ → List ℕ → Type 0
AreEmpty n g y [] = Unit {0}
AreEmpty n g y (x ∷ xs) = (g x ≡ empty_line n) × (x ≢ y) × AreEmpty n g y xs

module _ (n : AdaptiveNet) (is : IsAdaptiveNet n) (deep : 0 < n.frame.depth) (w : ℕ) (head : n.frame.is_head w ≡ true) (tail : n.frame.is_tail w ≡ true)
    (j : ℕ) (told : n.frame.told w ≡ j) where
  abbrev m : Net
  m = n.frame

  -- a packet put into a channel settles: into the latch, if that is empty
  pub settles : (s : NetState) (g : ℕ → NetLine) (y : ℕ) (e : Bool) (c : ℕ) → y < m.channels → m.ejects y ≡ e → c < full m e
      → Stands s (update g y (put w (line_of m e c w)))
      → Leads n s (λ t. Stands t (update g y (line_of m e (suc c) w)))
  settles s g y true c within ends room st =
      at_once n s _ (λ z. st z ∙ restand g g y _ _ (λ a d. refl) (put_more m c w room) z)
  settles s g y false (suc c) within ends room st =
      at_once n s _ (λ z. st z ∙ restand g g y _ _ (λ a d. refl) (put_behind m c w room) z)
  settles s g y false zero within ends room st =
      let here : s.lines y ≡ put w (line_of m false 0 w) = st y ∙ update_same g y _ in
      let other : (z : ℕ) → z ≢ y → s.lines z ≡ g z = λ z d. st z ∙ update_other g y _ z d in
      let one = Latch y w [] in
      let s1 = after m s one in
      let st1 : Stands s1 (update g y (made [] (m.depth - 1) 1 (Some w))) =
      restand s.lines g y _ _ other (ap (λ (l : NetLine). record l { flits = []; returning = l.returning + 1; latch = Some w }) here) in
      let here1 : s1.lines y ≡ made [] (m.depth - 1) 1 (Some w) = st1 y ∙ update_same g y _ in
      let other1 : (z : ℕ) → z ≢ y → s1.lines z ≡ g z = λ z d. st1 z ∙ update_other g y _ z d in
      let st2 : Stands (after m s1 (Return y)) (update g y (line_of m false 1 w)) =
      restand s1.lines g y _ _ other1 (ap (λ (l : NetLine). record l { held = l.held + 1; returning = l.returning - 1 }) here1 ∙ come_back m w deep) in
      first n s _ one (record { here = within; input = ends; free = ap (λ (l : NetLine). l.latch) here; first = ap (λ (l : NetLine). l.flits) here })
      (first n s1 _ (Return y) (record { here = within; returns = subst (λ (l : NetLine). 0 < l.returning) (sym here1) (omega arith) })
      (at_once n _ _ st2))

  -- a sender puts a packet
  pub enters : (s : NetState) (g : ℕ → NetLine) (x : ℕ) (e : Bool) (c : ℕ) → x < m.channels → m.injects x ≡ true → m.ejects x ≡ e
      → m.joins x j ≡ true → g x ≡ line_of m e c w → c < full m e
      → Stands s g → Leads n s (λ t. Stands t (update g x (line_of m e (suc c) w)))
  enters s g x e c within injects ends joined here room st =
      let k : Parcel = record { source = x; destination = j; index = 0; head = w; tail = [] } in
      let line : s.lines x ≡ line_of m e c w = st x ∙ here in
      let parcel : IsParcel m k = record { joined = joined; head = head; told = told; alone = tail; tail = tt } in
      let event = InjectHead x k in
      let st1 : Stands (after m s event) (update g x (put w (line_of m e c w))) =
      restand s.lines g x _ _ (λ z d. st z) (ap (λ (l : NetLine). record (put w l) { rest = [] }) line ∙ injected_is m e c w) in
      first n s _ event (record {
        here = within;
        injects = injects;
        idle = ap (λ (l : NetLine). l.rest) line ∙ no_rest m e c w;
        credit = subst (λ (l : NetLine). 0 < l.held) (sym line) (has_credit m e c w deep room);
        parcel = parcel;
        source = refl;
      }) (settles (after m s event) g x e c within ends room st1)

  -- a channel without packets is empty
  none_in : (l : NetLine) (e : Bool) (c : ℕ) → c ≡ 0 → l ≡ line_of m e c w → in_line l ≡ []
  none_in l e c none same = ap in_line same ∙ ap (λ k. in_line (line_of m e k w)) none

  -- a packet that is alone in its channel goes on into a choice: an escape, or an empty channel
  pub goes_on : (s : NetState) (g : ℕ → NetLine) (p y : ℕ) (e : Bool) (c : ℕ) → p < m.channels → y < m.channels
      → m.ejects y ≡ e → p ≢ y → IsChoice n j p y → (n.escapes p j y ≡ true) ⊎ (c ≡ 0)
      → g p ≡ empty_line m → g y ≡ line_of m e c w → c < full m e
      → Stands s (update g p (line_of m false 1 w)) → Leads n s (λ t. Stands t (update g y (line_of m e (suc c) w)))
  goes_on s g p y e c low within ends apart choice behind gone here room st =
      let from : s.lines p ≡ line_of m false 1 w = st p ∙ update_same g p _ in
      let into : s.lines y ≡ line_of m e c w = st y ∙ (update_other g p _ y (λ d. apart (sym d)) ∙ here) in
      let event = ForwardHead p y w in
      let others : (z : ℕ) → z ≢ y → update s.lines p (unlatched (s.lines p)) z ≡ g z =
      λ z d. restand s.lines g p _ _ (λ a b. st a ∙ update_other g p _ a b) (ap unlatched from ∙ left m w) z ∙ sym (as_it_was g p (empty_line m) gone z) in
      let st1 : Stands (after m s event) (update g y (put w (line_of m e c w))) =
      restand (update s.lines p (unlatched (s.lines p))) g y _ _ others (ap (forwarded m p w) into ∙ forwarded_is m p e c w tail) in
      first n s _ event (record {
        here = low;
        input = choice.input;
        full = ap (λ (l : NetLine). l.latch) from;
        head = head;
        chosen = subst (λ k. n.chooses p k y ≡ true) (sym told) choice.chosen;
        free = ap (λ (l : NetLine). l.owner) into ∙ no_owner m e c w;
        credit = subst (λ (l : NetLine). 0 < l.held) (sym into) (has_credit m e c w deep room);
        room = ⊎_elim
            (λ (b : n.escapes p j y ≡ true). inl (subst (λ k. n.escapes p k y ≡ true) (sym told) b))
            (λ (b : c ≡ 0). inr (none_in (s.lines y) e c b into))
            behind;
      }) (settles (after m s event) g y e c within ends room st1)

  -- a packet comes along empty channels
  carried : (s : NetState) (g : ℕ → NetLine) (a y : ℕ) (xs : List ℕ) → IsWayTo n j y xs → m.ejects y ≡ false → g y ≡ empty_line m → AreEmpty m g a xs
      → Stands s g → Leads n s (λ t. Stands t (update g y (line_of m false 1 w)))
  carried s g a y [] way input here clear st =
      enters s g y false 0 (is.within j y (comes n j y [] way)) (is.senders y j way) input way here (omega arith) st
  carried s g a y (x ∷ xs) way input here clear st =
      and_then n s _ _ (carried s g a x xs way.1 way.0.input clear.0 clear.2 st) (λ t there.
      goes_on t g x y false 0 (is.within j x (comes n j x xs way.1)) (is.within j y (comes n j y (x ∷ xs) way)) input
      (is.apart j x y (comes n j x xs way.1) way.0) way.0 (inr refl) clear.0 here (omega arith) there)

  -- and into the last one
  arrives : (s : NetState) (g : ℕ → NetLine) (y : ℕ) (xs : List ℕ) (e : Bool) (c : ℕ) → IsWayTo n j y xs → m.ejects y ≡ e
      → (enters_behind n j y xs ≡ true) ⊎ (c ≡ 0) → AreEmpty m g y xs
      → g y ≡ line_of m e c w → c < full m e → Stands s g
      → Leads n s (λ t. Stands t (update g y (line_of m e (suc c) w)))
  arrives s g y [] e c way ends behind clear here room st =
      enters s g y e c (is.within j y (comes n j y [] way)) (is.senders y j way) ends way here room st
  arrives s g y (x ∷ xs) e c way ends behind clear here room st =
      and_then n s _ _ (carried s g y x xs way.1 way.0.input clear.0 clear.2 st) (λ t there.
      goes_on t g x y e c (is.within j x (comes n j x xs way.1)) (is.within j y (comes n j y (x ∷ xs) way)) ends
      (is.apart j x y (comes n j x xs way.1) way.0) way.0 behind clear.0 here room there)

  -- channels stay empty when another one is filled
  stay : (g : ℕ → NetLine) (y : ℕ) (l : NetLine) (xs : List ℕ) → AreEmpty m g y xs → AreEmpty m (update g y l) y xs
  stay g y l [] clear = tt
  stay g y l (x ∷ xs) clear = (update_other g y l x clear.1 ∙ clear.0, clear.1, stay g y l xs clear.2)

  -- one packet after the other, until so many stand there
  pub filled : (s : NetState) (g : ℕ → NetLine) (y : ℕ) (xs : List ℕ) (e : Bool) → IsWayTo n j y xs → m.ejects y ≡ e
      → AreEmpty m g y xs → g y ≡ empty_line m → Stands s g
      → (c : ℕ) → c ≤ full m e → (enters_behind n j y xs ≡ true) ⊎ (c ≤ 1) → Leads n s (λ t. Stands t (update g y (line_of m e c w)))
  filled s g y xs e way ends clear here st zero l behind = at_once n s _ (λ z. st z ∙ as_it_was g y (empty_line m) here z)
  filled s g y xs e way ends clear here st (suc c) l behind =
      let less : (enters_behind n j y xs ≡ true) ⊎ (c ≤ 1) = ⊎_elim (λ (b : enters_behind n j y xs ≡ true). inl b) (λ (b : suc c ≤ 1). inr (omega arith)) behind in
      let none : (enters_behind n j y xs ≡ true) ⊎ (c ≡ 0) = ⊎_elim (λ (b : enters_behind n j y xs ≡ true). inl b) (λ (b : suc c ≤ 1). inr (omega arith)) behind in
      and_then n s _ _ (filled s g y xs e way ends clear here st c (omega arith) less) (λ t there.
      and_then n t _ _ (arrives t (update g y (line_of m e c w)) y xs e c way ends none (stay g y (line_of m e c w) xs clear)
      (update_same g y _) (omega arith) there)
      (λ u last. at_once n u _ (λ z. last z ∙ restand (update g y (line_of m e c w)) g y _ _ (λ a d. update_other g y (line_of m e c w) a d) refl z)))
