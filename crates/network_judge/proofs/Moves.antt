-- Packets of one flit move: into a channel, from a channel into the next, and along a route.
use Rattle.std.proofs.Common.{◌≡◌, ◌≢◌, ℕ, zero, suc, ◌+◌, ◌-◌, ◌<◌, ◌≤◌, Bool, true, false, List, [], ◌∷◌, ◌++◌, Some, refl, sym, ◌∙◌, ap}
use Rattle.std.proofs.Common.{subst, arith}
use Rattle.wormhole.specs.Net.{Net, Parcel, IsParcel}
use Rattle.wormhole.specs.State.{NetLine, NetState, update, empty_line}
use Rattle.wormhole.specs.Events.{NetEvent, InjectHead, Latch, ForwardHead, Return, CanHappen, CanAllHappen, after, after_all, put}
use Rattle.wormhole.specs.Events.{forwarded, unlatched}
use Rattle.wormhole.proofs.Changes.{update_same, update_other}
use Rattle.network_judge.proofs.Lines.{line_of, full, made, no_owner, no_rest, has_credit, forwarded_is, injected_is, put_more, put_behind}
use Rattle.network_judge.proofs.Lines.{come_back, left, Stands, restand, as_it_was}

-- the events of a packet of one flit that settles where it was put, where so many stand already: into the latch, if that is empty
abbrev pub settle_events : Bool → ℕ → ℕ → ℕ → List NetEvent
settle_events true c y w = []
settle_events false zero y w = Latch y w [] ∷ Return y ∷ []
settle_events false (suc c) y w = []

-- of one that a sender puts
abbrev pub enter_events : ℕ → ℕ → ℕ → Bool → ℕ → List NetEvent
enter_events x j w e c = InjectHead x (record { source = x; destination = j; index = 0; head = w; tail = [] }) ∷ settle_events e c x w

-- of one that goes on
abbrev pub go_events : ℕ → ℕ → ℕ → Bool → ℕ → List NetEvent
go_events p y w e c = ForwardHead p y w ∷ settle_events e c y w

-- of one that comes along empty channels, up to that at a step
abbrev pub carry_events : (ℕ → ℕ) → ℕ → ℕ → ℕ → List NetEvent
carry_events pl j w zero = enter_events (pl 0) j w false 0
carry_events pl j w (suc k) = carry_events pl j w k ++ go_events (pl k) (pl (suc k)) w false 0

-- of one that comes to a last channel
abbrev pub arrive_events : (ℕ → ℕ) → ℕ → ℕ → ℕ → Bool → ℕ → List NetEvent
arrive_events pl j w zero e c = enter_events (pl 0) j w e c
arrive_events pl j w (suc k) e c = carry_events pl j w k ++ go_events (pl k) (pl (suc k)) w e c

-- of so many, one after the other
abbrev pub fill_events : (ℕ → ℕ) → ℕ → ℕ → ℕ → Bool → ℕ → List NetEvent
fill_events pl j w m e zero = []
fill_events pl j w m e (suc c) = fill_events pl j w m e c ++ arrive_events pl j w m e c

-- events lead from a state to one of which this holds
pub record Leads (n : Net) (s : NetState) (es : List NetEvent) (P : NetState → Type 0) : Type 0 where
  pub may : CanAllHappen n s es
  pub there : P (after_all n s es)

pub at_once : (n : Net) (s : NetState) (P : NetState → Type 0) → P s → Leads n s [] P
at_once n s P p = record { may = tt; there = p }

pub first : (n : Net) (s : NetState) (es : List NetEvent) (P : NetState → Type 0) (e : NetEvent) → CanHappen n s.lines e → Leads n (after n s e) es P
    → Leads n s (e ∷ es) P
first n s es P e c l = record { may = (c, l.may); there = l.there }

pub and_then : (n : Net) (s : NetState) (es fs : List NetEvent) (P Q : NetState → Type 0) → Leads n s es P → ((t : NetState) → P t → Leads n t fs Q)
    → Leads n s (es ++ fs) Q
and_then n s [] fs P Q l on = on s l.there
and_then n s (e ∷ es) fs P Q l on =
    (let may = l.may in
    first n s (es ++ fs) Q e may.0 (and_then n (after n s e) es fs P Q (record { may = may.1; there = l.there }) on))

module _ (n : Net) (deep : 0 < n.depth) (w : ℕ) (head : n.is_head w ≡ true) (tail : n.is_tail w ≡ true) where
  -- a packet put into a channel settles: into the latch, if that is empty
  pub settles : (s : NetState) (g : ℕ → NetLine) (y : ℕ) (e : Bool) (c : ℕ) → y < n.channels → n.ejects y ≡ e → c < full n e
      → Stands s (update g y (put w (line_of n e c w)))
      → Leads n s (settle_events e c y w) (λ t. Stands t (update g y (line_of n e (suc c) w)))
  settles s g y true c within ends room st =
      at_once n s _ (λ z. st z ∙ restand g g y _ _ (λ a d. refl) (put_more n c w room) z)
  settles s g y false (suc c) within ends room st =
      at_once n s _ (λ z. st z ∙ restand g g y _ _ (λ a d. refl) (put_behind n c w room) z)
  settles s g y false zero within ends room st =
      let here : s.lines y ≡ put w (line_of n false 0 w) = st y ∙ update_same g y _ in
      let other : (z : ℕ) → z ≢ y → s.lines z ≡ g z = λ z d. st z ∙ update_other g y _ z d in
      let one = Latch y w [] in
      let s1 = after n s one in
      let st1 : Stands s1 (update g y (made [] (n.depth - 1) 1 (Some w))) =
      restand s.lines g y _ _ other (ap (λ (l : NetLine). record l { flits = []; returning = l.returning + 1; latch = Some w }) here) in
      let here1 : s1.lines y ≡ made [] (n.depth - 1) 1 (Some w) = st1 y ∙ update_same g y _ in
      let other1 : (z : ℕ) → z ≢ y → s1.lines z ≡ g z = λ z d. st1 z ∙ update_other g y _ z d in
      let st2 : Stands (after n s1 (Return y)) (update g y (line_of n false 1 w)) =
      restand s1.lines g y _ _ other1 (ap (λ (l : NetLine). record l { held = l.held + 1; returning = l.returning - 1 }) here1 ∙ come_back n w deep) in
      first n s (Return y ∷ []) _ one (record { here = within; input = ends; free = ap (λ (l : NetLine). l.latch) here; first = ap (λ (l : NetLine). l.flits) here })
      (first n s1 [] _ (Return y) (record { here = within; returns = subst (λ (l : NetLine). 0 < l.returning) (sym here1) (omega arith) })
      (at_once n _ _ st2))

  -- a sender puts a packet
  pub enters : (s : NetState) (g : ℕ → NetLine) (x j : ℕ) (e : Bool) (c : ℕ) → x < n.channels → n.injects x ≡ true → n.ejects x ≡ e
      → n.joins x j ≡ true → n.told w ≡ j → g x ≡ line_of n e c w → c < full n e
      → Stands s g → Leads n s (enter_events x j w e c) (λ t. Stands t (update g x (line_of n e (suc c) w)))
  enters s g x j e c within injects ends joined told here room st =
      let k : Parcel = record { source = x; destination = j; index = 0; head = w; tail = [] } in
      let line : s.lines x ≡ line_of n e c w = st x ∙ here in
      let parcel : IsParcel n k = record { joined = joined; head = head; told = told; alone = tail; tail = tt } in
      let event = InjectHead x k in
      let st1 : Stands (after n s event) (update g x (put w (line_of n e c w))) =
      restand s.lines g x _ _ (λ z d. st z) (ap (λ (l : NetLine). record (put w l) { rest = [] }) line ∙ injected_is n e c w) in
      first n s (settle_events e c x w) _ event (record {
        here = within;
        injects = injects;
        idle = ap (λ (l : NetLine). l.rest) line ∙ no_rest n e c w;
        credit = subst (λ (l : NetLine). 0 < l.held) (sym line) (has_credit n e c w deep room);
        parcel = parcel;
        source = refl;
      }) (settles (after n s event) g x e c within ends room st1)

  -- a packet that is alone in its channel goes on into the next
  pub goes_on : (s : NetState) (g : ℕ → NetLine) (p y : ℕ) (e : Bool) (c : ℕ) → p < n.channels → y < n.channels
      → n.ejects p ≡ false → n.ejects y ≡ e → p ≢ y → y ≡ n.next p (n.told w)
      → g p ≡ empty_line n → g y ≡ line_of n e c w → c < full n e
      → Stands s (update g p (line_of n false 1 w)) → Leads n s (go_events p y w e c) (λ t. Stands t (update g y (line_of n e (suc c) w)))
  goes_on s g p y e c low within input ends apart output gone here room st =
      let from : s.lines p ≡ line_of n false 1 w = st p ∙ update_same g p _ in
      let into : s.lines y ≡ line_of n e c w = st y ∙ (update_other g p _ y (λ d. apart (sym d)) ∙ here) in
      let event = ForwardHead p y w in
      let others : (z : ℕ) → z ≢ y → update s.lines p (unlatched (s.lines p)) z ≡ g z =
      λ z d. restand s.lines g p _ _ (λ a b. st a ∙ update_other g p _ a b) (ap unlatched from ∙ left n w) z ∙ sym (as_it_was g p (empty_line n) gone z) in
      let st1 : Stands (after n s event) (update g y (put w (line_of n e c w))) =
      restand (update s.lines p (unlatched (s.lines p))) g y _ _ others (ap (forwarded n p w) into ∙ forwarded_is n p e c w tail) in
      first n s (settle_events e c y w) _ event (record {
        here = low;
        input = input;
        full = ap (λ (l : NetLine). l.latch) from;
        head = head;
        output = output;
        free = ap (λ (l : NetLine). l.owner) into ∙ no_owner n e c w;
        credit = subst (λ (l : NetLine). 0 < l.held) (sym into) (has_credit n e c w deep room);
      }) (settles (after n s event) g y e c within ends room st1)

  -- a route's first channels, up to that at step m
  pub record Path (pl : ℕ → ℕ) (m j : ℕ) (e : Bool) : Type 0 where
    pub within : (k : ℕ) → k ≤ m → pl k < n.channels
    pub injects : n.injects (pl 0) ≡ true
    pub inputs : (k : ℕ) → k < m → n.ejects (pl k) ≡ false
    pub goal : n.ejects (pl m) ≡ e
    pub first : n.ejects (pl 0) ≡ false
    pub joined : n.joins (pl 0) j ≡ true
    pub told : n.told w ≡ j
    pub next : (k : ℕ) → k < m → pl (suc k) ≡ n.next (pl k) (n.told w)
    pub apart : (k : ℕ) → k < m → pl k ≢ pl m
    pub steps : (k : ℕ) → k < m → pl k ≢ pl (suc k)

  module _ (pl : ℕ → ℕ) (m j : ℕ) (e : Bool) (path : Path pl m j e) where
    -- a packet comes along the empty channels before
    carried : (s : NetState) (g : ℕ → NetLine) → ((k : ℕ) → k < m → g (pl k) ≡ empty_line n) → Stands s g
        → (k : ℕ) → k < m → Leads n s (carry_events pl j w k) (λ t. Stands t (update g (pl k) (line_of n false 1 w)))
    carried s g clear st zero l =
        enters s g (pl 0) j false 0 (path.within 0 (omega arith)) path.injects path.first path.joined path.told (clear 0 l) (omega arith) st
    carried s g clear st (suc k) l =
        and_then n s (carry_events pl j w k) (go_events (pl k) (pl (suc k)) w false 0) _ _ (carried s g clear st k (omega arith)) (λ t there.
        goes_on t g (pl k) (pl (suc k)) false 0 (path.within k (omega arith)) (path.within (suc k) (omega arith)) (path.inputs k (omega arith))
        (path.inputs (suc k) l) (path.steps k (omega arith)) (path.next k (omega arith)) (clear k (omega arith)) (clear (suc k) l) (omega arith) there)

    -- and into the last one
    arrives : (s : NetState) (g : ℕ → NetLine) (c : ℕ) → ((k : ℕ) → k < m → g (pl k) ≡ empty_line n)
        → g (pl m) ≡ line_of n e c w → c < full n e → Stands s g
        → Leads n s (arrive_events pl j w m e c) (λ t. Stands t (update g (pl m) (line_of n e (suc c) w)))
    arrives s g c clear here room st = by m refl
      where
        by : (a : ℕ) → m ≡ a → Leads n s (arrive_events pl j w a e c) (λ t. Stands t (update g (pl m) (line_of n e (suc c) w)))
        by zero same =
            subst (λ a. Leads n s (arrive_events pl j w 0 e c) (λ t. Stands t (update g (pl a) (line_of n e (suc c) w)))) (sym same)
            (enters s g (pl 0) j e c (path.within 0 (omega arith)) path.injects (subst (λ a. n.ejects (pl a) ≡ e) same path.goal)
            path.joined path.told (subst (λ a. g (pl a) ≡ line_of n e c w) same here) room st)
        by (suc k) same =
            subst (λ a. Leads n s (arrive_events pl j w (suc k) e c) (λ t. Stands t (update g (pl a) (line_of n e (suc c) w)))) (sym same)
            (and_then n s (carry_events pl j w k) (go_events (pl k) (pl (suc k)) w e c) _ _ (carried s g clear st k (omega arith)) (λ t there.
            goes_on t g (pl k) (pl (suc k)) e c (path.within k (omega arith)) (path.within (suc k) (omega arith)) (path.inputs k (omega arith))
            (subst (λ a. n.ejects (pl a) ≡ e) same path.goal) (subst (λ a. pl k ≢ pl a) same (path.apart k (omega arith))) (path.next k (omega arith))
            (clear k (omega arith)) (subst (λ a. g (pl a) ≡ line_of n e c w) same here) room there))

    -- one packet after the other, until so many stand there
    pub filled : (s : NetState) (g : ℕ → NetLine) → ((k : ℕ) → k ≤ m → g (pl k) ≡ empty_line n) → Stands s g
        → (c : ℕ) → c ≤ full n e → Leads n s (fill_events pl j w m e c) (λ t. Stands t (update g (pl m) (line_of n e c w)))
    filled s g clear st zero l = at_once n s _ (λ z. st z ∙ as_it_was g (pl m) (empty_line n) (clear m (omega arith)) z)
    filled s g clear st (suc c) l =
        and_then n s (fill_events pl j w m e c) (arrive_events pl j w m e c) _ _ (filled s g clear st c (omega arith)) (λ t there.
        (let last = arrives t (update g (pl m) (line_of n e c w)) c (λ k low. update_other g (pl m) _ (pl k) (path.apart k low) ∙ clear k (omega arith))
        (update_same g (pl m) _) (omega arith) there in
        record {
          may = last.may;
          there = λ z. last.there z ∙ restand (update g (pl m) (line_of n e c w)) g (pl m) _ _ (λ a d. update_other g (pl m) (line_of n e c w) a d) refl z;
        }))
