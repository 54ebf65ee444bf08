-- Packets of one flit move over a network with endpoints.
use Rattle.std.proofs.Common.{◌≡◌, ◌≢◌, ℕ, zero, suc, ◌-◌, ◌<◌, Bool, true, false, if◌then◌else◌, inl, inr, List, [], ◌∷◌, ◌++◌, length, Some, None, refl, sym, ◌∙◌, ap}
use Rattle.std.proofs.Common.{subst, arith}
use Rattle.std.proofs.lemmas.List.Elements.{All-nil, All-cons}
use Rattle.std.proofs.lemmas.Bool.{cases_eq}
use Rattle.wormhole.specs.Net.{Net, Parcel}
use Rattle.wormhole.specs.State.{NetLine, update, empty_line}
use Rattle.wormhole.specs.Events.{InjectHead, Latch, ForwardHead, Return, put, taken, forwarded, unlatched, credited, accepted}
use Rattle.wormhole.proofs.Changes.{update_same, update_other}
use Rattle.network_judge.specs.Replies.{IsReply}
use Rattle.network_judge.proofs.Lines.{line_of, full, made, no_owner, no_rest, has_credit, forwarded_is, injected_is, put_more, put_behind, come_back, left}
use Rattle.deadlock_laws.specs.Endpoints.{Endpoints, Owing, EndState, EndEvent, OfNetwork, TakeHead, Answer}
use Rattle.deadlock_laws.specs.Endpoints.{owing_of, answered, end_after, end_after_all, EndsCanHappen, EndsCanAllHappen}

-- events lead from a state to one of which this holds
pub record Leads (n : Net) (p : Endpoints) (s : EndState) (P : EndState → Type 0) : Type 0 where
  pub events : List EndEvent
  pub may : EndsCanAllHappen n p s events
  pub there : P (end_after_all n s events)

-- so many packets wait for an answer on y
abbrev pub entries : ℕ → ℕ → List Owing
entries zero y = []
entries (suc c) y = record { first = y; others = [] } ∷ entries c y

pub entries_more : (c y : ℕ) → entries c y ++ record { first = y; others = [] } ∷ [] ≡ entries (suc c) y
entries_more zero y = refl
entries_more (suc c) y = ap (λ (l : List Owing). record { first = y; others = [] } ∷ l) (entries_more c y)

pub entries_long : (c y : ℕ) → length (entries c y) ≡ c
entries_long zero y = refl
entries_long (suc c) y = ap suc (entries_long c y)

-- a channel and its queue have changed, and nothing else
pub record At (s : EndState) (y : ℕ) (l : NetLine) (q : List Owing) (u : EndState) : Type 0 where
  pub line : u.net.lines y ≡ l
  pub queue : u.queue y ≡ q
  pub lines : (z : ℕ) → z ≢ y → u.net.lines z ≡ s.net.lines z
  pub queues : (z : ℕ) → z ≢ y → u.queue z ≡ s.queue z

-- a channel has changed, and no queue
pub record Puts (s : EndState) (y : ℕ) (l : NetLine) (u : EndState) : Type 0 where
  pub line : u.net.lines y ≡ l
  pub lines : (z : ℕ) → z ≢ y → u.net.lines z ≡ s.net.lines z
  pub queues : (z : ℕ) → u.queue z ≡ s.queue z

module _ (n : Net) (p : Endpoints) (deep : 0 < n.depth) where
  pub at_once : (s : EndState) (P : EndState → Type 0) → P s → Leads n p s P
  at_once s P h = record { events = []; may = tt; there = h }

  pub first : (s : EndState) (P : EndState → Type 0) (e : EndEvent) → EndsCanHappen n p s e → Leads n p (end_after n s e) P → Leads n p s P
  first s P e c l = record { events = e ∷ l.events; may = (c, l.may); there = l.there }

  pub and_then : (s : EndState) (P Q : EndState → Type 0) → Leads n p s P → ((t : EndState) → P t → Leads n p t Q) → Leads n p s Q
  and_then s P Q l on = go l.events s l.may l.there
    where
      go : (es : List EndEvent) (r : EndState) → EndsCanAllHappen n p r es → P (end_after_all n r es) → Leads n p r Q
      go [] r c h = on r h
      go (e ∷ es) r c h = first r Q e c.0 (go es (end_after n r e) c.1 h)

  -- a packet of one flit
  module _ (w : ℕ) (head : n.is_head w ≡ true) (tail : n.is_tail w ≡ true) where
    -- what was put into a channel of a router's input comes to rest
    pub settles : (s u : EndState) (y c : ℕ) → y < n.channels → n.ejects y ≡ false → c < suc n.depth → Puts s y (put w (line_of n false c w)) u
        → Leads n p u (At s y (line_of n false (suc c) w) (s.queue y))
    settles s u y (suc c) within input room put_ =
        at_once u _ (record { line = put_.line ∙ put_behind n c w room; queue = put_.queues y; lines = put_.lines; queues = λ z d. put_.queues z })
    settles s u y zero within input room put_ =
        let here = put_.line in
        let one = OfNetwork (Latch y w []) in
        let u1 = end_after n u one in
        let here1 : u1.net.lines y ≡ made [] (n.depth - 1) 1 (Some w) =
        update_same u.net.lines y _ ∙ ap (λ (l : NetLine). record (taken [] l) { latch = Some w }) here in
        let two = OfNetwork (Return y) in
        let here2 : (end_after n u1 two).net.lines y ≡ line_of n false 1 w = update_same u1.net.lines y _ ∙ (ap credited here1 ∙ come_back n w deep) in
        first u _ one (record {
          net = record { here = within; input = input; free = ap (λ (l : NetLine). l.latch) here; first = ap (λ (l : NetLine). l.flits) here };
          ends = tt;
        })
        (first u1 _ two (record { net = record { here = within; returns = subst (λ (l : NetLine). 0 < l.returning) (sym here1) (omega arith) }; ends = tt })
        (at_once _ _ (record {
          line = here2;
          queue = put_.queues y;
          lines = λ z d. update_other u1.net.lines y _ z d ∙ (update_other u.net.lines y _ z d ∙ put_.lines z d);
          queues = λ z d. put_.queues z;
        })))

    -- what was put into an empty ejection channel is taken, and waits for its answer on b
    pub is_taken : (s u : EndState) (y b c : ℕ) → y < n.channels → n.ejects y ≡ true → IsReply p.replies y b → s.queue y ≡ entries c b → c < p.room y
        → Puts s y (put w (empty_line n)) u → Leads n p u (At s y (empty_line n) (entries (suc c) b))
    is_taken s u y b c within ends reply waiting room put_ =
        let here = put_.line in
        let queue : u.queue y ≡ entries c b = put_.queues y ∙ waiting in
        let one = TakeHead y w [] (b ∷ []) in
        let u1 = end_after n u one in
        let accepted_is : (f : Bool) → f ≡ true → record (taken [] (put w (empty_line n))) { so_far = if f then [] else w ∷ [] } ≡ made [] (n.depth - 1) 1 None =
        λ f e. ap (λ g. record (taken [] (put w (empty_line n))) { so_far = if g then [] else w ∷ [] }) e in
        let here1 : u1.net.lines y ≡ made [] (n.depth - 1) 1 None =
        update_same u.net.lines y _ ∙ (ap (accepted n w []) here ∙ accepted_is (n.is_tail w) tail) in
        let queue1 : u1.queue y ≡ entries (suc c) b =
        update_same u.queue y _ ∙ (ap (λ (f : Bool). if f then u.queue y ++ owing_of (b ∷ []) else u.queue y) tail
        ∙ (ap (λ (l : List Owing). l ++ owing_of (b ∷ [])) queue ∙ entries_more c b)) in
        let two = OfNetwork (Return y) in
        let here2 : (end_after n u1 two).net.lines y ≡ empty_line n =
        update_same u1.net.lines y _ ∙ (ap credited here1 ∙ ap (λ h. made [] h 0 None) (omega arith)) in
        first u _ one (record {
          net = record { here = within; ejects = ends; first = ap (λ (l : NetLine). l.flits) here; head = head };
          ends = (
            subst (λ (l : List Owing). length l < p.room y) (sym queue) (subst (λ k. k < p.room y) (sym (entries_long c b)) room),
            All-cons (λ z. IsReply p.replies y z) b [] reply (All-nil (λ z. IsReply p.replies y z)),
          );
        })
        (first u1 _ two (record { net = record { here = within; returns = subst (λ (l : NetLine). 0 < l.returning) (sym here1) (omega arith) }; ends = tt })
        (at_once _ _ (record {
          line = here2;
          queue = queue1;
          lines = λ z d. update_other u1.net.lines y _ z d ∙ (update_other u.net.lines y _ z d ∙ put_.lines z d);
          queues = λ z d. update_other u.queue y _ z d ∙ put_.queues z;
        })))

    -- or it stays there
    pub stays : (s u : EndState) (y c : ℕ) → c < n.depth → Puts s y (put w (line_of n true c w)) u → Leads n p u (At s y (line_of n true (suc c) w) (s.queue y))
    stays s u y c room put_ =
        at_once u _ (record { line = put_.line ∙ put_more n c w room; queue = put_.queues y; lines = put_.lines; queues = λ z d. put_.queues z })

    -- a free sender puts it
    pub sends : (s : EndState) (x j c : ℕ) → x < n.channels → n.injects x ≡ true → p.free x ≡ true → n.joins x j ≡ true → n.told w ≡ j
        → s.net.lines x ≡ line_of n false c w → c < suc n.depth → Leads n p s (Puts s x (put w (line_of n false c w)))
    sends s x j c within injects free joined told here room =
        let k : Parcel = record { source = x; destination = j; index = 0; head = w; tail = [] } in
        let one = OfNetwork (InjectHead x k) in
        first s _ one (record {
          net = record {
            here = within;
            injects = injects;
            idle = ap (λ (l : NetLine). l.rest) here ∙ no_rest n false c w;
            credit = subst (λ (l : NetLine). 0 < l.held) (sym here) (has_credit n false c w deep room);
            parcel = record { joined = joined; head = head; told = told; alone = tail; tail = tt };
            source = refl;
          };
          ends = free;
        })
        (at_once _ _ (record {
          line = update_same s.net.lines x _ ∙ (ap (λ (l : NetLine). record (put w l) { rest = [] }) here ∙ injected_is n false c w);
          lines = λ z d. update_other s.net.lines x _ z d;
          queues = λ z. refl;
        }))

    -- it goes from an input on into the next channel
    pub goes_on : (s a : EndState) (x y c : ℕ) (e : Bool) → x < n.channels → n.ejects x ≡ false → x ≢ y → y ≡ n.next x (n.told w)
        → s.net.lines x ≡ empty_line n → s.queue x ≡ [] → At s x (line_of n false 1 w) [] a → s.net.lines y ≡ line_of n e c w → c < full n e
        → Leads n p a (Puts s y (put w (line_of n e c w)))
    goes_on s a x y c e low input apart output clear none at here room =
        let into : a.net.lines y ≡ line_of n e c w = at.lines y (λ q. apart (sym q)) ∙ here in
        let one = OfNetwork (ForwardHead x y w) in
        first a _ one (record {
          net = record {
            here = low;
            input = input;
            full = ap (λ (l : NetLine). l.latch) at.line;
            head = head;
            output = output;
            free = ap (λ (l : NetLine). l.owner) into ∙ no_owner n e c w;
            credit = subst (λ (l : NetLine). 0 < l.held) (sym into) (has_credit n e c w deep room);
          };
          ends = tt;
        })
        (at_once _ _ (record {
          line = update_same (update a.net.lines x (unlatched (a.net.lines x))) y _ ∙ (ap (forwarded n x w) into ∙ forwarded_is n x e c w tail);
          lines = λ z d. update_other (update a.net.lines x (unlatched (a.net.lines x))) y _ z d ∙ elsewhere z;
          queues = λ z. queues z;
        }))
      where
        elsewhere : (z : ℕ) → update a.net.lines x (unlatched (a.net.lines x)) z ≡ s.net.lines z
        elsewhere z = elim (cases_eq z x) [
          | inl same ↦ subst (λ b. update a.net.lines x (unlatched (a.net.lines x)) b ≡ s.net.lines b) (sym same)
              (update_same a.net.lines x _ ∙ (ap unlatched at.line ∙ (left n w ∙ sym clear)))
          | inr d ↦ update_other a.net.lines x _ z d ∙ at.lines z d
        ]

        queues : (z : ℕ) → a.queue z ≡ s.queue z
        queues z = elim (cases_eq z x) [
          | inl same ↦ subst (λ b. a.queue b ≡ s.queue b) (sym same) (at.queue ∙ sym none)
          | inr d ↦ at.queues z d
        ]

    -- the endpoint that took a packet at x answers it with this one on y
    pub is_answered : (s a : EndState) (x y j c : ℕ) → y < n.channels → n.injects y ≡ true → x ≢ y → n.joins y j ≡ true → n.told w ≡ j
        → s.net.lines x ≡ empty_line n → s.queue x ≡ [] → At s x (empty_line n) (entries 1 y) a → s.net.lines y ≡ line_of n false c w → c < suc n.depth
        → Leads n p a (Puts s y (put w (line_of n false c w)))
    is_answered s a x y j c low injects apart joined told clear none at here room =
        let into : a.net.lines y ≡ line_of n false c w = at.lines y (λ q. apart (sym q)) ∙ here in
        let k : Parcel = record { source = y; destination = j; index = 0; head = w; tail = [] } in
        let one = Answer x k in
        first a _ one (record {
          net = record {
            here = low;
            injects = injects;
            idle = ap (λ (l : NetLine). l.rest) into ∙ no_rest n false c w;
            credit = subst (λ (l : NetLine). 0 < l.held) (sym into) (has_credit n false c w deep room);
            parcel = record { joined = joined; head = head; told = told; alone = tail; tail = tt };
            source = refl;
          };
          ends = record { owing = record { first = y; others = [] }; others = []; next = at.queue; on = refl };
        })
        (at_once _ _ (record {
          line = update_same a.net.lines y _ ∙ (ap (λ (l : NetLine). record (put w l) { rest = [] }) into ∙ injected_is n false c w);
          lines = λ z d. update_other a.net.lines y _ z d ∙ elsewhere z;
          queues = queues;
        }))
      where
        elsewhere : (z : ℕ) → a.net.lines z ≡ s.net.lines z
        elsewhere z = elim (cases_eq z x) [
          | inl same ↦ subst (λ b. a.net.lines b ≡ s.net.lines b) (sym same) (at.line ∙ sym clear)
          | inr d ↦ at.lines z d
        ]

        queues : (z : ℕ) → update a.queue x (answered (a.queue x)) z ≡ s.queue z
        queues z = elim (cases_eq z x) [
          | inl same ↦ subst (λ b. update a.queue x (answered (a.queue x)) b ≡ s.queue b) (sym same)
              (update_same a.queue x _ ∙ (ap answered at.queue ∙ sym none))
          | inr d ↦ update_other a.queue x _ z d ∙ at.queues z d
        ]
