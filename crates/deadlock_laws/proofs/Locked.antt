-- A circular jam of transactions comes about, channel by channel, and then nothing can go.
use Rattle.std.proofs.Common.{◌≡◌, ◌≢◌, ◌⊎◌, inl, inr, ⊎_elim, ℕ, zero, suc, ◌<◌, Bool, true, false, List, [], ◌∷◌, length, Some, None, refl, sym, ◌∙◌, ap}
use Rattle.std.proofs.Common.{subst, arith}
use Rattle.std.proofs.lemmas.Bool.{cases_eq}
use Rattle.wormhole.specs.Net.{Net}
use Rattle.wormhole.specs.State.{NetLine, update, empty_line, in_line}
use Rattle.wormhole.specs.Events.{NetEvent, InjectHead, InjectRest, Latch, ForwardHead, ForwardRest, AcceptHead, AcceptRest, Return, CanHappen}
use Rattle.wormhole.specs.Ends.{IsOwed}
use Rattle.wormhole.proofs.Changes.{update_same, update_other}
use Rattle.network_judge.specs.declared.table.Link.{Link}
use Rattle.network_judge.specs.Table.{Table, kind_of, table_next, is_receiver}
use Rattle.network_judge.specs.TableNet.{Flits}
use Rattle.network_judge.specs.Replies.{AreReplies}
use Rattle.network_judge.specs.Verdicts.{AllArrive}
use Rattle.network_judge.specs.Cycles.{IsCycle}
use Rattle.network_judge.specs.Ways.{place}
use Rattle.network_judge.specs.Marks.{Passes}
use Rattle.network_judge.specs.declared.fill.Fill.{Fill}
use Rattle.network_judge.specs.Jams.{fill_channel, is_filled, AreFilledInTurn}
use Rattle.network_judge.specs.LockUps.{HasOneFlitPackets}
use Rattle.network_judge.proofs.Lines.{line_of, full, no_credit, no_rest, none_returns, not_empty, some_room}
use Rattle.deadlock_laws.proofs.LengthFilled.{filled_here, filled_other, filled_behind}
use Rattle.deadlock_laws.specs.Endpoints.{Endpoints, Owing, EndState, EndEvent, EndMove, NetGoes, Takes, Answers, MustTake, MustAnswer, at_first, end_after_all}
use Rattle.deadlock_laws.specs.CircularJams.{head_channel, WaitInTurn, IsCircularJam}
use Rattle.deadlock_laws.proofs.Circular.{has_jam}
use Rattle.deadlock_laws.specs.Transactions.{IsComposed, IsEndLockUp, EndsLockUp}
use Rattle.deadlock_laws.proofs.ClassMoves as moves
use Rattle.deadlock_laws.proofs.Settings.{Setting, net, word, full_queue, full_line, queue_full, is_open}
use Rattle.deadlock_laws.proofs.Fills.{within, passes, goes_further, fills}
use Rattle.deadlock_laws.proofs.ClassMoves.{Leads, At, Puts, entries, entries_long}

module _ (it : Setting) where
  abbrev n : Net
  n = net it

  -- the channels, and their queues, once these are filled
  abbrev lines_of : List Fill → ℕ → NetLine
  lines_of [] = λ x. empty_line n
  lines_of (f ∷ fs) = update (lines_of fs) (fill_channel it.whole f) (full_line it (fill_channel it.whole f) f.to)

  abbrev queues_of : List Fill → ℕ → List Owing
  queues_of [] = λ x. []
  queues_of (f ∷ fs) = update (queues_of fs) (fill_channel it.whole f) (queue_full it (fill_channel it.whole f) f.to)

  record Stands (s : EndState) (fs : List Fill) : Type 0 where
    pub lines : (x : ℕ) → s.net.lines x ≡ lines_of fs x
    pub queues : (x : ℕ) → s.queue x ≡ queues_of fs x

  -- a channel that isn't filled is another one
  other_one : (f : Fill) (fs : List Fill) (x : ℕ) → is_filled it.whole (f ∷ fs) x ≡ false → x ≢ fill_channel it.whole f
  other_one f fs x isnt = λ e. (let yes : is_filled it.whole (f ∷ fs) x ≡ true = filled_here it.whole f fs x (sym e) in absurd (cc))

  not_behind : (f : Fill) (fs : List Fill) (x : ℕ) → is_filled it.whole (f ∷ fs) x ≡ false → is_filled it.whole fs x ≡ false
  not_behind f fs x isnt = sym (filled_other it.whole f fs x (λ e. other_one f fs x isnt (sym e))) ∙ isnt

  unfilled : (fs : List Fill) (x : ℕ) → is_filled it.whole fs x ≡ false → (lines_of fs x ≡ empty_line n) × (queues_of fs x ≡ [])
  unfilled [] x isnt = (refl, refl)
  unfilled (f ∷ fs) x isnt =
      let far = other_one f fs x isnt in
      let rest = unfilled fs x (not_behind f fs x isnt) in (
        update_other (lines_of fs) (fill_channel it.whole f) (full_line it (fill_channel it.whole f) f.to) x far ∙ rest.0,
        update_other (queues_of fs) (fill_channel it.whole f) (queue_full it (fill_channel it.whole f) f.to) x far ∙ rest.1,
      )

  target_open : (fs : List Fill) (e : ℕ) → AreFilledInTurn it.whole fs → WaitInTurn it.whole fs e → is_receiver (kind_of it.whole e) ≡ false → is_receiver (kind_of it.whole (head_channel it.whole fs e)) ≡ false
  target_open [] e turn chain is = is
  target_open (g ∷ gs) e turn chain is = is_open it g gs (head_channel it.whole gs e) turn.0 chain.0

  -- level by level
  all_filled : (fs : List Fill) (e : ℕ) → AreFilledInTurn it.whole fs → WaitInTurn it.whole fs e → is_receiver (kind_of it.whole e) ≡ false → Leads n it.ends (at_first n) (λ s. Stands s fs)
  all_filled [] e turn chain is = moves.at_once n it.ends it.deep (at_first n) _ (record { lines = λ x. refl; queues = λ x. refl })
  all_filled (f ∷ fs) e turn chain is =
      let come = turn.0 in
      let waits = chain.0 in
      moves.and_then n it.ends it.deep (at_first n) _ _ (all_filled fs e turn.1 chain.1 is) (λ s st.
      moves.and_then n it.ends it.deep s _ _ (fills it f fs (head_channel it.whole fs e) come waits (target_open fs e turn.1 chain.1 is) s (record {
        lines = λ k low. st.lines (place it.whole f.to f.from k) ∙ (unfilled fs (place it.whole f.to f.from k) (come.clear k (omega arith))).0;
        queues = λ k low. st.queues (place it.whole f.to f.from k) ∙ (unfilled fs (place it.whole f.to f.from k) (come.clear k (omega arith))).1;
      })
      (st.lines (fill_channel it.whole f) ∙ (unfilled fs (fill_channel it.whole f) (come.clear f.step (omega arith))).0)
      (st.queues (fill_channel it.whole f) ∙ (unfilled fs (fill_channel it.whole f) (come.clear f.step (omega arith))).1))
      (λ u a. moves.at_once n it.ends it.deep u _ (record { lines = then_lines s u st a; queues = then_queues s u st a })))
    where
      then_lines : (s u : EndState) → Stands s fs → At s (fill_channel it.whole f) (full_line it (fill_channel it.whole f) f.to) (queue_full it (fill_channel it.whole f) f.to) u
          → (x : ℕ) → u.net.lines x ≡ lines_of (f ∷ fs) x
      then_lines s u st a x = elim (cases_eq x (fill_channel it.whole f)) [
        | inl same ↦ subst (λ z. u.net.lines z ≡ lines_of (f ∷ fs) z) (sym same) (a.line ∙ sym (update_same (lines_of fs) (fill_channel it.whole f) _))
        | inr d ↦ a.lines x d ∙ (st.lines x ∙ sym (update_other (lines_of fs) (fill_channel it.whole f) _ x d))
      ]

      then_queues : (s u : EndState) → Stands s fs → At s (fill_channel it.whole f) (full_line it (fill_channel it.whole f) f.to) (queue_full it (fill_channel it.whole f) f.to) u
          → (x : ℕ) → u.queue x ≡ queues_of (f ∷ fs) x
      then_queues s u st a x = elim (cases_eq x (fill_channel it.whole f)) [
        | inl same ↦ subst (λ z. u.queue z ≡ queues_of (f ∷ fs) z) (sym same) (a.queue ∙ sym (update_same (queues_of fs) (fill_channel it.whole f) _))
        | inr d ↦ a.queues x d ∙ (st.queues x ∙ sym (update_other (queues_of fs) (fill_channel it.whole f) _ x d))
      ]

  -- the channels of a list: empty, or full, and then waiting for the next one of the list or for e
  data Seen (fs : List Fill) (e x : ℕ) : Type 0 where
    free : is_filled it.whole fs x ≡ false → Seen fs e x
    taken : (j y : ℕ) → Passes it.whole x j → lines_of fs x ≡ full_line it x j → queues_of fs x ≡ queue_full it x j → table_next it.whole x j ≡ y
        → (is_filled it.whole fs y ≡ true) ⊎ (y ≡ e) → table_next it.whole x j ≢ j → Seen fs e x

  targets : (fs : List Fill) (e : ℕ) → (is_filled it.whole fs (head_channel it.whole fs e) ≡ true) ⊎ (head_channel it.whole fs e ≡ e)
  targets [] e = inr refl
  targets (f ∷ fs) e = inl (filled_here it.whole f fs (fill_channel it.whole f) refl)

  look : (fs : List Fill) (e : ℕ) → AreFilledInTurn it.whole fs → WaitInTurn it.whole fs e → is_receiver (kind_of it.whole e) ≡ false → (x : ℕ) → Seen fs e x
  look [] e turn chain is x = free refl
  look (f ∷ fs) e turn chain is x = elim (cases_eq x (fill_channel it.whole f)) [
    | inl same ↦ subst (Seen (f ∷ fs) e) (sym same)
        (taken f.to (head_channel it.whole fs e) (passes it f fs (head_channel it.whole fs e) turn.0 chain.0 (target_open fs e turn.1 chain.1 is) f.step (omega arith)) (update_same (lines_of fs) (fill_channel it.whole f) _)
        (update_same (queues_of fs) (fill_channel it.whole f) _) chain.0.next
        (⊎_elim (λ (h : is_filled it.whole fs (head_channel it.whole fs e) ≡ true). inl (filled_behind it.whole f fs (head_channel it.whole fs e) h)) (λ (h : head_channel it.whole fs e ≡ e). inr h) (targets fs e))
        (goes_further it f fs (head_channel it.whole fs e) turn.0 chain.0 (target_open fs e turn.1 chain.1 is) f.step (omega arith)))
    | inr d ↦ elim (look fs e turn.1 chain.1 is x) [
      | free isnt ↦ free (filled_other it.whole f fs x (λ a. d (sym a)) ∙ isnt)
      | taken j y pa l q nx w on ↦ taken j y pa (update_other (lines_of fs) (fill_channel it.whole f) _ x d ∙ l) (update_other (queues_of fs) (fill_channel it.whole f) _ x d ∙ q) nx
          (⊎_elim (λ (h : is_filled it.whole fs y ≡ true). inl (filled_behind it.whole f fs y h)) (λ (h : y ≡ e). inr h) w) on
    ]
  ]

  module _ (f : Fill) (fs : List Fill) (jam : IsCircularJam it.whole (f ∷ fs)) (s : EndState) (st : Stands s (f ∷ fs)) where
    abbrev e : ℕ
    e = fill_channel it.whole f

    seen : (x : ℕ) → Seen (f ∷ fs) e x
    seen x = look (f ∷ fs) e jam.in_turn jam.waits (is_open it f fs (head_channel it.whole fs e) jam.in_turn.0 jam.waits.0) x

    none_full : (x j : ℕ) → (full_line it x j).held ≡ 0
    none_full x j = no_credit n (n.ejects x) (word it x j) it.deep

    -- a filled channel has no credit
    spent : (y : ℕ) → (is_filled it.whole (f ∷ fs) y ≡ true) ⊎ (y ≡ e) → 0 < (s.net.lines y).held → ⊥
    spent y w credit = by (⊎_elim (λ (h : is_filled it.whole (f ∷ fs) y ≡ true). h) (λ (h : y ≡ e). filled_here it.whole f fs y (sym h)) w)
      where
        by : is_filled it.whole (f ∷ fs) y ≡ true → ⊥
        by is = elim (seen y) [
          | free isnt ↦ absurd (cc)
          | taken j z pa l q nx v on ↦ (let none : (s.net.lines y).held ≡ 0 = ap (λ (m : NetLine). m.held) (st.lines y ∙ l) ∙ none_full y j in omega arith)
        ]

    clear_line : (x : ℕ) → is_filled it.whole (f ∷ fs) x ≡ false → s.net.lines x ≡ empty_line n
    clear_line x isnt = st.lines x ∙ (unfilled (f ∷ fs) x isnt).0

    heads : (x y flit : ℕ) → n.ejects x ≡ false → (s.net.lines x).latch ≡ Some flit → y ≡ n.next x (n.told flit) → 0 < (s.net.lines y).held → ⊥
    heads x y flit input latch output credit = elim (seen x) [
      | free isnt ↦ (let none : (s.net.lines x).latch ≡ None = ap (λ (m : NetLine). m.latch) (clear_line x isnt) in absurd (cc))
      | taken j z pa l q nx v on ↦
          let there : (s.net.lines x).latch ≡ Some (word it x j) =
          ap (λ (m : NetLine). m.latch) (st.lines x ∙ (l ∙ ap (λ b. line_of n b (full n b) (word it x j)) input)) in
          let both : Some flit ≡ Some (word it x j) = sym latch ∙ there in
          let same : flit ≡ word it x j = cc in
          let told : it.flits.told flit ≡ it.leg x j = ap it.flits.told same ∙ it.tells.told (it.leg x j) (it.composed.legs x j pa) in
          let go : y ≡ z = output ∙ (ap (table_next it.table x) told ∙ (sym (it.composed.goes x j pa input on).0 ∙ nx)) in
          spent z v (subst (λ a. 0 < (s.net.lines a).held) go credit)
    ]

    bodies : (x flit : ℕ) → n.ejects x ≡ false → (s.net.lines x).latch ≡ Some flit → it.flits.is_head flit ≡ false → ⊥
    bodies x flit input latch rest = elim (seen x) [
      | free isnt ↦ (let none : (s.net.lines x).latch ≡ None = ap (λ (m : NetLine). m.latch) (clear_line x isnt) in absurd (cc))
      | taken j z pa l q nx v on ↦
          let there : (s.net.lines x).latch ≡ Some (word it x j) =
          ap (λ (m : NetLine). m.latch) (st.lines x ∙ (l ∙ ap (λ b. line_of n b (full n b) (word it x j)) input)) in
          let both : Some flit ≡ Some (word it x j) = sym latch ∙ there in
          let same : flit ≡ word it x j = cc in
          let head : it.flits.is_head flit ≡ true = ap it.flits.is_head same ∙ it.tells.head (it.leg x j) (it.composed.legs x j pa) in absurd (cc)
    ]

    rests_none : (x flit : ℕ) (more : List ℕ) → (s.net.lines x).rest ≡ flit ∷ more → ⊥
    rests_none x flit more course = elim (seen x) [
      | free isnt ↦ (let none : (s.net.lines x).rest ≡ [] = ap (λ (m : NetLine). m.rest) (clear_line x isnt) in absurd (cc))
      | taken j z pa l q nx v on ↦
          let none : (s.net.lines x).rest ≡ [] = ap (λ (m : NetLine). m.rest) (st.lines x ∙ l) ∙ no_rest n (n.ejects x) (full n (n.ejects x)) (word it x j) in absurd (cc)
    ]

    returns_none : (x : ℕ) → 0 < (s.net.lines x).returning → ⊥
    returns_none x some = elim (seen x) [
      | free isnt ↦ (let none : (s.net.lines x).returning ≡ 0 = ap (λ (m : NetLine). m.returning) (clear_line x isnt) in omega arith)
      | taken j z pa l q nx v on ↦
          let none : (s.net.lines x).returning ≡ 0 =
          ap (λ (m : NetLine). m.returning) (st.lines x ∙ l) ∙ none_returns n (n.ejects x) (full n (n.ejects x)) (word it x j) in omega arith
    ]

    latches_none : (x flit : ℕ) (more : List ℕ) → n.ejects x ≡ false → (s.net.lines x).latch ≡ None → (s.net.lines x).flits ≡ flit ∷ more → ⊥
    latches_none x flit more input clear some = elim (seen x) [
      | free isnt ↦ (let none : (s.net.lines x).flits ≡ [] = ap (λ (m : NetLine). m.flits) (clear_line x isnt) in absurd (cc))
      | taken j z pa l q nx v on ↦
          let there : (s.net.lines x).latch ≡ Some (word it x j) =
          ap (λ (m : NetLine). m.latch) (st.lines x ∙ (l ∙ ap (λ b. line_of n b (full n b) (word it x j)) input)) in absurd (cc)
    ]

    moves_none : (ev : NetEvent) → IsOwed ev → CanHappen n s.net.lines ev → ⊥
    moves_none (InjectHead x k) owed can = owed
    moves_none (InjectRest x flit rest) owed can = rests_none x flit rest can.course
    moves_none (Latch x flit rest) owed can = latches_none x flit rest can.input can.free can.first
    moves_none (ForwardHead x y flit) owed can = heads x y flit can.input can.full can.output can.credit
    moves_none (ForwardRest x y flit) owed can = bodies x flit can.input can.full can.rest
    moves_none (AcceptHead x flit rest) owed can = owed
    moves_none (AcceptRest x flit rest) owed can = owed
    moves_none (Return x) owed can = returns_none x can.returns

    queue_is : (x j : ℕ) → queues_of (f ∷ fs) x ≡ queue_full it x j → n.ejects x ≡ true → s.queue x ≡ entries (it.ends.room x) (table_next it.whole x j)
    queue_is x j q is = st.queues x ∙ (q ∙ ap (λ b. full_queue it b x (table_next it.whole x j)) is)

    takes_none : (x flit : ℕ) (more : List ℕ) → MustTake n it.ends s x flit more → ⊥
    takes_none x flit more must = elim (seen x) [
      | free isnt ↦ (let none : (s.net.lines x).flits ≡ [] = ap (λ (m : NetLine). m.flits) (clear_line x isnt) in let some = must.first in absurd (cc))
      | taken j z pa l q nx v on ↦ ⊎_elim
          (λ (body : n.is_head flit ≡ false). by_flits (n.depth) refl x j pa flit more must.first body (ap (λ (m : NetLine). m.flits) (st.lines x ∙ (l ∙ ap (λ b. line_of n b (full n b) (word it x j)) must.ejects))))
          (λ (room : length (s.queue x) < it.ends.room x).
          (let size : length (s.queue x) ≡ it.ends.room x = ap length (queue_is x j q must.ejects) ∙ entries_long (it.ends.room x) (table_next it.whole x j) in omega arith))
          must.room
    ]
      where
        by_flits : (d : ℕ) → n.depth ≡ d → (x j : ℕ) → Passes it.whole x j → (flit : ℕ) (more : List ℕ) → (s.net.lines x).flits ≡ flit ∷ more → n.is_head flit ≡ false
            → (s.net.lines x).flits ≡ (line_of n true (full n true) (word it x j)).flits → ⊥
        by_flits zero e x j pa flit more first body is = absurd (omega arith)
        by_flits (suc d) e x j pa flit more first body is =
            let all : flit ∷ more ≡ (line_of n true (suc d) (word it x j)).flits = sym first ∙ (is ∙ ap (λ m. (line_of n true m (word it x j)).flits) e) in
            let same : flit ≡ word it x j = cc in
            let head : it.flits.is_head flit ≡ true = ap it.flits.is_head same ∙ it.tells.head (it.leg x j) (it.composed.legs x j pa) in absurd (cc)

    answers_none : (x y : ℕ) → MustAnswer n s x y → ⊥
    answers_none x y must = elim (seen x) [
      | free isnt ↦ (let none : s.queue x ≡ [] = st.queues x ∙ (unfilled (f ∷ fs) x isnt).1 in let some = must.owes.next in absurd (cc))
      | taken j z pa l q nx v on ↦ by (n.ejects x) refl j z pa q nx v
    ]
      where
        first_is : (m z : ℕ) (o : Owing) (os : List Owing) → entries m z ≡ o ∷ os → o.first ≡ z
        first_is zero z o os is = absurd (cc)
        first_is (suc m) z o os is = ap (λ (r : Owing). r.first) (let same : o ≡ record { first = z; others = [] } = cc in same)

        by : (b : Bool) → n.ejects x ≡ b → (j z : ℕ) → Passes it.whole x j → queues_of (f ∷ fs) x ≡ queue_full it x j → table_next it.whole x j ≡ z
            → (is_filled it.whole (f ∷ fs) z ≡ true) ⊎ (z ≡ e) → ⊥
        by false input j z pa q nx v =
            let none : s.queue x ≡ [] = st.queues x ∙ (q ∙ ap (λ b. full_queue it b x (table_next it.whole x j)) input) in
            let some = must.owes.next in absurd (cc)
        by true is j z pa q nx v =
            let o = must.owes in
            let there : o.owing.first ≡ table_next it.whole x j = first_is (it.ends.room x) (table_next it.whole x j) o.owing o.others (sym (queue_is x j q is) ∙ o.next) in
            let same : y ≡ z = sym o.on ∙ (there ∙ nx) in
            spent z v (subst (λ a. 0 < (s.net.lines a).held) same must.credit)

    still : EndMove n it.ends s → ⊥
    still (NetGoes ev owed can) = moves_none ev owed can
    still (Takes x flit more must) = takes_none x flit more must
    still (Answers x y must) = answers_none x y must

    stands : in_line (s.net.lines e) ≢ []
    stands = λ none.
        not_empty n (n.ejects e) (full n (n.ejects e)) (word it e f.to) (some_room n (n.ejects e) it.deep)
        (sym (ap in_line (st.lines e ∙ update_same (lines_of fs) e _)) ∙ none)

  locked : (fs : List Fill) → IsCircularJam it.whole fs → (events : List EndEvent) × IsEndLockUp n it.ends events
  locked [] jam = let some = jam.some in absurd (omega arith)
  locked (f ∷ fs) jam =
      let head_open = is_open it f fs (head_channel it.whole fs (fill_channel it.whole f)) jam.in_turn.0 jam.waits.0 in
      let all = all_filled (f ∷ fs) (fill_channel it.whole f) jam.in_turn jam.waits head_open in (
        all.events,
        record {
          may = all.may;
          still = still f fs jam (end_after_all n (at_first n) all.events) all.there;
          stuck = fill_channel it.whole f;
          here = within it f fs (head_channel it.whole fs (fill_channel it.whole f)) jam.in_turn.0 jam.waits.0
              (target_open fs (fill_channel it.whole f) jam.in_turn.1 jam.waits.1 head_open) f.step (omega arith);
          stands = stands f fs jam (end_after_all n (at_first n) all.events) all.there;
        },
      )

pub jams_lock : (t : Table) (p : Endpoints) (c : Table) (leg : ℕ → ℕ → ℕ) → AreReplies t p.replies → IsComposed t p c leg → ((x : ℕ) → 0 < p.room x)
    → (fs : List Fill) → IsCircularJam c fs → (depth : ℕ) (flits : Flits) → 0 < depth → HasOneFlitPackets t flits → EndsLockUp t p depth flits
jams_lock t p c leg are comp roomy fs jam depth flits deep tells = λ number top. locked (record {
  table = t;
  ends = p;
  whole = c;
  leg = leg;
  are = are;
  composed = comp;
  roomy = roomy;
  number = number;
  top = top;
  depth = depth;
  flits = flits;
  deep = deep;
  tells = tells;
}) fs jam

pub cycles_lock : (t : Table) (p : Endpoints) (c : Table) (leg : ℕ → ℕ → ℕ) → AreReplies t p.replies → IsComposed t p c leg → ((x : ℕ) → 0 < p.room x)
    → (links : List Link) → AllArrive c → IsCycle c [] links → (depth : ℕ) (flits : Flits) → 0 < depth → HasOneFlitPackets t flits → EndsLockUp t p depth flits
cycles_lock t p c leg are comp roomy links arrive cycle depth flits deep tells =
    let r = has_jam c links arrive cycle in jams_lock t p c leg are comp roomy r.0 r.1 depth flits deep tells
