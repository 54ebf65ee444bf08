-- Filled channels that wait for one another: nothing can go.
use Rattle.std.proofs.Common.{◌≡◌, ◌≢◌, inl, inr, ℕ, zero, suc, ◌+◌, ◌-◌, ◌<◌, ◌≤◌, true, false, List, [], ◌∷◌, Some, None, refl, sym, ◌∙◌, ap}
use Rattle.std.proofs.Common.{subst, arith, cond, eq-eqb, All}
use Rattle.std.proofs.lemmas.Bool.{cases_eq, cases_lt, ne_eqb}
use Rattle.std.proofs.lemmas.List.Elements.{All-nil, All-cons, All-head, All-tail}
use Rattle.std.proofs.lemmas.Option.{slice_get_within}
use Rattle.wormhole.specs.Net.{Net}
use Rattle.wormhole.specs.State.{NetLine, NetState, update, empty_line, in_line}
use Rattle.wormhole.specs.Events.{NetEvent, InjectHead, InjectRest, Latch, ForwardHead, ForwardRest, AcceptHead, AcceptRest, Return}
use Rattle.wormhole.specs.Events.{CanHappen}
use Rattle.wormhole.proofs.Changes.{update_same, update_other}
use Rattle.wormhole.specs.Ends.{IsOwed}
use Rattle.network_judge.specs.declared.table.Kind.TheVariants.{Injection, Hop, Ejection}
use Rattle.network_judge.specs.declared.table.Reply.{Reply}
use Rattle.network_judge.specs.Table.{Table, channels_of, kind_of, table_next, is_receiver}
use Rattle.network_judge.specs.TableNet.{Flits, table_network}
use Rattle.network_judge.specs.Ways.{place, IsWay}
use Rattle.network_judge.specs.Replies.{IsReply}
use Rattle.network_judge.proofs.Places.{place_add}
use Rattle.network_judge.specs.Receivers.{GoesWhere, CanBeTaken}
use Rattle.network_judge.specs.declared.fill.Fill.{Fill}
use Rattle.network_judge.specs.Jams.{fill_channel, is_filled, AreFilledInTurn, WaitsForFilled}
use Rattle.network_judge.specs.LockUps.{HasOneFlitPackets}
use Rattle.network_judge.proofs.Lines.{line_of, full, no_rest, none_returns, no_credit, Stands, not_empty, some_room}

-- what a place on a way is
pub data OnWay (t : Table) (i j len k : ℕ) : Type 0 where
  sender : k ≡ 0 → kind_of t (place t j i k) ≡ Some Injection → OnWay t i j len k
  hop : kind_of t (place t j i k) ≡ Some Hop → OnWay t i j len k
  receiver : k ≡ len → place t j i k ≡ j → kind_of t (place t j i k) ≡ Some Ejection → OnWay t i j len k

pub on_way : (t : Table) (i j len : ℕ) → IsWay t i j len → (k : ℕ) → k ≤ len → OnWay t i j len k
on_way t i j len way zero l = sender refl way.under_way.sender
on_way t i j len way (suc k) l = elim (cases_lt (suc k) len) [
  | inl low ↦ hop (way.under_way.hops (suc k) (omega arith) low)
  | inr high ↦
      let same : suc k ≡ len = omega arith in
      let at : place t j i (suc k) ≡ j = ap (place t j i) same ∙ way.arrives in
      receiver same at (ap (kind_of t) at ∙ way.under_way.receiver)
]

pub on_within : (t : Table) (i j len : ℕ) → IsWay t i j len → (k : ℕ) → k ≤ len → place t j i k < channels_of t
on_within t i j len way k l = elim (on_way t i j len way k l) [
  | sender z e ↦ slice_get_within t.kinds (place t j i k) Injection e
  | hop e ↦ slice_get_within t.kinds (place t j i k) Hop e
  | receiver z a e ↦ slice_get_within t.kinds (place t j i k) Ejection e
]

-- before its end a way is at no ejection channel
pub before_end : (t : Table) (i j len : ℕ) → IsWay t i j len → (k : ℕ) → k < len → is_receiver (kind_of t (place t j i k)) ≡ false
before_end t i j len way k l = elim (on_way t i j len way k (omega arith)) [
  | sender z e ↦ ap is_receiver e
  | hop e ↦ ap is_receiver e
  | receiver z a e ↦ absurd (omega arith)
]

-- a way is nowhere twice
pub simple : (t : Table) (i j len : ℕ) → IsWay t i j len → (a b : ℕ) → a < b → b ≤ len → place t j i a ≢ place t j i b
simple t i j len way a b less low = λ same.
    (let d : ℕ = len - b in
    let one : place t j i (a + d) ≡ j =
    sym (place_add t j i a d (a + d) refl) ∙ (ap (λ z. place t j z d) same ∙ (place_add t j i b d len (omega arith) ∙ way.arrives)) in
    let before : is_receiver (kind_of t (place t j i (a + d))) ≡ false = before_end t i j len way (a + d) (omega arith) in
    let yes : is_receiver (kind_of t (place t j i (a + d))) ≡ true = ap (λ z. is_receiver (kind_of t z)) one ∙ ap is_receiver way.under_way.receiver in
    absurd (cc))

-- the way of a channel's packets
pub record HasWay (t : Table) (f : Fill) : Type 0 where
  pub len : ℕ
  pub way : IsWay t f.from f.to len
  pub on : f.step ≤ len

pub with_ways : (t : Table) (P : Fill → Type 0) (fs : List Fill) → AreFilledInTurn t fs → All P fs → All (λ f. P f × HasWay t f) fs
with_ways t P [] turn all = All-nil (λ f. P f × HasWay t f)
with_ways t P (f ∷ fs) turn all =
    All-cons (λ f. P f × HasWay t f) f fs
    (All-head P f fs all, record { len = turn.0.length; way = turn.0.way; on = turn.0.on })
    (with_ways t P fs turn.1 (All-tail P f fs all))

module _ (t : Table) (number : ℕ → ℕ) (top depth : ℕ) (flits : Flits) (deep : 0 < depth) (tells : HasOneFlitPackets t flits) where
  abbrev pub net : Net
  net = table_network t number top depth flits

  -- a channel that is filled with packets to j
  abbrev pub full_line : ℕ → ℕ → NetLine
  full_line x j = line_of net (net.ejects x) (full net (net.ejects x)) (tells.word j)

  -- the channels once these are filled
  abbrev pub lines_of : List Fill → ℕ → NetLine
  lines_of [] = λ x. empty_line net
  lines_of (f ∷ fs) = update (lines_of fs) (fill_channel t f) (full_line (fill_channel t f) f.to)

  -- a channel: empty, or full
  pub data Seen (fs : List Fill) (P : Fill → Type 0) (x : ℕ) : Type 0 where
    free : is_filled t fs x ≡ false → lines_of fs x ≡ empty_line net → Seen fs P x
    taken : (f : Fill) → P f → fill_channel t f ≡ x → lines_of fs x ≡ full_line x f.to → Seen fs P x

  pub look : (P : Fill → Type 0) (fs : List Fill) → All P fs → (x : ℕ) → Seen fs P x
  look P [] all x = free refl refl
  look P (f ∷ fs) all x = elim (cases_eq x (fill_channel t f)) [
    | inl e ↦ taken f (All-head P f fs all) (sym e)
        (ap (update (lines_of fs) (fill_channel t f) (full_line (fill_channel t f) f.to)) e
        ∙ (update_same (lines_of fs) (fill_channel t f) (full_line (fill_channel t f) f.to) ∙ ap (λ z. full_line z f.to) (sym e)))
    | inr d ↦
        let same : lines_of (f ∷ fs) x ≡ lines_of fs x = update_other (lines_of fs) (fill_channel t f) (full_line (fill_channel t f) f.to) x d in
        let also : is_filled t (f ∷ fs) x ≡ is_filled t fs x = ap (λ b. cond b true (is_filled t fs x)) (ne_eqb (fill_channel t f) x (λ e. d (sym e))) in
        elim (look P fs (All-tail P f fs all) x) [
          | free isnt e ↦ free (also ∙ isnt) (same ∙ e)
          | taken g p at e ↦ taken g p at (same ∙ e)
        ]
  ]

  pub unfilled : (fs : List Fill) (x : ℕ) → is_filled t fs x ≡ false → lines_of fs x ≡ empty_line net
  unfilled [] x isnt = refl
  unfilled (f ∷ fs) x isnt = elim (cases_eq x (fill_channel t f)) [
    | inl e ↦
        let yes : is_filled t (f ∷ fs) x ≡ true = ap (λ b. cond b true (is_filled t fs x)) (eq-eqb (fill_channel t f) x (sym e)) in absurd (cc)
    | inr d ↦
        let also : is_filled t (f ∷ fs) x ≡ is_filled t fs x = ap (λ b. cond b true (is_filled t fs x)) (ne_eqb (fill_channel t f) x (λ e. d (sym e))) in
        update_other (lines_of fs) (fill_channel t f) (full_line (fill_channel t f) f.to) x d ∙ unfilled fs x (sym also ∙ isnt)
  ]

  module _ (replies : List Reply) (fs : List Fill) (s : NetState) (st : Stands s (lines_of fs))
      (all : All (λ f. WaitsForFilled t replies fs f × HasWay t f) fs) where
    abbrev At : ℕ → Type 0
    At = Seen fs (λ f. WaitsForFilled t replies fs f × HasWay t f)

    seen : (x : ℕ) → At x
    seen x = look (λ f. WaitsForFilled t replies fs f × HasWay t f) fs all x

    -- a filled channel has no credit
    spent : (x : ℕ) → is_filled t fs x ≡ true → 0 < (s.lines x).held → ⊥
    spent x is credit = elim (seen x) [
      | free isnt e ↦ absurd (cc)
      | taken f p at e ↦
          let none : (s.lines x).held ≡ 0 = ap (λ (l : NetLine). l.held) (st x ∙ e) ∙ no_credit net (net.ejects x) (tells.word f.to) deep in
          omega arith
    ]

    -- what stands in a latch
    pub record Latched (x flit : ℕ) : Type 0 where
      pub fill : Fill
      pub waits : WaitsForFilled t replies fs fill
      pub way : HasWay t fill
      pub at : fill_channel t fill ≡ x
      pub word : flit ≡ tells.word fill.to

    latched : (x flit : ℕ) → net.ejects x ≡ false → (s.lines x).latch ≡ Some flit → Latched x flit
    latched x flit input is = elim (seen x) [
      | free isnt e ↦ let none : (s.lines x).latch ≡ None = ap (λ (l : NetLine). l.latch) (st x ∙ e) in absurd (cc)
      | taken f p at e ↦
          let there : (s.lines x).latch ≡ Some (tells.word f.to) =
          ap (λ (l : NetLine). l.latch) (st x ∙ (e ∙ ap (λ b. line_of net b (full net b) (tells.word f.to)) input)) in
          record { fill = f; waits = p.0; way = p.1; at = at; word = (let same : Some flit ≡ Some (tells.word f.to) = sym is ∙ there in cc) }
    ]

    rests : (x flit : ℕ) (more : List ℕ) → (s.lines x).rest ≡ flit ∷ more → ⊥
    rests x flit more course = elim (seen x) [
      | free isnt e ↦ let none : (s.lines x).rest ≡ [] = ap (λ (l : NetLine). l.rest) (st x ∙ e) in absurd (cc)
      | taken f p at e ↦
          let none : (s.lines x).rest ≡ [] = ap (λ (l : NetLine). l.rest) (st x ∙ e) ∙ no_rest net (net.ejects x) (full net (net.ejects x)) (tells.word f.to) in
          absurd (cc)
    ]

    returns : (x : ℕ) → 0 < (s.lines x).returning → ⊥
    returns x some = elim (seen x) [
      | free isnt e ↦ let none : (s.lines x).returning ≡ 0 = ap (λ (l : NetLine). l.returning) (st x ∙ e) in omega arith
      | taken f p at e ↦
          let none : (s.lines x).returning ≡ 0 =
          ap (λ (l : NetLine). l.returning) (st x ∙ e) ∙ none_returns net (net.ejects x) (full net (net.ejects x)) (tells.word f.to) in
          omega arith
    ]

    takes_none : (x flit : ℕ) (more : List ℕ) → net.ejects x ≡ false → (s.lines x).latch ≡ None → (s.lines x).flits ≡ flit ∷ more → ⊥
    takes_none x flit more input clear some = elim (seen x) [
      | free isnt e ↦ let none : (s.lines x).flits ≡ [] = ap (λ (l : NetLine). l.flits) (st x ∙ e) in absurd (cc)
      | taken f p at e ↦
          let there : (s.lines x).latch ≡ Some (tells.word f.to) =
          ap (λ (l : NetLine). l.latch) (st x ∙ (e ∙ ap (λ b. line_of net b (full net b) (tells.word f.to)) input)) in absurd (cc)
    ]

    pub still : GoesWhere net s replies ⊥
    still = record { moves = moves; takes = takes }
      where
        heads : (x y flit : ℕ) → net.ejects x ≡ false → y ≡ net.next x (net.told flit) → 0 < (s.lines y).held → Latched x flit → ⊥
        heads x y flit input output credit l =
            let to : kind_of t l.fill.to ≡ Some Ejection = l.way.way.under_way.receiver in
            let told : flits.told flit ≡ l.fill.to = ap flits.told l.word ∙ tells.told l.fill.to to in
            let apart : fill_channel t l.fill ≢ l.fill.to = λ e.
            (let ends : net.ejects x ≡ true = ap (λ z. is_receiver (kind_of t z)) (sym l.at ∙ e) ∙ ap is_receiver to in absurd (cc)) in
            let there : y ≡ table_next t (fill_channel t l.fill) l.fill.to = output ∙ (ap (table_next t x) told ∙ ap (λ z. table_next t z l.fill.to) (sym l.at)) in
            spent y (ap (is_filled t fs) there ∙ l.waits.under_way apart) credit

        moves : (e : NetEvent) → IsOwed e → CanHappen net s.lines e → ⊥
        moves (InjectHead x k) owed c = owed
        moves (InjectRest x flit more) owed c = rests x flit more c.course
        moves (Latch x flit more) owed c = takes_none x flit more c.input c.free c.first
        moves (ForwardHead x y flit) owed c = heads x y flit c.input c.output c.credit (latched x flit c.input c.full)
        moves (ForwardRest x y flit) owed c =
            let l = latched x flit c.input c.full in
            let head : flits.is_head flit ≡ true = ap flits.is_head l.word ∙ tells.head l.fill.to l.way.way.under_way.receiver in
            let rest = c.rest in absurd (cc)
        moves (AcceptHead x flit more) owed c = owed
        moves (AcceptRest x flit more) owed c = owed
        moves (Return x) owed c = returns x c.returns

        takes : (x flit : ℕ) (more : List ℕ) → CanBeTaken net s replies x flit more → ⊥
        takes x flit more c = elim (seen x) [
          | free isnt e ↦ let none : (s.lines x).flits ≡ [] = ap (λ (l : NetLine). l.flits) (st x ∙ e) in let some = c.first in absurd (cc)
          | taken f p at e ↦
              let ends : is_receiver (kind_of t (fill_channel t f)) ≡ true = ap (λ z. is_receiver (kind_of t z)) at ∙ c.ejects in
              let w = p.1 in
              let on = w.on in
              let last : f.step ≡ w.len = elim (cases_lt f.step w.len) [
                | inl low ↦ let before = before_end t f.from f.to w.len w.way f.step low in absurd (cc)
                | inr high ↦ omega arith
              ] in
              let here : fill_channel t f ≡ f.to = ap (place t f.to f.from) last ∙ w.way.arrives in
              let r = p.0.at_end here in
              spent r.0 r.2 (c.credits r.0 (subst (λ z. IsReply replies z r.0) (sym here ∙ at) r.1))
        ]

  -- a filled channel isn't empty
  pub occupied : (fs : List Fill) (f : Fill) (s : NetState) → Stands s (lines_of (f ∷ fs)) → in_line (s.lines (fill_channel t f)) ≢ []
  occupied fs f s st =
      let x = fill_channel t f in
      let is : s.lines x ≡ full_line x f.to = st x ∙ update_same (lines_of fs) x (full_line x f.to) in
      λ none. not_empty net (net.ejects x) (full net (net.ejects x)) (tells.word f.to) (some_room net (net.ejects x) deep) (sym (ap in_line is) ∙ none)
