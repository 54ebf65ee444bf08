-- Filled channels whose packets wait for one another wherever they could go: nothing can go.
use Rattle.std.proofs.Common.{◌≡◌, ◌≢◌, inl, inr, ⊎_elim, ℕ, zero, suc, ◌<◌, ◌≤◌, Bool, true, false, List, [], ◌∷◌, Some, None, refl, sym, ◌∙◌, ap}
use Rattle.std.proofs.Common.{arith, cond, eq-eqb, All}
use Rattle.std.proofs.lemmas.Bool.{cases_eq, ne_eqb}
use Rattle.std.proofs.lemmas.List.Elements.{All-nil, All-cons, All-head, All-tail}
use Rattle.wormhole.specs.Net.{Net}
use Rattle.wormhole.specs.State.{NetLine, NetState, update, empty_line, in_line}
use Rattle.wormhole.specs.Events.{NetEvent, InjectHead, InjectRest, Latch, ForwardHead, ForwardRest, AcceptHead, AcceptRest, Return}
use Rattle.wormhole.specs.Ends.{IsOwed}
use Rattle.wormhole.proofs.Changes.{update_same, update_other}
use Rattle.network_judge.proofs.Lines.{line_of, full, no_rest, none_returns, no_credit, Stands, not_empty, some_room}
use Rattle.network_adaptive.specs.Choices.{AdaptiveNet, IsAdaptiveNet, IsChoice}
use Rattle.network_adaptive.specs.Flow.{CanOccur, CanAllocate}
use Rattle.network_adaptive.specs.Progress.{CanConsume}
use Rattle.deadlock_laws.specs.Fillings.{Filling, enters_behind, is_occupied, is_full, FillInTurn, WaitsForAll}
use Rattle.deadlock_laws.specs.LockUps.{GoesByChoices, HasSingleFlitPackets}
use Rattle.deadlock_laws.proofs.ChoiceMoves.{receiver}

-- how many packets a channel gets
abbrev pub count : Net → Bool → Bool → ℕ
count n e true = full n e
count n e false = 1

pub some_count : (n : Net) (e b : Bool) → 0 < n.depth → 0 < count n e b
some_count n e true deep = some_room n e deep
some_count n e false deep = omega arith

pub count_within : (n : Net) (e b : Bool) → 0 < n.depth → count n e b ≤ full n e
count_within n e true deep = omega arith
count_within n true false deep = deep
count_within n false false deep = omega arith

-- the latch behind a channel with packets
latch_of : (n : Net) (c w : ℕ) → 0 < c → (line_of n false c w).latch ≡ Some w
latch_of n zero w some = absurd (omega arith)
latch_of n (suc c) w some = refl

-- the packets of a channel go to a receiver
pub with_receivers : (n : AdaptiveNet) → IsAdaptiveNet n → (P : Filling → Type 0) (fs : List Filling) → FillInTurn n fs → All P fs
    → All (λ f. P f × (n.frame.ejects f.to ≡ true)) fs
with_receivers n is P [] turn all = All-nil (λ f. P f × (n.frame.ejects f.to ≡ true))
with_receivers n is P (f ∷ fs) turn all =
    All-cons (λ f. P f × (n.frame.ejects f.to ≡ true)) f fs
    (All-head P f fs all, receiver n is f.to f.at f.before turn.0.way)
    (with_receivers n is P fs turn.1 (All-tail P f fs all))

module _ (n : AdaptiveNet) (deep : 0 < n.frame.depth) (tells : HasSingleFlitPackets n) where
  -- a filled channel
  abbrev pub line_at : Filling → ℕ → NetLine
  line_at f x =
      line_of n.frame (n.frame.ejects x) (count n.frame (n.frame.ejects x) (enters_behind n f.to f.at f.before)) (tells.word f.to)

  -- the channels once these are filled
  abbrev pub lines_of : List Filling → ℕ → NetLine
  lines_of [] = λ x. empty_line n.frame
  lines_of (f ∷ fs) = update (lines_of fs) f.at (line_at f f.at)

  -- a channel: empty, or filled
  pub data Seen (fs : List Filling) (P : Filling → Type 0) (x : ℕ) : Type 0 where
    free : is_occupied fs x ≡ false → is_full n fs x ≡ false → lines_of fs x ≡ empty_line n.frame → Seen fs P x
    taken : (f : Filling) → P f → f.at ≡ x → is_full n fs x ≡ enters_behind n f.to f.at f.before → lines_of fs x ≡ line_at f x → Seen fs P x

  pub look : (P : Filling → Type 0) (fs : List Filling) → All P fs → (x : ℕ) → Seen fs P x
  look P [] all x = free refl refl refl
  look P (f ∷ fs) all x = elim (cases_eq x f.at) [
    | inl e ↦ taken f (All-head P f fs all) (sym e)
        (ap (λ b. cond b (enters_behind n f.to f.at f.before) (is_full n fs x)) (eq-eqb f.at x (sym e)))
        (ap (update (lines_of fs) f.at (line_at f f.at)) e
        ∙ (update_same (lines_of fs) f.at (line_at f f.at) ∙ ap (λ z. line_at f z) (sym e)))
    | inr d ↦
        let same : lines_of (f ∷ fs) x ≡ lines_of fs x = update_other (lines_of fs) f.at (line_at f f.at) x d in
        let also : is_occupied (f ∷ fs) x ≡ is_occupied fs x = ap (λ b. cond b true (is_occupied fs x)) (ne_eqb f.at x (λ e. d (sym e))) in
        let up : is_full n (f ∷ fs) x ≡ is_full n fs x =
        ap (λ b. cond b (enters_behind n f.to f.at f.before) (is_full n fs x)) (ne_eqb f.at x (λ e. d (sym e))) in
        elim (look P fs (All-tail P f fs all) x) [
          | free isnt low e ↦ free (also ∙ isnt) (up ∙ low) (same ∙ e)
          | taken g p at b e ↦ taken g p at (up ∙ b) (same ∙ e)
        ]
  ]

  pub unfilled : (fs : List Filling) (x : ℕ) → is_occupied fs x ≡ false → lines_of fs x ≡ empty_line n.frame
  unfilled [] x isnt = refl
  unfilled (f ∷ fs) x isnt = elim (cases_eq x f.at) [
    | inl e ↦
        let yes : is_occupied (f ∷ fs) x ≡ true = ap (λ b. cond b true (is_occupied fs x)) (eq-eqb f.at x (sym e)) in absurd (cc)
    | inr d ↦
        let also : is_occupied (f ∷ fs) x ≡ is_occupied fs x = ap (λ b. cond b true (is_occupied fs x)) (ne_eqb f.at x (λ e. d (sym e))) in
        update_other (lines_of fs) f.at (line_at f f.at) x d ∙ unfilled fs x (sym also ∙ isnt)
  ]

  module _ (answers : ℕ → ℕ → Bool) (fs : List Filling) (s : NetState) (st : Stands s (lines_of fs))
      (all : All (λ f. WaitsForAll n answers fs f × (n.frame.ejects f.to ≡ true)) fs) where
    abbrev At : ℕ → Type 0
    At = Seen fs (λ f. WaitsForAll n answers fs f × (n.frame.ejects f.to ≡ true))

    seen : (x : ℕ) → At x
    seen x = look (λ f. WaitsForAll n answers fs f × (n.frame.ejects f.to ≡ true)) fs all x

    -- a channel that is filled up has no credit
    spent : (x : ℕ) → is_full n fs x ≡ true → 0 < (s.lines x).held → ⊥
    spent x is credit = elim (seen x) [
      | free isnt low e ↦ absurd (cc)
      | taken f p at b e ↦
          let up : enters_behind n f.to f.at f.before ≡ true = sym b ∙ is in
          let none : (s.lines x).held ≡ 0 =
          ap (λ (l : NetLine). l.held) (st x ∙ (e ∙ ap (λ c. line_of n.frame (n.frame.ejects x) (count n.frame (n.frame.ejects x) c) (tells.word f.to)) up))
          ∙ no_credit n.frame (n.frame.ejects x) (tells.word f.to) deep in
          omega arith
    ]

    -- a filled channel isn't empty
    held_in : (x : ℕ) → is_occupied fs x ≡ true → in_line (s.lines x) ≢ []
    held_in x is = elim (seen x) [
      | free isnt low e ↦ absurd (cc)
      | taken f p at b e ↦ λ none.
          not_empty n.frame (n.frame.ejects x) (count n.frame (n.frame.ejects x) (enters_behind n f.to f.at f.before)) (tells.word f.to)
          (some_count n.frame (n.frame.ejects x) (enters_behind n f.to f.at f.before) deep) (sym (ap in_line (st x ∙ e)) ∙ none)
    ]

    -- what stands in a latch
    pub record Latched (x flit : ℕ) : Type 0 where
      pub fill : Filling
      pub waits : WaitsForAll n answers fs fill
      pub goal : n.frame.ejects fill.to ≡ true
      pub at : fill.at ≡ x
      pub word : flit ≡ tells.word fill.to

    there : (f : Filling) (x : ℕ) → n.frame.ejects x ≡ false → lines_of fs x ≡ line_at f x → (s.lines x).latch ≡ Some (tells.word f.to)
    there f x input e =
        ap (λ (l : NetLine). l.latch) (st x ∙ (e ∙ ap (λ b. line_of n.frame b (count n.frame b (enters_behind n f.to f.at f.before)) (tells.word f.to)) input))
        ∙ latch_of n.frame (count n.frame false (enters_behind n f.to f.at f.before)) (tells.word f.to) (some_count n.frame false (enters_behind n f.to f.at f.before) deep)

    latched : (x flit : ℕ) → n.frame.ejects x ≡ false → (s.lines x).latch ≡ Some flit → Latched x flit
    latched x flit input is = elim (seen x) [
      | free isnt low e ↦ let none : (s.lines x).latch ≡ None = ap (λ (l : NetLine). l.latch) (st x ∙ e) in absurd (cc)
      | taken f p at b e ↦
          let stands : (s.lines x).latch ≡ Some (tells.word f.to) = there f x input e in
          record { fill = f; waits = p.0; goal = p.1; at = at; word = (let same : Some flit ≡ Some (tells.word f.to) = sym is ∙ stands in cc) }
    ]

    rests : (x flit : ℕ) (more : List ℕ) → (s.lines x).rest ≡ flit ∷ more → ⊥
    rests x flit more course = elim (seen x) [
      | free isnt low e ↦ let none : (s.lines x).rest ≡ [] = ap (λ (l : NetLine). l.rest) (st x ∙ e) in absurd (cc)
      | taken f p at b e ↦
          let none : (s.lines x).rest ≡ [] =
          ap (λ (l : NetLine). l.rest) (st x ∙ e)
          ∙ no_rest n.frame (n.frame.ejects x) (count n.frame (n.frame.ejects x) (enters_behind n f.to f.at f.before)) (tells.word f.to) in
          absurd (cc)
    ]

    returns : (x : ℕ) → 0 < (s.lines x).returning → ⊥
    returns x some = elim (seen x) [
      | free isnt low e ↦ let none : (s.lines x).returning ≡ 0 = ap (λ (l : NetLine). l.returning) (st x ∙ e) in omega arith
      | taken f p at b e ↦
          let none : (s.lines x).returning ≡ 0 =
          ap (λ (l : NetLine). l.returning) (st x ∙ e)
          ∙ none_returns n.frame (n.frame.ejects x) (count n.frame (n.frame.ejects x) (enters_behind n f.to f.at f.before)) (tells.word f.to) in
          omega arith
    ]

    takes_none : (x flit : ℕ) (more : List ℕ) → n.frame.ejects x ≡ false → (s.lines x).latch ≡ None → (s.lines x).flits ≡ flit ∷ more → ⊥
    takes_none x flit more input clear some = elim (seen x) [
      | free isnt low e ↦ let none : (s.lines x).flits ≡ [] = ap (λ (l : NetLine). l.flits) (st x ∙ e) in absurd (cc)
      | taken f p at b e ↦
          let stands : (s.lines x).latch ≡ Some (tells.word f.to) = there f x input e in absurd (cc)
    ]

    -- a head flit has no choice with room
    heads : (x y flit : ℕ) → CanAllocate n (s.lines x) (s.lines y) x y flit → Latched x flit → ⊥
    heads x y flit c l =
        let told : n.frame.told flit ≡ l.fill.to = ap n.frame.told l.word ∙ tells.told l.fill.to l.goal in
        let choice : IsChoice n l.fill.to l.fill.at y = record {
          input = ap n.frame.ejects l.at ∙ c.input;
          chosen = ap (λ z. n.chooses z l.fill.to y) l.at ∙ (ap (λ z. n.chooses x z y) (sym told) ∙ c.chosen);
        } in
        ⊎_elim
        (λ (b : n.escapes x (n.frame.told flit) y ≡ true).
        spent y (l.waits.full y choice (ap (λ z. n.escapes z l.fill.to y) l.at ∙ (ap (λ z. n.escapes x z y) (sym told) ∙ b))) c.credit)
        (λ (b : in_line (s.lines y) ≡ []). held_in y (l.waits.occupied y choice) b)
        c.room

    pub still : GoesByChoices n s answers ⊥
    still = record { moves = moves; takes = takes }
      where
        moves : (e : NetEvent) → IsOwed e → CanOccur n s.lines e → ⊥
        moves (InjectHead x k) owed c = owed
        moves (InjectRest x flit more) owed c = rests x flit more c.course
        moves (Latch x flit more) owed c = takes_none x flit more c.input c.free c.first
        moves (ForwardHead x y flit) owed c = heads x y flit c (latched x flit c.input c.full)
        moves (ForwardRest x y flit) owed c =
            let l = latched x flit c.input c.full in
            let head : n.frame.is_head flit ≡ true = ap n.frame.is_head l.word ∙ tells.head l.fill.to l.goal in
            let rest = c.rest in absurd (cc)
        moves (AcceptHead x flit more) owed c = owed
        moves (AcceptRest x flit more) owed c = owed
        moves (Return x) owed c = returns x c.returns

        takes : (x flit : ℕ) (more : List ℕ) → CanConsume n s answers x flit more → ⊥
        takes x flit more c = elim (seen x) [
          | free isnt low e ↦ let none : (s.lines x).flits ≡ [] = ap (λ (l : NetLine). l.flits) (st x ∙ e) in let some = c.first in absurd (cc)
          | taken f p at b e ↦
              let r = p.0.at_end (ap n.frame.ejects at ∙ c.ejects) in
              spent r.0 r.2 (c.credits r.0 (ap (λ z. answers z r.0) (sym at) ∙ r.1))
        ]

  -- the channel that is filled last isn't empty
  pub occupied : (fs : List Filling) (f : Filling) (s : NetState) → Stands s (lines_of (f ∷ fs)) → in_line (s.lines f.at) ≢ []
  occupied fs f s st =
      let up = enters_behind n f.to f.at f.before in
      let e = n.frame.ejects f.at in
      let is : s.lines f.at ≡ line_at f f.at = st f.at ∙ update_same (lines_of fs) f.at (line_at f f.at) in
      λ none. not_empty n.frame e (count n.frame e up) (tells.word f.to) (some_count n.frame e up deep) (sym (ap in_line is) ∙ none)
