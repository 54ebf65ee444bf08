-- All channels of a circular jam full: nothing can go.
use Rattle.std.proofs.Common.{◌≡◌, ◌≢◌, ◌⊎◌, inl, inr, ⊎_elim, ℕ, ◌-◌, ◌<◌, Bool, true, false, List, [], ◌∷◌, length, Option, Some, None, refl, sym, ◌∙◌, ap}
use Rattle.std.proofs.Common.{subst, arith}
use Rattle.std.proofs.lemmas.Bool.{cases_eq}
use Rattle.wormhole.specs.Net.{Net}
use Rattle.wormhole.specs.State.{NetLine, NetState, in_line}
use Rattle.wormhole.specs.Events.{NetEvent, InjectHead, InjectRest, Latch, ForwardHead, ForwardRest, AcceptHead, AcceptRest, Return, CanHappen}
use Rattle.wormhole.specs.Ends.{IsOwed}
use Rattle.network_judge.specs.Table.{channels_of, table_next}
use Rattle.network_judge.specs.Receivers.{GoesWhere, CanBeTaken}
use Rattle.network_judge.specs.declared.fill.Fill.{Fill}
use Rattle.network_judge.specs.Jams.{fill_channel, is_filled}
use Rattle.deadlock_laws.proofs.LengthFilled.{filled_other}
use Rattle.deadlock_laws.specs.CircularJams.{head_channel}
use Rattle.deadlock_laws.proofs.Lines.{line}
use Rattle.deadlock_laws.proofs.Levels.{Fitting, net, GoesTo, Below}

module _ (fit : Fitting) where
  abbrev n : Net
  n = net fit

  -- a channel that nothing leaves: what stands first in it is a body flit, or a head flit whose next channel has no credit
  pub record Blocked (s : NetState) (x : ℕ) : Type 0 where
    pub input : n.ejects x ≡ false
    pub word : ℕ
    pub latch : (s.lines x).latch ≡ Some word
    pub returning : (s.lines x).returning ≡ 0
    pub rest : ((s.lines x).rest ≡ []) ⊎ ((s.lines x).held ≡ 0)
    pub spent : fit.flits.is_head word ≡ true → (s.lines (table_next fit.table x (fit.flits.told word))).held ≡ 0

  -- all are blocked or empty, and a channel with an owner has no credit
  pub record Ended (s : NetState) : Type 0 where
    pub each : (x : ℕ) → (s.lines x ≡ line n [] None []) ⊎ Blocked s x
    pub owned : (x y : ℕ) → (s.lines y).owner ≡ Some x → (s.lines y).held ≡ 0
    pub stuck : ℕ
    pub inside : stuck < channels_of fit.table
    pub stands : in_line (s.lines stuck) ≢ []

  pub still : (s : NetState) → Ended s → GoesWhere n s [] ⊥
  still s done = record { moves = moves_none; takes = takes }
    where
      heads : (x y flit : ℕ) → (s.lines x).latch ≡ Some flit → fit.flits.is_head flit ≡ true → y ≡ table_next fit.table x (fit.flits.told flit) → 0 < (s.lines y).held → ⊥
      heads x y flit latch head output credit = elim (done.each x) [
        | inl e ↦ (let none : (s.lines x).latch ≡ None = ap (λ (l : NetLine). l.latch) e in absurd (cc))
        | inr b ↦
            let both : Some flit ≡ Some b.word = sym latch ∙ b.latch in
            let same : flit ≡ b.word = cc in
            let none = b.spent (ap fit.flits.is_head (sym same) ∙ head) in
            let there : y ≡ table_next fit.table x (fit.flits.told b.word) = output ∙ ap (λ w. table_next fit.table x (fit.flits.told w)) same in
            let held : (s.lines y).held ≡ 0 = ap (λ z. (s.lines z).held) there ∙ none in
            omega arith
      ]

      rests : (x flit : ℕ) (more : List ℕ) → (s.lines x).rest ≡ flit ∷ more → 0 < (s.lines x).held → ⊥
      rests x flit more course credit = elim (done.each x) [
        | inl e ↦ (let none : (s.lines x).rest ≡ [] = ap (λ (l : NetLine). l.rest) e in absurd (cc))
        | inr b ↦ ⊎_elim (λ (none : (s.lines x).rest ≡ []). absurd (cc)) (λ (none : (s.lines x).held ≡ 0). absurd (omega arith)) b.rest
      ]

      latches : (x flit : ℕ) (more : List ℕ) → (s.lines x).latch ≡ None → (s.lines x).flits ≡ flit ∷ more → ⊥
      latches x flit more clear some = elim (done.each x) [
        | inl e ↦ (let none : (s.lines x).flits ≡ [] = ap (λ (l : NetLine). l.flits) e in absurd (cc))
        | inr b ↦ (let there = b.latch in absurd (cc))
      ]

      returns : (x : ℕ) → 0 < (s.lines x).returning → ⊥
      returns x some = elim (done.each x) [
        | inl e ↦ (let none : (s.lines x).returning ≡ 0 = ap (λ (l : NetLine). l.returning) e in omega arith)
        | inr b ↦ (let none = b.returning in omega arith)
      ]

      bodies : (x y : ℕ) → (s.lines y).owner ≡ Some x → 0 < (s.lines y).held → ⊥
      bodies x y owned credit = let none = done.owned x y owned in omega arith

      moves_none : (e : NetEvent) → IsOwed e → CanHappen n s.lines e → ⊥
      moves_none (InjectHead x k) owed c = owed
      moves_none (InjectRest x flit rest) owed c = rests x flit rest c.course c.credit
      moves_none (Latch x flit rest) owed c = latches x flit rest c.free c.first
      moves_none (ForwardHead x y flit) owed c = heads x y flit c.full c.head c.output c.credit
      moves_none (ForwardRest x y flit) owed c = bodies x y c.owned c.credit
      moves_none (AcceptHead x flit rest) owed c = owed
      moves_none (AcceptRest x flit rest) owed c = owed
      moves_none (Return x) owed c = returns x c.returns

      takes : (x flit : ℕ) (rest : List ℕ) → CanBeTaken n s [] x flit rest → ⊥
      takes x flit rest c = elim (done.each x) [
        | inl e ↦ (let none : (s.lines x).flits ≡ [] = ap (λ (l : NetLine). l.flits) e in let some = c.first in absurd (cc))
        | inr b ↦ (let input = b.input in let ejects = c.ejects in absurd (cc))
      ]

  -- the channel that was filled last, full
  pub record Brimful (s : NetState) (x y : ℕ) : Type 0 where
    pub inside : x < channels_of fit.table
    pub input : n.ejects x ≡ false
    pub word : ℕ
    pub words : List ℕ
    pub owner : Option ℕ
    pub rest : List ℕ
    pub line : s.lines x ≡ line n (word ∷ words) owner rest
    pub full : length words ≡ fit.depth
    pub goes : GoesTo fit x y word

  -- any other channel: empty, or with a body flit in the latch behind it
  abbrev pub Side : NetState → ℕ → Type 0
  Side s x = (s.lines x ≡ line n [] None [])
      ⊎ ((b : ℕ) × (bs : List ℕ) × (fit.flits.is_head b ≡ false) × (n.ejects x ≡ false) × (s.lines x ≡ line n (b ∷ bs) None []))

  no_held : (s : NetState) (x w : ℕ) (ws : List ℕ) (o : Option ℕ) (r : List ℕ) → s.lines x ≡ line n (w ∷ ws) o r → length ws ≡ fit.depth → (s.lines x).held ≡ 0
  no_held s x w ws o r is full = (let held : (s.lines x).held ≡ fit.depth - length ws = ap (λ (l : NetLine). l.held) is in omega arith)

  -- the channels filled before are blocked, if the one that the last of them waits for has no credit
  target_spent : (s : NetState) (gs : List Fill) (e : ℕ) → (s.lines e).held ≡ 0 → Below fit s gs e → (s.lines (head_channel fit.table gs e)).held ≡ 0
  target_spent s [] e none b = none
  target_spent s (g ∷ gs) e none b = no_held s (fill_channel fit.table g) b.0.word b.0.words b.0.owner [] b.0.line b.0.full

  below_blocked : (s : NetState) (gs : List Fill) (e : ℕ) → (s.lines e).held ≡ 0 → Below fit s gs e → (x : ℕ) → is_filled fit.table gs x ≡ true → Blocked s x
  below_blocked s [] e none b x is = absurd (cc)
  below_blocked s (g ∷ gs) e none b x is = elim (cases_eq (fill_channel fit.table g) x) [
    | inl same ↦ subst (Blocked s) same (record {
      input = b.0.input;
      word = b.0.word;
      latch = ap (λ (l : NetLine). l.latch) b.0.line;
      returning = ap (λ (l : NetLine). l.returning) b.0.line;
      rest = inl (ap (λ (l : NetLine). l.rest) b.0.line);
      spent = λ head. ap (λ z. (s.lines z).held) (b.0.goes head) ∙ target_spent s gs e none b.1;
    })
    | inr apart ↦ below_blocked s gs e none b.1 x (sym (filled_other fit.table g gs x apart) ∙ is)
  ]

  below_owned : (s : NetState) (gs : List Fill) (e : ℕ) → Below fit s gs e → (x : ℕ) → is_filled fit.table gs x ≡ true → (s.lines x).held ≡ 0
  below_owned s [] e b x is = absurd (cc)
  below_owned s (g ∷ gs) e b x is = elim (cases_eq (fill_channel fit.table g) x) [
    | inl same ↦ subst (λ z. (s.lines z).held ≡ 0) same (no_held s (fill_channel fit.table g) b.0.word b.0.words b.0.owner [] b.0.line b.0.full)
    | inr apart ↦ below_owned s gs e b.1 x (sym (filled_other fit.table g gs x apart) ∙ is)
  ]

  pub ended : (s : NetState) (f : Fill) (fs : List Fill) → Brimful s (fill_channel fit.table f) (head_channel fit.table fs (fill_channel fit.table f)) → Below fit s fs (fill_channel fit.table f)
      → ((x : ℕ) → is_filled fit.table (f ∷ fs) x ≡ false → Side s x) → Ended s
  ended s f fs last below side = record {
    each = λ x. by x (is_filled fit.table (f ∷ fs) x) refl;
    owned = λ x y owned. spent x y owned (is_filled fit.table (f ∷ fs) y) refl;
    stuck = fill_channel fit.table f;
    inside = last.inside;
    stands = λ none. (let there : in_line (s.lines (fill_channel fit.table f)) ≡ last.word ∷ last.words = ap in_line last.line in cc);
  }
    where
      none : (s.lines (fill_channel fit.table f)).held ≡ 0
      none = no_held s (fill_channel fit.table f) last.word last.words last.owner last.rest last.line last.full

      by : (x : ℕ) (b : Bool) → is_filled fit.table (f ∷ fs) x ≡ b → (s.lines x ≡ line n [] None []) ⊎ Blocked s x
      by x false isnt = elim (side x isnt) [
        | inl e ↦ inl e
        | inr d ↦ inr (record {
          input = d.3;
          word = d.0;
          latch = ap (λ (l : NetLine). l.latch) d.4;
          returning = ap (λ (l : NetLine). l.returning) d.4;
          rest = inl (ap (λ (l : NetLine). l.rest) d.4);
          spent = λ head. (let body = d.2 in absurd (cc));
        })
      ]
      by x true is = elim (cases_eq (fill_channel fit.table f) x) [
        | inl same ↦ inr (subst (Blocked s) same (record {
          input = last.input;
          word = last.word;
          latch = ap (λ (l : NetLine). l.latch) last.line;
          returning = ap (λ (l : NetLine). l.returning) last.line;
          rest = inr none;
          spent = λ head. ap (λ z. (s.lines z).held) (last.goes head) ∙ target_spent s fs (fill_channel fit.table f) none below;
        }))
        | inr apart ↦ inr (below_blocked s fs (fill_channel fit.table f) none below x (sym (filled_other fit.table f fs x apart) ∙ is))
      ]

      spent : (x y : ℕ) → (s.lines y).owner ≡ Some x → (b : Bool) → is_filled fit.table (f ∷ fs) y ≡ b → (s.lines y).held ≡ 0
      spent x y owned false isnt = elim (side y isnt) [
        | inl e ↦ (let no : (s.lines y).owner ≡ None = ap (λ (l : NetLine). l.owner) e in absurd (cc))
        | inr d ↦ (let no : (s.lines y).owner ≡ None = ap (λ (l : NetLine). l.owner) d.4 in absurd (cc))
      ]
      spent x y owned true is = elim (cases_eq (fill_channel fit.table f) y) [
        | inl same ↦ subst (λ z. (s.lines z).held ≡ 0) same none
        | inr apart ↦ below_owned s fs (fill_channel fit.table f) below y (sym (filled_other fit.table f fs y apart) ∙ is)
      ]
