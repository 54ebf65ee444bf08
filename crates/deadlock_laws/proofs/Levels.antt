-- The channels of a circular jam while they are filled: full ones, and the newest, with room for less than a packet.
use Rattle.std.proofs.Common.{◌≡◌, ◌≢◌, ℕ, suc, ◌+◌, ◌<◌, ◌≤◌, true, false, List, [], ◌∷◌, ◌++◌, length, Option, None, refl, sym, ◌∙◌, ap}
use Rattle.wormhole.specs.Net.{Net, EndsWithTail}
use Rattle.wormhole.specs.State.{NetState}
use Rattle.network_judge.specs.Table.{Table, channels_of, table_next}
use Rattle.network_judge.specs.TableNet.{Flits, table_network}
use Rattle.network_judge.specs.declared.fill.Fill.{Fill}
use Rattle.network_judge.specs.Jams.{fill_channel, is_filled}
use Rattle.deadlock_laws.proofs.LengthFilled.{filled_here, filled_other, filled_behind}
use Rattle.deadlock_laws.proofs.Lines.{line}
use Rattle.deadlock_laws.specs.Lengths.{HasPacketsOf, AreBehindHead}
use Rattle.deadlock_laws.specs.CircularJams.{head_channel}

-- each packet has so many flits, and a channel of the network and its latch can hold one
pub record Fitting : Type 0 where
  pub table : Table
  pub number : ℕ → ℕ
  pub top : ℕ
  pub depth : ℕ
  pub flits : Flits
  pub size : ℕ
  pub deep : 0 < depth
  pub fits : size ≤ suc depth
  pub has : HasPacketsOf table flits size

abbrev pub net : Fitting → Net
net fit = table_network fit.table fit.number fit.top fit.depth fit.flits

module _ (fit : Fitting) where
  abbrev n : Net
  n = net fit

  -- what stands first in a channel goes on to another, if it is a head flit
  abbrev pub GoesTo : ℕ → ℕ → ℕ → Type 0
  GoesTo x y w = fit.flits.is_head w ≡ true → table_next fit.table x (fit.flits.told w) ≡ y

  -- a channel that is full
  pub record Full (s : NetState) (x y : ℕ) : Type 0 where
    pub inside : x < channels_of fit.table
    pub input : n.ejects x ≡ false
    pub word : ℕ
    pub words : List ℕ
    pub owner : Option ℕ
    pub line : s.lines x ≡ line n (word ∷ words) owner []
    pub full : length words ≡ fit.depth
    pub goes : GoesTo x y word

  -- one with less room than a packet needs
  pub record Top (s : NetState) (x y : ℕ) : Type 0 where
    pub inside : x < channels_of fit.table
    pub input : n.ejects x ≡ false
    pub word : ℕ
    pub words : List ℕ
    pub left : ℕ
    pub line : s.lines x ≡ line n (word ∷ words) None []
    pub room : suc (length words) + left ≡ suc fit.depth
    pub few : left < fit.size
    pub goes : GoesTo x y word

  abbrev pub Below : NetState → List Fill → ℕ → Type 0
  Below s [] e = Unit {0}
  Below s (g ∷ gs) e = Full s (fill_channel fit.table g) (head_channel fit.table gs e) × Below s gs e

  pub record Level (s : NetState) (f : Fill) (fs : List Fill) (e : ℕ) : Type 0 where
    pub first : Top s (fill_channel fit.table f) (head_channel fit.table fs e)
    pub others : Below s fs e
    pub clear : (x : ℕ) → is_filled fit.table (f ∷ fs) x ≡ false → s.lines x ≡ line n [] None []

  pub below_kept : (s u : NetState) (fs : List Fill) (e : ℕ) → ((x : ℕ) → is_filled fit.table fs x ≡ true → u.lines x ≡ s.lines x) → Below s fs e → Below u fs e
  below_kept s u [] e same b = tt
  below_kept s u (g ∷ gs) e same b = (
    record {
      inside = b.0.inside;
      input = b.0.input;
      word = b.0.word;
      words = b.0.words;
      owner = b.0.owner;
      line = same (fill_channel fit.table g) (filled_here fit.table g gs (fill_channel fit.table g) refl) ∙ b.0.line;
      full = b.0.full;
      goes = b.0.goes;
    },
    below_kept s u gs e (λ x is. same x (filled_behind fit.table g gs x is)) b.1,
  )

  -- a channel that isn't filled is another one
  pub other_one : (f : Fill) (fs : List Fill) (x : ℕ) → is_filled fit.table (f ∷ fs) x ≡ false → x ≢ fill_channel fit.table f
  other_one f fs x isnt = λ e. (let yes : is_filled fit.table (f ∷ fs) x ≡ true = filled_here fit.table f fs x (sym e) in absurd (cc))

  pub not_behind : (f : Fill) (fs : List Fill) (x : ℕ) → is_filled fit.table (f ∷ fs) x ≡ false → is_filled fit.table fs x ≡ false
  not_behind f fs x isnt = sym (filled_other fit.table f fs x (λ e. other_one f fs x isnt (sym e))) ∙ isnt

  pub apart_from : (fs : List Fill) (x y : ℕ) → is_filled fit.table fs x ≡ true → is_filled fit.table fs y ≡ false → x ≢ y
  apart_from fs x y a b = λ e. (let yes : is_filled fit.table fs y ≡ true = ap (is_filled fit.table fs) (sym e) ∙ a in absurd (cc))

  pub ends_all : (ws : List ℕ) → AreBehindHead fit.flits ws → EndsWithTail n ws
  ends_all [] are = tt
  ends_all (w ∷ ws) are = (are.0, are.1, ends_all ws are.2)

  -- what is left of a packet begins with no head flit
  pub left_is_body : (ws : List ℕ) (b : ℕ) (bs : List ℕ) → AreBehindHead fit.flits (ws ++ b ∷ bs) → fit.flits.is_head b ≡ false
  left_is_body [] b bs are = are.0
  left_is_body (w ∷ ws) b bs are = left_is_body ws b bs are.2
