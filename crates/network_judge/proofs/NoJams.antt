-- What a jam asks of its items, as a check reads it: where the check says no, there is none.
use Rattle.std.proofs.Common.{◌≡◌, ℕ, zero, suc, ◌<◌, Bool, true, Some, List, [], ◌∷◌, length, drop, refl, sym, ◌∙◌, ap, subst, arith}
use Rattle.network_judge.specs.declared.table.Kind.TheVariants.{Ejection}
use Rattle.network_judge.specs.declared.table.Reply.{Reply}
use Rattle.network_judge.specs.declared.fill.Fill.{Fill}
use Rattle.network_judge.specs.Table.{Table, channels_of, kind_of, table_next, joins_of}
use Rattle.network_judge.specs.Marks.{is_marked_at}
use Rattle.network_judge.specs.Jams.{fill_channel, is_filled, ComesIn, AreFilledInTurn, WaitsForFilled}
use Rattle.network_judge.specs.Clear.{IsClearWalk, WaitsForMarked, AreFillsMarked, fill_at}
use Rattle.network_judge.proofs.Nets.{open_before, within_way}

-- the walk of an item that comes in is clear
pub clear_of : (t : Table) (marks : List Bool) (f : Fill) (fs : List Fill) → ComesIn t f fs → length marks ≡ channels_of t
    → ((y : ℕ) → is_marked_at marks y ≡ is_filled t fs y) → IsClearWalk t marks f.from f.to f.step (fill_channel t f)
clear_of t marks f fs c size same =
    let on = c.on in
    record {
      here = refl;
      inside = λ k l. (let within = within_way t f.from f.to c.length k c.way (omega arith) in omega arith);
      clear = λ k l. same _ ∙ c.clear k l;
      goes_on = λ k l. open_before t f.from f.to c.length c.way.under_way k (omega arith);
    }

-- each item comes in once those behind it are filled
pub item_comes_in : (t : Table) (fs : List Fill) (n : ℕ) → n < length fs → AreFilledInTurn t fs → ComesIn t (fill_at fs n) (drop (suc n) fs)
item_comes_in t [] n low turn = absurd (omega arith)
item_comes_in t (f ∷ fs) zero low turn = turn.0
item_comes_in t (f ∷ fs) (suc n) low turn = item_comes_in t fs n (omega arith) turn.1

-- the next item, where all are filled in turn: it is joined, and its walk is clear
pub record IsNextClear (t : Table) (f : Fill) (marks : List Bool) : Type 0 where
  pub joined : joins_of t f.from f.to ≡ true
  pub receiver : kind_of t f.to ≡ Some Ejection
  pub walk : IsClearWalk t marks f.from f.to f.step (fill_channel t f)

pub next_is_clear : (t : Table) (fs : List Fill) (from next : ℕ) (marks : List Bool) (ends : List ℕ) → AreFillsMarked t fs from marks ends
    → from ≡ suc next → next < length fs → AreFilledInTurn t fs → IsNextClear t (fill_at fs next) marks
next_is_clear t fs from next marks ends m step low turn =
    let c = item_comes_in t fs next low turn in
    record {
      joined = c.joined;
      receiver = c.way.under_way.receiver;
      walk = clear_of t marks (fill_at fs next) (drop (suc next) fs) c m.size
          (λ y. m.marked y ∙ ap (λ k. is_filled t (drop k fs) y) step);
    }

-- where its packets wait for a filled channel, they wait for a marked one
pub waits_marked : (t : Table) (replies : List Reply) (fs : List Fill) (marks : List Bool) (ends : List ℕ) (f : Fill) (x : ℕ)
    → AreFillsMarked t fs 0 marks ends → x ≡ fill_channel t f → WaitsForFilled t replies fs f → WaitsForMarked t replies marks f.to x
waits_marked t replies fs marks ends f x m here w = record {
  under_way = λ apart. ap (λ z. is_marked_at marks (table_next t z f.to)) here
      ∙ (m.marked (table_next t (fill_channel t f) f.to) ∙ w.under_way (λ e. apart (here ∙ e)));
  at_end = λ e. (let r = w.at_end (sym here ∙ e) in (r.0, r.1, m.marked r.0 ∙ r.2));
}

-- an item that is filled in turn is on its way to a receiver, at a channel
pub record IsItem (t : Table) (f : Fill) (x : ℕ) : Type 0 where
  pub receiver : kind_of t f.to ≡ Some Ejection
  pub channel : x < channels_of t

pub is_item : (t : Table) (fs : List Fill) (n x : ℕ) → n < length fs → AreFilledInTurn t fs → x ≡ fill_channel t (fill_at fs n) → IsItem t (fill_at fs n) x
is_item t fs n x low turn here =
    let c = item_comes_in t fs n low turn in
    record {
      receiver = c.way.under_way.receiver;
      channel = subst (λ z. z < channels_of t) (sym here) (within_way t (fill_at fs n).from (fill_at fs n).to c.length (fill_at fs n).step c.way c.on);
    }
