-- The last channel of a circular jam is filled too, with a part of a packet if it needs be.
use Rattle.std.proofs.Common.{◌≡◌, ◌≢◌, inl, inr, ℕ, zero, suc, ◌+◌, ◌<◌, ◌≤◌, true, false, List, [], ◌∷◌, ◌++◌, length, Option, Some, None, refl, sym, ◌∙◌, ap}
use Rattle.std.proofs.Common.{subst, arith}
use Rattle.std.proofs.lemmas.Bool.{cases_eq}
use Rattle.std.proofs.lemmas.List.{length-append}
use Rattle.wormhole.specs.Net.{Net, EndsWithTail, has_no_flit}
use Rattle.wormhole.specs.State.{NetState, empty}
use Rattle.wormhole.specs.Events.{NetEvent, after_all}
use Rattle.network_judge.specs.declared.table.Link.{Link}
use Rattle.network_judge.specs.declared.table.Kind.TheVariants.{Ejection}
use Rattle.network_judge.specs.Table.{Table, kind_of}
use Rattle.network_judge.specs.TableNet.{Flits}
use Rattle.network_judge.specs.Ways.{place}
use Rattle.network_judge.specs.Verdicts.{AllArrive}
use Rattle.network_judge.specs.Cycles.{IsCycle}
use Rattle.network_judge.specs.declared.fill.Fill.{Fill}
use Rattle.network_judge.specs.Jams.{fill_channel, is_filled, AreFilledInTurn, ComesIn}
use Rattle.deadlock_laws.proofs.LengthFilled.{filled_other}
use Rattle.deadlock_laws.specs.Lengths.{HasPacketsOf, AreBehindHead, LocksUpOf, IsLockUpOf}
use Rattle.deadlock_laws.specs.CircularJams.{head_channel, GoesOnTo, WaitInTurn, IsCircularJam}
use Rattle.deadlock_laws.proofs.Lines.{line}
use Rattle.deadlock_laws.proofs.LengthMoves as moves
use Rattle.deadlock_laws.proofs.LengthMoves.{Leads, Moved, Moved2}
use Rattle.deadlock_laws.proofs.Paths as paths
use Rattle.deadlock_laws.proofs.Paths.{Path}
use Rattle.deadlock_laws.proofs.Parts.{part_on, part_in}
use Rattle.deadlock_laws.proofs.Circular.{has_jam}
use Rattle.deadlock_laws.proofs.Shares.{Split, split}
use Rattle.deadlock_laws.proofs.Levels as levels
use Rattle.deadlock_laws.proofs.Levels.{Fitting, net, Below, Level}
use Rattle.deadlock_laws.proofs.Brims as brims
use Rattle.deadlock_laws.proofs.NextLevels.{next_level}
use Rattle.deadlock_laws.proofs.Ended.{Ended, Brimful, Side, still, ended}

module _ (fit : Fitting) where
  abbrev n : Net
  n = net fit

  -- the last channel is filled with a part of a packet, if it needs be
  module _ (f : Fill) (fs : List Fill) (come : ComesIn fit.table f fs) (waits : GoesOnTo fit.table f (head_channel fit.table fs (fill_channel fit.table f))) (s : NetState)
      (level : Level fit s f fs (fill_channel fit.table f)) where
    abbrev x : ℕ
    x = fill_channel fit.table f

    abbrev e : ℕ
    e = head_channel fit.table fs x

    kept : (u : NetState) → ((z : ℕ) → is_filled fit.table fs z ≡ true → u.lines z ≡ s.lines z) → Below fit u fs x
    kept u same = levels.below_kept fit s u fs x same level.others

    abbrev to_it : kind_of fit.table f.to ≡ Some Ejection
    to_it = brims.to fit f fs e come waits

    abbrev head : ℕ
    head = fit.has.first f.to

    abbrev body : List ℕ
    body = fit.has.others f.to

    abbrev ends : EndsWithTail n body
    ends = levels.ends_all fit body (fit.has.behind f.to to_it)

    abbrev long : length (head ∷ body) ≡ fit.size
    long = fit.has.long f.to to_it

    pa : Path n fit.deep fit.size head body f.to (fit.has.head f.to to_it) (fit.has.told f.to to_it) (fit.has.alone f.to to_it) ends long fit.fits (place fit.table f.to f.from) f.step
    pa = brims.path fit f fs e come waits

    clear : (k : ℕ) → k < f.step → s.lines (place fit.table f.to f.from k) ≡ line n [] None []
    clear k low = level.clear (place fit.table f.to f.from k) (filled_other fit.table f fs (place fit.table f.to f.from k) (λ a. pa.apart k low (sym a)) ∙ come.clear k (omega arith))

    other : (z : ℕ) → is_filled fit.table fs z ≡ true → z ≢ x
    other z is = levels.apart_from fit fs z x is (come.clear f.step (omega arith))

    far : (z : ℕ) → is_filled fit.table (f ∷ fs) z ≡ false → z ≢ x
    far z isnt = levels.other_one fit f fs z isnt

    module _ (d : ℕ) (left : level.first.left ≡ suc d) (cut : Split d body) where
      abbrev words_then : List ℕ
      words_then = level.first.words ++ head ∷ cut.before

      alone_then : fit.flits.is_tail head ≡ has_no_flit (cut.before ++ cut.item ∷ cut.after)
      alone_then = subst (λ (l : List ℕ). fit.flits.is_tail head ≡ has_no_flit l) cut.is (fit.has.alone f.to to_it)

      ends_then : EndsWithTail n (cut.before ++ cut.item ∷ cut.after)
      ends_then = subst (λ (l : List ℕ). EndsWithTail n l) cut.is ends

      long_then : length (head ∷ (cut.before ++ cut.item ∷ cut.after)) ≡ fit.size
      long_then = subst (λ (l : List ℕ). length (head ∷ l) ≡ fit.size) cut.is long

      full_then : length words_then ≡ fit.depth
      full_then =
          let sum = level.first.room in
          let more : length words_then ≡ length level.first.words + suc (length cut.before) = length-append level.first.words (head ∷ cut.before) in
          let size_is = cut.size in
          omega arith

      room_then : suc (length level.first.words) + suc (length cut.before) ≤ suc fit.depth
      room_then = let sum = level.first.room in let size_is = cut.size in omega arith

      body_left : fit.flits.is_head cut.item ≡ false
      body_left = levels.left_is_body fit cut.before cut.item cut.after (subst (AreBehindHead fit.flits) cut.is (fit.has.behind f.to to_it))

      brimful : (u : NetState) (o : Option ℕ) (r : List ℕ) → u.lines x ≡ line n (level.first.word ∷ words_then) o r → Brimful fit u x e
      brimful u o r is =
          let last = level.first in
          record {
            inside = last.inside;
            input = last.input;
            word = last.word;
            words = words_then;
            owner = o;
            rest = r;
            line = is;
            full = full_then;
            goes = last.goes;
          }

      from_sender : (u : NetState) → Moved s x (line n (level.first.word ∷ words_then) None (cut.item ∷ cut.after)) u → Ended fit u
      from_sender u a =
          ended fit u f fs (brimful u None (cut.item ∷ cut.after) a.here) (kept u (λ z is. a.others z (other z is)))
          (λ z isnt. inl (a.others z (far z isnt) ∙ level.clear z isnt))

      from_channel : (k : ℕ) → k < f.step → (a u : NetState) → Moved s (place fit.table f.to f.from k) (line n (head ∷ body) None []) a
          → Moved2 a (place fit.table f.to f.from k) x (line n (cut.item ∷ cut.after) None []) (line n (level.first.word ∷ words_then) (Some (place fit.table f.to f.from k)) []) u → Ended fit u
      from_channel k low a u one two =
          let p = place fit.table f.to f.from k in
          ended fit u f fs (brimful u (Some p) [] two.into)
          (kept u (λ z is. (let off = levels.apart_from fit fs z p is (come.clear k (omega arith)) in
          two.others z off (other z is) ∙ one.others z off)))
          (λ z isnt. elim (cases_eq z p) [
            | inl same ↦ subst (Side fit u) (sym same) (inr (cut.item, cut.after, body_left, pa.inputs k (omega arith), two.from))
            | inr apart ↦ inl (two.others z apart (far z isnt) ∙ (one.others z apart ∙ level.clear z isnt))
          ])

      fed : Leads n fit.size s (Ended fit)
      fed = by f.step refl
        where
          fits_alone : (m : ℕ) → m ≤ suc fit.depth → length {A = ℕ} [] + m ≤ suc fit.depth
          fits_alone m l = omega arith

          by : (a : ℕ) → f.step ≡ a → Leads n fit.size s (Ended fit)
          by zero same =
              moves.and_then n fit.deep fit.size s _ _
              (part_in n fit.deep fit.size head cut.before (cut.item ∷ cut.after) f.to (fit.has.head f.to to_it) (fit.has.told f.to to_it) alone_then ends_then long_then fit.fits
              s x (level.first.word ∷ level.first.words) level.first.inside (subst (λ a. n.injects (place fit.table f.to f.from a) ≡ true) (sym same) pa.injects) level.first.input
              (subst (λ a. n.joins (place fit.table f.to f.from a) f.to ≡ true) (sym same) pa.joined) room_then level.first.line)
              (λ u a. moves.at_once n fit.deep fit.size u _ (from_sender u a))
          by (suc k) same =
              moves.and_then n fit.deep fit.size s _ _
              (paths.carried n fit.deep fit.size head body f.to (fit.has.head f.to to_it) (fit.has.told f.to to_it) (fit.has.alone f.to to_it) ends long fit.fits (place fit.table f.to f.from) f.step pa
              s clear k (omega arith))
              (λ a one.
              moves.and_then n fit.deep fit.size a _ _
              (part_on n fit.deep fit.size head cut.before (cut.item ∷ cut.after) f.to (fit.has.head f.to to_it) (fit.has.told f.to to_it) alone_then ends_then long_then fit.fits
              a (place fit.table f.to f.from k) x (level.first.word ∷ level.first.words) (pa.within k (omega arith)) level.first.inside (pa.inputs k (omega arith)) level.first.input
              (pa.apart k (omega arith)) (ap (place fit.table f.to f.from) same ∙ pa.next k (omega arith)) room_then
              (one.here ∙ ap (λ (l : List ℕ). line n (head ∷ l) None []) cut.is)
              (one.others x (λ q. pa.apart k (omega arith) (sym q)) ∙ level.first.line))
              (λ u two. moves.at_once n fit.deep fit.size u _ (from_channel k (omega arith) a u one two)))

    pub finish : Leads n fit.size s (Ended fit)
    finish = by level.first.left refl
      where
        by : (l : ℕ) → level.first.left ≡ l → Leads n fit.size s (Ended fit)
        by zero none =
            let last = level.first in
            let sum = last.room in
            moves.at_once n fit.deep fit.size s _ (ended fit s f fs (record {
              inside = last.inside;
              input = last.input;
              word = last.word;
              words = last.words;
              owner = None;
              rest = [];
              line = last.line;
              full = omega arith;
              goes = last.goes;
            }) level.others (λ z isnt. inl (level.clear z isnt)))
        by (suc d) left =
            let few = level.first.few in
            let lens : suc (length body) ≡ fit.size = long in
            fed d left (split d body (omega arith))

  -- level by level
  climbed : (f : Fill) (fs : List Fill) (e : ℕ) → AreFilledInTurn fit.table (f ∷ fs) → WaitInTurn fit.table (f ∷ fs) e → Leads n fit.size (empty n) (λ u. Level fit u f fs e)
  climbed f [] e turn chain = brims.base fit f e turn.0 chain.0 (empty n) (λ x. refl)
  climbed f (g ∷ gs) e turn chain =
      moves.and_then n fit.deep fit.size (empty n) _ _ (climbed g gs e turn.1 chain.1) (λ s level.
      next_level fit f g gs e turn.0 chain.0 (turn.1.0.clear g.step (omega arith)) s level)

  pub locked : (fs : List Fill) → IsCircularJam fit.table fs → (events : List NetEvent) × IsLockUpOf n [] fit.size events
  locked [] jam = let some = jam.some in absurd (omega arith)
  locked (f ∷ fs) jam =
      let all = moves.and_then n fit.deep fit.size (empty n) _ _ (climbed f fs (fill_channel fit.table f) jam.in_turn jam.waits) (λ s level.
      finish f fs jam.in_turn.0 jam.waits.0 s level) in
      let done = all.there in (
        all.events,
        record {
          locks = record {
            may = all.may;
            still = still fit (after_all n (empty n) all.events) done;
            stuck = done.stuck;
            here = done.inside;
            stands = done.stands;
          };
          lengths = all.lengths;
        },
      )

pub jams_lock : (t : Table) (fs : List Fill) → IsCircularJam t fs → (size depth : ℕ) (flits : Flits) → 0 < depth → size ≤ depth + 1
    → HasPacketsOf t flits size → LocksUpOf t [] depth flits size
jams_lock t fs jam size depth flits deep fits has = λ number top. locked (record {
  table = t;
  number = number;
  top = top;
  depth = depth;
  flits = flits;
  size = size;
  deep = deep;
  fits = low size depth fits;
  has = has;
}) fs jam
  where
    low : (s d : ℕ) → s ≤ d + 1 → s ≤ suc d
    low s d h = omega arith

pub cycles_lock : (t : Table) (links : List Link) → AllArrive t → IsCycle t [] links → (size depth : ℕ) (flits : Flits) → 0 < depth → size ≤ depth + 1
    → HasPacketsOf t flits size → LocksUpOf t [] depth flits size
cycles_lock t links arrive cycle size depth flits deep fits has =
    let r = has_jam t links arrive cycle in jams_lock t r.0 r.1 size depth flits deep fits has
