-- One channel of a circular jam more: a part of a packet first fills the channel before it.
use Rattle.std.proofs.Common.{◌≡◌, ◌≢◌, ℕ, zero, suc, ◌+◌, ◌≤◌, true, false, List, [], ◌∷◌, ◌++◌, length, Some, None, refl, sym, ◌∙◌, ap}
use Rattle.std.proofs.Common.{subst, arith}
use Rattle.std.proofs.lemmas.List.{length-append}
use Rattle.wormhole.specs.Net.{Net, EndsWithTail, has_no_flit}
use Rattle.wormhole.specs.State.{NetState}
use Rattle.network_judge.specs.Ways.{place}
use Rattle.network_judge.specs.declared.fill.Fill.{Fill}
use Rattle.network_judge.specs.Jams.{fill_channel, is_filled, ComesIn}
use Rattle.deadlock_laws.specs.Lengths.{AreBehindHead}
use Rattle.deadlock_laws.specs.CircularJams.{GoesOnTo}
use Rattle.deadlock_laws.proofs.Lines.{line}
use Rattle.deadlock_laws.proofs.LengthMoves as moves
use Rattle.deadlock_laws.proofs.LengthMoves.{Leads, Moved, Moved2}
use Rattle.deadlock_laws.proofs.Paths as paths
use Rattle.deadlock_laws.proofs.Paths.{Path}
use Rattle.deadlock_laws.proofs.Parts.{part_on}
use Rattle.deadlock_laws.proofs.Shares.{Split, split}
use Rattle.deadlock_laws.proofs.Levels.{Fitting, net, Level, other_one, not_behind, apart_from, ends_all, left_is_body, below_kept}
use Rattle.deadlock_laws.proofs.Brims.{to, head, body, path, short, Brim, brims, begun, behind_part}

module _ (fit : Fitting) where
  abbrev n : Net
  n = net fit

  -- one channel more: its packets fill the one before to the brim
  module _ (f g : Fill) (gs : List Fill) (e : ℕ) (come : ComesIn fit.table f (g ∷ gs)) (waits : GoesOnTo fit.table f (fill_channel fit.table g))
      (fresh : is_filled fit.table gs (fill_channel fit.table g) ≡ false) (s : NetState) (level : Level fit s g gs e) where
    abbrev x : ℕ
    x = fill_channel fit.table f

    abbrev y : ℕ
    y = fill_channel fit.table g

    not_filled : is_filled fit.table (g ∷ gs) x ≡ false
    not_filled = come.clear f.step (omega arith)

    apart : x ≢ y
    apart = other_one fit g gs x not_filled

    clear : (k : ℕ) → k ≤ f.step → s.lines (place fit.table f.to f.from k) ≡ line n [] None []
    clear k low = level.clear (place fit.table f.to f.from k) (come.clear k low)

    pa : Path n fit.deep fit.size (head fit f (g ∷ gs) y come waits) (body fit f (g ∷ gs) y come waits) f.to (fit.has.head f.to (to fit f (g ∷ gs) y come waits))
        (fit.has.told f.to (to fit f (g ∷ gs) y come waits)) (fit.has.alone f.to (to fit f (g ∷ gs) y come waits))
        (ends_all fit (fit.has.others f.to) (fit.has.behind f.to (to fit f (g ∷ gs) y come waits))) (fit.has.long f.to (to fit f (g ∷ gs) y come waits)) fit.fits (place fit.table f.to f.from) f.step
    pa = path fit f (g ∷ gs) y come waits

    behind_same : (z : ℕ) → is_filled fit.table gs z ≡ true → z ≢ x
    behind_same z is = apart_from fit gs z x is (not_behind fit g gs x not_filled)

    -- where nothing is left to fill
    even : level.first.left ≡ 0 → (u : NetState) → Brim fit f (g ∷ gs) y come waits s [] u → Level fit u f (g ∷ gs) e
    even none u b =
        let top = level.first in
        let sum = top.room in
        record {
          first = begun fit f (g ∷ gs) y come waits s u b;
          others = (
            record {
              inside = top.inside;
              input = top.input;
              word = top.word;
              words = top.words;
              owner = None;
              line = b.moved.others y (λ a. apart (sym a)) ∙ top.line;
              full = omega arith;
              goes = top.goes;
            },
            below_kept fit s u gs e (λ z is. b.moved.others z (behind_same z is)) level.others,
          );
          clear = λ z isnt. b.moved.others z (other_one fit f (g ∷ gs) z isnt) ∙ level.clear z (not_behind fit f (g ∷ gs) z isnt);
        }

    -- where a part of a packet fills it
    module _ (d : ℕ) (left : level.first.left ≡ suc d) (cut : Split d (fit.has.others f.to)) where
      abbrev words_then : List ℕ
      words_then = level.first.words ++ fit.has.first f.to ∷ cut.before

      part : (a b c : NetState) → Moved s x (line n (fit.has.first f.to ∷ fit.has.others f.to) None []) a
          → Moved2 a x y (line n (cut.item ∷ cut.after) None []) (line n (level.first.word ∷ words_then) (Some x) []) b
          → Brim fit f (g ∷ gs) y come waits b (cut.item ∷ cut.after) c → Level fit c f (g ∷ gs) e
      part a b c one two three =
          let top = level.first in
          let sum = top.room in
          let to_it = to fit f (g ∷ gs) y come waits in
          let body_left : fit.flits.is_head cut.item ≡ false = left_is_body fit cut.before cut.item cut.after (subst (AreBehindHead fit.flits) cut.is (fit.has.behind f.to to_it)) in
          let long : length words_then ≡ length top.words + suc (length cut.before) = length-append top.words (fit.has.first f.to ∷ cut.before) in
          let size_is = cut.size in
          record {
            first = behind_part fit f (g ∷ gs) y come waits b c cut.item cut.after body_left three;
            others = (
              record {
                inside = top.inside;
                input = top.input;
                word = top.word;
                words = words_then;
                owner = Some x;
                line = three.moved.others y (λ q. apart (sym q)) ∙ two.into;
                full = omega arith;
                goes = top.goes;
              },
              below_kept fit s c gs e (λ z is. three.moved.others z (behind_same z is)
                  ∙ (two.others z (behind_same z is) (apart_from fit gs z y is fresh) ∙ one.others z (behind_same z is))) level.others,
            );
            clear = λ z isnt.
                (let far = other_one fit f (g ∷ gs) z isnt in
                let off = not_behind fit f (g ∷ gs) z isnt in
                three.moved.others z far ∙ (two.others z far (other_one fit g gs z off) ∙ (one.others z far ∙ level.clear z off)));
          }

      filled_up : Leads n fit.size s (λ u. Level fit u f (g ∷ gs) e)
      filled_up =
          let top = level.first in
          let sum = top.room in
          let to_it = to fit f (g ∷ gs) y come waits in
          let long = fit.has.long f.to to_it in
          let lens = short fit f (g ∷ gs) y come waits in
          let parts : length (fit.has.others f.to) ≡ length cut.before + length (cut.item ∷ cut.after) =
          ap length cut.is ∙ length-append cut.before (cut.item ∷ cut.after) in
          let size_is = cut.size in
          moves.and_then n fit.deep fit.size s _ _
          (paths.arrives n fit.deep fit.size (fit.has.first f.to) (fit.has.others f.to) f.to (fit.has.head f.to to_it) (fit.has.told f.to to_it) (fit.has.alone f.to to_it)
          (ends_all fit (fit.has.others f.to) (fit.has.behind f.to to_it)) long fit.fits (place fit.table f.to f.from) f.step pa s [] (λ k low. clear k (omega arith)) (none_yet fit.size fit.fits) (clear f.step (omega arith)))
          (λ a one.
          moves.and_then n fit.deep fit.size a _ _
          (part_on n fit.deep fit.size (fit.has.first f.to) cut.before (cut.item ∷ cut.after) f.to (fit.has.head f.to to_it) (fit.has.told f.to to_it)
          (subst (λ (l : List ℕ). fit.flits.is_tail (fit.has.first f.to) ≡ has_no_flit l) cut.is (fit.has.alone f.to to_it))
          (subst (λ (l : List ℕ). EndsWithTail n l) cut.is (ends_all fit (fit.has.others f.to) (fit.has.behind f.to to_it)))
          (subst (λ (l : List ℕ). length (fit.has.first f.to ∷ l) ≡ fit.size) cut.is long) fit.fits
          a x y (top.word ∷ top.words) (pa.within f.step (omega arith)) top.inside (pa.inputs f.step (omega arith)) top.input apart
          (sym waits.next) (omega arith) (one.here ∙ ap (λ (l : List ℕ). line n (fit.has.first f.to ∷ l) None []) cut.is)
          (one.others y (λ q. apart (sym q)) ∙ top.line))
          (λ b two.
          moves.and_then n fit.deep fit.size b _ _
          (brims fit f (g ∷ gs) y come waits b (cut.item ∷ cut.after)
          (λ k low. two.others (place fit.table f.to f.from k) (pa.apart k low) (other_one fit g gs (place fit.table f.to f.from k) (come.clear k (omega arith)))
          ∙ (one.others (place fit.table f.to f.from k) (pa.apart k low) ∙ clear k (omega arith)))
          two.from (omega arith))
          (λ c three. moves.at_once n fit.deep fit.size c _ (part a b c one two three))))
        where
          none_yet : (m : ℕ) → m ≤ suc fit.depth → length {A = ℕ} [] + m ≤ suc fit.depth
          none_yet m l = omega arith

    pub next_level : Leads n fit.size s (λ u. Level fit u f (g ∷ gs) e)
    next_level = by level.first.left refl
      where
        by : (l : ℕ) → level.first.left ≡ l → Leads n fit.size s (λ u. Level fit u f (g ∷ gs) e)
        by zero none =
            moves.and_then n fit.deep fit.size s _ _ (brims fit f (g ∷ gs) y come waits s [] (λ k low. clear k (omega arith)) (clear f.step (omega arith)) (omega arith))
            (λ u b. moves.at_once n fit.deep fit.size u _ (even none u b))
        by (suc d) left =
            let few = level.first.few in
            let lens : suc (length (fit.has.others f.to)) ≡ fit.size = fit.has.long f.to (to fit f (g ∷ gs) y come waits) in
            filled_up d left (split d (fit.has.others f.to) (omega arith))
