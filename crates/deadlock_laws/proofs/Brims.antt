-- Packets fill a channel, until it has room for less than one.
use Rattle.std.proofs.Common.{◌≡◌, inl, inr, ℕ, zero, suc, ◌+◌, ◌*◌, ◌-◌, ◌<◌, ◌≤◌, false, List, [], ◌∷◌, ◌++◌, length, Some, None, refl, sym, ◌∙◌, ap}
use Rattle.std.proofs.Common.{subst, arith}
use Rattle.std.proofs.lemmas.Bool.{cases_lt}
use Rattle.std.proofs.lemmas.List.{length-append}
use Rattle.std.proofs.Math.Nat.{zero-mul}
use Rattle.wormhole.specs.Net.{Net}
use Rattle.wormhole.specs.State.{NetState}
use Rattle.network_judge.specs.declared.table.Kind.TheVariants.{Ejection}
use Rattle.network_judge.specs.Table.{kind_of, table_next, is_sender}
use Rattle.network_judge.specs.Ways.{place}
use Rattle.network_judge.proofs.Places.{place_next}
use Rattle.network_judge.specs.declared.fill.Fill.{Fill}
use Rattle.network_judge.specs.Jams.{fill_channel, ComesIn}
use Rattle.network_judge.proofs.Still.{on_within, before_end, simple}
use Rattle.deadlock_laws.specs.CircularJams.{GoesOnTo}
use Rattle.deadlock_laws.proofs.Lines.{line, many, many_long}
use Rattle.deadlock_laws.proofs.LengthMoves as moves
use Rattle.deadlock_laws.proofs.LengthMoves.{Leads, Moved, Moved2}
use Rattle.deadlock_laws.proofs.Paths as paths
use Rattle.deadlock_laws.proofs.Paths.{Path}
use Rattle.deadlock_laws.proofs.Shares.{shared}
use Rattle.deadlock_laws.proofs.Levels.{Fitting, net, GoesTo, Top, Level, other_one, ends_all}

module _ (fit : Fitting) where
  abbrev n : Net
  n = net fit

  module _ (f : Fill) (fs : List Fill) (e : ℕ) (come : ComesIn fit.table f fs) (waits : GoesOnTo fit.table f e) where
    pub to : kind_of fit.table f.to ≡ Some Ejection
    to = come.way.under_way.receiver

    abbrev pub head : ℕ
    head = fit.has.first f.to

    abbrev pub body : List ℕ
    body = fit.has.others f.to

    abbrev pub here : ℕ
    here = fill_channel fit.table f

    pub early : f.step < come.length
    early = elim (cases_lt f.step come.length) [
      | inl low ↦ low
      | inr high ↦ (let on = come.on in absurd (waits.under_way (ap (place fit.table f.to f.from) (same on high) ∙ come.way.arrives)))
    ]
      where
        same : f.step ≤ come.length → come.length ≤ f.step → f.step ≡ come.length
        same a b = omega arith

    pub path : Path n fit.deep fit.size head body f.to (fit.has.head f.to to) (fit.has.told f.to to) (fit.has.alone f.to to)
        (ends_all fit body (fit.has.behind f.to to)) (fit.has.long f.to to) fit.fits (place fit.table f.to f.from) f.step
    path =
        let way = come.way in
        let on = come.on in
        let low = early in
        record {
          within = λ k l. on_within fit.table f.from f.to come.length way k (omega arith);
          injects = ap is_sender way.under_way.sender;
          inputs = λ k l. before_end fit.table f.from f.to come.length way k (omega arith);
          joined = come.joined;
          next = λ k l. place_next fit.table f.to f.from k;
          apart = λ k l. simple fit.table f.from f.to come.length way k f.step l on;
          steps = λ k l. simple fit.table f.from f.to come.length way k (suc k) (omega arith) (omega arith);
        }

    pub some : 0 < fit.size
    some = subst (λ z. 0 < z) (fit.has.long f.to to) (omega arith)

    pub short : length body < fit.size
    short = subst (λ z. length body < z) (fit.has.long f.to to) (omega arith)

    -- a head flit of its packets goes on to e
    pub head_goes : GoesTo fit here e head
    head_goes is = ap (table_next fit.table here) (fit.has.told f.to to) ∙ waits.next

    -- packets fill the channel behind what stands in it, until it has less room than one needs
    pub record Brim (s : NetState) (ys : List ℕ) (u : NetState) : Type 0 where
      pub count : ℕ
      pub left : ℕ
      pub moved : Moved s here (line n (ys ++ many count (head ∷ body)) None []) u
      pub room : length ys + count * fit.size + left ≡ suc fit.depth
      pub few : left < fit.size

    pub brims : (s : NetState) (ys : List ℕ) → ((k : ℕ) → k < f.step → s.lines (place fit.table f.to f.from k) ≡ line n [] None []) → s.lines here ≡ line n ys None []
        → length ys ≤ suc fit.depth → Leads n fit.size s (Brim s ys)
    brims s ys clear is low =
        let r = shared fit.size (suc fit.depth - length ys) some in
        let sum = r.is in
        moves.and_then n fit.deep fit.size s _ _
        (paths.filled_behind n fit.deep fit.size head body f.to (fit.has.head f.to to) (fit.has.told f.to to) (fit.has.alone f.to to)
        (ends_all fit body (fit.has.behind f.to to)) (fit.has.long f.to to) fit.fits (place fit.table f.to f.from) f.step path s ys clear is r.count (omega arith))
        (λ u a. moves.at_once n fit.deep fit.size u _ (record { count = r.count; left = r.left; moved = a; room = omega arith; few = r.few }))

    -- the length of what stands there then
    pub long_then : (ys : List ℕ) (c : ℕ) → length (ys ++ many c (head ∷ body)) ≡ length ys + c * fit.size
    long_then ys c = length-append ys (many c (head ∷ body)) ∙ ap (λ k. length ys + k) (many_long c (head ∷ body) ∙ ap (λ k. c * k) (fit.has.long f.to to))

    -- an empty channel
    pub begun : (s u : NetState) → Brim s [] u → Top fit u here e
    begun s u b = by b.count refl
      where
        by : (c : ℕ) → b.count ≡ c → Top fit u here e
        by zero none =
            let z = zero-mul fit.size in
            let k : b.count * fit.size ≡ 0 = ap (λ m. m * fit.size) none ∙ z in
            let sum = b.room in let few = b.few in let nothing : length {A = ℕ} [] ≡ 0 = refl in absurd (omega arith)
        by (suc c) same =
            let all = long_then [] (suc c) in
            let sum = b.room in
            let k : suc c * fit.size ≡ b.count * fit.size = ap (λ m. m * fit.size) (sym same) in
            let size_of : suc (length (body ++ many c (head ∷ body))) ≡ length {A = ℕ} [] + suc c * fit.size = all in
            record {
              inside = path.within f.step (omega arith);
              input = path.inputs f.step (omega arith);
              word = head;
              words = body ++ many c (head ∷ body);
              left = b.left;
              line = b.moved.here ∙ ap (λ m. line n (many m (head ∷ body)) None []) same;
              room = omega arith;
              few = b.few;
              goes = head_goes;
            }

    -- one in which a part of a packet is left
    pub behind_part : (s u : NetState) (w : ℕ) (ws : List ℕ) → fit.flits.is_head w ≡ false → Brim s (w ∷ ws) u → Top fit u here e
    behind_part s u w ws isnt b =
        let all = long_then (w ∷ ws) b.count in
        let sum = b.room in
        let size_of : suc (length (ws ++ many b.count (head ∷ body))) ≡ length (w ∷ ws) + b.count * fit.size = all in
        record {
          inside = path.within f.step (omega arith);
          input = path.inputs f.step (omega arith);
          word = w;
          words = ws ++ many b.count (head ∷ body);
          left = b.left;
          line = b.moved.here;
          room = omega arith;
          few = b.few;
          goes = λ is. absurd (cc);
        }

  -- the first channel of a circular jam
  pub base : (f : Fill) (e : ℕ) → ComesIn fit.table f [] → GoesOnTo fit.table f e → (s : NetState) → ((x : ℕ) → s.lines x ≡ line n [] None [])
      → Leads n fit.size s (λ u. Level fit u f [] e)
  base f e come waits s clear =
      moves.and_then n fit.deep fit.size s _ _ (brims f [] e come waits s [] (λ k l. clear _) (clear _) (omega arith)) (λ u b.
      moves.at_once n fit.deep fit.size u _ (record {
        first = begun f [] e come waits s u b;
        others = tt;
        clear = λ x isnt. b.moved.others x (other_one fit f [] x isnt) ∙ clear x;
      }))
