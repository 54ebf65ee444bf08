-- The laws of judged networks.
use Rattle.std.proofs.Common.{◌≡◌, ◌⊎◌, ⊎_elim, ℕ, ◌<◌, true, Option, Some, None, List, [], refl, ◌∙◌, ap}
use Rattle.std.proofs.lemmas.Option.{slice_get_within}
use Rattle.wormhole.specs.Net.{Net, IsNet}
use Rattle.wormhole.specs.State.{NetState}
use Rattle.wormhole.specs.Routes.{between}
use Rattle.wormhole.specs.Delivery.{IsReached, whole, whole_of}
use Rattle.wormhole.proofs.Reached.{words_reached, routes_reached}
use Rattle.wormhole.specs.Ends.{Tiles, AreTiles, IsQuiet}
use Rattle.wormhole.proofs.Come.{all_come}
use Rattle.network_judge.specs.declared.table.Kind.TheVariants.{Injection, Hop, Ejection}
use Rattle.network_judge.specs.declared.table.Kind.{Kind}
use Rattle.network_judge.specs.declared.table.Reply.{Reply}
use Rattle.network_judge.specs.Table.{Table, channels_of, joins_of, kind_of, is_receiver}
use Rattle.network_judge.specs.Replies.{AreReplies}
use Rattle.network_judge.specs.TableNet.{Flits, numbered}
use Rattle.network_judge.specs.Verdicts.{IsNumbered}
use Rattle.network_judge.specs.Receivers.{GoesWhere, MoveThere, Moves, Takes, AreEndsOfTiles}
use Rattle.network_judge.proofs.Going as going

-- somebody goes, or all is quiet
pub goes_or_quiet : (t : Table) (replies : List Reply) (numbers : List ℕ) → AreReplies t replies → IsNumbered t replies numbers
    → (depth : ℕ) (flits : Flits) → 0 < depth → (s : NetState) → IsReached (numbered t numbers depth flits) s
    → (Go : Type 0) → GoesWhere (numbered t numbers depth flits) s replies Go
    → Go ⊎ ((x : ℕ) → x < channels_of t → IsQuiet (numbered t numbers depth flits) s x)
goes_or_quiet t replies numbers are is depth flits deep s reached Go go =
    let n : Net = numbered t numbers depth flits in
    let net : IsNet n = is.net depth flits in
    going.goes_or_quiet n s replies Go net deep (words_reached n s net reached) (routes_reached n s net reached) is.above
    (λ x y r. slice_get_within t.kinds y Injection (are x y r).1) go

-- a move is something that goes
pub move_goes : (n : Net) (s : NetState) (replies : List Reply) → GoesWhere n s replies (MoveThere n s replies)
move_goes n s replies = record { moves = Moves; takes = Takes }

-- where nobody goes, all has come
pub all_has_come : (t : Table) (replies : List Reply) (numbers : List ℕ) → AreReplies t replies → IsNumbered t replies numbers
    → (depth : ℕ) (flits : Flits) → 0 < depth → (s : NetState) → IsReached (numbered t numbers depth flits) s
    → GoesWhere (numbered t numbers depth flits) s replies ⊥
    → (i j : ℕ) → joins_of t i j ≡ true → between i j (whole s j) ≡ between i j (s.notes i).sent
all_has_come t replies numbers are is depth flits deep s reached still i j joined =
    let n : Net = numbered t numbers depth flits in
    let net : IsNet n = is.net depth flits in
    let quiet : (x : ℕ) → x < channels_of t → IsQuiet n s x =
    ⊎_elim
    (λ (never : ⊥). absurd never)
    (λ (all : (x : ℕ) → x < channels_of t → IsQuiet n s x). all)
    (goes_or_quiet t replies numbers are is depth flits deep s reached ⊥ still) in
    let ends = net.ends i j joined in
    let within : j < channels_of t = net.within i j j joined (ends.0, [], ends.1) in
    ap (λ a. between i j (whole_of a (s.notes j).begun)) (quiet j within).awaited
    ∙ all_come n s net (routes_reached n s net reached) quiet i j joined

-- a channel that ejects
ejection : (k : Option Kind) → is_receiver k ≡ true → k ≡ Some Ejection
ejection None h = absurd (cc)
ejection (Some Injection) h = absurd (cc)
ejection (Some Hop) h = absurd (cc)
ejection (Some Ejection) h = refl

-- tiles at its ends
pub tiles_there : (t : Table) (replies : List Reply) (numbers : List ℕ) → AreReplies t replies → IsNumbered t replies numbers
    → (tiles : Tiles) → AreEndsOfTiles t replies tiles → (depth : ℕ) (flits : Flits) → AreTiles (numbered t numbers depth flits) tiles
tiles_there t replies numbers are is tiles at depth flits = record {
  receivers = λ x within ejects. at.receivers x (ejection (kind_of t x) ejects);
  asks_within = λ p h. slice_get_within t.kinds (tiles.asks p) Injection (at.asks p h);
  hears_within = λ p h. slice_get_within t.kinds (tiles.hears p) Ejection (at.hears p h);
  serves_within = λ b h. slice_get_within t.kinds (tiles.serves b) Ejection (are _ _ (at.answers b h)).0;
  replies_within = λ b h. slice_get_within t.kinds (tiles.replies b) Injection (are _ _ (at.answers b h)).1;
  above = λ b h. is.above (tiles.serves b) (tiles.replies b) (at.answers b h);
}
