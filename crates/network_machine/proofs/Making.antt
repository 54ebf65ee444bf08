-- Moves that are made.
use Rattle.std.proofs.Common.{◌≡◌, ℕ, ◌<◌, Bool, true, false, List, ◌++◌, length, take, refl, sym, subst}
use Rattle.std.proofs.lemmas.List.{take_at}
use Rattle.wormhole.specs.Net.{Net}
use Rattle.wormhole.specs.State.{NetLine, NetState}
use Rattle.wormhole.specs.Events.{lines_after}
use Rattle.network_judge.specs.Table.{Table}
use Rattle.network_judge.specs.Verdicts.{AllArrive}
use Rattle.network_judge.specs.LockUps.{plain_format}
use Rattle.network_judge.specs.declared.table.Reply.{Reply}
use Rattle.network_machine.specs.declared.channel.Channel.{Channel}
use Rattle.network_machine.specs.declared.moves.Move.{Move}
use Rattle.network_machine.specs.declared.moves.Move.TheVariants.{Send, More, Take, Put, Accept, Credit}
use Rattle.network_machine.specs.Keeping.{AllKeepToRoutes}
use Rattle.network_machine.specs.Moves.{MakesEvent, event_move, move_channel, AsksChannelAlone, HasAnswerCredits}
use Rattle.network_machine.specs.Forwards.{forward, Forwards}
use Rattle.network_machine.specs.Outputs.{IsWayOut}
use Rattle.network_machine.specs.Machine.{NetworkMachineSpec, ShowsNetwork, plain_network, Permits, Prevents, MakesAll, MovesAll, SameTables, HasMadeMove, IsInReach}
use Rattle.network_machine.proofs.Keeping.{keeps_on}
use Rattle.network_machine.proofs.Puts.{same_way}

-- channels that are written back
pub made_by : (n : Net) (ls : ℕ → NetLine) (of : Move) (r : Bool) (new rest : List Channel) (len : ℕ) → length new ≡ len
    → MakesEvent n ls of new r → MakesEvent n ls of (take len (new ++ rest)) r
made_by n ls of r new rest len size made = subst (λ cs. MakesEvent n ls of cs r) (sym (take_at new rest len size)) made

is_put : (bit : Bool) (x y flit : ℕ) → event_move (forward bit x y flit) ≡ Put x
is_put true x y flit = refl
is_put false x y flit = refl

pub puts_make : (m : NetworkMachineSpec) (x flit y : ℕ) → IsWayOut m.table m.channels x flit y → (c : Channel) (new : List Channel)
    → (number : ℕ → ℕ) (top depth : ℕ) (s : NetState) → ShowsNetwork m s → (bit : Bool) → plain_format.is_head flit ≡ bit
    → (b : Bool) → Forwards (plain_network m.table number top depth) s.lines new x y flit bit b → MakesEvent (plain_network m.table number top depth) s.lines (Put x) new b
puts_make m x flit y way c new number top depth s shows bit head true h = (forward bit x y flit, is_put bit x y flit, h.0, h.1)
puts_make m x flit y way c new number top depth s shows bit head false h =
    λ e is can. h (same_way m x flit y way c number top depth s shows bit head e is can)

-- where nothing hinders a move it was made
pub moved : (old new : NetworkMachineSpec) (of : Move) → AllArrive old.table → SameTables old new → Permits old of → (b : Bool) → MakesAll old new of b
    → (number : ℕ → ℕ) (top depth : ℕ) (s : NetState) → ShowsNetwork old s → HasMadeMove old new (plain_network old.table number top depth) s of
moved old new of arrive same allows true made = λ number top depth s shows.
    (let h = made number top depth s shows in
    record {
      event = h.0;
      can = record { is = h.1; may = h.2; answers = (allows number top depth s shows).1.answers };
      shows = record {
        lines = h.3;
        keep = subst (λ (t : Table). AllKeepToRoutes t (lines_after (plain_network old.table number top depth) s.lines h.0)) (sym same.table)
            (keeps_on old.table number top depth arrive s.lines h.0 shows.keep h.2);
      };
    })
moved old new of arrive same allows false made = λ number top depth s shows.
    (let a = allows number top depth s shows in absurd (made number top depth s shows a.0 a.1.is a.1.may))

-- a move that was made and asks for no answer
moved_plainly : (old new : NetworkMachineSpec) (of : Move) → ((ls : ℕ → NetLine) → HasAnswerCredits old.replies ls of) → AllArrive old.table → SameTables old new
    → MakesAll old new of true → MovesAll old new of
moved_plainly old new of answers arrive same made = λ number top depth s shows.
    (let h = made number top depth s shows in
    record {
      event = h.0;
      can = record { is = h.1; may = h.2; answers = answers s.lines };
      shows = record {
        lines = h.3;
        keep = subst (λ (t : Table). AllKeepToRoutes t (lines_after (plain_network old.table number top depth) s.lines h.0)) (sym same.table)
            (keeps_on old.table number top depth arrive s.lines h.0 shows.keep h.2);
      };
    })

-- and one that no event makes
prevented : (old new : NetworkMachineSpec) (of : Move) → MakesAll old new of false → Prevents old of
prevented old new of made = λ number top depth s shows e can. made number top depth s shows e can.is can.may

-- a put
pub puts_move : (old new : NetworkMachineSpec) (x : ℕ) → AllArrive old.table → SameTables old new → MakesAll old new (Put x) true → MovesAll old new (Put x)
puts_move old new x arrive same made = moved_plainly old new (Put x) (λ ls. tt) arrive same made

pub puts_prevent : (old new : NetworkMachineSpec) (x : ℕ) → MakesAll old new (Put x) false → Prevents old (Put x)
puts_prevent old new x made = prevented old new (Put x) made

-- a move that asks for what stands at its channel alone
pub in_reach : (m : NetworkMachineSpec) (of : Move) → AsksChannelAlone of → move_channel of < length m.channels → IsInReach m of
in_reach m (Send p) alone here = absurd alone
in_reach m (More x) alone here = here
in_reach m (Take x) alone here = here
in_reach m (Put x) alone here = absurd alone
in_reach m (Accept x) alone here = absurd alone
in_reach m (Credit x) alone here = here

no_answers : (replies : List Reply) (ls : ℕ → NetLine) (of : Move) → AsksChannelAlone of → HasAnswerCredits replies ls of
no_answers replies ls (Send p) alone = absurd alone
no_answers replies ls (More x) alone = tt
no_answers replies ls (Take x) alone = tt
no_answers replies ls (Put x) alone = absurd alone
no_answers replies ls (Accept x) alone = absurd alone
no_answers replies ls (Credit x) alone = tt

pub moves_alone : (old new : NetworkMachineSpec) (of : Move) → AsksChannelAlone of → AllArrive old.table → SameTables old new
    → (b : Bool) → MakesAll old new of b → b ≡ true → MovesAll old new of
moves_alone old new of alone arrive same true made is = moved_plainly old new of (λ ls. no_answers old.replies ls of alone) arrive same made
moves_alone old new of alone arrive same false made is = absurd (cc)

pub prevents_alone : (old new : NetworkMachineSpec) (of : Move) → (b : Bool) → MakesAll old new of b → b ≡ false → Prevents old of
prevents_alone old new of true made is = absurd (cc)
prevents_alone old new of false made is = prevented old new of made
