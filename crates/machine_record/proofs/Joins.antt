-- Actions that are joined to the last of a record: what they do together.
use Rattle.std.proofs.Common.{◌≡◌, ℕ, zero, suc, ◌+◌, ◌-◌, ◌%◌, ◌==◌, Bool, true, false, List, [], ◌∷◌, ◌++◌, length, Option, Some, None, Result, Ok, Err}
use Rattle.std.proofs.Common.{refl, sym, ◌∙◌, ap, subst, arith, append_assoc}
use Rattle.std.proofs.lemmas.Bool.{eqb-true}
use Rattle.std.specs.Prelude.{if◌then◌else◌, option_and_then, slice_get, slice_set}
use Rattle.std.specs.Str.Lines.{lines}
use Rattle.torus.specs.Shape.{Shape}
use Rattle.torus.specs.declared.step.Step.{Step}
use Rattle.lexer.specs.declared.fault.LineFault.{LineFault}
use Rattle.machine_parts.specs.Core.{Load, round}
use Rattle.machine_parts.specs.Machine.{core_after}
use Rattle.machine_core.specs.Loading.{load_by}
use Rattle.machine_core.specs.Rounds.{rounds_of}
use Rattle.machine_core.proofs.Rounds.{core_append, same_shape}
use Rattle.machine_asked.specs.Asked.{Asked, asked_in, fair_made, fair_rounds_made}
use Rattle.machine_record.specs.declared.action.Action.{Action}
use Rattle.machine_record.specs.declared.action.Action.TheVariants.{Move, Rounds, Line, Clocked, ClockedRounds, FairRounds, Turned}
use Rattle.machine_record.specs.declared.action.Turns.{Turns}
use Rattle.machine_record.specs.declared.row.LineRow.{LineRow}
use Rattle.machine_record.specs.Action.{action_number, action_of, actions_put, fair_joined, is_narrow, joined, joined_last, rounds_joined}
use Rattle.machine_record.specs.Action.{turn_behind, turned_joined, turned_on, turned_recorded}
use Rattle.machine_record.specs.Recording.{Recording}
use Rattle.machine_record.specs.Machine.{with_action}
use Rattle.machine_record.specs.Replay.{acted, acted_by, clocked_made, loaded, made_by, replayed, replayed_from, rounds_made, turned_made}
use Rattle.machine_record.proofs.Replays.{acts, both_from, replayed_push}

-- which actions are never joined to another
pub joins_no_move : (o : Option Action) (s : Step) → option_and_then (λ last. joined last (Move s)) o ≡ None
joins_no_move None s = refl
joins_no_move (Some (Move t)) s = refl
joins_no_move (Some (Rounds k)) s = refl
joins_no_move (Some (Line k)) s = refl
joins_no_move (Some (Clocked k)) s = refl
joins_no_move (Some (ClockedRounds k)) s = refl
joins_no_move (Some (FairRounds k)) s = refl
joins_no_move (Some (Turned t)) s = refl

pub joins_no_line : (o : Option Action) (n : ℕ) → option_and_then (λ last. joined last (Line n)) o ≡ None
joins_no_line None n = refl
joins_no_line (Some (Move t)) n = refl
joins_no_line (Some (Rounds k)) n = refl
joins_no_line (Some (Line k)) n = refl
joins_no_line (Some (Clocked k)) n = refl
joins_no_line (Some (ClockedRounds k)) n = refl
joins_no_line (Some (FairRounds k)) n = refl
joins_no_line (Some (Turned t)) n = refl

pub joins_no_clocked : (o : Option Action) (n : ℕ) → (option_and_then (λ last. joined last (Clocked n)) o ≡ None)
    × (option_and_then (λ last. joined last (ClockedRounds n)) o ≡ None)
joins_no_clocked None n = (refl, refl)
joins_no_clocked (Some (Move t)) n = (refl, refl)
joins_no_clocked (Some (Rounds k)) n = (refl, refl)
joins_no_clocked (Some (Line k)) n = (refl, refl)
joins_no_clocked (Some (Clocked k)) n = (refl, refl)
joins_no_clocked (Some (ClockedRounds k)) n = (refl, refl)
joins_no_clocked (Some (FairRounds k)) n = (refl, refl)
joins_no_clocked (Some (Turned t)) n = (refl, refl)

-- so many rounds, and more behind them
rounds_and_more : (s : Shape) (m n : ℕ) → rounds_of s m ++ rounds_of s n ≡ rounds_of s (m + n)
rounds_and_more s zero n = ap (rounds_of s) (let none : n ≡ 0 + n = omega arith in none)
rounds_and_more s (suc m) n =
    let next : suc (m + n) ≡ suc m + n = omega arith in
    append_assoc (round s) (rounds_of s m) (rounds_of s n)
    ∙ (ap (λ (xs : List Step). round s ++ xs) (rounds_and_more s m n) ∙ ap (rounds_of s) next)

rounds_more : (v : Asked) (m n : ℕ) → rounds_made (rounds_made v m) n ≡ rounds_made v (m + n)
rounds_more v m n =
    ap (asked_in v)
    (ap (λ (s : Shape). core_after (core_after v.core (rounds_of v.core.shape m)) (rounds_of s n)) (same_shape v.core (rounds_of v.core.shape m))
    ∙ (sym (core_append v.core (rounds_of v.core.shape m) (rounds_of v.core.shape n))
    ∙ ap (core_after v.core) (rounds_and_more v.core.shape m n)))

fair_rounds_more : (v : Asked) (m n : ℕ) → fair_rounds_made (fair_rounds_made v m) n ≡ fair_rounds_made v (m + n)
fair_rounds_more v m zero = ap (fair_rounds_made v) (let none : m ≡ m + 0 = omega arith in none)
fair_rounds_more v m (suc n) =
    let next : suc (m + n) ≡ m + suc n = omega arith in
    ap fair_made (fair_rounds_more v m n) ∙ ap (fair_rounds_made v) next

-- a turn goes on from a turn
turn_on : (first m n : ℕ) → turn_behind (turn_behind first m) n ≡ turn_behind first (m + n)
turn_on first m n = omega arith

turned_more : (v : Asked) (first m n : ℕ) → turned_made (turned_made v first m) (turn_behind first m) n ≡ turned_made v first (m + n)
turned_more v first m zero = ap (turned_made v first) (let none : m ≡ m + 0 = omega arith in none)
turned_more v first m (suc n) =
    let next : suc (m + n) ≡ m + suc n = omega arith in
    (λ i. clocked_made (turned_more v first m n i) (turn_on first m n i)) ∙ ap (turned_made v first) next

-- two actions that are joined do what they do one after the other
record Joins (v u : Asked) (both : Action) : Type 0 where
  pub narrow : is_narrow both ≡ true
  pub acts : (rows : List LineRow) → acted rows v both ≡ Some u

-- an action that a number names
named : (v u : Asked) (kind both : Action) (b : Bool) → is_narrow kind ≡ b → (if b then Some kind else None) ≡ Some both
    → ((rows : List LineRow) → acted rows v kind ≡ Some u) → Joins v u both
named v u kind both true narrow h did =
    let same : kind ≡ both = cc in
    subst (λ (a : Action). Joins v u a) same (record { narrow = narrow; acts = did })
named v u kind both false narrow h did = absurd (cc)

rounds_then : (v u : Asked) (count : ℕ) (next both : Action) → rounds_joined count next ≡ Some both
    → ((rows : List LineRow) → acted rows (rounds_made v count) next ≡ Some u) → Joins v u both
rounds_then v u count (Rounds more) both h did =
    named v u (Rounds (count + more)) both (is_narrow (Rounds (count + more))) refl h
    (λ rows. ap Some (sym (rounds_more v count more)) ∙ did rows)
rounds_then v u count (Move s) both h did = absurd (cc)
rounds_then v u count (Line k) both h did = absurd (cc)
rounds_then v u count (Clocked k) both h did = absurd (cc)
rounds_then v u count (ClockedRounds k) both h did = absurd (cc)
rounds_then v u count (FairRounds k) both h did = absurd (cc)
rounds_then v u count (Turned t) both h did = absurd (cc)

fair_then : (v u : Asked) (count : ℕ) (next both : Action) → fair_joined count next ≡ Some both
    → ((rows : List LineRow) → acted rows (fair_rounds_made v count) next ≡ Some u) → Joins v u both
fair_then v u count (FairRounds more) both h did =
    named v u (FairRounds (count + more)) both (is_narrow (FairRounds (count + more))) refl h
    (λ rows. ap Some (sym (fair_rounds_more v count more)) ∙ did rows)
fair_then v u count (Move s) both h did = absurd (cc)
fair_then v u count (Line k) both h did = absurd (cc)
fair_then v u count (Clocked k) both h did = absurd (cc)
fair_then v u count (ClockedRounds k) both h did = absurd (cc)
fair_then v u count (Rounds k) both h did = absurd (cc)
fair_then v u count (Turned t) both h did = absurd (cc)

-- clocked rounds in a row, and more whose turns go on
turns_then : (v u : Asked) (turns more : Turns) (both : Action) (b : Bool) → (more.first == turn_behind turns.first turns.count) ≡ b
    → (if b then turned_on turns.first (turns.count + more.count) else None) ≡ Some both
    → ((rows : List LineRow) → acted rows (turned_made v turns.first turns.count) (Turned more) ≡ Some u) → Joins v u both
turns_then v u turns more both false goes h did = absurd (cc)
turns_then v u turns more both true goes h did =
    let count : ℕ = turns.count + more.count in
    let same : more.first ≡ turn_behind turns.first turns.count = eqb-true _ _ goes in
    named v u (turned_recorded turns.first count) both (is_narrow (turned_recorded turns.first count)) refl h
    (λ rows. ap Some (sym (turned_more v turns.first turns.count more.count))
    ∙ (ap (λ (k : ℕ). Some (turned_made (turned_made v turns.first turns.count) k more.count)) (sym same) ∙ did rows))

turned_then : (v u : Asked) (turns : Turns) (next both : Action) → turned_joined turns next ≡ Some both
    → ((rows : List LineRow) → acted rows (turned_made v turns.first turns.count) next ≡ Some u) → Joins v u both
turned_then v u turns (Turned more) both h did = turns_then v u turns more both (more.first == turn_behind turns.first turns.count) refl h did
turned_then v u turns (Move s) both h did = absurd (cc)
turned_then v u turns (Rounds k) both h did = absurd (cc)
turned_then v u turns (Line k) both h did = absurd (cc)
turned_then v u turns (Clocked k) both h did = absurd (cc)
turned_then v u turns (ClockedRounds k) both h did = absurd (cc)
turned_then v u turns (FairRounds k) both h did = absurd (cc)

both_act : (rows : List LineRow) (v w u : Asked) (first next both : Action) → acted rows v first ≡ Some w → joined first next ≡ Some both
    → ((more : List LineRow) → acted more w next ≡ Some u) → Joins v u both
both_act rows v w u (Rounds count) next both came h did =
    let same : w ≡ rounds_made v count = cc in
    rounds_then v u count next both h (λ more. ap (λ (x : Asked). acted more x next) (sym same) ∙ did more)
both_act rows v w u (FairRounds count) next both came h did =
    let same : w ≡ fair_rounds_made v count = cc in
    fair_then v u count next both h (λ more. ap (λ (x : Asked). acted more x next) (sym same) ∙ did more)
both_act rows v w u (Turned turns) next both came h did =
    let same : w ≡ turned_made v turns.first turns.count = cc in
    turned_then v u turns next both h (λ more. ap (λ (x : Asked). acted more x next) (sym same) ∙ did more)
both_act rows v w u (Move s) next both came h did = absurd (cc)
both_act rows v w u (Line k) next both came h did = absurd (cc)
both_act rows v w u (Clocked k) next both came h did = absurd (cc)
both_act rows v w u (ClockedRounds k) next both came h did = absurd (cc)

-- a last action with a number, and one that is joined to it
last_with : (rows : List LineRow) (v w u : Asked) (o : Option Action) (next both : Action) → option_and_then (acted rows v) o ≡ Some w
    → option_and_then (λ last. joined last next) o ≡ Some both → ((more : List LineRow) → acted more w next ≡ Some u) → Joins v u both
last_with rows v w u None next both came h did = absurd (cc)
last_with rows v w u (Some first) next both came h did = both_act rows v w u first next both came h did

done_alone : (o : Option Asked) (w : Asked) → option_and_then (λ y. Some y) o ≡ Some w → o ≡ Some w
done_alone None w h = absurd (cc)
done_alone (Some y) w h = h

-- what the action at a place and one more are together
abbrev joined_at : List ℕ → Action → ℕ → Option Action
joined_at numbers next k = option_and_then (λ last. joined last next) (option_and_then action_of (slice_get numbers k))

-- some actions, of which the last and one more are joined
replayed_joined : (rows : List LineRow) (v w u : Asked) (xs : List ℕ) (next both : Action) → replayed rows v xs ≡ Some w
    → joined_last xs next ≡ Some both → ((more : List LineRow) → acted more w next ≡ Some u)
    → replayed rows v (slice_set xs (length xs - 1) (action_number both)) ≡ Some u
replayed_joined rows v w u [] next both came h did = absurd (cc)
replayed_joined rows v w u (x ∷ []) next both came h did =
    let joins = last_with rows v w u (action_of x) next both (done_alone (acted_by rows v x) w came) h did in
    ap (option_and_then (λ y. Some y)) (acts rows v u both joins.narrow (joins.acts rows))
replayed_joined rows v w u (x ∷ y ∷ xs) next both came h did =
    let whole : length (x ∷ y ∷ xs) - 1 ≡ suc (length xs) = omega arith in
    let rest : length (y ∷ xs) - 1 ≡ length xs = omega arith in
    let n : ℕ = action_number both in
    let here : joined_last (y ∷ xs) next ≡ Some both = ap (joined_at (y ∷ xs) next) rest ∙ (sym (ap (joined_at (x ∷ y ∷ xs) next) whole) ∙ h) in
    ap (λ (k : ℕ). replayed rows v (slice_set (x ∷ y ∷ xs) k n)) whole
    ∙ both_from rows (acted_by rows v x) (y ∷ xs) (slice_set (y ∷ xs) (length xs) n) w u
    (λ z there. ap (λ (k : ℕ). replayed rows z (slice_set (y ∷ xs) k n)) (sym rest) ∙ replayed_joined rows z w u (y ∷ xs) next both there here did) came

-- some actions and one more
replayed_put : (rows : List LineRow) (v w u : Asked) (xs : List ℕ) (next : Action) (o : Option Action) → joined_last xs next ≡ o → is_narrow next ≡ true
    → replayed rows v xs ≡ Some w → ((more : List LineRow) → acted more w next ≡ Some u) → replayed rows v (actions_put xs next o) ≡ Some u
replayed_put rows v w u xs next None is narrow came did = replayed_push rows v xs (action_number next) w u came (acts rows w u next narrow (did rows))
replayed_put rows v w u xs next (Some both) is narrow came did = replayed_joined rows v w u xs next both came is did

from_load : (r : Recording) (next : Action) (v w : Asked) (x : Result Load LineFault) → is_narrow next ≡ true → replayed_from r x ≡ Some v
    → ((rows : List LineRow) → acted rows v next ≡ Some w) → replayed_from (with_action next r) x ≡ Some w
from_load r next v w (Err e) narrow h did = absurd (cc)
from_load r next v w (Ok l) narrow h did = replayed_put r.rows (loaded l) v w r.actions next (joined_last r.actions next) refl narrow h did

-- a record with one action more
pub made_action : (r : Recording) (next : Action) (v w : Asked) → is_narrow next ≡ true → made_by r ≡ Some v
    → ((rows : List LineRow) → acted rows v next ≡ Some w) → made_by (with_action next r) ≡ Some w
made_action r next v w narrow h did = from_load r next v w (load_by (lines r.machine) (lines r.scripts)) narrow h did
