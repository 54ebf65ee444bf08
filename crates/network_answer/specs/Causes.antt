-- Why the verdict on a network is as it is (this project's own format).
use Rattle.std.specs.Prelude.{ℕ, ◌+◌, ◌==◌, if◌then◌else◌, not, Bool, true, false, Option, Some, None}
use Rattle.std.specs.Prelude.{List, [], ◌∷◌, ◌++◌, length, map}
use Rattle.std.specs.List.{range_with_len}
use Rattle.network_judge.specs.declared.table.By.{By}
use Rattle.network_judge.specs.declared.table.By.TheVariants.{To, Replied as RepliedBy}
use Rattle.network_judge.specs.declared.table.Link.{Link}
use Rattle.network_judge.specs.declared.table.Verdict.{Verdict}
use Rattle.network_judge.specs.declared.table.Verdict.TheVariants.{Rising, NoRoute, Cycle}
use Rattle.network_judge.specs.Cycles.{link_at}
use Rattle.network_adaptive.specs.declared.accepting.JudgedNet.{JudgedNet}
use Rattle.network_adaptive.specs.declared.accepting.JudgedNet.TheVariants as judged
use Rattle.network_adaptive.specs.declared.verdict.Dependency as dependency
use Rattle.network_adaptive.specs.declared.verdict.NoEscape as no_escape
use Rattle.network_adaptive.specs.declared.verdict.How.{How}
use Rattle.network_adaptive.specs.declared.verdict.How.TheVariants.{Over, Replied}
use Rattle.network_adaptive.specs.declared.verdict.Travel.{Travel}
use Rattle.network_adaptive.specs.declared.verdict.Travel.TheVariants.{Bounded, Round}
use Rattle.network_adaptive.specs.declared.verdict.Verdict as adaptive
use Rattle.network_adaptive.specs.declared.verdict.Verdict.TheVariants as chosen
use Rattle.network_adaptive.specs.Between.{dependency_at}
use Rattle.network_text.specs.Network.{Reading, taken_cell}
use Rattle.network_answer.specs.declared.causes.Cause.{Cause}
use Rattle.network_answer.specs.declared.causes.Cause.TheVariants as cause
use Rattle.network_text.specs.Choosing.{ChoosingText, are_none}

-- the place of a cycle that comes after a place
abbrev pub next_place : ℕ → ℕ → ℕ
next_place n k = if k + 1 == n then 0 else k + 1

-- channel x leads on to channel y: packets to an ejection channel wait for it, or replies go there
abbrev pub by_cause : ℕ → By → ℕ → Cause
by_cause x (To j) y = cause.Waits (record { to = j; held = x; further = false; next = y })
by_cause x RepliedBy y = cause.Answered x y

-- how the channel at a place of a cycle leads on to the next one, where routes are fixed
abbrev pub link_cause : List Link → ℕ → Cause
link_cause links k = by_cause (link_at links k).channel (link_at links k).by
    (link_at links (next_place (length links) k)).channel

-- why the verdict on fixed routes is as it is: numbers that rise; or a source-destination pair without a
-- route; or how each channel of a cycle leads on, and which run deadlocks
abbrev pub verdict_causes : {A : Type 0} → Verdict A → List Cause
verdict_causes (Rising numbers) = cause.Rises ∷ []
verdict_causes (NoRoute r) = cause.NoRoute r.join ∷ []
verdict_causes (Cycle links) =
    map (link_cause links.items) (range_with_len 0 (length links.items)) ++ cause.OneFlit ∷ []

-- channel x leads on to channel y where routers choose: packets may go on over others before
abbrev pub how_cause : {A : Type 0} → ℕ → How A → ℕ → Cause
how_cause x (Over j over) y = cause.Waits
    (record { to = j; held = x; further = not (length over.items == 0); next = y })
how_cause x (Replied z) y = cause.Answered x y

-- how the channel at a place of a cycle leads on to the next one, where routers choose
abbrev pub dependency_cause : {A : Type 0} → List (dependency.Dependency A) → ℕ → Cause
dependency_cause edges k = how_cause (dependency_at edges k).channel (dependency_at edges k).how
    (dependency_at edges (next_place (length edges) k)).channel

-- behind a channel packets have no escape: there is a choice for them, or none at all
abbrev pub escape_cause : Option ℕ → no_escape.NoEscape → Cause
escape_cause (Some cell) f = cause.NoEscape f
escape_cause None f = cause.NoChoice f

-- why packets can go on without an end, if they can
abbrev pub travel_causes : Travel → List Cause
travel_causes (Bounded most) = []
travel_causes (Round r) = cause.GoesRound r ∷ []

-- why the verdict on the network of these lines is as it is, where routers choose
abbrev pub chosen_causes : {A : Type 0} → Reading → adaptive.Verdict A → List Cause
chosen_causes r (chosen.Rising numbers travel) = cause.RisesByEscapes ∷ travel_causes travel
chosen_causes r (chosen.NoEscape f) = escape_cause (taken_cell r f.at f.to) f ∷ []
chosen_causes r (chosen.Cycle edges) =
    map (dependency_cause edges.items) (range_with_len 0 (length edges.items))

-- why what is judged is so
abbrev pub judged_causes : {A : Type 0} → Reading → JudgedNet A → List Cause
judged_causes r (judged.WrongPair p) = cause.NoRoute p.join ∷ []
judged_causes r (judged.WrongChoice c) = cause.WrongChoice c ∷ []
judged_causes r (judged.Judged v) = chosen_causes r v

-- that routers choose, and that all channels are escapes, where a text names none
abbrev pub escape_words : Bool → List Cause
escape_words true = cause.Chooses ∷ cause.AllEscapes ∷ []
escape_words false = cause.Chooses ∷ []

-- why what is judged of a text whose routers choose is so
abbrev pub choosing_causes : {A : Type 0} → ChoosingText → JudgedNet A → List Cause
choosing_causes t judged = escape_words (are_none t.escapes) ++ judged_causes t.fixed judged
