-- What the judge holds, over an answer.
use Rattle.std.proofs.Common.{◌≡◌, ◌≢◌, ⊎_elim, ℕ, zero, suc, ◌+◌, ◌<◌, ◌≤◌, ◌==◌, Bool, true, false, List, [], ◌∷◌, length, Option, Some, None, Vec}
use Rattle.std.proofs.Common.{refl, sym, ◌∙◌, ap, subst, arith, set, get_or, add-one}
use Rattle.std.proofs.Common.{length-set, vec_len, not}
use Rattle.std.proofs.lemmas.Bool.{cases_eq, cases_lt, eqb-true, eqb-false}
use Rattle.std.proofs.lemmas.List.{nil_from_length}
use Rattle.packet.specs.declared.kinds.Reply.{Reply}
use Rattle.trace_laws.specs.declared.event.Call.{Call}
use Rattle.trace_laws.specs.declared.event.Event.{Event}
use Rattle.trace_laws.specs.declared.opened.Open.{Open}
use Rattle.trace_laws.specs.declared.opened.Config.{Config}
use Rattle.trace_laws.specs.declared.opened.Branch.{Branch}
use Rattle.trace_laws.specs.declared.opened.Node.{Node}
use Rattle.trace_laws.specs.Traces.{IsTrace, TraceIssuesAt, TraceAnswersAt}
use Rattle.trace_laws.specs.Orders.{IsLinearizable}
use Rattle.trace_laws.specs.Configs.{IsIn, IsLeft, HasTakenEffect, HasAsGood, release}
use Rattle.trace_laws.specs.Searches.{IsAt, IsSoundSearch, configs_of, AreReleased}
use Rattle.trace_laws.proofs.Start.{in_map, map_in}
use Rattle.trace_laws.proofs.Lists.{get_within}
use Rattle.trace_judge.specs.declared.search.Search.{Search}
use Rattle.trace_judge.specs.declared.index.Index.{Index}
use Rattle.trace_judge.specs.Sets.{lists_of, with_set, StaysSound}
use Rattle.trace_judge.specs.Searched.{HasSearched}
use Rattle.trace_judge.specs.Slots.{IsParted}
use Rattle.trace_judge.specs.Elders.{IsExpandedInTurn, IsSearchedInTurn}
use Rattle.trace_judge.proofs.Branches.{with_same, with_other}
use Rattle.trace_judge.proofs.Parting.{parted_freed}
use Rattle.trace_judge.proofs.Turns.{turn_answer, keeps_none}
use Rattle.trace_judge.proofs.Searching.{set_same, set_other, read_set}

-- what is answered was issued
pub issue_known : (words : ℕ) (trace : List Event) (k id : ℕ) → IsTrace words trace
    → (reply : Reply) × TraceAnswersAt trace k id reply
    → ((i : ℕ) (call : Call) → i < k → TraceIssuesAt trace i call → call.id ≡ id → ⊥) → ⊥
issue_known words trace k id t now none = let r = t.issued k id now.0 now.1 in none r.0 r.1 r.2 r.4 r.3

-- on a word that there is
pub issue_inside : (words : ℕ) (trace : List Event) (k id : ℕ) (call : Call) → IsTrace words trace
    → (i : ℕ) × (i < k) × TraceIssuesAt trace i call × (call.id ≡ id) → call.operation.address < words
issue_inside words trace k id call t is = t.inside is.0 call is.2

-- and is in a slot
pub slot_known : {A : Type 0} (opening : List ℕ) (trace whole : List Event) (k : ℕ) (s : Search A) (id : ℕ) (call : Call)
    (seen : List (Option Open))
    → IsTrace (length opening) trace → HasSearched {A = A} opening trace whole k s
    → (reply : Reply) × TraceAnswersAt trace k id reply
    → (i : ℕ) × (i < k) × TraceIssuesAt trace i call × (call.id ≡ id)
    → seen ≡ lists_of s.tables.items call.operation.address
    → ((u : ℕ) (o : Open) → IsAt seen u o → o.call.id ≡ id → ⊥) → ⊥
slot_known {A} opening trace whole k s id call seen t holds now is e none =
    let inside : call.operation.address < length opening = t.inside is.0 call is.2 in
    ⊎_elim {C = ⊥}
    (λ (a : (i : ℕ) × (told : Reply) × (i < k) × TraceAnswersAt trace i call.id told).
    let same = t.once a.0 k id a.1 now.0 (subst (λ (n : ℕ). TraceAnswersAt trace a.0 n a.1) is.3 a.3) now.1 in
    let l = a.2 in
    omega arith)
    (λ (a : (u : ℕ) × (o : Open) × IsAt (lists_of s.tables.items call.operation.address) u o × (o.call ≡ call)).
    none a.0 a.1 (subst (λ (ts : List (Option Open)). IsAt ts a.0 a.1) (sym e) a.2)
    (ap (λ (c : Call). c.id) a.3 ∙ is.3))
    ((holds.searched.tabled call.operation.address inside).known is.0 call is.1 is.2 refl
    (λ lost. lost.never (k, now.0, subst (λ (n : ℕ). TraceAnswersAt trace k n now.0) (sym is.3) now.1)))

-- which is in the table of its word
pub slot_there : {A : Type 0} (opening : List ℕ) (trace whole : List Event) (k : ℕ) (s : Search A) (w slot : ℕ) (o : Open)
    (seen : List (Option Open))
    → HasSearched {A = A} opening trace whole k s → w < length opening → seen ≡ lists_of s.tables.items w → IsAt seen slot o
    → IsAt (lists_of s.tables.items o.call.operation.address) slot o × (o.call.operation.address < length opening)
slot_there {A} opening trace whole k s w slot o seen holds inside e at =
    let there : IsAt (lists_of s.tables.items w) slot o = subst (λ (ts : List (Option Open)). IsAt ts slot o) e at in
    let here : o.call.operation.address ≡ w = (holds.searched.tabled w inside).here slot o there in
    (subst (λ (v : ℕ). IsAt (lists_of s.tables.items v) slot o) (sym here) there, omega arith)

-- and has a slot there, as the code reads it
pub slot_low : {A : Type 0} (tables : List (Vec (Option Open) A)) (w slot : ℕ) (o : Open) (v : Vec (Option Open) A)
    → w < length tables → v ≡ get_or tables w v → IsAt (lists_of tables w) slot o → slot < length v.items
slot_low {A} tables w slot o v l e at = get_within v.items slot (Some o)
    (subst (λ (ts : List (Option Open)). IsAt ts slot o) (sym (read_set tables w v l e)) at)

-- what IsSoundSearch says of branches, by another reading of the branches
pub sound_as : (opening : List ℕ) (trace : List Event) (k : ℕ) (tables : ℕ → List (Option Open))
    (sets others : ℕ → List Branch) (nodes : List Node)
    → ((v : ℕ) → others v ≡ sets v)
    → IsSoundSearch opening trace k tables sets nodes → IsSoundSearch opening trace k tables others nodes
sound_as opening trace k tables sets others nodes same sound = record {
  back = sound.back;
  inside = λ v i b l h e. sound.inside v i b l (subst (λ (bs : List Branch). IsIn bs b) (same v) h) e;
  explained = λ pick trails marks picks. sound.explained pick trails marks (record {
    sized = picks.sized;
    picked = λ v l. subst (λ (bs : List Branch). IsIn bs (pick v)) (same v) (picks.picked v l);
    trailed = picks.trailed;
    marked = picks.marked;
    only = picks.only;
  });
}

-- the branches after an answer, which leaves the word with some
pub holds_answer : {A : Type 0} (opening : List ℕ) (trace whole : List Event) (k : ℕ) (s : Search A)
    (tables : Vec (Vec (Option Open) A) A) (words : Vec (Vec Branch A) A) (nodes : Vec Node A)
    (slot : ℕ) (a : Open) (id : ℕ) (reply : Reply) (old middle : List Branch) (cleared : Vec (Option Open) A)
    (later : Vec Branch A)
    → IsTrace (length opening) trace → TraceAnswersAt trace k id reply → a.call.id ≡ id
    → a.call.operation.address < length opening
    → IsAt (lists_of s.tables.items a.call.operation.address) slot a → HasSearched {A = A} opening trace whole k s
    → old ≡ lists_of s.words.items a.call.operation.address
    → tables.items ≡ set s.tables.items a.call.operation.address cleared
    → cleared.items ≡ set (lists_of s.tables.items a.call.operation.address) slot None
    → words.items ≡ set s.words.items a.call.operation.address later
    → ((c : Config) → IsIn (configs_of old) c
    → HasAsGood (lists_of s.tables.items a.call.operation.address) a.call.operation.address (configs_of middle) c)
    → ((c : Config) → IsIn (configs_of middle) c → IsLeft c slot
    → IsExpandedInTurn (lists_of s.tables.items a.call.operation.address) a.call.operation.address (configs_of middle) c)
    → StaysSound (lists_of s.tables.items a.call.operation.address) a.call.operation.address old s.nodes.items
    middle nodes.items
    → AreReleased slot middle later.items
    → ((b : Branch) → IsIn middle b → HasTakenEffect b.config slot → IsIn later.items
    (record { config = release b.config slot; trail = b.trail }))
    → IsSearchedInTurn opening trace (suc k) (lists_of tables.items) (lists_of words.items) nodes.items
holds_answer {A} opening trace whole k s tables words nodes slot a id reply old middle cleared later t now is far at holds was emptied clear
    written on closed sound from released =
    let w : ℕ = a.call.operation.address in
    let open' : ℕ → List (Option Open) = lists_of s.tables.items in
    let sets : ℕ → List Branch = lists_of s.words.items in
    let inside : w < length s.words.items = let e = holds.sized in omega arith in
    let within : w < length s.tables.items = let e = holds.tabled in omega arith in
    let mid : ℕ → List Branch = with_set sets w middle in
    let new : ℕ → List Branch = lists_of words.items in
    let here : new w ≡ later.items = ap (λ (vs : List (Vec Branch A)). lists_of vs w) written
    ∙ set_same s.words.items w later inside in
    let there : (v : ℕ) → v ≢ w → new v ≡ sets v = λ v ne. ap (λ (vs : List (Vec Branch A)). lists_of vs v) written
    ∙ set_other s.words.items w later v ne in
    let gone : lists_of tables.items w ≡ set (open' w) slot None = ap (λ (vs : List (Vec (Option Open) A)). lists_of vs w) emptied
    ∙ (set_same s.tables.items w cleared within ∙ clear) in
    let same_table : (v : ℕ) → v ≢ w → lists_of tables.items v ≡ open' v =
    λ v ne. ap (λ (vs : List (Vec (Option Open) A)). lists_of vs v) emptied ∙ set_other s.tables.items w cleared v ne in
    let mid_same : mid w ≡ middle = with_same sets w middle in
    let now' : TraceAnswersAt trace k a.call.id reply = subst (λ (n : ℕ). TraceAnswersAt trace k n reply) (sym is) now in
    let begun : IsSoundSearch opening trace k open' (with_set sets w old) s.nodes.items =
    sound_as opening trace k open' sets (with_set sets w old) s.nodes.items
    (λ v. ⊎_elim {C = with_set sets w old v ≡ sets v}
    (λ (e : v ≡ w). ap (λ (u : ℕ). with_set sets w old u) e ∙ (with_same sets w old ∙ (was ∙ ap sets (sym e))))
    (λ (ne : v ≢ w). with_other sets w old v ne)
    (cases_eq v w)) holds.searched.sound in
    turn_answer opening trace k open' (lists_of tables.items) sets mid new s.nodes.items nodes.items slot a reply t now' far at
    gone same_table
    (λ c h. subst (λ (bs : List Branch). HasAsGood (open' w) w (configs_of bs) c) (sym mid_same)
    (on c (subst (λ (bs : List Branch). IsIn (configs_of bs) c) (sym was) h)))
    (subst (λ (bs : List Branch). (c : Config) → IsIn (configs_of bs) c → IsLeft c slot → IsExpandedInTurn (open' w) w
    (configs_of bs) c) (sym mid_same) closed)
    (subst (λ (bs : List Branch). AreReleased slot (mid w) bs) (sym here)
    (subst (λ (bs : List Branch). AreReleased slot bs later.items) (sym mid_same) from))
    (λ c h taken.
    let r = map_in (λ (b : Branch). b.config) middle c
    (subst (λ (bs : List Branch). IsIn (configs_of bs) c) mid_same h) in
    let b : Branch = r.0 in
    let q = released b r.1 (subst (λ (d : Config). HasTakenEffect d slot) r.2 taken) in
    subst (λ (bs : List Branch). IsIn (configs_of bs) (release c slot)) (sym here)
    (subst (λ (d : Config). IsIn (configs_of later.items) (release d slot)) (sym r.2)
    (in_map (λ (b : Branch). b.config) later.items (record { config = release b.config slot; trail = b.trail }) q)))
    (λ v ne. with_other sets w middle v ne) there holds.searched
    (sound opening trace k open' sets t holds.searched.tabled refl far begun)

-- the branches after an answer, which leaves the word with some, as the code sees them
pub seen_answer : {A : Type 0} (opening : List ℕ) (trace whole : List Event) (k : ℕ) (s : Search A)
    (tables : Vec (Vec (Option Open) A) A) (words : Vec (Vec Branch A) A) (nodes : Vec Node A)
    (slot : ℕ) (a : Open) (id : ℕ) (reply : Reply) (table shown cleared : Vec (Option Open) A) (seen : List (Option Open))
    (branches : Vec Branch A) (old middle view : List Branch) (later : Vec Branch A)
    → IsTrace (length opening) trace → TraceAnswersAt trace k id reply → a.call.id ≡ id
    → a.call.operation.address < length opening
    → IsAt (lists_of s.tables.items a.call.operation.address) slot a → HasSearched {A = A} opening trace whole k s
    → table ≡ get_or s.tables.items a.call.operation.address table
    → shown ≡ get_or s.tables.items a.call.operation.address shown → seen ≡ shown.items
    → branches ≡ get_or s.words.items a.call.operation.address branches → old ≡ branches.items
    → view ≡ middle
    → tables.items ≡ set s.tables.items a.call.operation.address cleared
    → cleared.items ≡ set table.items slot None
    → words.items ≡ set s.words.items a.call.operation.address later
    → ((c : Config) → IsIn (configs_of old) c → HasAsGood seen a.call.operation.address (configs_of middle) c)
    → ((c : Config) → IsIn (configs_of middle) c → IsLeft c slot → IsExpandedInTurn seen a.call.operation.address
    (configs_of middle) c)
    → StaysSound seen a.call.operation.address old s.nodes.items middle nodes.items
    → AreReleased slot view later.items
    → ((b : Branch) → IsIn view b → HasTakenEffect b.config slot → IsIn later.items
    (record { config = release b.config slot; trail = b.trail }))
    → IsSearchedInTurn opening trace (suc k) (lists_of tables.items) (lists_of words.items) nodes.items
seen_answer {A} opening trace whole k s tables words nodes slot a id reply table shown cleared seen branches old middle view later t now is far at holds
    read read_shown same read_branches same_branches viewed emptied clear written on closed sound from released =
    let w : ℕ = a.call.operation.address in
    let within : w < length s.tables.items = let e = holds.tabled in omega arith in
    let inside : w < length s.words.items = let e = holds.sized in omega arith in
    let e1 : table.items ≡ lists_of s.tables.items w = read_set s.tables.items w table within read in
    let e2 : seen ≡ lists_of s.tables.items w = same ∙ read_set s.tables.items w shown within read_shown in
    holds_answer {A = A} opening trace whole k s tables words nodes slot a id reply old middle cleared later t now is far at holds
    (same_branches ∙ read_set s.words.items w branches inside read_branches) emptied
    (clear ∙ ap (λ (ts : List (Option Open)). set ts slot None) e1) written
    (subst (λ (ts : List (Option Open)). (c : Config) → IsIn (configs_of old) c → HasAsGood ts w (configs_of middle) c) e2 on)
    (subst (λ (ts : List (Option Open)). (c : Config) → IsIn (configs_of middle) c → IsLeft c slot
    → IsExpandedInTurn ts w (configs_of middle) c) e2 closed)
    (subst (λ (ts : List (Option Open)). StaysSound ts w old s.nodes.items middle nodes.items) e2 sound)
    (subst (λ (bs : List Branch). AreReleased slot bs later.items) viewed from)
    (subst (λ (bs : List Branch). (b : Branch) → IsIn bs b → HasTakenEffect b.config slot → IsIn later.items
    (record { config = release b.config slot; trail = b.trail })) viewed released)

some_in : (bs : List Branch) → 0 < length bs → (b : Branch) × IsIn bs b
some_in [] l = absurd (omega arith)
some_in (b ∷ bs) l = (b, (zero, refl))

-- where the word has a branch still, the search goes on
pub answer_yes : {A : Type 0} (opening : List ℕ) (trace whole : List Event) (k : ℕ) (s : Search A)
    (tables : Vec (Vec (Option Open) A) A) (words : Vec (Vec Branch A) A) (nodes : Vec Node A) (index : Index A) (found : ℕ) (stuck : Option ℕ)
    (w slot : ℕ) (a : Open) (table cleared : Vec (Option Open) A) (later : Vec Branch A)
    → w < length opening → 0 < length later.items
    → table ≡ get_or s.tables.items w table → IsAt (lists_of s.tables.items w) slot a
    → tables.items ≡ set s.tables.items w cleared → cleared.items ≡ set table.items slot None
    → words.items ≡ set s.words.items w later → HasSearched {A = A} opening trace whole k s
    → IsSearchedInTurn opening trace (suc k) (lists_of tables.items) (lists_of words.items) nodes.items
    → HasSearched {A = A} opening trace whole (k + 1) (record { tables = tables; words = words; nodes = nodes; index = index; most = s.most; found = found; stuck = stuck })
answer_yes {A} opening trace whole k s tables words nodes index found stuck w slot a table cleared later far some read at emptied clear written holds searched = record {
  tabled = ap (λ (vs : List (Vec (Option Open) A)). length vs) emptied ∙ (length-set s.tables.items w cleared ∙ holds.tabled);
  sized = ap (λ (vs : List (Vec Branch A)). length vs) written ∙ (length-set s.words.items w later ∙ holds.sized);
  searched = subst (λ (n : ℕ). IsSearchedInTurn opening trace n (lists_of tables.items) (lists_of words.items) nodes.items)
      (sym (add-one k)) searched;
  parted = λ v t p h. ⊎_elim {C = IsParted whole t p.call.id}
      (λ (e : v ≡ w).
      let within : w < length s.tables.items = let m = holds.tabled in omega arith in
      let gone : lists_of tables.items w ≡ set (lists_of s.tables.items w) slot None =
      ap (λ (vs : List (Vec (Option Open) A)). lists_of vs w) emptied
      ∙ (set_same s.tables.items w cleared within
      ∙ (clear ∙ ap (λ (ts : List (Option Open)). set ts slot None) (read_set s.tables.items w table within read))) in
      parted_freed whole (lists_of s.tables.items w) slot a at (holds.parted w) t p
      (subst (λ (ts : List (Option Open)). IsAt ts t p) gone (subst (λ (u : ℕ). IsAt (lists_of tables.items u) t p) e h)))
      (λ (ne : v ≢ w). holds.parted v t p
      (subst (λ (ts : List (Option Open)). IsAt ts t p)
      (ap (λ (vs : List (Vec (Option Open) A)). lists_of vs v) emptied ∙ set_other s.tables.items w cleared v ne) h))
      (cases_eq v w);
  filled = λ v l. ⊎_elim {C = (b : Branch) × IsIn (lists_of words.items v) b}
      (λ (e : v ≡ w).
      let r = some_in later.items some in
      let here : lists_of words.items w ≡ later.items = ap (λ (vs : List (Vec Branch A)). lists_of vs w) written
      ∙ set_same s.words.items w later (let n = holds.sized in omega arith) in (
        r.0,
        subst (λ (u : ℕ). IsIn (lists_of words.items u) r.0) (sym e)
            (subst (λ (bs : List Branch). IsIn bs r.0) (sym here) r.1),
      ))
      (λ (ne : v ≢ w).
      let r = holds.filled v l in
      let there : lists_of words.items v ≡ lists_of s.words.items v = ap
      (λ (vs : List (Vec Branch A)). lists_of vs v) written ∙ set_other s.words.items w later v ne in
      (r.0, subst (λ (bs : List Branch). IsIn bs r.0) (sym there) r.1))
      (cases_eq v w);
}

-- and where it has none, no order explains the trace
pub answer_no : {A : Type 0} (opening : List ℕ) (trace whole : List Event) (k : ℕ) (s : Search A) (tables : ℕ → List (Option Open))
    (others : List (Vec Branch A)) (nodes : List Node)
    (w : ℕ) (later : Vec Branch A) → w < length opening → later.items ≡ []
    → others ≡ set s.words.items w later → length s.words.items ≡ length opening
    → IsSearchedInTurn opening trace (suc k) tables (lists_of others) nodes → IsLinearizable opening trace → ⊥
answer_no {A} opening trace whole k s tables others nodes w later far none written sized searched =
    let inside : w < length s.words.items = omega arith in
    let here : lists_of others w ≡ [] = ap (λ (vs : List (Vec Branch A)). lists_of vs w) written ∙
    (set_same s.words.items w later inside ∙ none) in
    keeps_none opening trace (suc k) tables (λ v. configs_of (lists_of others v)) w far
    (λ c h. let r : IsIn [] c = subst (λ (bs : List Branch). IsIn (configs_of bs) c) here h in
    let e : None ≡ Some c = r.1 in cc)
    searched.complete

pub stays_some : {A : Type 0} (later : Vec Branch A) (b : Bool) → b ≡ (vec_len later == 0) → not b ≡ true
    → 0 < length later.items
stays_some later true e h = absurd cc
stays_some later false e h =
    let ne = eqb-false (vec_len later) 0 (sym e) in
    let sized = later.ok.0 in
    ⊎_elim {C = 0 < length later.items}
    (λ (l : 0 < length later.items). l)
    (λ (g : length later.items ≤ 0). absurd (ne (omega arith)))
    (cases_lt 0 (length later.items))

pub goes_none : {A : Type 0} (later : Vec Branch A) (b : Bool) → b ≡ (vec_len later == 0) → not b ≡ false
    → later.items ≡ []
goes_none later false e h = absurd cc
goes_none later true e h =
    let z = eqb-true (vec_len later) 0 (sym e) in
    let sized = later.ok.0 in
    nil_from_length later.items (omega arith)
