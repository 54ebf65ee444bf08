-- A machine that is asked stands as it did, once it has made steps or is handed a line.
use Rattle.std.proofs.Common.{◌≡◌, ℕ, zero, suc, ◌+◌, ◌<◌, ◌≤◌, ◌||◌, ◌&&◌, Bool, true, false, not, List, [], ◌∷◌, ◌++◌, length, map, Option, Some, None, Result, Ok, refl, sym, ◌∙◌, ap, subst, arith}
use Rattle.std.proofs.Common.{slice_get, slice_set, slice_index, slice_index_or}
use Rattle.std.specs.Prelude.{IfSome, if◌then◌else◌}
use Rattle.std.specs.List.{list_any}
use Rattle.std.proofs.lemmas.Option.{get_or_from_slice_get}
use Rattle.std.proofs.lemmas.List.{length-map, get_or-map, map-set}
use Rattle.std.proofs.lemmas.List.Folds.{list_any-append}
use Rattle.std.proofs.lemmas.List.Sums.{sum_by_push}
use Rattle.torus.specs.declared.step.Step.{Step}
use Rattle.script_lines.specs.declared.line.Line.{Line}
use Rattle.script_lines.specs.Lines.{operations_of, operation_count, script_of}
use Rattle.machine_parts.specs.Core.{Load}
use Rattle.machine_parts.specs.Appended.{load_with, MayFollow}
use Rattle.machine_parts.specs.Handed.{BringsWords, refused, moves_kept, handed}
use Rattle.machine_parts.proofs.Handed.{taken}
use Rattle.machine_parts.specs.Machine.{Core, IsAfter, RunsOn}
use Rattle.fair_rounds.specs.Guard.{Guarding}
use Rattle.machine_asked.specs.declared.asked.AskedMachine.TheInside.{Inside}
use Rattle.machine_asked.specs.Asked.{Asked, IsAsked, IsNumberedLine, has_spin, index_asked, is_operation, is_spin, spins_with}
use Rattle.machine_asked.specs.Inside.{IsAskedMachine}
use Rattle.machine_asked.proofs.Numbered.{asked_is_numbered}

-- further steps
pub steps_on : (v : Asked) (guard : Guarding) (new : Core) (more : List Step) → IsAsked v → RunsOn v.core new more
    → IsAsked (record { core = new; spins = v.spins; guard = guard })
steps_on v guard new more h on = record { load = h.load; steps = h.steps ++ more; after = on h.load h.steps h.after; spins = h.spins }

pub counts_on : (v : Asked) (counts : List ℕ) (new : Core) (more : List Step) → IsAsked v → RunsOn v.core new more → counts ≡ v.core.allowed
    → counts ≡ new.allowed
counts_on v counts new more h on same = same ∙ (h.after.allowed ∙ sym (on h.load h.steps h.after).allowed)

-- the depth and the tags stay
pub depth_on : (v : Asked) (depth : ℕ) (new : Core) (more : List Step) → IsAsked v → RunsOn v.core new more → depth ≡ v.core.depth → depth ≡ new.depth
depth_on v depth new more h on same = same ∙ (h.after.depth ∙ sym (on h.load h.steps h.after).depth)

pub tags_on : (v : Asked) (tags : ℕ) (new : Core) (more : List Step) → IsAsked v → RunsOn v.core new more → tags ≡ v.core.tags → tags ≡ new.tags
tags_on v tags new more h on same = same ∙ (h.after.tags ∙ sym (on h.load h.steps h.after).tags)

or_false : (b : Bool) → (b || false) ≡ b
or_false true = refl
or_false false = refl

-- a script that has a spin, with a line more
spin_push : (lines : List Line) (line : Line) → has_spin (lines ++ line ∷ []) ≡ (has_spin lines || is_spin line)
spin_push lines line = list_any-append is_spin lines (line ∷ []) ∙ ap (λ (b : Bool). has_spin lines || b) (or_false (is_spin line))

module _ (v : Asked) (p : ℕ) (line : Line) (h : IsAsked v) where
  abbrev scripts : List (List Line)
  scripts = h.load.scripts

  -- what is kept of the script of a processor
  own : p < length scripts → slice_index v.core.allowed p ≡ operation_count (script_of scripts p)
  own low = ap (λ (ns : List ℕ). slice_index ns p) h.after.allowed ∙ get_or-map operation_count scripts p [] 0 low

  flag : p < length scripts → slice_index_or v.spins p false ≡ has_spin (script_of scripts p)
  flag low = ap (λ (bs : List Bool). slice_index_or bs p false) h.spins ∙ get_or-map has_spin scripts p [] false low

  -- a line that is taken
  module _ (brings : BringsWords line) (none : refused v.core p line ≡ None) where
    may : MayFollow h.load p line
    may = taken h.load v.core h.steps p line h.after brings none

    pub few : slice_index v.core.allowed p + operations_of line ≤ 4096
    few = let most = may.few in let same = own may.there in omega (arith, most, same)

    pub count_there : (counts : List ℕ) → counts ≡ v.core.allowed → p < length counts
    count_there counts same =
        let low = may.there in
        let long = ap (λ (ns : List ℕ). length ns) (same ∙ h.after.allowed) ∙ length-map scripts operation_count in
        omega (arith, low, long)

    pub spin_there : p < length v.spins
    spin_there =
        let low = may.there in
        let long = ap (λ (bs : List Bool). length bs) h.spins ∙ length-map scripts has_spin in
        omega (arith, low, long)

    counted : operation_count (script_of scripts p ++ line ∷ []) ≡ slice_index v.core.allowed p + operations_of line
    counted = let more = sum_by_push operations_of (script_of scripts p) line in let same = own may.there in omega (arith, more, same)

    pub counts_with : (counts new : List ℕ) (now : Core) → counts ≡ v.core.allowed
        → new ≡ slice_set counts p (slice_index counts p + operations_of line)
        → IsAfter (load_with h.load p line) now (moves_kept h.load v.core p h.steps) → new ≡ now.allowed
    counts_with counts new now same is on =
        is
        ∙ (ap (λ (ns : List ℕ). slice_set ns p (slice_index ns p + operations_of line)) same
        ∙ (ap (λ (n : ℕ). slice_set v.core.allowed p n) (sym counted)
        ∙ (ap (λ (ns : List ℕ). slice_set ns p (operation_count (script_of scripts p ++ line ∷ []))) h.after.allowed
        ∙ (sym (map-set operation_count scripts p (script_of scripts p ++ line ∷ []))
        ∙ sym on.allowed))))

    flagged : (slice_index_or v.spins p false || is_spin line) ≡ has_spin (script_of scripts p ++ line ∷ [])
    flagged = ap (λ (b : Bool). b || is_spin line) (flag may.there) ∙ sym (spin_push (script_of scripts p) line)

    pub asked_with : (now : Core) (spins : List Bool) → spins ≡ spins_with v.spins p line
        → IsAfter (load_with h.load p line) now (moves_kept h.load v.core p h.steps)
        → IsAsked (record { core = now; spins = spins; guard = v.guard })
    asked_with now spins is on = record {
      load = load_with h.load p line;
      steps = moves_kept h.load v.core p h.steps;
      after = on;
      spins =
          is
          ∙ (ap (λ (b : Bool). slice_set v.spins p b) flagged
          ∙ (ap (λ (bs : List Bool). slice_set bs p (has_spin (script_of scripts p ++ line ∷ []))) h.spins
          ∙ sym (map-set has_spin scripts p (script_of scripts p ++ line ∷ []))));
    }

-- how an index is known
record IsKnown (single behind : Bool) (count : Option ℕ) (index : ℕ) : Type 0 where
  operation : single ≡ true
  plain : behind ≡ false
  there : count ≡ Some index

known_by : (single behind : Bool) (count : Option ℕ) (index : ℕ) → (if single && not behind then count else None) ≡ Some index
    → IsKnown single behind count index
known_by true false count index e = record { operation = refl; plain = refl; there = e }
known_by true true count index e = absurd (cc)
known_by false behind count index e = absurd (cc)

-- where the index is known, it is that of the line
pub index_numbered : (v : Asked) (p : ℕ) (line : Line) (l : Load) (steps : List Step) → BringsWords line → refused v.core p line ≡ None
    → IsAfter l v.core steps → v.spins ≡ map has_spin l.scripts → (index : ℕ) → index_asked v p line ≡ Some index
    → IsNumberedLine (load_with l p line) p line index
index_numbered v p line l steps brings none after spins index known =
    let h : IsAsked v = record { load = l; steps = steps; after = after; spins = spins } in
    let low = (may v p line h brings none).there in
    let told = known_by (is_operation line) (slice_index_or v.spins p false) (slice_get v.core.allowed p) index known in
    subst (IsNumberedLine (load_with l p line) p line)
    (sym (own v p line h low) ∙ get_or_from_slice_get v.core.allowed p index 0 told.there)
    (asked_is_numbered l p line low (sym (flag v p line h low) ∙ told.plain) told.operation)

-- what holds of an index that is known
pub if_known : (o : Option ℕ) (P : ℕ → Type 0) → ((index : ℕ) → o ≡ Some index → P index) → IfSome o P
if_known None P h = tt
if_known (Some index) P h = h index refl

-- a text gives one load
pub same_load : {E : Type 0} (k l : Load) (asked : Result Load E) → asked ≡ Ok k → asked ≡ Ok l → k ≡ l
same_load k l asked e f = cc
