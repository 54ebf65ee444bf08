-- With one tag, each operation is answered before the next one is issued.
use Rattle.std.proofs.Common.{◌≡◌, inl, inr, ℕ, zero, suc, ◌+◌, ◌<◌, ◌≤◌, List, [], ◌∷◌, length, map, Option, Some, None}
use Rattle.std.proofs.Common.{refl, sym, ◌∙◌, ap, subst, arith, slice_get, slice_set, slice_index_or, length-append}
use Rattle.std.proofs.lemmas.Bool.{cases_eq, cases_lt}
use Rattle.std.proofs.lemmas.Option.{same_Some, slice_get_within}
use Rattle.torus.specs.Shape.{tiles_of}
use Rattle.torus.specs.declared.step.OpId.{OpId}
use Rattle.torus.specs.declared.step.Step.{Step}
use Rattle.tag_table.specs.Tags.{out_count}
use Rattle.packet.specs.declared.kinds.Operation.{Operation}
use Rattle.packet.specs.declared.kinds.Reply.{Reply}
use Rattle.script_lines.specs.declared.line.Line.{Line}
use Rattle.script_lines.specs.Lines.{IsAcceptedScript, script_of}
use Rattle.one_order.specs.Scripts.{Invocation, IsAnsweredBefore, unanswered, awaited}
use Rattle.one_order.specs.ProcessorRecord.{ProcessorRecord, no_processor, issued_by, answered_by}
use Rattle.one_order.proofs.Shown.{waiting_is}
use Rattle.one_order.proofs.Followable.{accepted_followable}
use Rattle.one_order.specs.declared.ordered.Ordered.{Ordered}
use Rattle.one_order.specs.Observed.{Observed, list_at, HasIssued, HasAnswered}
use Rattle.one_order.specs.OneOrder.{HasOneOrder}
use Rattle.one_order.proofs.Lists.{within_length, list_at_none}
use Rattle.one_order.proofs.Growth.{kept_along}
use Rattle.one_order.specs.Flight.{Flight, Move, Sends, Serves, Takes, processor_at, moved, moved_by, show}
use Rattle.one_order.specs.AbstractScripts.{AreInvocationsOf}
use Rattle.one_order.proofs.Parts.{map_same, issued_at, tags_at, processor_set}
use Rattle.core_laws.specs.Core.{Load, run_of}
use Rattle.core_laws.specs.Runs.{IsAcceptedLoad}
use Rattle.core_laws.specs.Noted.{flight_after, move_after}
use Rattle.core_laws.proofs.EveryRun.{run_is_history, holds_in}
use Rattle.core_laws.proofs.CourseRuns.{is_course}
use Rattle.core_laws.proofs.OnTheWay.{have_packets, shows_operations}
use Rattle.core_models.proofs.Known.{InTurn}
use Rattle.core_models.proofs.Ranges.{index_of_get}

-- a free tag of one is all
one_free : (tags : List (Option OpId)) (tag : ℕ) → length tags ≡ 1 → slice_get tags tag ≡ Some None → out_count tags ≡ 0
one_free [] tag one free = absurd (cc)
one_free (x ∷ []) zero one free = ap (λ y. out_count (y ∷ [])) (same_Some x None free)
one_free (x ∷ []) (suc tag) one free = absurd (cc)
one_free (x ∷ y ∷ tags) tag one free = absurd (omega (arith, one))

-- where none is unanswered, each is answered
all_answered : (past : List Invocation) (i : ℕ) (o : Invocation) → unanswered past ≡ 0 → slice_get past i ≡ Some o
    → (a : ℕ) × (reply : Reply) × (o.answer ≡ Some (a, reply))
all_answered [] i o none at = absurd (cc)
all_answered (x ∷ past) zero o none at =
    let same : x ≡ o = same_Some x o at in
    let zero_here : awaited x.answer ≡ 0 = omega (arith, none) in
    subst (λ (y : Invocation). (a : ℕ) × (reply : Reply) × (y.answer ≡ Some (a, reply))) same (of_answer x.answer zero_here)
  where
    of_answer : (answer : Option (ℕ × Reply)) → awaited answer ≡ 0 → (a : ℕ) × (reply : Reply) × (answer ≡ Some (a, reply))
    of_answer None h = absurd (omega (arith, h))
    of_answer (Some p) h = (p.0, p.1, refl)
all_answered (x ∷ past) (suc i) o none at = all_answered past i o (omega (arith, none)) at

-- a move after which p has issued more is that of an issue, of one operation
issues_one : (tiles p : ℕ) (f : Flight) (m : Option Move) → length (list_at (show f).issued p) < length (list_at (show (moved_by tiles f m)).issued p)
    → (tag : ℕ) × (o : Operation) × (m ≡ Some (Sends p tag o))
    × (length (list_at (show (moved_by tiles f m)).issued p) ≤ length (list_at (show f).issued p) + 1)
issues_one tiles p f None more = absurd (omega (arith, more))
issues_one tiles p f (Some (Serves r)) more = absurd (omega (arith, more))
issues_one tiles p f (Some (Takes r)) more =
    let same : map (λ (b : ProcessorRecord). b.issued) (moved tiles f (Takes r)).processors ≡ map (λ (b : ProcessorRecord). b.issued) f.processors =
    map_same (λ (b : ProcessorRecord). b.issued) no_processor refl f.processors r.destination (answered_by (processor_at f r.destination) r) refl in
    let e : length (list_at (show (moved tiles f (Takes r))).issued p) ≡ length (list_at (show f).issued p) = ap (λ xss. length (list_at xss p)) same in
    absurd (omega (arith, more, e))
issues_one tiles p f (Some (Sends t tag o)) more =
    let after : list_at (show (moved tiles f (Sends t tag o))).issued p ≡ (processor_at (moved tiles f (Sends t tag o)) p).issued = issued_at
    (moved tiles f (Sends t tag o)) p in
    let before : list_at (show f).issued p ≡ (processor_at f p).issued = issued_at f p in
    let b : ℕ = length (processor_at f p).issued in
    let la = ap length after in
    let lb = ap length before in
    elim (cases_eq t p) [
      | inl same ↦ (let up : length (processor_at (moved tiles f (Sends t tag o)) p).issued ≤ b + 1 =
          processor_set f.processors t (issued_by (processor_at f t) tag o) p (λ (r : ProcessorRecord). length r.issued ≤ b + 1)
          (let l = length-append (processor_at f t).issued (o ∷ []) in
          let s : length (processor_at f t).issued ≡ b = ap (λ q. length (processor_at f q).issued) same in omega (arith, l, s))
          (omega arith) in
          (tag, o, ap (λ q. Some (Sends q tag o)) same, omega (arith, la, lb, up)))
      | inr other ↦ (let still = other_issued f.processors t p (issued_by (processor_at f t) tag o) other in
          let ls = ap length still in
          absurd (omega (arith, la, lb, ls, more)))
    ]
  where
    other_issued : (xs : List ProcessorRecord) (t p : ℕ) (q : ProcessorRecord) → (t ≡ p → ⊥)
        → (slice_index_or (slice_set xs t q) p no_processor).issued ≡ (slice_index_or xs p no_processor).issued
    other_issued [] t p q other = refl
    other_issued (x ∷ xs) zero zero q other = absurd (other refl)
    other_issued (x ∷ xs) zero (suc p) q other = refl
    other_issued (x ∷ xs) (suc t) zero q other = refl
    other_issued (x ∷ xs) (suc t) (suc p) q other = other_issued xs t p q (λ e. other (ap suc e))

-- the script of a processor
script_there : (scripts : List (List Line)) (p : ℕ) (lines : List Line) → slice_get scripts p ≡ Some lines → script_of scripts p ≡ lines
script_there scripts p lines there = index_of_get scripts [] p lines there

module _ (l : Load) (ok : IsAcceptedLoad l) (one_tag : l.tags ≡ 1) (steps : List Step) where
  -- when p issues one operation more, the one before it is answered
  answered_by_then : (p t i : ℕ) (lines : List Line) → p < tiles_of l.shape → slice_get l.scripts p ≡ Some lines
      → HasIssued (run_of l steps (suc t)) p (i + 1) → (HasIssued (run_of l steps t) p (i + 1) → ⊥) → HasAnswered (run_of l steps t) p i
  answered_by_then p t i lines low there now before =
      let f : Flight = flight_after l steps t in
      let course = is_course l ok steps (suc t) in
      let next : flight_after l steps (suc t) ≡ moved_by (tiles_of l.shape) f (move_after l steps t) = course.each t (omega arith) in
      let grown : length (list_at (show (flight_after l steps (suc t))).issued p) ≡ length (list_at (show (moved_by (tiles_of l.shape) f
      (move_after l steps t))).issued p)
      = ap (λ (g : Flight). length (list_at (show g).issued p)) next in
      let few : length (list_at (show f).issued p) ≤ i + 1 = elim (cases_lt (i + 1) (length (list_at (show f).issued p))) [
        | inl more ↦ absurd (before more)
        | inr least ↦ least
      ] in
      let many : i + 1 < length (list_at (show (flight_after l steps (suc t))).issued p) = now in
      let issue = issues_one (tiles_of l.shape) p f (move_after l steps t) (omega (arith, grown, few, many)) in
      let bound = issue.3 in
      let found = course.found t (Sends p issue.0 issue.1) (omega arith) issue.2 in
      let whole = (holds_in l ok steps t).stands.flight in
      let sized : length (processor_at f p).tags ≡ 1 = sym (ap length (tags_at f p)) ∙ (whole.tag_counts p low ∙ one_tag) in
      let waits = (have_packets l ok steps t).waiting p in
      let free = one_free (processor_at f p).tags issue.0 sized found.2 in
      let shows = shows_operations l ok steps t p lines there in
      let followable = accepted_followable (length l.opening) lines (subst (IsAcceptedScript (length l.opening))
      (script_there l.scripts p lines there) (ok.scripts.each p)) in
      let open_ = waiting_is lines shows.past (processor_at f p).following followable shows.shows in
      let none : unanswered shows.past ≡ 0 = omega (arith, waits, free, open_) in
      let count = shows.are.count in
      let at = within_length shows.past i (omega (arith, count, bound, grown, many)) in
      let answer = all_answered shows.past i at.0 none at.1 in
      let told = (shows.are.answered i at.0 answer.0 answer.1 at.1 answer.2).1 in
      (told.0, told.1, told.2, told.3)

  -- so each operation is answered before the next one is issued
  pub one_tag_turns : (rows : List Ordered) → HasOneOrder (tiles_of l.shape) l.tags l.opening (run_of l steps) (length steps) rows → (p : ℕ)
      → p < length l.scripts → (ops : List Invocation) → AreInvocationsOf (run_of l steps) (length steps) p ops → InTurn ops
  one_tag_turns rows one p low ops are i o q at next = issued_at_step q.issue refl
    where
      issued_at_step : (u : ℕ) → q.issue ≡ u → (reply : Reply) × IsAnsweredBefore o q.issue reply
      issued_at_step zero is =
          let issued = (are.each (i + 1) q next).1 in
          let there : HasIssued (run_of l steps 0) p (i + 1) = subst (λ k. HasIssued (run_of l steps k) p (i + 1)) is issued.holds in
          let start = (run_is_history l ok steps 0).start in
          let empty : length (list_at (run_of l steps 0).issued p) ≡ 0 =
          ap (λ (s : Observed). length (list_at s.issued p)) start ∙ ap length (list_at_none (tiles_of l.shape) p) in
          absurd (omega (arith, there, empty))
      issued_at_step (suc t) is =
          let issued = (are.each (i + 1) q next).1 in
          let now : HasIssued (run_of l steps (suc t)) p (i + 1) = subst (λ k. HasIssued (run_of l steps k) p (i + 1)) is issued.holds in
          let script = within_length l.scripts p low in
          let processors = ok.processors in
          let then : HasAnswered (run_of l steps t) p i =
          answered_by_then p t i script.0 (omega (arith, low, processors)) script.1 now (λ early. issued.not_before t (omega (arith, is)) early) in
          let within = slice_get_within ops (i + 1) q next in
          let count = are.count in
          let last : HasIssued (run_of l steps (length steps)) p (i + 1) = omega (arith, within, count) in
          let in_run : t ≤ length steps = elim (cases_lt (length steps) t) [
            | inl late ↦ absurd (issued.not_before (length steps) (omega (arith, late, is)) last)
            | inr early ↦ early
          ] in
          answered_then t (omega (arith, is)) in_run then o.answer refl
        where
          answered_then : (t : ℕ) → t < q.issue → t ≤ length steps → HasAnswered (run_of l steps t) p i → (answer : Option (ℕ × Reply)) → o.answer ≡ answer
              → (reply : Reply) × IsAnsweredBefore o q.issue reply
          answered_then t less in_run then None none =
              let kept = kept_along (λ k. list_at (run_of l steps k).answers p) (length steps) (λ k j x m h. one.grows.answers_stay k p j x m h) t
              (length steps) then.0
              then.1 in_run (omega arith) then.2 in
              absurd (are.unanswered i o at none (then.0, then.1, kept, then.3))
          answered_then t less in_run then (Some a) some =
              let first = (are.answered i o a.0 a.1 at some).0 in
              let by_then : a.0 ≤ t = elim (cases_lt t a.0) [
                | inl early ↦ absurd (first.not_before t early then)
                | inr done ↦ done
              ] in
              (a.1, (a.0, some, omega (arith, by_then, less)))
