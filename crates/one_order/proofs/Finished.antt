-- Every follower is at its end exactly where every script is finished.
use Rattle.std.proofs.Common.{◌≡◌, ⊎_elim, ℕ, zero, suc, ◌<◌, ◌≤◌, ◌&&◌, ◌↔◌, Bool, true, List, [], ◌∷◌, length, Option, Some, None}
use Rattle.std.proofs.Common.{refl, sym, ◌∙◌, ap, subst, arith, slice_get, slice_index_or}
use Rattle.std.specs.List.{list_all}
use Rattle.std.proofs.lemmas.Bool.{and_parts, cases_lt}
use Rattle.std.proofs.lemmas.List.{length-map}
use Rattle.std.proofs.lemmas.Option.{get_or_from_slice_get}
use Rattle.packet.specs.declared.kinds.Reply.{Reply}
use Rattle.packet.specs.declared.kinds.Operation.{Operation}
use Rattle.script_lines.specs.declared.line.Line.{Line}
use Rattle.one_order.specs.Scripts.{Invocation, HasFinished}
use Rattle.one_order.specs.Following.{is_finished}
use Rattle.one_order.specs.ProcessorRecord.{ProcessorRecord, no_processor}
use Rattle.one_order.proofs.Shown.{finished_is, finished_from}
use Rattle.one_order.specs.declared.answer.Answer.{Answer}
use Rattle.one_order.specs.Observed.{Run, IsFirst, list_at, HasAnswered, IsAnsweredAt}
use Rattle.one_order.specs.Order.{LinearizationPoint}
use Rattle.one_order.proofs.Lists.{same_get, within_length}
use Rattle.one_order.specs.Flight.{Flight, processor_at, processors_finished}
use Rattle.one_order.specs.AbstractScripts.{AreInvocationsOf, HasFinishedIn, AreFinished}
use Rattle.one_order.proofs.Bounds.{Moment, can_follow}

-- two lists with the same elements are one
same_list : {A : Type 0} (xs ys : List A) → length xs ≡ length ys → ((k : ℕ) (x y : A) → slice_get xs k ≡ Some x → slice_get ys k ≡ Some y → x ≡ y) → xs ≡ ys
same_list [] [] l h = refl
same_list [] (y ∷ ys) l h = absurd (omega arith)
same_list (x ∷ xs) [] l h = absurd (omega arith)
same_list (x ∷ xs) (y ∷ ys) l h = ap (λ z. z ∷ xs) (h 0 x y refl refl) ∙ ap (λ zs. y ∷ zs) (same_list xs ys (omega arith) (λ k a b e f. h (suc k) a b e f))

-- what happens first happens once
same_time : (P : ℕ → Type 0) (s t : ℕ) → IsFirst P s → IsFirst P t → s ≡ t
same_time P s t f g = ⊎_elim
    (λ (early : s < t). absurd (g.not_before s early f.holds))
    (λ (late : t ≤ s). ⊎_elim
    (λ (later : t < s). absurd (f.not_before t later g.holds))
    (λ (same : s ≤ t). omega (arith, late, same))
    (cases_lt t s))
    (cases_lt s t)

-- no two answers of a processor are of one operation
abbrev pub AnswersOnce : Run → ℕ → ℕ → Type 0
AnswersOnce run n p = (i j : ℕ) (a c : Answer) → slice_get (list_at (run n).answers p) i ≡ Some a → slice_get (list_at (run n).answers p) j ≡ Some c
    → a.index ≡ c.index → i ≡ j

-- what is said of operation i's answer in the first n steps
record Tells (run : Run) (n p i : ℕ) (x : Option (ℕ × Reply)) : Type 0 where
  none : x ≡ None → HasAnswered (run n) p i → ⊥
  some : (t : ℕ) (reply : Reply) → x ≡ Some (t, reply) →
      IsAnsweredAt run p i t × ((k : ℕ) × (a : Answer) × (slice_get (list_at (run n).answers p) k ≡ Some a) × (a.index ≡ i) × (a.reply ≡ reply))

abbrev answered : ℕ → Reply → Option (ℕ × Reply)
answered t reply = Some (t, reply)

same_answer : (run : Run) (n p i : ℕ) (x y : Option (ℕ × Reply)) → AnswersOnce run n p → Tells run n p i x → Tells run n p i y → x ≡ y
same_answer run n p i None None once f g = refl
same_answer run n p i None (Some b) once f g = let v = (g.some b.0 b.1 refl).1 in absurd (f.none refl (v.0, v.1, v.2, v.3))
same_answer run n p i (Some a) None once f g = let u = (f.some a.0 a.1 refl).1 in absurd (g.none refl (u.0, u.1, u.2, u.3))
same_answer run n p i (Some a) (Some b) once f g =
    let s = f.some a.0 a.1 refl in
    let t = g.some b.0 b.1 refl in
    let u = s.1 in
    let v = t.1 in
    let time : a.0 ≡ b.0 = same_time (λ k. HasAnswered (run k) p i) a.0 b.0 s.0 t.0 in
    let place : u.0 ≡ v.0 = once u.0 v.0 u.1 v.1 u.2 v.2 (u.3 ∙ sym v.3) in
    let same : u.1 ≡ v.1 = same_get (list_at (run n).answers p) v.0 u.1 v.1 (ap (slice_get (list_at (run n).answers p)) (sym place) ∙ u.2) v.2 in
    let reply : a.1 ≡ b.1 = sym u.4 ∙ (ap (λ (z : Answer). z.reply) same ∙ v.4) in
    ap (λ (z : ℕ). answered z a.1) time ∙ ap (λ (z : Reply). answered b.0 z) reply

abbrev invocation : Operation → ℕ → Option (ℕ × Reply) → Invocation
invocation o issue answer = record { operation = o; issue = issue; answer = answer }

same_invocation : (a b : Invocation) → a.operation ≡ b.operation → a.issue ≡ b.issue → a.answer ≡ b.answer → a ≡ b
same_invocation a b operation issue answer =
    ap (λ (x : Operation). invocation x a.issue a.answer) operation
    ∙ (ap (λ (x : ℕ). invocation b.operation x a.answer) issue ∙ ap (λ (x : Option (ℕ × Reply)). invocation b.operation b.issue x) answer)

-- the operations of a processor in a run are these and no others
pub same_invocations : (run : Run) (n p : ℕ) (xs ys : List Invocation) → AnswersOnce run n p → AreInvocationsOf run n p xs → AreInvocationsOf run n p ys
    → xs ≡ ys
same_invocations run n p xs ys once f g = same_list xs ys (f.count ∙ sym g.count) (λ i x y there also.
    let u = f.each i x there in
    let v = g.each i y also in
    same_invocation x y
    (same_get (list_at (run n).issued p) i x.operation y.operation u.0 v.0)
    (same_time (λ k. i < length (list_at (run k).issued p)) x.issue y.issue u.1 v.1)
    (same_answer run n p i x.answer y.answer once
    (record { none = f.unanswered i x there; some = λ t reply is. f.answered i x t reply there is })
    (record { none = g.unanswered i y also; some = λ t reply is. g.answered i y t reply also is })))

pub all_at : {A : Type 0} (test : A → Bool) (xs : List A) (k : ℕ) (d : A) → list_all test xs ≡ true → k < length xs → test (slice_index_or xs k d) ≡ true
all_at test [] k d h l = absurd (omega arith)
all_at test (x ∷ xs) zero d h l = (and_parts (test x) (list_all test xs) h).0
all_at test (x ∷ xs) (suc k) d h l = all_at test xs k d (and_parts (test x) (list_all test xs) h).1 (omega arith)

pub all_from : {A : Type 0} (test : A → Bool) (xs : List A) (d : A) → ((k : ℕ) → k < length xs → test (slice_index_or xs k d) ≡ true) → list_all test xs ≡ true
all_from test [] d h = refl
all_from test (x ∷ xs) d h = ap (λ (b : Bool). b && list_all test xs) (h 0 (omega arith)) ∙ all_from test xs d (λ k l. h (suc k) (omega arith))

module _ (tiles tags : ℕ) (opening : List ℕ) (scripts : List (List Line)) (run : Run) (n : ℕ) (f : Flight) (order : List LinearizationPoint)
    (h : Moment tiles tags opening scripts run n f order) where
  count : length f.processors ≡ length scripts
  count = sym (length-map f.processors (λ (q : ProcessorRecord). q.issued)) ∙ (h.whole.account.shown.processors ∙ sym h.processors)

  -- where every follower is at its end, every script is finished
  finished_to : processors_finished f ≡ true → AreFinished run n scripts
  finished_to all = record {
    each = λ p below.
        let script = within_length scripts p below in
        let lines_are : list_at scripts p ≡ script.0 = get_or_from_slice_get scripts p script.0 [] script.1 in
        let g = h.follows p script.0 script.1 in
        let is : is_finished (processor_at f p).following ≡ true =
        all_at (λ (q : ProcessorRecord). is_finished q.following) f.processors p no_processor all (omega (arith, below, count)) in
        subst (HasFinishedIn run n p) (sym lines_are) (record {
          ops = g.ops;
          are = g.are;
          finished = finished_is script.0 g.ops _ (can_follow tiles tags opening scripts run n f order h p script.0 script.1) g.shows is;
        });
  }

  -- and where every script is finished, every follower is at its end
  finished_back : ((p : ℕ) → AnswersOnce run n p) → AreFinished run n scripts → processors_finished f ≡ true
  finished_back once are = all_from (λ (q : ProcessorRecord). is_finished q.following) f.processors no_processor (λ p below.
      let in_scripts : p < length scripts = omega (arith, below, count) in
      let script = within_length scripts p in_scripts in
      let lines_are : list_at scripts p ≡ script.0 = get_or_from_slice_get scripts p script.0 [] script.1 in
      let g = h.follows p script.0 script.1 in
      let done : HasFinishedIn run n p script.0 = subst (HasFinishedIn run n p) lines_are (are.each p in_scripts) in
      let same : done.ops ≡ g.ops = same_invocations run n p done.ops g.ops (once p) done.are g.are in
      finished_from script.0 g.ops _ (can_follow tiles tags opening scripts run n f order h p script.0 script.1) g.shows
      (subst (HasFinished script.0) same done.finished))

  pub finished_law : ((p : ℕ) → AnswersOnce run n p) → (processors_finished f ≡ true) ↔ AreFinished run n scripts
  finished_law once = (finished_to, finished_back once)
