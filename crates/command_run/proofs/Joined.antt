-- Seats that are joined, one after the other, into one that takes in all of them.
use Rattle.std.proofs.Common.{◌≡◌, ℕ, All, List, [], ◌∷◌, ◌++◌, Some, sym, ap, ◌∙◌, subst, inl, append_assoc}
use Rattle.std.proofs.lemmas.List.{append-nil}
use Rattle.std.proofs.lemmas.List.Elements.{All-cons, All-nil, All-pop, All-weaker}
use Rattle.history.specs.Groups.{Owns}
use Rattle.history.proofs.Groups.{in_one, others_append, others_sub, owns_left, owns_right}
use Rattle.history.specs.Seats.{Knowing, Origin, IsSeatOf, JoinsTo}
use Rattle.worker_run.specs.Working.{Working}
use Rattle.command_run.specs.Workers.{IsTakenIn}

-- what the seat of two takes in
in_first : (v u w : Knowing) → JoinsTo v u w → IsTakenIn v w
in_first v u w j = ((λ t o. subst (λ (l : List ℕ). Owns l t) (sym j.2) (owns_left v.tiles u.tiles t o)), j.3)

in_second : (v u w : Knowing) → JoinsTo v u w → IsTakenIn u w
in_second v u w j = ((λ t o. subst (λ (l : List ℕ). Owns l t) (sym j.2) (owns_right v.tiles u.tiles t o)), j.4)

in_more : (x v w : Knowing) → IsTakenIn v w → IsTakenIn x v → IsTakenIn x w
in_more x v w b a = (
  (λ t o. b.0 t (a.0 t o)),
  (
    a.1.0 ++ b.1.0,
    b.1.1 ∙ (ap (λ l. l ++ b.1.0) a.1.1 ∙ append_assoc x.run a.1.0 b.1.0),
    others_append (x.tiles ∷ []) a.1.0 b.1.0 a.1.2 (others_sub (v.tiles ∷ []) (x.tiles ∷ []) b.1.0 (λ t i. inl (a.0 t (in_one x.tiles t i))) b.1.2),
  ),
)

in_self : (v : Knowing) → IsTakenIn v v
in_self v = ((λ t o. o), ([], sym (append-nil v.run), tt))

-- some of the workers are left, and the seat has taken in the others
pub record IsJoining (f : Origin) (all left : List Working) (whole : Knowing) : Type 0 where
  pub own : IsSeatOf f whole
  pub each : All (λ (w : Working). IsSeatOf f w.knows) left
  pub others : List Working
  pub split : all ≡ left ++ others
  pub taken : All (λ (w : Working). IsTakenIn w.knows whole) others

module _ (f : Origin) (all : List Working) where
  -- the first of them
  pub joins_first : (left : List Working) (last : Working) → All (λ (w : Working). IsSeatOf f w.knows) all → all ≡ left ++ last ∷ []
      → IsJoining f all left last.knows
  joins_first left last own split =
      let p = All-pop (λ (w : Working). IsSeatOf f w.knows) all left (Some last) split own in
      record {
        own = p.1;
        each = p.0;
        others = last ∷ [];
        split = split;
        taken = All-cons (λ (w : Working). IsTakenIn w.knows last.knows) last [] (in_self last.knows) (All-nil (λ (w : Working). IsTakenIn w.knows last.knows));
      }

  module _ (now left : List Working) (whole : Knowing) (w : Working) (so_far : IsJoining f all now whole) (split : now ≡ left ++ w ∷ []) where
    -- the next is of the same fabric
    pub joins_own : IsSeatOf f w.knows
    joins_own = (All-pop (λ (x : Working). IsSeatOf f x.knows) now left (Some w) split so_far.each).1

    -- one more
    pub joins_more : (both : Knowing) → JoinsTo whole w.knows both → IsJoining f all left both
    joins_more both j = record {
      own = (j.0 ∙ so_far.own.0, j.1 ∙ so_far.own.1);
      each = (All-pop (λ (x : Working). IsSeatOf f x.knows) now left (Some w) split so_far.each).0;
      others = w ∷ so_far.others;
      split = so_far.split ∙ (ap (λ (l : List Working). l ++ so_far.others) split ∙ append_assoc left (w ∷ []) so_far.others);
      taken = All-cons (λ (x : Working). IsTakenIn x.knows both) w so_far.others (in_second whole w.knows both j)
          (All-weaker (λ (x : Working). IsTakenIn x.knows whole) (λ (x : Working). IsTakenIn x.knows both)
          (λ x. in_more x.knows whole both (in_first whole w.knows both j)) so_far.others so_far.taken);
    }

  -- all of them
  pub joins_all : (left : List Working) (whole : Knowing) → IsJoining f all left whole → left ≡ [] → All (λ (w : Working). IsTakenIn w.knows whole) all
  joins_all left whole k none =
      let rest : all ≡ k.others = k.split ∙ ap (λ (l : List Working). l ++ k.others) none in
      subst (All (λ (w : Working). IsTakenIn w.knows whole)) (sym rest) k.taken
