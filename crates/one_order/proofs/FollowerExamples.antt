-- Scripts, and operations that follow them.
use Rattle.std.proofs.Common.{◌≡◌, ℕ, [], ◌∷◌, Some, None, refl, arith, lit<}
use Rattle.std.proofs.lemmas.Option.{some_pair_parts}
use Rattle.packet.specs.declared.kinds.Op.{Op}
use Rattle.packet.specs.declared.kinds.Op.TheVariants as op
use Rattle.packet.specs.declared.kinds.Reply.{Reply}
use Rattle.packet.specs.declared.kinds.Reply.TheVariants.{Old, Ok as Stored}
use Rattle.script_lines.specs.declared.line.Line.TheVariants as line
use Rattle.script_lines.specs.declared.line.Value.TheVariants.{Number, Last}
use Rattle.one_order.specs.Scripts.{Invocation, FollowsScript}
use Rattle.one_order.specs.Following.{first_of, follower_with}

-- an operation issued at step t and answered at step u
abbrev done : ℕ → Op → ℕ → ℕ → Reply → Invocation
done a kind t u reply = record { operation = record { address = a; op = kind }; issue = t; answer = Some (u, reply) }

-- an operation issued at step t
abbrev sent : ℕ → Op → ℕ → Invocation
sent a kind t = record { operation = record { address = a; op = kind }; issue = t; answer = None }

-- a spin whose loads don't find the number is over after the last
spin_ends_by_its_count : FollowsScript (line.Spin 0 1 2 ∷ line.Store 1 Last ∷ [])
    (done 0 op.Load 1 2 (Old 3) ∷ done 0 op.Load 3 4 (Old 4) ∷ sent 1 (op.Store 4) 5 ∷ [])
spin_ends_by_its_count = (
  refl,
  (
    Old 3,
    (done 0 op.Load 1 2 (Old 3), refl, (2, refl, lit< tt)),
    (
      refl,
      (
        Old 4,
        (done 0 op.Load 3 4 (Old 4), refl, (4, refl, lit< tt)),
        ((4, (Old 4, (done 0 op.Load 3 4 (Old 4), refl, (4, refl, lit< tt)), refl), refl), tt),
      ),
    ),
  ),
)

-- the first load finds the number
spin_ends_at_once : FollowsScript (line.Spin 0 1 3 ∷ line.Load 1 ∷ []) (done 0 op.Load 1 2 (Old 1) ∷ sent 1 op.Load 3 ∷ [])
spin_ends_at_once = (refl, (Old 1, (done 0 op.Load 1 2 (Old 1), refl, (2, refl, lit< tt)), (refl, tt)))

-- a middle load finds it
spin_ends_between : FollowsScript (line.Spin 0 1 3 ∷ line.Load 1 ∷ [])
    (done 0 op.Load 1 2 (Old 0) ∷ done 0 op.Load 3 4 (Old 1) ∷ sent 1 op.Load 5 ∷ [])
spin_ends_between = (
  refl,
  (
    Old 0,
    (done 0 op.Load 1 2 (Old 0), refl, (2, refl, lit< tt)),
    (refl, (Old 1, (done 0 op.Load 3 4 (Old 1), refl, (4, refl, lit< tt)), (refl, tt))),
  ),
)

-- the last load finds it
spin_ends_at_last : FollowsScript (line.Spin 0 1 2 ∷ line.Load 1 ∷ [])
    (done 0 op.Load 1 2 (Old 0) ∷ done 0 op.Load 3 4 (Old 1) ∷ sent 1 op.Load 5 ∷ [])
spin_ends_at_last = (
  refl,
  (
    Old 0,
    (done 0 op.Load 1 2 (Old 0), refl, (2, refl, lit< tt)),
    (refl, (Old 1, (done 0 op.Load 3 4 (Old 1), refl, (4, refl, lit< tt)), (refl, tt))),
  ),
)

-- a spin of one load, open
spin_of_one_load : FollowsScript (line.Spin 0 1 1 ∷ line.Load 1 ∷ []) (sent 0 op.Load 1 ∷ [])
spin_of_one_load = (refl, tt)

-- a load may be issued while the store before it is unanswered; a fence at the end asks for nothing
fence_at_the_end : FollowsScript (line.Store 0 (Number 7) ∷ line.Load 0 ∷ line.Fence ∷ []) (sent 0 (op.Store 7) 1 ∷ sent 0 op.Load 2 ∷ [])
fence_at_the_end = ((7, refl, refl), (refl, tt))

-- a load behind a fence, before the answer, follows no script
load_passes_a_fence : FollowsScript (line.Store 0 (Number 7) ∷ line.Fence ∷ line.Load 0 ∷ []) (done 0 (op.Store 7) 1 3 Stored ∷ sent 0 op.Load 2 ∷ []) → ⊥
load_passes_a_fence h =
    let told = h.1.0 0 (done 0 (op.Store 7) 1 3 Stored) refl in
    let e = (some_pair_parts 3 told.1.0 Stored told.0 told.1.1).0 in
    let before = told.1.2 in omega arith

-- a fence that comes where nothing is held back is gone at once, and any other line stays ahead
fence_is_gone : (follower_with line.Fence (first_of [])).ahead ≡ []
unfolding first_of
fence_is_gone = refl

load_is_ahead : (follower_with (line.Load 1) (first_of [])).ahead ≡ line.Load 1 ∷ []
unfolding first_of
load_is_ahead = refl
