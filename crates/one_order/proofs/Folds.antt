-- The sequential memory over an order that grows.
use Rattle.std.proofs.Common.{◌≡◌, ℕ, List, [], ◌∷◌, ◌++◌, length, take, Some, sym, ◌∙◌, ap, arith, slice_get}
use Rattle.std.proofs.lemmas.List.{take-append-le, map-append, length-map}
use Rattle.std.proofs.lemmas.Option.{slice_get_within}
use Rattle.packet.specs.declared.kinds.Reply.{Reply}
use Rattle.packet.specs.Memory.{replies, memory_after, reply_of_one, memory_after_one}
use Rattle.packet.proofs.Folds.{replies-append, memory_after-append, length-replies}
use Rattle.one_order.specs.Order.{LinearizationPoint, operations_of}
use Rattle.one_order.proofs.Lists.{get_append_left, get_push}

-- the replies to an order stay as it grows
pub reply_kept : (order more : List LinearizationPoint) (m : List ℕ) (k : ℕ) (r : Reply) → slice_get (replies (operations_of order) m) k ≡ Some r
    → slice_get (replies (operations_of (order ++ more)) m) k ≡ Some r
reply_kept order more m k r h =
    ap (λ os. slice_get (replies os m) k) (map-append (λ (x : LinearizationPoint). x.operation) order more)
    ∙ (ap (λ rs. slice_get rs k) (replies-append (operations_of order) (operations_of more) m)
    ∙ get_append_left (replies (operations_of order) m) (replies (operations_of more) (memory_after (operations_of order) m)) k r h)

-- the reply to the newest
pub reply_new : (order : List LinearizationPoint) (x : LinearizationPoint) (m : List ℕ)
    → slice_get (replies (operations_of (order ++ x ∷ [])) m) (length order) ≡ Some (reply_of_one x.operation (memory_after (operations_of order) m))
reply_new order x m =
    let r = reply_of_one x.operation (memory_after (operations_of order) m) in
    ap (λ os. slice_get (replies os m) (length order)) (map-append (λ (y : LinearizationPoint). y.operation) order (x ∷ []))
    ∙ (ap (λ rs. slice_get rs (length order)) (replies-append (operations_of order) (x.operation ∷ []) m)
    ∙ (ap (λ n. slice_get (replies (operations_of order) m ++ r ∷ []) n)
    (sym (length-replies (operations_of order) m ∙ length-map order (λ (y : LinearizationPoint). y.operation)))
    ∙ get_push (replies (operations_of order) m) r))

pub memory_new : (order : List LinearizationPoint) (x : LinearizationPoint) (m : List ℕ)
    → memory_after (operations_of (order ++ x ∷ [])) m ≡ memory_after_one x.operation (memory_after (operations_of order) m)
memory_new order x m =
    ap (λ os. memory_after os m) (map-append (λ (y : LinearizationPoint). y.operation) order (x ∷ []))
    ∙ memory_after-append (operations_of order) (x.operation ∷ []) m

-- what stands before a place stays as an order grows
pub before_kept : (order more : List LinearizationPoint) (k : ℕ) (x : LinearizationPoint) → slice_get order k ≡ Some x → take k (order ++ more) ≡ take k order
before_kept order more k x h =
    let within = slice_get_within order k x h in take-append-le k order more (omega arith)
