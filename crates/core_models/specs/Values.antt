-- The words that accesses leave, and the replies to operations that find them.
use Rattle.std.specs.Prelude.{◌≡◌, ◌⊎◌, ℕ, List, Option, Some, option_map, length, slice_get, slice_index}
use Rattle.packet.specs.declared.kinds.Reply.{Reply}
use Rattle.packet.specs.Memory.{new_word, reply_to}
use Rattle.one_order.specs.Scripts.{reply_number}
use Rattle.one_order.specs.declared.ordered.Ordered.{Ordered}
use Rattle.one_order.specs.Observed.{Observed, list_at}
use Rattle.core_models.specs.Accesses.{Access, opening_store, operation_of_row, access_by}

-- the reply of the entry that a row names
abbrev pub reply_of_row : Observed → Ordered → Option Reply
reply_of_row s row = option_map (λ e. e.reply) (slice_get (list_at s.entries row.bank) row.place)

-- the word that an operation of a row left: that which its reply, the word before, makes of it
pub record LeavesByRow (opening : List ℕ) (s : Observed) (rows : List Ordered) (a : Access)
    (w : ℕ) : Type 0
  where
    pub k : ℕ
    pub row : Ordered
    pub reply : Reply
    pub there : slice_get rows k ≡ Some row
    pub is : a ≡ access_by (length opening) s rows row
    pub replied : reply_of_row s row ≡ Some reply
    pub left : w ≡ new_word (operation_of_row s row).op (reply_number reply)

-- the word that an access left: an opening word, or that of a row's operation
abbrev pub LeavesWord : List ℕ → Observed → List Ordered → Access → ℕ → Type 0
LeavesWord opening s rows a w =
    ((a ≡ opening_store a.word) × (w ≡ slice_index opening a.word)) ⊎ LeavesByRow opening s rows a w

-- the operation of a row replied what is due where it finds the word that an access left: a load, a
-- swap, a compare-and-swap or a fetch-and-op that word
abbrev pub RepliesWordOf : List ℕ → Observed → List Ordered → Access → Ordered → Type 0
RepliesWordOf opening s rows a row = (w : ℕ) × LeavesWord opening s rows a w
    × (reply_of_row s row ≡ Some (reply_to (operation_of_row s row).op w))
